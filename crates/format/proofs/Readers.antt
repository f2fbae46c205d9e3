-- Each reader of a section is local: what it gives depends on the bytes that it takes, and on none behind them.
use mathlib.Core.Path.{◌≡◌, refl, ap, ◌∙◌}
use mathlib.Core.Bool.{Bool, true, false}
use mathlib.Core.List.{List, ◌++◌}
use Prim.Native.Nat.{ℕ, ◌-◌}
use lib.Dec.{leb}
use lib.ListN.{length}
use Rattle.utf8.specs.Utf8.{valid_up_to, utf8}
use Rattle.reading.specs.Fault.{Fault, bad_text}
use Rattle.reading.specs.Reader.{got, check, bytes}
use Rattle.reading.proofs.Reading.{never, both}
use Rattle.reading.proofs.Local.{Local, local-give, local-check, local-bind, local-bytes, local-number, local-many, local_counted}
use Rattle.format.specs.Faults.{invalid_task_type, invalid_field_type, invalid_array_stride}
use Rattle.format.specs.Parts.{by_bytes}
use Rattle.format.specs.Tasks.{task, program}
use Rattle.format.specs.Types.{field, fb_type, stride_fits, array, user_fb}
use Rattle.format.specs.Code.{function}
use Rattle.format.specs.Debug.{text, name, path, line, variable, function_name, string_layout, source_file, enumeration, Row, tag_of, size_of, kind_of, payload_of}
use Rattle.format.specs.Debug.{Kind, lines, variables, functions, strings, files, enumerations, unknown, payload}

pub local-task : Local task
unfolding task
local-task =
    local-bind (local-number 2) λ i.
    local-bind (local-number 2) λ p.
    local-bind (local-number 1) λ k.
    local-bind (local-number 1) λ f.
    local-bind (local-number 8) λ n.
    local-bind (local-number 2) λ v.
    local-bind (local-number 8) λ w.
    local-bind (local-number 2) λ m.
    local-bind (local-number 2) λ o.
    local-bind (local-bytes 4) λ r.
    local-bind (local-check (leb k 2) (invalid_task_type k)) λ u. local-give _

pub local-program : Local program
unfolding program
local-program =
    local-bind (local-number 2) λ i.
    local-bind (local-number 2) λ t.
    local-bind (local-number 2) λ e.
    local-bind (local-number 2) λ v.
    local-bind (local-number 2) λ n.
    local-bind (local-number 2) λ f.
    local-bind (local-number 2) λ m.
    local-bind (local-number 2) λ u. local-give _

pub local-field : Local field
unfolding field
local-field =
    local-bind (local-number 1) λ k.
    local-bind (local-number 1) λ r.
    local-bind (local-number 2) λ e.
    local-bind (local-check (leb k 10) (invalid_field_type k)) λ u. local-give (record { kind = k; extra = e })

pub local-fb-type : Local fb_type
unfolding fb_type
local-fb-type =
    local-bind (local-number 2) λ i.
    local-bind (local-number 1) λ n.
    local-bind (local-number 1) λ r.
    local-bind (local-many n local-field) λ fs. local-give _

pub local-array : Local array
unfolding array
local-array =
    local-bind (local-number 1) λ k.
    local-bind (local-number 1) λ r.
    local-bind (local-number 4) λ n.
    local-bind (local-number 2) λ e.
    local-bind (local-number 4) λ t.
    local-bind (local-check (stride_fits k e t) (invalid_array_stride k t)) λ u. local-give (record { kind = k; elements = n; extra = e; stride = t })

pub local-user-fb : Local user_fb
unfolding user_fb
local-user-fb =
    local-bind (local-number 2) λ i.
    local-bind (local-number 2) λ f.
    local-bind (local-number 2) λ o.
    local-bind (local-number 1) λ n.
    local-bind (local-number 1) λ r. local-give _

pub local-function : Local function
unfolding function
local-function =
    local-bind (local-number 2) λ i.
    local-bind (local-number 4) λ o.
    local-bind (local-number 4) λ n.
    local-bind (local-number 2) λ s.
    local-bind (local-number 2) λ l.
    local-bind (local-number 2) λ p. local-give _

pub local-line : Local line
unfolding line
local-line =
    local-bind (local-number 2) λ f.
    local-bind (local-number 2) λ o.
    local-bind (local-number 2) λ i.
    local-bind (local-number 2) λ l.
    local-bind (local-number 2) λ c. local-give _

pub local-string_layout : Local string_layout
unfolding string_layout
local-string_layout = local-bind (local-number 2) λ v. local-bind (local-number 4) λ d. local-bind (local-number 2) λ m. local-give _

-- a test that reading passed
passed : (ok : Bool) (f : Fault) (s : List ℕ) {u : Unit {0}} {t : List ℕ} → check ok f s ≡ got u t → (ok ≡ true) × (s ≡ t)
passed true f s e = (refl, cc)
passed false f s e = never e

-- a text by its bytes: the count of bytes left occurs only in its fault
pub local-text : (n : ℕ) → Local (text by_bytes n)
unfolding text
local-text n =
    record {
      taken = λ s a t e.
          let b = both (bytes n s) e in
          let c = both (check (utf8 b.item) (bad_text (length s - valid_up_to b.item)) b.middle) b.second in
          let d = passed (utf8 b.item) (bad_text (length s - valid_up_to b.item)) b.middle c.first in
          let p = (local-bytes n).taken s b.item b.middle b.first in
          let x : b.item ≡ a = cc in
          let y : b.middle ≡ t = cc in
          record { front = p.front; split = p.split ∙ ap (λ v. p.front ++ v) y; again = λ u. rw (p.again u, d.0) (ap (λ v. got v u) x) };
    }

pub local-name : Local (name by_bytes)
unfolding name
local-name = local-bind (local-number 1) local-text

pub local-path : Local (path by_bytes)
unfolding path
local-path = local-bind (local-number 2) local-text

pub local-variable : Local (variable by_bytes)
unfolding variable
local-variable =
    local-bind (local-number 2) λ i.
    local-bind (local-number 2) λ f.
    local-bind (local-number 1) λ s.
    local-bind (local-number 1) λ t.
    local-bind local-name λ n.
    local-bind local-name λ y. local-give _

pub local-function_name : Local (function_name by_bytes)
unfolding function_name
local-function_name = local-bind (local-number 2) λ i. local-bind local-name λ n. local-give _

pub local-source_file : Local (source_file by_bytes)
unfolding source_file
local-source_file = local-bind local-path λ p. local-bind (local-bytes 32) λ h. local-give _

pub local-enumeration : Local (enumeration by_bytes)
unfolding enumeration
local-enumeration = local-bind local-name λ n. local-bind (local_counted local-name) λ vs. local-give _

local-payload : (k : Kind) (size : ℕ) → Local (payload by_bytes k size)
local-payload lines size = local-bind (local_counted local-line) λ es. local-give _
local-payload variables size = local-bind (local_counted local-variable) λ es. local-give _
local-payload functions size = local-bind (local_counted local-function_name) λ es. local-give _
local-payload strings size = local-bind (local_counted local-string_layout) λ es. local-give _
local-payload files size = local-bind (local_counted local-source_file) λ es. local-give _
local-payload enumerations size = local-bind (local_counted local-enumeration) λ es. local-give _
local-payload unknown size = local-bind (local-bytes size) λ b. local-give _

pub local-table : (row : Row) → Local (payload_of by_bytes row)
unfolding payload_of
local-table row = local-payload (kind_of (tag_of row)) (size_of row)
