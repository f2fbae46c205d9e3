-- Two ways to keep the strings, names and paths of one section: where one follows from the other, so do the tables, read either way.
use mathlib.Core.Path.{◌≡◌, refl, ap, ◌∙◌}
use mathlib.Core.Bool.{Bool, true, false, cond}
use mathlib.Core.List.{List, [], ◌∷◌, ◌++◌, map}
use Prim.Native.Nat.{ℕ, zero, suc, ◌+◌, ◌-◌, ◌≤◌}
use native.Mathlib.Decide.{dec_le}
use native.Mathlib.Omega.{arith}
use lib.Dec.{leb}
use lib.ListN.{length, take, drop, replicate, length-drop}
use Rattle.utf8.specs.Utf8.{utf8}
use Rattle.reading.specs.Fault.{Fault}
use Rattle.reading.specs.Reader.{Read, fault, got, Reader, next, ◌>>=◌, give, check, left, bytes, number, many, counted}
use Rattle.reading.proofs.Reading.{bytes-at, bytes-short}
use Rattle.reading.proofs.Left.{LeftOf, left-taken}
use Rattle.reading.proofs.Local.{Local, local-check, local-bytes, local-number, local_counted}
use Rattle.format.specs.Parts.{Keep}
use Rattle.format.specs.Constants.{string, on_kept, on_constant, kept_of, is_number, size_fits, constant, constants}
use Rattle.format.specs.Constants as kept
use Rattle.format.specs.Faults.{invalid_constant_type}
use Rattle.format.specs.Debug.{text, name, path, line, on_variable, variable, on_function_name, function_name, string_layout, on_source_file, source_file, Enumeration, enumeration}
use Rattle.format.specs.Debug.{Kind, lines, variables, functions, strings, files, enumerations, unknown, payload, Row, tag_of, size_of, kind_of, payload_of}
use Rattle.format.specs.Debug.{Payload, of_lines, of_variables, of_functions, of_strings, of_files, of_enumerations, skipped, Tables, no_tables, put, tables_of, rows_of, debug_tables}
use Rattle.format.proofs.Readers.{local-line, local-string_layout}

-- The same tables with `h` of what stands for a name or a path

module _ {T U : Type 0} (h : U → T) where
  abbrev pub on_enumeration : Enumeration U → Enumeration T
  on_enumeration e = record { named = h e.named; values = map h e.values }

  abbrev pub on_payload : Payload U → Payload T
  on_payload (of_lines es) = of_lines es
  on_payload (of_variables es) = of_variables (map (on_variable h) es)
  on_payload (of_functions es) = of_functions (map (on_function_name h) es)
  on_payload (of_strings es) = of_strings es
  on_payload (of_files es) = of_files (map (on_source_file h) es)
  on_payload (of_enumerations es) = of_enumerations (map on_enumeration es)
  on_payload skipped = skipped

  abbrev pub on_tables : Tables U → Tables T
  on_tables t =
      record {
        lines = t.lines;
        variables = map (on_variable h) t.variables;
        functions = map (on_function_name h) t.functions;
        strings = t.strings;
        files = map (on_source_file h) t.files;
        enumerations = map on_enumeration t.enumerations;
      }

-- Two readers at work on what is left of `whole`: they stop with the same fault, or give an item and the same item by `m`

module _ (whole : List ℕ) where
  pub data Alike {A B : Type 0} (m : B → A) : Read A → Read B → Type 0 where
    stops : (f : Fault) → Alike m (fault f) (fault f)
    gives : (b : B) (t : List ℕ) → LeftOf whole t → Alike m (got (m b) t) (got b t)

  abbrev pub Same : {A B : Type 0} → (B → A) → Reader A → Reader B → Type 0
  Same m r q = (s : List ℕ) → LeftOf whole s → Alike m (r s) (q s)

  alike_next : {A B C D : Type 0} {m : B → A} {n : D → C} {x : Read A} {y : Read B} (go : A → Reader C) (ho : B → Reader D)
      → Alike m x y → ((b : B) → Same n (go (m b)) (ho b)) → Alike n (next x go) (next y ho)
  alike_next go ho (stops f) k = stops f
  alike_next go ho (gives b t w) k = k b t w

  same-bind : {A B C D : Type 0} (m : B → A) (n : D → C) (r : Reader A) (q : Reader B) (go : A → Reader C) (ho : B → Reader D)
      → Same m r q → ((b : B) → Same n (go (m b)) (ho b)) → Same n (r >>= go) (q >>= ho)
  same-bind m n r q go ho h k s w = alike_next go ho (h s w) k

  same-local : {A : Type 0} {r : Reader A} → Local r → Same (λ a. a) r r
  same-local {A} {r} h s w = go (r s) refl
    where
      go : (x : Read A) → r s ≡ x → Alike (λ a. a) x x
      go (fault f) e = stops f
      go (got a t) e = gives a t (left-taken whole s a t w (h.taken s a t e))

  -- a plain item, and then what differs
  same_then : {A C D : Type 0} (n : D → C) (r : Reader A) (go : A → Reader C) (ho : A → Reader D) → Local r → ((a : A) → Same n (go a) (ho a)) → Same n (r >>= go) (r >>= ho)
  same_then n r go ho l k = same-bind (λ a. a) n r r go ho (same-local l) k

  pub same-many : {A B : Type 0} (m : B → A) (r : Reader A) (q : Reader B) (n : ℕ) → Same m r q → Same (map m) (many n r) (many n q)
  same-many m r q zero h = λ s w. gives [] s w
  same-many m r q (suc n) h =
      same-bind m (map m) r q _ _ h (λ b. same-bind (map m) (map m) (many n r) (many n q) _ _ (same-many m r q n h) (λ bs s w. gives (b ∷ bs) s w))

  same-counted : {A B : Type 0} (m : B → A) (r : Reader A) (q : Reader B) → Same m r q → Same (map m) (counted r) (counted q)
  same-counted m r q h = same_then (map m) (number 2) _ _ (local-number 2) (λ n. same-many m r q n h)

  -- Two ways to keep a part of `whole`, where the first is `h` of the second

  module _ {T U : Type 0} (keep : Keep T) (other : Keep U) (h : U → T)
      (agree : (k n : ℕ) → k + n ≤ length whole → keep (take n (drop k whole)) (length whole - k - n) ≡ h (other (take n (drop k whole)) (length whole - k - n))) where
    checked : (ok : Bool) (f : Fault) (a : T) (b : U) (t : List ℕ) → a ≡ h b → LeftOf whole t
        → Alike h (next (check ok f t) (λ u. give a)) (next (check ok f t) (λ u. give b))
    checked true f a b t e w = rw e (gives b t w)
    checked false f a b t e w = stops f

    same_text : (n : ℕ) → Same h (text keep n) (text other n)
    unfolding text
    same_text n s w = rw w.is (go w.behind w.most (dec_le (w.behind + n) (length whole)))
      where
        go : (k : ℕ) → k ≤ length whole → Dec (k + n ≤ length whole) → Alike h (text keep n (drop k whole)) (text other n (drop k whole))
        go k l (yes i) =
            rw (bytes-at n whole k (k + n) refl i, length-drop k whole)
            (checked (utf8 (take n (drop k whole))) _ _ _ (drop (k + n) whole) (agree k n i) (record { behind = k + n; most = i; is = refl }))
        go k l (no i) = let d = length-drop k whole in rw (bytes-short n (drop k whole) (omega arith)) (stops _)

    same_name : Same h (name keep) (name other)
    unfolding name
    same_name = same_then h (number 1) _ _ (local-number 1) same_text

    same-path : Same h (path keep) (path other)
    unfolding path
    same-path = same_then h (number 2) _ _ (local-number 2) same_text

    pub same-variable : Same (on_variable h) (variable keep) (variable other)
    unfolding variable
    same-variable =
        same_then (on_variable h) (number 2) _ _ (local-number 2) λ i.
        same_then (on_variable h) (number 2) _ _ (local-number 2) λ f.
        same_then (on_variable h) (number 1) _ _ (local-number 1) λ c.
        same_then (on_variable h) (number 1) _ _ (local-number 1) λ t.
        same-bind h (on_variable h) (name keep) (name other) _ _ same_name λ n.
        same-bind h (on_variable h) (name keep) (name other) _ _ same_name λ y s w. gives _ s w

    pub same-function_name : Same (on_function_name h) (function_name keep) (function_name other)
    unfolding function_name
    same-function_name =
        same_then (on_function_name h) (number 2) _ _ (local-number 2) λ i.
        same-bind h (on_function_name h) (name keep) (name other) _ _ same_name λ n s w. gives _ s w

    pub same-source_file : Same (on_source_file h) (source_file keep) (source_file other)
    unfolding source_file
    same-source_file =
        same-bind h (on_source_file h) (path keep) (path other) _ _ same-path λ p.
        same_then (on_source_file h) (bytes 32) _ _ (local-bytes 32) λ b s w. gives _ s w

    pub same-enumeration : Same (on_enumeration h) (enumeration keep) (enumeration other)
    unfolding enumeration
    same-enumeration =
        same-bind h (on_enumeration h) (name keep) (name other) _ _ same_name λ n.
        same-bind (map h) (on_enumeration h) (counted (name keep)) (counted (name other)) _ _ (same-counted h (name keep) (name other) same_name) λ vs s w. gives _ s w

    same-payload : (k : Kind) (size : ℕ) → Same (on_payload h) (payload keep k size) (payload other k size)
    same-payload lines size = same_then (on_payload h) (counted line) _ _ (local_counted local-line) λ es s w. gives (of_lines es) s w
    same-payload variables size =
        same-bind (map (on_variable h)) (on_payload h) _ _ _ _ (same-counted (on_variable h) (variable keep) (variable other) same-variable) λ es s w. gives (of_variables es) s w
    same-payload functions size =
        same-bind (map (on_function_name h)) (on_payload h) _ _ _ _ (same-counted (on_function_name h) (function_name keep) (function_name other) same-function_name) λ es s w. gives (of_functions es) s w
    same-payload strings size = same_then (on_payload h) (counted string_layout) _ _ (local_counted local-string_layout) λ es s w. gives (of_strings es) s w
    same-payload files size =
        same-bind (map (on_source_file h)) (on_payload h) _ _ _ _ (same-counted (on_source_file h) (source_file keep) (source_file other) same-source_file) λ es s w. gives (of_files es) s w
    same-payload enumerations size =
        same-bind (map (on_enumeration h)) (on_payload h) _ _ _ _ (same-counted (on_enumeration h) (enumeration keep) (enumeration other) same-enumeration) λ es s w. gives (of_enumerations es) s w
    same-payload unknown size = same_then (on_payload h) (bytes size) _ _ (local-bytes size) λ b s w. gives skipped s w

    pub same_row : (row : Row) → Same (on_payload h) (payload_of keep row) (payload_of other row)
    unfolding payload_of
    same_row row = same-payload (kind_of (tag_of row)) (size_of row)

    put_on : (x : Payload U) (t : Tables U) → put (on_payload h x) (on_tables h t) ≡ on_tables h (put x t)
    put_on (of_lines es) t = refl
    put_on (of_variables es) t = refl
    put_on (of_functions es) t = refl
    put_on (of_strings es) t = refl
    put_on (of_files es) t = refl
    put_on (of_enumerations es) t = refl
    put_on skipped t = refl

    same_tables : (rows : List Row) (t : Tables U) → Same (on_tables h) (tables_of keep rows (on_tables h t)) (tables_of other rows t)
    same_tables [] t = λ s w. gives t s w
    same_tables (row ∷ rows) t =
        same-bind (on_payload h) (on_tables h) (payload_of keep row) (payload_of other row) _ _ (same_row row) λ x. rw (put_on x t) (same_tables rows (put x t))

    pub same-debug : Same (on_tables h) (debug_tables keep) (debug_tables other)
    unfolding debug_tables rows_of
    same-debug = same_then (on_tables h) (counted (bytes 8)) _ _ (local_counted (local-bytes 8)) λ rows. same_tables rows no_tables

    kept_on : (kind k n : ℕ) → k + n ≤ length whole
        → kept_of keep kind (take n (drop k whole)) (length whole - k - n) ≡ on_kept h (kept_of other kind (take n (drop k whole)) (length whole - k - n))
    unfolding kept_of
    kept_on kind k n i = go (is_number kind)
      where
        b : List ℕ
        b = take n (drop k whole)

        go : (z : Bool) → cond z (kept.number (b ++ replicate (8 - length b) 0)) (string (keep b (length whole - k - n)))
            ≡ on_kept h (cond z (kept.number (b ++ replicate (8 - length b) 0)) (string (other b (length whole - k - n))))
        go true = refl
        go false = ap string (agree k n i)

    same_body : (kind n : ℕ) → Same (on_constant h)
        (bytes n >>= λ body. left >>= λ behind. give (record { kind = kind; kept = kept_of keep kind body behind }))
        (bytes n >>= λ body. left >>= λ behind. give (record { kind = kind; kept = kept_of other kind body behind }))
    same_body kind n s w = rw w.is (go w.behind w.most (dec_le (w.behind + n) (length whole)))
      where
        go : (k : ℕ) → k ≤ length whole → Dec (k + n ≤ length whole) → Alike (on_constant h)
            (next (bytes n (drop k whole)) (λ body. left >>= λ behind. give (record { kind = kind; kept = kept_of keep kind body behind })))
            (next (bytes n (drop k whole)) (λ body. left >>= λ behind. give (record { kind = kind; kept = kept_of other kind body behind })))
        go k l (yes i) =
            let d : length (drop (k + n) whole) ≡ length whole - k - n = length-drop (k + n) whole ∙ omega arith in
            rw (bytes-at n whole k (k + n) refl i, d, kept_on kind k n i) (gives _ (drop (k + n) whole) (record { behind = k + n; most = i; is = refl }))
        go k l (no i) = let d = length-drop k whole in rw (bytes-short n (drop k whole) (omega arith)) (stops _)

    same-constant : Same (on_constant h) (constant keep) (constant other)
    unfolding constant
    same-constant =
        same_then (on_constant h) (number 1) _ _ (local-number 1) λ kind.
        same_then (on_constant h) (number 1) _ _ (local-number 1) λ tag.
        same_then (on_constant h) (number 2) _ _ (local-number 2) λ size.
        same_then (on_constant h) (check (leb kind 7) _) _ _ (local-check (leb kind 7) (invalid_constant_type kind)) λ u.
        same_then (on_constant h) (check (size_fits kind size) _) _ _ (local-check (size_fits kind size) (invalid_constant_type kind)) λ v. same_body kind size

    pub same-constants : Same (map (on_constant h)) (constants keep) (constants other)
    unfolding constants
    same-constants = same-counted (on_constant h) (constant keep) (constant other) same-constant
