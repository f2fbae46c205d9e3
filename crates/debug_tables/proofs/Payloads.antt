-- The payload of a row, by whether its tag is listed.
use mathlib.Core.Path.{◌≡◌, refl, sym, ap, subst, ◌∙◌}
use mathlib.Core.Bool.{true, false}
use mathlib.Core.List.{List, map}
use Prim.Native.Nat.{ℕ, ◌+◌, ◌-◌, ◌≤◌, ◌<◌}
use native.Mathlib.Omega.{arith}
use lib.ListN.{length, drop, length-drop}
use Rattle.reading.specs.Fault.{Fault, short_input}
use Rattle.reading.specs.Numbers.{le_at}
use Rattle.reading.specs.Reader.{Read, fault, got, Reader, next, ◌>>=◌, give, many, u16}
use Rattle.reading.specs.Places.{stops as stopped, item, Reads, step_at, stops_by, on_to, way_given, way_at}
use Rattle.reading.specs.declared.Table.{Table}
use Rattle.reading.proofs.Reading.{both, then-then, bytes-at, bytes-short, number_at, number_short}
use Rattle.reading.proofs.Tables.{many-length}
use Rattle.reading.proofs.Local.{local-give, local-bytes}
use Rattle.reading.proofs.Given.{step-at, way-at, goes_at}
use Rattle.reading.proofs.Made.{made, many-made}
use Rattle.reading.proofs.Left.{left_at, Stays, stays-local, stays-bind, stays-many, stays-counted}
use Rattle.format.specs.Parts.{Place, Keep}
use Rattle.format.specs.Debug.{line, on_variable, variable, on_function_name, function_name, string_layout, on_source_file, source_file, enumeration}
use Rattle.format.specs.Debug.{Kind, lines, variables, functions, strings, files, enumerations, unknown, payload}
use Rattle.format.specs.Debug.{Payload, of_lines, of_variables, of_functions, of_strings, of_files, of_enumerations, skipped}
use Rattle.format.proofs.Keeping.{on_enumeration, Alike, stops, gives, Same, same-many, same-variable, same-function_name, same-source_file, same-enumeration}
use Rattle.format.proofs.Readers.{local-line, local-string_layout}
use Rattle.debug_entries.specs.Answers.{entry_of, enumeration_entry}
use Rattle.debug_entries.proofs.Places.{none_kept}
use Rattle.debug_tables.specs.Starts.{nowhere, behind_count, entries_at, aside, payload_start, is_listed, entries_of}
use Rattle.format.proofs.Leaves.{stays-variable, stays-function, stays-file, stays-enumeration}

abbrev Entries : Type 0
Entries = Payload (Unit {0})

-- whatever is kept of names and paths, the same entries are passed over
way-alike : {A B : Type 0} (s : List ℕ) (m : B → A) (r : Reader A) (q : Reader B) → Same s m r q → (at : ℕ) → way_at q s at ≡ way_at r s at
unfolding way_at
way-alike {A} {B} s m r q h at = go (h (drop at s) (left_at s at))
  where
    go : {x : Read A} {y : Read B} → Alike s m x y → way_given s y ≡ way_given s x
    go (stops f) = refl
    go (gives b t w) = refl

-- and whatever is made of them
given-made : {A B : Type 0} (make : A → B) (s : List ℕ) (x : Read A) → way_given s x ≡ way_given s (next x (λ a. give (make a)))
given-made make s (fault f) = refl
given-made make s (got a t) = refl

way-made : {A B : Type 0} (make : A → B) (r : Reader A) (s : List ℕ) (at : ℕ) → way_at r s at ≡ way_at (r >>= λ a. give (make a)) s at
unfolding way_at
way-made make r s at = given-made make s (r (drop at s))

way-many : {A B : Type 0} (make : A → B) (r : Reader A) (n : ℕ) (s : List ℕ) (at : ℕ) → way_at (many n (made make r)) s at ≡ way_at (many n r) s at
unfolding way_at
way-many make r n s at = ap (way_given s) (many-made make r n (drop at s)) ∙ sym (given-made (map make) s (many n r (drop at s)))

pub passed_lines : (s : List ℕ) (n at : ℕ) → way_at (many n line) s at ≡ way_at (entries_of lines n) s at
passed_lines s n at = way-made of_lines (many n line) s at

pub passed_strings : (s : List ℕ) (n at : ℕ) → way_at (many n string_layout) s at ≡ way_at (entries_of strings n) s at
passed_strings s n at = way-made of_strings (many n string_layout) s at

module _ {T : Type 0} (keep : Keep T) (s : List ℕ) (n at : ℕ) where
  aside-way : {A B : Type 0} (m : B → A) (make : List A → Entries) (r : Reader A) (q : Reader B) → Same s m r q → way_at (many n q) s at ≡ way_at (many n r >>= λ es. give (make es)) s at
  aside-way m make r q h = way-alike s (map m) (many n r) (many n q) (same-many s m r q n h) at ∙ way-made make (many n r) s at

  pub passed_variables : way_at (many n (variable keep)) s at ≡ way_at (entries_of variables n) s at
  passed_variables = aside-way (on_variable none_kept) of_variables (variable aside) (variable keep) (same-variable s aside keep none_kept (λ k m i. refl))

  pub passed_functions : way_at (many n (function_name keep)) s at ≡ way_at (entries_of functions n) s at
  passed_functions = aside-way (on_function_name none_kept) of_functions (function_name aside) (function_name keep) (same-function_name s aside keep none_kept (λ k m i. refl))

  pub passed_files : way_at (many n (source_file keep)) s at ≡ way_at (entries_of files n) s at
  passed_files = aside-way (on_source_file none_kept) of_files (source_file aside) (source_file keep) (same-source_file s aside keep none_kept (λ k m i. refl))

pub passed_enumerations : (base : ℕ) (keep : Keep Place) (s : List ℕ) (n at : ℕ) → way_at (many n (enumeration_entry base keep)) s at ≡ way_at (entries_of enumerations n) s at
passed_enumerations base keep s n at =
    way-many (entry_of base) (enumeration keep) n s at
    ∙ aside-way keep s n at (on_enumeration none_kept) of_enumerations (enumeration aside) (enumeration keep) (same-enumeration s aside keep none_kept (λ k m i. refl))

-- a payload that is not listed has none
pub passed_none : (s : List ℕ) (n at : ℕ) → at ≤ length s → on_to at ≡ way_at (entries_of unknown n) s at
passed_none s n at l = way-at (entries_of unknown n) s at (on_to at) (l, (skipped, refl))

-- `n` entries, then a `give`
gave : {A B : Type 0} (r : Reader A) (make : List A → B) (n : ℕ) (y : List ℕ) {x : B} {rest : List ℕ} → next (many n r y) (λ es. give (make es)) ≡ got x rest → (es : List A) × (make es ≡ x) × (length es ≡ n)
gave r make n y e = let b = both (many n r y) e in (b.item, cc, many-length r n y b.item b.middle b.first)

listed-as : (k : Kind) (size : ℕ) (x : List ℕ) → is_listed k ≡ true → payload aside k size x ≡ next (u16 x) (λ n. entries_of k n)
listed-as lines size x h = then-then (u16 x) _ _
listed-as variables size x h = then-then (u16 x) _ _
listed-as functions size x h = then-then (u16 x) _ _
listed-as strings size x h = then-then (u16 x) _ _
listed-as files size x h = then-then (u16 x) _ _
listed-as enumerations size x h = then-then (u16 x) _ _
listed-as unknown size x h = absurd (let z : ◌≡◌ {A = ℕ} 0 1 = ap (λ b. mathlib.Core.Bool.cond b 1 0) h in omega arith)

pub start-listed : (k : Kind) (size at : ℕ) (x : List ℕ) → is_listed k ≡ true → payload_start k size at x ≡ next (u16 x) (λ n y. next (entries_of k n y) (λ z. give (entries_at at z)))
start-listed k size at x h = ap (λ (z : Read Entries). next z (λ p. give (entries_at at p))) (listed-as k size x h) ∙ then-then (u16 x) (λ n. entries_of k n) (λ p. give (entries_at at p))

-- a count, then as many entries
stand-in : {A : Type 0} (make : List A → Entries) (at n : ℕ) (x : Entries) → ((es : List A) → entries_at at (make es) ≡ behind_count at (length es))
    → (es : List A) × (make es ≡ x) × (length es ≡ n) → entries_at at x ≡ behind_count at n
stand-in make at n x h (es, e, l) = ap (λ (y : Entries). entries_at at y) (sym e) ∙ h es ∙ ap (behind_count at) l

pub stand-listed : (k : Kind) (at n : ℕ) (y : List ℕ) (x : Entries) (rest : List ℕ) → is_listed k ≡ true → entries_of k n y ≡ got x rest → entries_at at x ≡ behind_count at n
stand-listed lines at n y x rest h e = stand-in of_lines at n x (λ es. refl) (gave line of_lines n y e)
stand-listed variables at n y x rest h e = stand-in of_variables at n x (λ es. refl) (gave (variable aside) of_variables n y e)
stand-listed functions at n y x rest h e = stand-in of_functions at n x (λ es. refl) (gave (function_name aside) of_functions n y e)
stand-listed strings at n y x rest h e = stand-in of_strings at n x (λ es. refl) (gave string_layout of_strings n y e)
stand-listed files at n y x rest h e = stand-in of_files at n x (λ es. refl) (gave (source_file aside) of_files n y e)
stand-listed enumerations at n y x rest h e = stand-in of_enumerations at n x (λ es. refl) (gave (enumeration aside) of_enumerations n y e)
stand-listed unknown at n y x rest h e = absurd (let z : ◌≡◌ {A = ℕ} 0 1 = ap (λ b. mathlib.Core.Bool.cond b 1 0) h in omega arith)

-- what the entries of a table leave, and what a payload leaves, is left of the section
module _ (s : List ℕ) where
  stays-made : {A B : Type 0} (make : A → B) {r : Reader A} → Stays s r → Stays s (r >>= λ a. give (make a))
  stays-made make h = stays-bind s h λ a. stays-local s (local-give (make a))

  pub stays-entries : (k : Kind) (n : ℕ) → Stays s (entries_of k n)
  stays-entries lines n = stays-made of_lines (stays-many s n (stays-local s local-line))
  stays-entries variables n = stays-made of_variables (stays-many s n (stays-variable aside s))
  stays-entries functions n = stays-made of_functions (stays-many s n (stays-function aside s))
  stays-entries strings n = stays-made of_strings (stays-many s n (stays-local s local-string_layout))
  stays-entries files n = stays-made of_files (stays-many s n (stays-file aside s))
  stays-entries enumerations n = stays-made of_enumerations (stays-many s n (stays-enumeration aside s))
  stays-entries unknown n = stays-local s (local-give skipped)

  stays-payload : (k : Kind) (size : ℕ) → Stays s (payload aside k size)
  stays-payload lines size = stays-made of_lines (stays-counted s (stays-local s local-line))
  stays-payload variables size = stays-made of_variables (stays-counted s (stays-variable aside s))
  stays-payload functions size = stays-made of_functions (stays-counted s (stays-function aside s))
  stays-payload strings size = stays-made of_strings (stays-counted s (stays-local s local-string_layout))
  stays-payload files size = stays-made of_files (stays-counted s (stays-file aside s))
  stays-payload enumerations size = stays-made of_enumerations (stays-counted s (stays-enumeration aside s))
  stays-payload unknown size = stays-made (λ b. skipped) (stays-local s (local-bytes size))

  pub stays-start : (k : Kind) (size at : ℕ) → Stays s (payload_start k size at)
  stays-start k size at = stays-made (entries_at at) (stays-payload k size)

-- a listed table: its count, and as many entries
module _ (k : Kind) (size : ℕ) (s : List ℕ) (at : ℕ) (h : is_listed k ≡ true) where
  abbrev behind : ℕ → Reader Table
  behind n y = next (entries_of k n y) (λ z. give (entries_at at z))

  pub listed_short : length s - at < 2 → stopped short_input ≡ step_at (payload_start k size at) s at
  listed_short l =
      let d = length-drop at s in
      step-at (payload_start k size at) s at (stopped short_input) (start-listed k size at (drop at s) h ∙ ap (λ z. next z behind) (number_short 2 (drop at s) (omega arith)))

  module _ (n : ℕ) (room : at + 2 ≤ length s) (e : n ≡ le_at 2 s at) where
    listed-reads : payload_start k size at (drop at s) ≡ behind n (drop (at + 2) s)
    listed-reads =
        start-listed k size at (drop at s) h
        ∙ ap (λ z. next z behind) (number_at 2 s at (at + 2) refl room)
        ∙ ap (λ (i : ℕ). behind i (drop (at + 2) s)) (sym e)

    pub listed_err : (f : Fault) → stops_by f ≡ way_at (entries_of k n) s (at + 2) → stopped f ≡ step_at (payload_start k size at) s at
    listed_err f e =
        let g = goes_at (stays-entries s k n) (at + 2) e in
        step-at (payload_start k size at) s at (stopped f) (listed-reads ∙ ap (λ (z : Read Entries). next z (λ x. give (entries_at at x))) g)

    pub listed_ok : (m : ℕ) → on_to m ≡ way_at (entries_of k n) s (at + 2) → item (behind_count at n) m ≡ step_at (payload_start k size at) s at
    listed_ok m e =
        let g = goes_at (stays-entries s k n) (at + 2) e in
        step-at (payload_start k size at) s at (item (behind_count at n) m) (
          g.0,
          listed-reads
              ∙ ap (λ (z : Read Entries). next z (λ x. give (entries_at at x))) g.1.1
              ∙ ap (λ (t : Table). got t (drop m s)) (stand-listed k at n (drop (at + 2) s) g.1.0 (drop m s) h g.1.1),
        )

-- any other: as many bytes as its row's size
pub other-as : (k : Kind) → is_listed k ≡ false → k ≡ unknown
other-as unknown h = refl
other-as lines h = absurd (let z : ◌≡◌ {A = ℕ} 0 1 = ap (λ b. mathlib.Core.Bool.cond b 0 1) h in omega arith)
other-as variables h = absurd (let z : ◌≡◌ {A = ℕ} 0 1 = ap (λ b. mathlib.Core.Bool.cond b 0 1) h in omega arith)
other-as functions h = absurd (let z : ◌≡◌ {A = ℕ} 0 1 = ap (λ b. mathlib.Core.Bool.cond b 0 1) h in omega arith)
other-as strings h = absurd (let z : ◌≡◌ {A = ℕ} 0 1 = ap (λ b. mathlib.Core.Bool.cond b 0 1) h in omega arith)
other-as files h = absurd (let z : ◌≡◌ {A = ℕ} 0 1 = ap (λ b. mathlib.Core.Bool.cond b 0 1) h in omega arith)
other-as enumerations h = absurd (let z : ◌≡◌ {A = ℕ} 0 1 = ap (λ b. mathlib.Core.Bool.cond b 0 1) h in omega arith)

module _ (k : Kind) (size : ℕ) (s : List ℕ) (at : ℕ) (h : is_listed k ≡ false) where
  pub other_short : length s - at < size → stopped short_input ≡ step_at (payload_start k size at) s at
  other_short l =
      let d = length-drop at s in
      step-at (payload_start k size at) s at (stopped short_input) (rw (other-as k h, bytes-short size (drop at s) (omega arith)))

  pub other_ok : at + size ≤ length s → item nowhere (at + size) ≡ step_at (payload_start k size at) s at
  other_ok l =
      step-at (payload_start k size at) s at (item nowhere (at + size))
      (subst (λ (v : Kind). Reads (payload_start v size at) s at (item nowhere (at + size))) (sym (other-as k h)) (l, rw (bytes-at size s at (at + size) refl l)))
