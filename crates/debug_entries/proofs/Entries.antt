-- Each entry at a place of the section: what each test of the code says of it. Numbers are as the code read them.
use Rattle.std.proofs.Common.{◌≡◌, ℕ, ◌+◌, ◌-◌, ◌≤◌, ◌<◌, List, length, drop, refl, arith}
use Rattle.std.specs.Prelude.{take}
use mathlib.Core.List.{map}
use lib.ListN.{length-drop}
use Rattle.reading.specs.Fault.{Fault, short_input}
use Rattle.reading.specs.Numbers.{le_at}
use Rattle.reading.specs.Reader.{Read, fault, got, Reader, next, ◌>>=◌, give, many}
use Rattle.reading.specs.Places.{stops, item, step_at, stops_by, on_to, way_given, way_at}
use Rattle.reading.proofs.Reading.{bytes-at, bytes-short, number_at}
use Rattle.reading.proofs.Width.{fixed_number, needs-bind, needs-none}
use Rattle.reading.proofs.Tables.{many-length}
use Rattle.reading.proofs.Passing.{counted-short, counted-as}
use Rattle.reading.proofs.Left.{Stays, stays-many}
use Rattle.reading.proofs.Given.{reads_at, goes_at}
use Rattle.reading.proofs.Made.{many-made}
use Rattle.format.specs.Parts.{Place, Keep}
use Rattle.format.specs.Debug.{name, path, Variable, variable, function_name, string_layout, source_file, Enumeration, enumeration}
use Rattle.format.proofs.Leaves.{stays-name, stays-path}
use Rattle.format.proofs.Widths.{layout-fixed}
use Rattle.base.proofs.Entries.{read_err, read_ok, read_short}
use Rattle.debug_text.specs.Answers.{keep_in}
use Rattle.debug_text.proofs.Texts.{name-ends}
use Rattle.debug_entries.specs.Answers.{EnumerationWithValues, entry_of, enumeration_entry}

-- a reader `q` that reads at `at` what another reads at `to`, and continues
module _ {A B : Type 0} (q : Reader B) (r : Reader A) (go : A → Reader B) (s : List ℕ) (h : Stays s r) (at to : ℕ) (e : q (drop at s) ≡ next (r (drop to s)) go) where
  then_err : (f : Fault) → stops f ≡ step_at r s to → stops f ≡ step_at q s at
  then_err f k = read_err q s at f (rw (e, reads_at h to k))

  then_on : (a : A) (p : ℕ) → item a p ≡ step_at r s to → q (drop at s) ≡ go a (drop p s)
  then_on a p k = rw (e, (reads_at h to k).1)

-- String layouts

module _ (s : List ℕ) (at : ℕ) where
  pub layout_short : length s - at < 8 → stops short_input ≡ step_at string_layout s at
  layout_short h = read_short string_layout s layout-fixed.short at h

  pub layout_read : (v o l : ℕ) → at + 8 ≤ length s → v ≡ le_at 2 s at → o ≡ le_at 4 s (at + 2) → l ≡ le_at 2 s (at + 6)
      → item (record { variable = v; data_offset = o; max_length = l }) (at + 8) ≡ step_at string_layout s at
  unfolding string_layout
  layout_read v o l h i j k =
      read_ok string_layout s at _ (at + 8) h (rw (
        i,
        j,
        k,
        number_at 2 s at (at + 2) refl (omega arith),
        number_at 4 s (at + 2) (at + 6) (omega arith) (omega arith),
        number_at 2 s (at + 6) (at + 8) (omega arith) h,
      ))

-- The others, with what stands for a name or a path

module _ {T : Type 0} (keep : Keep T) (s : List ℕ) (at : ℕ) where
  -- a function's id, then its name
  pub func_short : length s - at < 2 → stops short_input ≡ step_at (function_name keep) s at
  unfolding function_name
  func_short h = read_short (function_name keep) s (needs-bind (fixed_number 2) (λ i. needs-none _)) at h

  module _ (h : at + 2 ≤ length s) where
    func-at : function_name keep (drop at s) ≡ next (name keep (drop (at + 2) s)) (λ n. give (record { id = le_at 2 s at; named = n }))
    unfolding function_name
    func-at = rw (number_at 2 s at (at + 2) refl h)

    pub func_err : (f : Fault) → stops f ≡ step_at (name keep) s (at + 2) → stops f ≡ step_at (function_name keep) s at
    func_err f k = then_err (function_name keep) (name keep) _ s (stays-name keep s) at (at + 2) func-at f k

    pub func_read : (id : ℕ) (x : T) (m : ℕ) → id ≡ le_at 2 s at → item x m ≡ step_at (name keep) s (at + 2)
        → item (record { id = id; named = x }) m ≡ step_at (function_name keep) s at
    func_read id x m i k =
        read_ok (function_name keep) s at _ m (reads_at (stays-name keep s) (at + 2) k).0
        (rw (then_on (function_name keep) (name keep) _ s (stays-name keep s) at (at + 2) func-at x m k, i))

  -- a source file's path, then its hash
  pub file_err : (f : Fault) → stops f ≡ step_at (path keep) s at → stops f ≡ step_at (source_file keep) s at
  unfolding source_file
  file_err f k = then_err (source_file keep) (path keep) _ s (stays-path keep s) at at refl f k

  module _ (x : T) (p : ℕ) (k : item x p ≡ step_at (path keep) s at) where
    pub file_short : length s - p < 32 → stops short_input ≡ step_at (source_file keep) s at
    unfolding source_file
    file_short h =
        let l = length-drop p s in
        read_err (source_file keep) s at short_input (rw (then_on (source_file keep) (path keep) _ s (stays-path keep s) at at refl x p k, bytes-short 32 (drop p s) (omega arith)))

    pub file_read : (hash : List ℕ) → p + 32 ≤ length s → hash ≡ take 32 (drop p s) → item (record { located = x; hash = hash }) (p + 32) ≡ step_at (source_file keep) s at
    unfolding source_file
    file_read hash h i =
        read_ok (source_file keep) s at _ (p + 32) h (rw (then_on (source_file keep) (path keep) _ s (stays-path keep s) at at refl x p k, bytes-at 32 s p (p + 32) refl h, i))

  -- a variable's numbers, then its two names
  pub var_short : length s - at < 6 → stops short_input ≡ step_at (variable keep) s at
  unfolding variable
  var_short h =
      read_short (variable keep) s
      (needs-bind (fixed_number 2) λ i.
      needs-bind (fixed_number 2) λ f.
      needs-bind (fixed_number 1) λ c.
      needs-bind (fixed_number 1) λ t. needs-none _)
      at h

  -- what follows the name
  abbrev type_named : T → Reader (Variable T)
  type_named x =
      name keep >>= λ y.
      give (record { index = le_at 2 s at; function = le_at 2 s (at + 2); section = le_at 1 s (at + 4); type_tag = le_at 1 s (at + 5); named = x; type_name = y })

  module _ (h : at + 6 ≤ length s) where
    var-at : variable keep (drop at s) ≡ next (name keep (drop (at + 6) s)) type_named
    unfolding variable
    var-at =
        rw (
          number_at 2 s at (at + 2) refl (omega arith),
          number_at 2 s (at + 2) (at + 4) (omega arith) (omega arith),
          number_at 1 s (at + 4) (at + 5) (omega arith) (omega arith),
          number_at 1 s (at + 5) (at + 6) (omega arith) h,
        )

    pub var_err : (f : Fault) → stops f ≡ step_at (name keep) s (at + 6) → stops f ≡ step_at (variable keep) s at
    var_err f k = then_err (variable keep) (name keep) type_named s (stays-name keep s) at (at + 6) var-at f k

    module _ (x : T) (p : ℕ) (k : item x p ≡ step_at (name keep) s (at + 6)) where
      type-at : variable keep (drop at s) ≡ type_named x (drop p s)
      type-at = then_on (variable keep) (name keep) type_named s (stays-name keep s) at (at + 6) var-at x p k

      pub var_type : (f : Fault) → stops f ≡ step_at (name keep) s p → stops f ≡ step_at (variable keep) s at
      var_type f g = then_err (variable keep) (name keep) _ s (stays-name keep s) at p type-at f g

      pub var_read : (i f c t : ℕ) (y : T) (m : ℕ) → i ≡ le_at 2 s at → f ≡ le_at 2 s (at + 2) → c ≡ le_at 1 s (at + 4) → t ≡ le_at 1 s (at + 5) → item y m ≡ step_at (name keep) s p
          → item (record { index = i; function = f; section = c; type_tag = t; named = x; type_name = y }) m ≡ step_at (variable keep) s at
      var_read i f c t y m pi pf pc pt g =
          read_ok (variable keep) s at _ m (reads_at (stays-name keep s) p g).0
          (rw (then_on (variable keep) (name keep) _ s (stays-name keep s) at p type-at y m g, pi, pf, pc, pt))

-- an enumeration's name, its count, and the values' names
module _ (base : ℕ) (s : List ℕ) (at : ℕ) where
  abbrev named : Reader Place
  named = name (keep_in base s)

  abbrev entries : Reader EnumerationWithValues
  entries = enumeration_entry base (keep_in base s)

  pub enum_err : (f : Fault) → stops f ≡ step_at named s at → stops f ≡ step_at entries s at
  unfolding enumeration
  enum_err f k = read_err entries s at f (rw (reads_at (stays-name (keep_in base s) s) at k))

  module _ (x : Place) (p : ℕ) (e : item x p ≡ step_at named s at) where
    pub enum_short : length s - p < 2 → stops short_input ≡ step_at entries s at
    unfolding enumeration
    enum_short h = read_err entries s at short_input (rw ((reads_at (stays-name (keep_in base s) s) at e).1, counted-short named s p h))

    module _ (n : ℕ) (h : p + 2 ≤ length s) (i : n ≡ le_at 2 s p) where
      pub enum_fault : (f : Fault) → stops_by f ≡ way_at (many n named) s (p + 2) → stops f ≡ step_at entries s at
      unfolding enumeration
      enum_fault f k =
          let g = goes_at (stays-many s n (stays-name (keep_in base s) s)) (p + 2) k in
          read_err entries s at f (rw ((reads_at (stays-name (keep_in base s) s) at e).1, counted-as named s p n h i, g))

      -- the values' names follow the name and the count
      pub enum_read : (m : ℕ) → on_to m ≡ way_at (many n named) s (p + 2)
          → item (record { head = record { named = x; value_count = n }; values = record { at = p + 2; count = n } }) m ≡ step_at entries s at
      unfolding enumeration
      enum_read m k =
          let r = reads_at (stays-name (keep_in base s) s) at e in
          let g = goes_at (stays-many s n (stays-name (keep_in base s) s)) (p + 2) k in
          let l = many-length named n (drop (p + 2) s) g.1.0 (drop m s) g.1.1 in
          let b = name-ends base s at x p r in
          let z : x.offset + x.size + 2 - base ≡ p + 2 = omega arith in
          read_ok entries s at _ m g.0 (rw (r.1, counted-as named s p n h i, g.1.1, l, z))

-- a walk over enumerations is one over their entries
pub entries_way : (base : ℕ) (keep : Keep Place) (s : List ℕ) (n at : ℕ) → way_at (many n (enumeration_entry base keep)) s at ≡ way_at (many n (enumeration keep)) s at
unfolding way_at
entries_way base keep s n at = rw (many-made (entry_of base) (enumeration keep) n (drop at s)) (go (many n (enumeration keep) (drop at s)))
  where
    go : (y : Read (List (Enumeration Place))) → way_given s (next y (λ es. give (map (entry_of base) es))) ≡ way_given s y
    go (fault f) = refl
    go (got es rest) = refl
