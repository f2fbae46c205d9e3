-- The bytes at the answered places are the strings, bytecode, names and paths themselves, over any file and record.
use mathlib.Core.Path.{◌≡◌, refl, sym, ap, ◌∙◌}
use mathlib.Core.Bool.{Bool, true, false, cond}
use mathlib.Core.List.{List, [], ◌∷◌, map}
use mathlib.Core.Option.{Option, none, some}
use Prim.Native.Nat.{ℕ, zero, suc, ◌+◌, ◌-◌, ◌≤◌}
use native.Mathlib.Omega.{arith}
use lib.Dec.{leb}
use lib.ListN.{length, take, drop, length-drop}
use lib.Seq.{drop-drop}
use borrow.Author.Tests.{leb-true}
use Rattle.reading.specs.Fault.{Fault}
use Rattle.reading.specs.Reader.{Read, fault, got, Reader, many}
use Rattle.reading.specs.Answer.{Got, refused, found, ◌>>=◌, ◌>>◌, need, indexed, item_of}
use Rattle.reading.proofs.Parts.{length_part, part-of-part}
use Rattle.reading.proofs.Reading.{both}
use Rattle.reading.proofs.Left.{LeftOf, left-all, left-taken}
use Rattle.reading.proofs.Local.{local-many}
use Rattle.format.specs.Faults.{too_long, section_size_mismatch, invalid_constant_index, no_function, no_debug, no_entry}
use Rattle.format.specs.Parts.{limit, part, Place, cut, is_inside, Keep, by_bytes, by_place}
use Rattle.format.specs.Tasks.{TaskTable}
use Rattle.format.specs.Types.{TypeTables}
use Rattle.format.specs.Constants.{Kept, number, string, Constant, on_kept, on_constant, constants, number_in, string_in, as_number, signed, as_string, char_width}
use Rattle.format.specs.Code.{Function, function, Code, code_of, bytecode_of}
use Rattle.format.specs.Debug.{Enumeration, Tables, on_variable, on_function_name, on_source_file, debug_tables}
use Rattle.format.specs.Lines.{line_for}
use Rattle.format.specs.Integrity.{section_in}
use Rattle.format.specs.Load.{read_in}
use Rattle.format.specs.Record.{DebugCounts, Container}
use Rattle.format.specs.Lookups.{read_at, or_no_debug, debug_at, debug_by, debug_in, constants_in, code_in, constant_of, number_of, string_of, char_width_of, function_of, function_bytes_of}
use Rattle.format.specs.Lookups.{tasks_in, types_in, task_of, program_of, fb_type_of, field_of, array_of, array_size_of, user_fb_of}
use Rattle.format.specs.Lookups.{EnumerationHead, run_answers_of, debug_answers_of, run_by_bytes, debug_by_bytes}
use Rattle.format.specs.OwnRecord.{PlacesHold}
use Rattle.format.proofs.Answers.{never, same-found, assoc, renamed}
use Rattle.format.proofs.Places.{length_cut}
use Rattle.format.proofs.Readers.{local-function}
use Rattle.format.proofs.Keeping.{Alike, stops, gives, Same, on_enumeration, on_tables, same-constants, same-debug}

-- a part of a section that is inside, by its place in the file
module _ (f : List ℕ) (p : Place) (h : is_inside f p ≡ true) where
  placed : (k n : ℕ) → k + n ≤ length (cut f p) → take n (drop k (cut f p)) ≡ cut f (by_place p (take n (drop k (cut f p))) (length (cut f p) - k - n))
  placed k n i =
      let l = length_cut f p h in
      let m = length_part (cut f p) k n i in
      let o : p.offset + p.size - (length (cut f p) - k - n) - n ≡ p.offset + k = omega arith in
      part-of-part f p.offset p.size k n (omega arith) ∙ sym (rw (m, o))

-- Answers

item_on : {A B : Type 0} {whole : List ℕ} (m : B → A) {x : Read A} {y : Read B} → Alike whole m x y → item_of x ≡ (item_of y >>= λ b. found (m b))
item_on m (stops f) = refl
item_on m (gives b t w) = refl

pub indexed-map : {A B : Type 0} (m : B → A) (out : Fault) (xs : List B) (i : ℕ) → indexed out (map m xs) i ≡ (indexed out xs i >>= λ x. found (m x))
indexed-map m out [] i = refl
indexed-map m out (x ∷ xs) zero = refl
indexed-map m out (x ∷ xs) (suc i) = indexed-map m out xs i

map-length : {A B : Type 0} (m : B → A) (xs : List B) → length (map m xs) ≡ length xs
map-length m [] = refl
map-length m (x ∷ xs) = ap suc (map-length m xs)

-- a section read either way
read-on : {A B : Type 0} (f : List ℕ) (p : Place) (m : B → A) (r : Reader A) (q : Reader B) → (is_inside f p ≡ true → Same (cut f p) m r q)
    → read_in f p r ≡ (read_in f p q >>= λ b. found (m b))
unfolding read_in section_in
read-on {A} {B} f p m r q h = go (is_inside f p) refl
  where
    go : (z : Bool) → is_inside f p ≡ z → read_in f p r ≡ (read_in f p q >>= λ b. found (m b))
    go true e = rw e (item_on m (h e (cut f p) (left-all (cut f p))))
    go false e = rw e

read-at-on : {A B : Type 0} (f : List ℕ) (p : Place) (m : B → A) (r : Reader A) (q : Reader B) → (is_inside f p ≡ true → Same (cut f p) m r q)
    → read_at f p r ≡ (read_at f p q >>= λ b. found (m b))
unfolding read_at
read-at-on f p m r q h = go (leb (length f) limit)
  where
    go : (z : Bool) → (need z too_long >>= λ u. read_in f p r) ≡ ((need z too_long >>= λ u. read_in f p q) >>= λ b. found (m b))
    go true = read-on f p m r q h
    go false = refl

pub constants-at : (f : List ℕ) (p : Place) → read_at f p (constants by_bytes) ≡ (read_at f p (constants (by_place p)) >>= λ cs. found (map (on_constant (cut f)) cs))
constants-at f p =
    read-at-on f p (map (on_constant (cut f))) (constants by_bytes) (constants (by_place p)) (λ h. same-constants (cut f p) by_bytes (by_place p) (cut f) (placed f p h))

pub debug-on : (f : List ℕ) (r : Container) → debug_in (λ p. by_bytes) f r ≡ (debug_in by_place f r >>= λ t. found (on_tables (cut f) t))
unfolding debug_in debug_at
debug-on f r = go r.debug
  where
    p : Place
    p = r.header.directory.debug

    through : (x : Got (Tables (List ℕ))) (y : Got (Tables Place)) → x ≡ (y >>= λ t. found (on_tables (cut f) t)) → or_no_debug x ≡ (or_no_debug y >>= λ t. found (on_tables (cut f) t))
    through x (refused e) q = rw q
    through x (found t) q = rw q

    at : (z : Bool) → (need z too_long >>= λ u. or_no_debug (read_in f p (debug_tables by_bytes)))
        ≡ ((need z too_long >>= λ u. or_no_debug (read_in f p (debug_tables (by_place p)))) >>= λ t. found (on_tables (cut f) t))
    at true =
        through (read_in f p (debug_tables by_bytes)) (read_in f p (debug_tables (by_place p)))
        (read-on f p (on_tables (cut f)) (debug_tables by_bytes) (debug_tables (by_place p)) (λ h. same-debug (cut f p) by_bytes (by_place p) (cut f) (placed f p h)))
    at false = refl

    none-on : (z : Bool) → (need z too_long >> refused no_debug) ≡ ((need z too_long >> refused no_debug) >>= λ t. found (on_tables (cut f) t))
    none-on true = refl
    none-on false = refl

    go : (d : Option DebugCounts) → debug_by by_bytes f p d ≡ (debug_by (by_place p) f p d >>= λ t. found (on_tables (cut f) t))
    go none = none-on (leb (length f) limit)
    go (some c) = at (leb (length f) limit)

-- Lookups in the constants

module _ {T U : Type 0} (h : U → T) where
  constant-then : {C : Type 0} (g : Constant T → Got C) (k : Constant U → Got C) → ((c : Constant U) → g (on_constant h c) ≡ k c)
      → (i : ℕ) (cs : List (Constant U)) → (constant_of i (map (on_constant h) cs) >>= g) ≡ (constant_of i cs >>= k)
  constant-then g k e i cs = rw (indexed-map (on_constant h) (invalid_constant_index i) cs i) (renamed (on_constant h) g k e (constant_of i cs))

  number-kept : (kind width stored : ℕ) (k : Kept U) → number_in kind width stored (on_kept h k) ≡ number_in kind width stored k
  number-kept kind width stored (number b) = refl
  number-kept kind width stored (string t) = refl

  string-kept : (stored : ℕ) (k : Kept U) → string_in stored (on_kept h k) ≡ (string_in stored k >>= λ t. found (h t))
  string-kept stored (number b) = refl
  string-kept stored (string t) = refl

  module _ (i : ℕ) (x : Got (List (Constant U))) where
    number-on : (kind width : ℕ) → ((x >>= λ cs. found (map (on_constant h) cs)) >>= number_of kind width i) ≡ (x >>= number_of kind width i)
    number-on kind width =
        renamed (map (on_constant h)) (number_of kind width i) (number_of kind width i)
        (constant-then (as_number kind width) (as_number kind width) (λ c. number-kept kind width c.kind c.kept) i) x

    char-width-on : ((x >>= λ cs. found (map (on_constant h) cs)) >>= char_width_of i) ≡ (x >>= char_width_of i)
    char-width-on = renamed (map (on_constant h)) (char_width_of i) (char_width_of i) (constant-then char_width char_width (λ c. refl) i) x

    string-on : ((x >>= λ cs. found (map (on_constant h) cs)) >>= string_of i) ≡ ((x >>= string_of i) >>= λ t. found (h t))
    string-on =
        renamed (map (on_constant h)) (string_of i) (λ cs. string_of i cs >>= λ t. found (h t))
        (λ cs.
        constant-then as_string (λ c. as_string c >>= λ t. found (h t)) (λ c. string-kept c.kind c.kept) i cs
        ∙ sym (assoc (constant_of i cs) as_string (λ t. found (h t))))
        x
        ∙ sym (assoc x (string_of i) (λ t. found (h t)))

    constant-on : ((x >>= λ cs. found (map (on_constant h) cs)) >>= constant_of i) ≡ ((x >>= constant_of i) >>= λ c. found (on_constant h c))
    constant-on =
        renamed (map (on_constant h)) (constant_of i) (λ cs. constant_of i cs >>= λ c. found (on_constant h c)) (λ cs. indexed-map (on_constant h) (invalid_constant_index i) cs i) x
        ∙ sym (assoc x (constant_of i) (λ c. found (on_constant h c)))

-- Lookups in the debug tables

module _ {T U : Type 0} (h : U → T) (x : Got (Tables U)) where
  entry-on : {A B : Type 0} (m : B → A) (of : Tables T → List A) (from : Tables U → List B) → ((t : Tables U) → of (on_tables h t) ≡ map m (from t))
      → (i : ℕ) → ((x >>= λ t. found (on_tables h t)) >>= λ t. indexed no_entry (of t) i) ≡ ((x >>= λ t. indexed no_entry (from t) i) >>= λ e. found (m e))
  entry-on m of from e i =
      renamed (on_tables h) (λ t. indexed no_entry (of t) i) (λ t. indexed no_entry (from t) i >>= λ y. found (m y))
      (λ t. ap (λ l. indexed no_entry l i) (e t) ∙ indexed-map m no_entry (from t) i) x
      ∙ sym (assoc x (λ t. indexed no_entry (from t) i) (λ y. found (m y)))

  plain-on : {A : Type 0} (g : Tables T → Got A) (k : Tables U → Got A) → ((t : Tables U) → g (on_tables h t) ≡ k t) → ((x >>= λ t. found (on_tables h t)) >>= g) ≡ (x >>= k)
  plain-on g k e = renamed (on_tables h) g k e x

  -- an enumeration, and what is asked of it
  enumeration-then : {A B : Type 0} (m : B → A) (g : Enumeration T → Got A) (k : Enumeration U → Got B) → ((e : Enumeration U) → g (on_enumeration h e) ≡ (k e >>= λ y. found (m y)))
      → (i : ℕ) → ((x >>= λ t. found (on_tables h t)) >>= λ t. indexed no_entry t.enumerations i >>= g)
      ≡ ((x >>= λ t. indexed no_entry t.enumerations i >>= k) >>= λ y. found (m y))
  enumeration-then m g k e i =
      renamed (on_tables h) (λ t. indexed no_entry t.enumerations i >>= g) (λ t. (indexed no_entry t.enumerations i >>= k) >>= λ y. found (m y))
      (λ t.
      ap (λ y. y >>= g) (indexed-map (on_enumeration h) no_entry t.enumerations i)
      ∙ renamed (on_enumeration h) g (λ e. k e >>= λ y. found (m y)) e (indexed no_entry t.enumerations i)
      ∙ sym (assoc (indexed no_entry t.enumerations i) k (λ y. found (m y))))
      x
      ∙ sym (assoc x (λ t. indexed no_entry t.enumerations i >>= k) (λ y. found (m y)))

debug-answers : (f : List ℕ) (x : Got (Tables Place)) → debug_by_bytes f (debug_answers_of x) ≡ debug_answers_of (x >>= λ t. found (on_tables (cut f) t))
debug-answers f x = λ j.
    record {
      source_line = λ function offset. sym (plain-on (cut f) x (λ t. line_for function offset t.lines) (λ t. line_for function offset t.lines) (λ t. refl)) j;
      line = λ i. sym (plain-on (cut f) x (λ t. indexed no_entry t.lines i) (λ t. indexed no_entry t.lines i) (λ t. refl)) j;
      variable = λ i. sym (entry-on (cut f) x (on_variable (cut f)) (λ t. t.variables) (λ t. t.variables) (λ t. refl) i) j;
      function_name = λ i. sym (entry-on (cut f) x (on_function_name (cut f)) (λ t. t.functions) (λ t. t.functions) (λ t. refl) i) j;
      string_layout = λ i. sym (plain-on (cut f) x (λ t. indexed no_entry t.strings i) (λ t. indexed no_entry t.strings i) (λ t. refl)) j;
      source_file = λ i. sym (entry-on (cut f) x (on_source_file (cut f)) (λ t. t.files) (λ t. t.files) (λ t. refl) i) j;
      enumeration = λ i.
          sym
          (enumeration-then (cut f) x (λ (e : EnumerationHead Place). record { named = cut f e.named; value_count = e.value_count })
          (λ e. found (record { named = e.named; value_count = length e.values }))
          (λ e. found (record { named = e.named; value_count = length e.values }))
          (λ e. ap (λ n. found (record { named = cut f e.named; value_count = n })) (map-length (cut f) e.values)) i)
          j;
      enumeration_value = λ i k.
          sym (enumeration-then (cut f) x (cut f) (λ e. indexed no_entry e.values k) (λ e. indexed no_entry e.values k) (λ e. indexed-map (cut f) no_entry e.values k) i) j;
    }

-- Bytecode

code-left : (n : ℕ) (s : List ℕ) (c : Code) (t : List ℕ) → code_of n s ≡ got c t → LeftOf s c.bytecode
unfolding code_of
code-left n s c t e =
    let k = both (many n function s) e in
    let w = left-taken s s k.item k.middle (left-all s) ((local-many n local-function).taken s k.item k.middle k.first) in
    let z : k.middle ≡ c.bytecode = cc k.second in
    rw z at w

read_left : (f : List ℕ) (p : Place) (n : ℕ) (c : Code) → read_at f p (code_of n) ≡ found c → (is_inside f p ≡ true) × LeftOf (cut f p) c.bytecode
unfolding read_at read_in section_in
read_left f p n c e = go (leb (length f) limit) (is_inside f p) refl e
  where
    item : (x : Read Code) → code_of n (cut f p) ≡ x → item_of x ≡ found c → LeftOf (cut f p) c.bytecode
    item (fault r) d e = never e
    item (got a t) d e = let z : a ≡ c = same-found e in rw z at (code-left n (cut f p) a t d)

    go : (y z : Bool) → is_inside f p ≡ z → (need y too_long >>= λ u. (need z section_size_mismatch >>= λ v. found (cut f p)) >>= λ s. item_of (code_of n s)) ≡ found c
        → (is_inside f p ≡ true) × LeftOf (cut f p) c.bytecode
    go true true i e = (i, item (code_of n (cut f p)) refl e)
    go true false i e = never e
    go false z i e = never e

-- a function's bytecode, by its place
bytecode-on : (f : List ℕ) (p : Place) → is_inside f p ≡ true → (b : List ℕ) → LeftOf (cut f p) b → (n : Function)
    → (bytecode_of (by_place p) b n >>= λ q. found (cut f q)) ≡ bytecode_of by_bytes b n
bytecode-on f p h b w n = go (leb (n.offset + n.size) (length b)) refl
  where
    k : ℕ
    k = w.behind

    l : length b ≡ length (cut f p) - k
    l = ap length w.is ∙ length-drop k (cut f p)

    e : part n.offset n.size b ≡ take n.size (drop (k + n.offset) (cut f p))
    e = ap (λ (s : List ℕ). take n.size (drop n.offset s)) w.is ∙ ap (take n.size) (drop-drop n.offset k (cut f p))

    m : n.offset + n.size ≤ length b → cut f (by_place p (part n.offset n.size b) (length b - (n.offset + n.size))) ≡ part n.offset n.size b
    m i =
        let j = w.most in
        let d : length b - (n.offset + n.size) ≡ length (cut f p) - (k + n.offset) - n.size = omega (arith, l) in
        rw (d, e) (sym (placed f p h (k + n.offset) n.size (omega (arith, l))))

    go : (z : Bool) → leb (n.offset + n.size) (length b) ≡ z
        → ((cond z (found (by_place p (part n.offset n.size b) (length b - (n.offset + n.size)))) (refused no_function)) >>= λ q. found (cut f q))
        ≡ cond z (found (part n.offset n.size b)) (refused no_function)
    go true i = ap found (m (leb-true (n.offset + n.size) (length b) i))
    go false i = refl

code-on : (f : List ℕ) (p : Place) (n i : ℕ) → ((read_at f p (code_of n) >>= function_bytes_of (by_place p) i) >>= λ q. found (cut f q)) ≡ (read_at f p (code_of n) >>= function_bytes_of by_bytes i)
code-on f p n i = go (read_at f p (code_of n)) refl
  where
    function-on : (c : Code) → (is_inside f p ≡ true) × LeftOf (cut f p) c.bytecode → (x : Got Function)
        → ((x >>= bytecode_of (by_place p) c.bytecode) >>= λ q. found (cut f q)) ≡ (x >>= bytecode_of by_bytes c.bytecode)
    function-on c k (refused r) = refl
    function-on c k (found g) = bytecode-on f p k.0 c.bytecode k.1 g

    go : (x : Got Code) → read_at f p (code_of n) ≡ x → ((x >>= function_bytes_of (by_place p) i) >>= λ q. found (cut f q)) ≡ (x >>= function_bytes_of by_bytes i)
    go (refused r) e = refl
    go (found c) e = function-on c (read_left f p n c e) (function_of i c)

-- All lookups of what the machine runs

run-answers : (f : List ℕ) (keep : Keep Place) (ts : Got TaskTable) (ys : Got TypeTables) (x : Got (List (Constant Place))) (c : Got Code)
    → ((i : ℕ) → ((c >>= function_bytes_of keep i) >>= λ q. found (cut f q)) ≡ (c >>= function_bytes_of by_bytes i))
    → run_by_bytes f (run_answers_of keep ts ys x c) ≡ run_answers_of by_bytes ts ys (x >>= λ cs. found (map (on_constant (cut f)) cs)) c
run-answers f keep ts ys x c e = λ j.
    record {
      task = λ i. ts >>= task_of i;
      program = λ i. ts >>= program_of i;
      fb_type = λ i. ys >>= fb_type_of i;
      field = λ i k. ys >>= field_of i k;
      array = λ i. ys >>= array_of i;
      array_size = λ i. ys >>= array_size_of i;
      user_fb = λ i. ys >>= user_fb_of i;
      constant = λ i. sym (constant-on (cut f) i x) j;
      i32 = λ i. sym (number-on (cut f) i x 0 4) j >>= λ n. found (signed 2147483648 n);
      u32 = λ i. sym (number-on (cut f) i x 1 4) j;
      i64 = λ i. sym (number-on (cut f) i x 2 8) j >>= λ n. found (signed 9223372036854775808 n);
      u64 = λ i. sym (number-on (cut f) i x 3 8) j;
      f32 = λ i. sym (number-on (cut f) i x 4 4) j;
      f64 = λ i. sym (number-on (cut f) i x 5 8) j;
      string = λ i. sym (string-on (cut f) i x) j;
      char_width = λ i. sym (char-width-on (cut f) i x) j;
      function = λ i. c >>= function_of i;
      bytecode = λ i. e i j;
    }

pub places-hold : (f : List ℕ) (r : Container) → PlacesHold f r
places-hold f r =
    let p = r.header.directory.code in
    record {
      run = run-answers f (by_place p) (tasks_in f r) (types_in f r) (constants_in by_place f r) (code_in f r) (code-on f p r.header.runtime.functions)
          ∙ rw (constants-at f r.header.directory.constants);
      debug = debug-answers f (debug_in by_place f r) ∙ rw (debug-on f r);
    }
