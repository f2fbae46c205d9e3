-- An entry is refused exactly if its index is not below the count.
use Prim.Native.Nat.{ℕ, zero, suc, ◌+◌, ◌<◌, ◌≤◌}
use mathlib.Core.Path.{◌≡◌, refl, sym}
use mathlib.Core.Bool.{Bool, true, false, cond}
use mathlib.Core.List.{List, [], ◌∷◌}
use native.Mathlib.Omega.{arith}
use lib.Dec.{leb}
use lib.ListN.{length}
use borrow.Author.Tests.{leb-false, lt-leb}
use Rattle.reading.specs.Fault.{Fault}
use Rattle.reading.specs.Answer.{Got, refused, found, ◌>>=◌, indexed}
use Rattle.format.specs.Faults.{invalid_constant_index, no_function, no_array, no_entry}
use Rattle.format.specs.Parts.{Place, Keep}
use Rattle.format.specs.Code.{Function, bytecode_of}
use Rattle.format.specs.Lookups.{fb_type_head_of}
use Rattle.format.proofs.Answers.{never}
use Rattle.format.specs.Indexing.{Exactly, always, Indexing}

module _ {A : Type 0} (out : Fault) where
  refuses : (xs : List A) (i : ℕ) → length xs ≤ i → indexed out xs i ≡ refused out
  refuses [] i h = refl
  refuses (a ∷ xs) zero h = absurd (omega arith)
  refuses (a ∷ xs) (suc i) h = refuses xs i (omega arith)

  only : (xs : List A) (i : ℕ) (f : Fault) → indexed out xs i ≡ refused f → length xs ≤ i
  only [] i f e = omega arith
  only (a ∷ xs) zero f e = never (sym e)
  only (a ∷ xs) (suc i) f e = let l = only xs i f e in omega arith

-- a table, with its refusal at each index
exactly : {A : Type 0} (out : ℕ → Fault) (xs : List A) → Exactly out (length xs) (λ i. indexed (out i) xs i)
exactly out xs = record { refuses = λ i. refuses (out i) xs i; only = λ i. only (out i) xs i }

-- the entry made into another answer
made : {A B : Type 0} (g : A → B) (x : Got A) (f : Fault) → (x >>= λ a. found (g a)) ≡ refused f → (e : Fault) × (x ≡ refused e)
made g (refused e) f h = (e, refl)
made g (found a) f h = never (sym h)

exactly-made : {A B : Type 0} (g : A → B) (out : ℕ → Fault) (xs : List A) → Exactly out (length xs) (λ i. indexed (out i) xs i >>= λ a. found (g a))
exactly-made g out xs =
    record {
      refuses = λ i l. rw (refuses (out i) xs i l);
      only = λ i f h. let m = made g (indexed (out i) xs i) f h in only (out i) xs i m.0 m.1;
    }

-- the entries of an entry that exists
exactly-within : {A B : Type 0} (out : Fault) (x : Got A) (a : A) (inner : A → List B) → x ≡ found a → Exactly (always out) (length (inner a)) (λ j. x >>= λ b. indexed out (inner b) j)
exactly-within out x a inner e = rw e (exactly (always out) (inner a))

-- a range of the bytecode
module _ (keep : Keep Place) (b : List ℕ) (f : Function) where
  outside : length b < f.offset + f.size → bytecode_of keep b f ≡ refused no_function
  outside h = rw (lt-leb (f.offset + f.size) (length b) h)

  is-outside : (e : Fault) → bytecode_of keep b f ≡ refused e → length b < f.offset + f.size
  is-outside e h = go (leb (f.offset + f.size) (length b)) _ refl h
    where
      go : (z : Bool) (p : Place) → leb (f.offset + f.size) (length b) ≡ z → cond z (found p) (refused no_function) ≡ refused e → length b < f.offset + f.size
      go true p k h = never (sym h)
      go false p k h = leb-false (f.offset + f.size) (length b) k

pub indexing : Indexing
indexing =
    record {
      task = λ t. exactly (always no_entry) t.tasks;
      program = λ t. exactly (always no_entry) t.programs;
      fb-type = λ t. exactly-made fb_type_head_of (always no_entry) t.fb_types;
      field = λ t i b e. exactly-within no_entry (indexed no_entry t.fb_types i) b (λ x. x.fields) e;
      no_field = λ t i j l. rw (refuses no_entry t.fb_types i l);
      array = λ t. exactly (always no_array) t.arrays;
      array-size = λ t i. (λ l. rw (refuses no_array t.arrays i l), λ a e. rw e);
      user-fb = λ t. exactly (always no_entry) t.user_fbs;
      constant = λ cs. exactly invalid_constant_index cs;
      function = λ c. exactly (always no_function) c.functions;
      bytecode = λ keep c i f e. rw e (outside keep c.bytecode f, is-outside keep c.bytecode f);
      no-bytecode = λ keep c i l. rw (refuses no_function c.functions i l);
      line = λ t. exactly (always no_entry) t.lines;
      variable = λ t. exactly (always no_entry) t.variables;
      function-name = λ t. exactly (always no_entry) t.functions;
      string-layout = λ t. exactly (always no_entry) t.strings;
      source-file = λ t. exactly (always no_entry) t.files;
      enumeration = λ t. exactly-made (λ e. record { named = e.named; value_count = length e.values }) (always no_entry) t.enumerations;
      value = λ t i e h. exactly-within no_entry (indexed no_entry t.enumerations i) e (λ x. x.values) h;
      no-value = λ t i j l. rw (refuses no_entry t.enumerations i l);
    }
