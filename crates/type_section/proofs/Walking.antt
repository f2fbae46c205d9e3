-- The claims: a walk over a table, step by step, gives the table.
use mathlib.Core.Path.{◌≡◌, refl, sym, ap, ◌∙◌}
use mathlib.Core.List.{List, []}
use Prim.Native.Nat.{ℕ, zero, suc, ◌-◌, ◌≤◌}
use native.Mathlib.Omega.{arith}
use lib.ListN.{length, drop}
use borrow.Author.Tests.{eq-eqb, ne_eqb}
use Rattle.reading.specs.Reader.{got, many}
use Rattle.reading.specs.Answer.{found}
use Rattle.reading.specs.Places.{Next, step_of, GivesFrom}
use Rattle.reading.specs.declared.Table.{Table}
use Rattle.reading.proofs.Tables.{cons}
use Rattle.reading.proofs.Left.{left_at, left-again, stays-local, walk-gives}
use Rattle.reading.proofs.Driven.{steps-give}
use Rattle.format.specs.Parts.{Place, cut}
use Rattle.format.specs.Types.{Field, field, FbType, fb_type, array, user_fb, TypeTables, type_tables}
use Rattle.format.specs.Lookups.{read_at}
use Rattle.base.proofs.FileWalks.{opened, step-opened, walk-gives-from}
use Rattle.type_entries.specs.Starts.{fb_types_start, arrays_start, user_fbs_start, fields_start, type_starts_of}
use Rattle.type_entries.proofs.Standing.{Standing, standing}
use Rattle.type_section.specs.Lookups.{FbTypeEntry, arrays_at, user_fbs_at, with_fields, fb_type_step_of, next_fb_type_at, next_field_at, next_array_at, next_user_fb_at}
use Rattle.type_section.specs.Laws.{fb_types_driven, FbTypesFrom, Laws}
use Rattle.type_section.proofs.Finding.{heads_way, fields-hold}
use Rattle.format.proofs.Readers.{local-field, local-fb-type, local-array, local-user-fb}

-- FB types that read, by steps that are those over the section's bytes: the step over each, and the walk over its fields
module _ (s : List ℕ) (next : Table → Next FbTypeEntry) (fields : Table → Next Field) (same : (u : Table) → next u ≡ fb_type_step_of s u) (alike : (u : Table) → fields u ≡ step_of field s u) where
  fb-types-walk : (k n : ℕ) (t : Table) (bs : List FbType) (rest : List ℕ) → t.count ≡ k → k ≤ n → many k fb_type (drop t.at s) ≡ got bs rest → fb_types_driven next fields n t ≡ found bs
  unfolding step_of
  fb-types-walk zero zero t bs rest c l e = let z : [] ≡ bs = cc in ap found z
  fb-types-walk zero (suc n) t bs rest c l e = let z : [] ≡ bs = cc in rw (same t, eq-eqb t.count 0 c) (ap found z)
  fb-types-walk (suc k) zero t bs rest c l e = absurd (omega arith)
  fb-types-walk (suc k) (suc n) t bs rest c l e =
      let p = cons fb_type k (drop t.at s) bs rest e in
      let w = left-again s p.middle ((stays-local s local-fb-type).leaves (drop t.at s) p.first p.middle (left_at s t.at) p.reads) in
      let g = fb-types-walk k n (record { at = length s - length p.middle; count = t.count - 1 }) p.others rest (omega arith) (omega arith) (ap (many k fb_type) w ∙ p.reads-others) in
      let h = fields-hold s t.at p.first p.middle p.reads in
      let f = steps-give s field (stays-local s local-field) fields alike (fields_start t.at p.first) p.first.fields _ h (length p.first.fields) (omega arith) in
      rw (same t, ne_eqb t.count 0 (λ z. omega arith), p.reads, f, g) (ap found (sym p.all))

-- in a file
module _ (f : List ℕ) (p : Place) (t : TypeTables) (e : read_at f p type_tables ≡ found t) where
  stand : Standing (cut f p) t (type_starts_of t)
  stand = standing (cut f p) t (opened f p type_tables t e).reads

  fb-types-in : FbTypesFrom f p t.fb_types
  fb-types-in =
      record {
        first = fb_types_start t;
        starts = rw e;
        gives = λ n l.
            fb-types-walk (cut f p) (next_fb_type_at f p) (next_field_at f p) (λ u. ap (with_fields u) (step-opened f p type_tables t e fb_type u)) (step-opened f p type_tables t e field)
            (length t.fb_types) n (fb_types_start t) t.fb_types _ refl l stand.fb_types.reads;
      }

  arrays-in : GivesFrom (arrays_at f p) (next_array_at f p) t.arrays
  arrays-in = walk-gives-from f p type_tables t e array (stays-local (cut f p) local-array) arrays_start t.arrays _ stand.arrays.reads

  user-fbs-in : GivesFrom (user_fbs_at f p) (next_user_fb_at f p) t.user_fbs
  user-fbs-in = walk-gives-from f p type_tables t e user_fb (stays-local (cut f p) local-user-fb) user_fbs_start t.user_fbs _ stand.user_fbs

pub laws : Laws
laws =
    record {
      fb_types = λ s t h. fb-types-walk s (fb_type_step_of s) (step_of field s) (λ u. refl) (λ u. refl) (length t.fb_types) (length t.fb_types) (fb_types_start t) t.fb_types _ refl (omega arith) (standing s t h).fb_types.reads;
      arrays = λ s t h. walk-gives s array (stays-local s local-array) (arrays_start t) t.arrays _ (standing s t h).arrays.reads;
      user_fbs = λ s t h. walk-gives s user_fb (stays-local s local-user-fb) (user_fbs_start t) t.user_fbs _ (standing s t h).user_fbs;
      heads-passed = heads_way;
      fb_types_in = fb-types-in;
      arrays_in = arrays-in;
      user_fbs_in = user-fbs-in;
    }
