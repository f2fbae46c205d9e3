-- A walk over a table of a section that reads, step by step from its start, gives the table; FB types with a walk over the fields of each. Over
-- the section's bytes, and by the steps over a file and the section's place in it.
use Rattle.std.specs.Prelude.{ℕ, zero, suc, ◌≤◌, List, [], ◌∷◌, ◌≡◌, length}
use Rattle.reading.specs.Reader.{many}
use Rattle.reading.specs.Answer.{Got, refused, found, ◌>>=◌, item_of}
use Rattle.reading.specs.Places.{way_at, Next, ends, faulty, entry, step_of, driven, GivesFrom, walked}
use Rattle.reading.specs.declared.Table.{Table}
use Rattle.format.specs.Parts.{Place}
use Rattle.format.specs.Types.{Field, field, FbType, fb_type, array, user_fb, TypeTables, type_tables}
use Rattle.format.specs.Lookups.{read_at}
use Rattle.type_entries.specs.Answers.{fb_type_head}
use Rattle.type_entries.specs.Starts.{fb_types_start, arrays_start, user_fbs_start}
use Rattle.type_section.specs.Lookups.{FbTypeEntry, fb_types_at, arrays_at, user_fbs_at, fb_type_step_of, next_fb_type_at, next_field_at, next_array_at, next_user_fb_at}

-- at most `n` FB types by the steps `next`, each with its fields by the steps `fields`

abbrev pub on_fb_type : (Table → Next Field) → Next FbTypeEntry → (Table → Got (List FbType)) → Got (List FbType)
on_fb_type fields ends go = found []
on_fb_type fields (faulty f) go = refused f
on_fb_type fields (entry b u) go = driven fields b.fields.count b.fields >>= λ fs. go u >>= λ bs. found (record { id = b.head.id; fields = fs } ∷ bs)

abbrev pub fb_types_driven : (Table → Next FbTypeEntry) → (Table → Next Field) → ℕ → Table → Got (List FbType)
fb_types_driven next fields zero t = found []
fb_types_driven next fields (suc n) t = on_fb_type fields (next t) (fb_types_driven next fields n)

abbrev pub fb_types_walked : ℕ → List ℕ → Table → Got (List FbType)
fb_types_walked n s t = fb_types_driven (fb_type_step_of s) (step_of field s) n t

-- from where the walk starts, the steps over a file and the section's place in it give the FB types `bs` with their fields
pub record FbTypesFrom (f : List ℕ) (p : Place) (bs : List FbType) : Type 0 where
  pub first : Table
  pub starts : fb_types_at f p ≡ found first
  pub gives : (n : ℕ) → first.count ≤ n → fb_types_driven (next_fb_type_at f p) (next_field_at f p) n first ≡ found bs

pub record Laws : Type 0 where
  pub fb_types : (s : List ℕ) (t : TypeTables) → item_of (type_tables s) ≡ found t → fb_types_walked (length t.fb_types) s (fb_types_start t) ≡ found t.fb_types
  pub arrays : (s : List ℕ) (t : TypeTables) → item_of (type_tables s) ≡ found t → walked (length t.arrays) array s (arrays_start t) ≡ found t.arrays
  pub user_fbs : (s : List ℕ) (t : TypeTables) → item_of (type_tables s) ≡ found t → walked (length t.user_fbs) user_fb s (user_fbs_start t) ≡ found t.user_fbs
  -- the code's heads of FB types are passed over as the FB types are
  pub heads-passed : (s : List ℕ) (n at : ℕ) → way_at (many n fb_type_head) s at ≡ way_at (many n fb_type) s at
  pub fb_types_in : (f : List ℕ) (p : Place) (t : TypeTables) → read_at f p type_tables ≡ found t → FbTypesFrom f p t.fb_types
  pub arrays_in : (f : List ℕ) (p : Place) (t : TypeTables) → read_at f p type_tables ≡ found t → GivesFrom (arrays_at f p) (next_array_at f p) t.arrays
  pub user_fbs_in : (f : List ℕ) (p : Place) (t : TypeTables) → read_at f p type_tables ≡ found t → GivesFrom (user_fbs_at f p) (next_user_fb_at f p) t.user_fbs
