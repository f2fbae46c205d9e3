-- Lookups in types and in debug, by what the record says of them; the getters of constants, by what is picked from the constant.
use Rattle.std.proofs.Common.{◌≡◌, ℕ, Bool, true, false, List, length, refl, sym, ap, ◌∙◌}
use Rattle.std.specs.Prelude.{cond, leb}
use Rattle.std.proofs.Math.Option.{Option, none, some}
use Rattle.reading.specs.Fault.{Fault}
use Rattle.reading.specs.Answer.{Got, refused, found, ◌>>=◌, ◌>>◌, need}
use Rattle.format.specs.Faults.{too_long, no_array, no_debug}
use Rattle.format.specs.Parts.{limit, Place, by_place}
use Rattle.format.specs.Types.{TypeTables, type_tables}
use Rattle.format.specs.Debug.{Tables}
use Rattle.format.specs.Record.{TypeCounts, DebugCounts, Container}
use Rattle.format.specs.Constants.{as_string}
use Rattle.format.specs.Lookups.{read_at, types_by, types_in, debug_by, debug_in, constant_of, string_of}
use Rattle.format.proofs.Answers.{assoc, never, same-found}
use Rattle.constant_pool.specs.Lookups.{pool_at, string_at}
use Rattle.debug_section.specs.Lookups.{debug_tables_at, starts_at}
use Rattle.debug_tables.specs.SixTags.{DebugTables}
use Rattle.record.specs.Absence.{absent_fault, place_by, types_place, debug_place}
use Rattle.record.specs.Starts.{debug_starts_by, debug_starts_in}

refusing : {A B : Type 0} (out : Fault) (go : B → Got A) (short : Bool) → refused (cond short out too_long) ≡ ((need short too_long >> refused out) >>= go)
refusing out go true = refl
refusing out go false = refl

-- a lookup in types, by the place of the section
module _ {A : Type 0} (f : List ℕ) (r : Container) (go : TypeTables → Got A) where
  pub types_err : (e : Fault) → refused e ≡ types_place f r → refused e ≡ (types_in f r >>= go)
  types_err e h = at r.types h
    where
      at : (t : Option TypeCounts) → refused e ≡ place_by no_array f r.header.directory.types t → refused e ≡ (types_by f r.header.directory.types t >>= go)
      at none h = let z : e ≡ absent_fault no_array f = cc in ap refused z ∙ refusing no_array go (leb (length f) limit)
      at (some c) h = never h

  pub types_ok : (p : Place) (y : Got A) → found p ≡ types_place f r → y ≡ (read_at f p type_tables >>= go) → y ≡ (types_in f r >>= go)
  types_ok p y h k = at r.types h
    where
      at : (t : Option TypeCounts) → found p ≡ place_by no_array f r.header.directory.types t → y ≡ (types_by f r.header.directory.types t >>= go)
      at none h = never (sym h)
      at (some c) h = k ∙ ap (λ (q : Place). read_at f q type_tables >>= go) (same-found h)

-- a lookup in debug
module _ {A : Type 0} (f : List ℕ) (r : Container) (go : Tables Place → Got A) where
  pub debug_err : (e : Fault) → refused e ≡ debug_place f r → refused e ≡ (debug_in by_place f r >>= go)
  unfolding debug_in
  debug_err e h = at r.debug h
    where
      at : (t : Option DebugCounts) → refused e ≡ place_by no_debug f r.header.directory.debug t → refused e ≡ (debug_by (by_place r.header.directory.debug) f r.header.directory.debug t >>= go)
      at none h = let z : e ≡ absent_fault no_debug f = cc in ap refused z ∙ refusing no_debug go (leb (length f) limit)
      at (some c) h = never h

  pub debug_ok : (p : Place) (y : Got A) → found p ≡ debug_place f r → y ≡ (debug_tables_at f p >>= go) → y ≡ (debug_in by_place f r >>= go)
  unfolding debug_in
  debug_ok p y h k = at r.debug h
    where
      at : (t : Option DebugCounts) → found p ≡ place_by no_debug f r.header.directory.debug t → y ≡ (debug_by (by_place r.header.directory.debug) f r.header.directory.debug t >>= go)
      at none h = never (sym h)
      at (some c) h = k ∙ ap (λ (q : Place). debug_tables_at f q >>= go) (same-found h)

-- the place of the debug section is the directory's
pub debug_is : (f : List ℕ) (r : Container) (p : Place) → found p ≡ debug_place f r → p ≡ r.header.directory.debug
debug_is f r p h = at r.debug h
  where
    at : (t : Option DebugCounts) → found p ≡ place_by no_debug f r.header.directory.debug t → p ≡ r.header.directory.debug
    at none h = never (sym h)
    at (some c) h = same-found h

-- the starts of the debug tables
module _ (f : List ℕ) (r : Container) where
  pub starts_err : (e : Fault) → refused e ≡ debug_place f r → refused e ≡ debug_starts_in f r
  starts_err e h = at r.debug h
    where
      short : (b : Bool) → ◌≡◌ {A = Got DebugTables} (refused (cond b no_debug too_long)) (need b too_long >> refused no_debug)
      short true = refl
      short false = refl

      at : (t : Option DebugCounts) → refused e ≡ place_by no_debug f r.header.directory.debug t → refused e ≡ debug_starts_by f r.header.directory.debug t
      at none h = let z : e ≡ absent_fault no_debug f = cc in ap refused z ∙ short (leb (length f) limit)
      at (some c) h = never h

  pub starts_ok : (p : Place) (y : Got DebugTables) → found p ≡ debug_place f r → y ≡ starts_at f p → y ≡ debug_starts_in f r
  starts_ok p y h k = at r.debug h
    where
      at : (t : Option DebugCounts) → found p ≡ place_by no_debug f r.header.directory.debug t → y ≡ debug_starts_by f r.header.directory.debug t
      at none h = never (sym h)
      at (some c) h = k ∙ ap (starts_at f) (same-found h)

-- a getter picks from the constant at an index; the lookup goes through the section's constants
module _ (f : List ℕ) (p : Place) (i : ℕ) where
  pub string_picked : string_at f p i ≡ (pool_at f p >>= string_of i)
  string_picked = assoc (pool_at f p) (constant_of i) as_string
