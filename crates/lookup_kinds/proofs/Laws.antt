-- What a lookup reads of a record.
use Prim.Native.Nat.{ℕ}
use mathlib.Core.List.{List, []}
use mathlib.Core.Option.{Option, none, some}
use mathlib.Core.Path.{◌≡◌, refl, ap}
use lib.ListN.{get_or}
use Rattle.format.specs.Parts.{Place, by_place}
use Rattle.format.specs.Tasks.{task_table}
use Rattle.format.specs.Constants.{constants}
use Rattle.format.specs.Code.{code_of}
use Rattle.format.specs.Record.{TypeCounts, DebugCounts, Container}
use Rattle.format.specs.Lookups.{read_at, types_by, debug_by, debug_in, run_answers_of, debug_answers_of, run_answers, debug_answers}
use Rattle.lookup_kinds.specs.Kinds.{lookups_of, looked_up}
use Rattle.lookup_kinds.specs.Laws.{present, SameForLookups, Laws}

-- of types and debug it counts only whether they are there
types-by : (f : List ℕ) (p : Place) (t u : Option TypeCounts) → present t ≡ present u → types_by f p t ≡ types_by f p u
types-by f p none none e = refl
types-by f p none (some u) e = cc
types-by f p (some t) none e = cc
types-by f p (some t) (some u) e = refl

debug-by : (f : List ℕ) (p : Place) (d e : Option DebugCounts) → present d ≡ present e → debug_by (by_place p) f p d ≡ debug_by (by_place p) f p e
debug-by f p none none h = refl
debug-by f p none (some e) h = cc
debug-by f p (some d) none h = cc
debug-by f p (some d) (some e) h = refl

module _ (f : List ℕ) (r s : Container) (h : SameForLookups r s) where
  types_same : types_by f r.header.directory.types r.types ≡ types_by f s.header.directory.types s.types
  types_same = rw h.types (types-by f s.header.directory.types r.types s.types h.has_types)

  run-same : run_answers f r ≡ run_answers f s
  run-same =
      λ k.
      run_answers_of (by_place (h.code k)) (read_at f (h.tasks k) task_table) (types_same k) (read_at f (h.constants k) (constants (by_place (h.constants k))))
      (read_at f (h.code k) (code_of (h.functions k)))

  tables-same :
      debug_by (by_place r.header.directory.debug) f r.header.directory.debug r.debug ≡ debug_by (by_place s.header.directory.debug) f s.header.directory.debug s.debug
  tables-same = rw h.debug (debug-by f s.header.directory.debug r.debug s.debug h.has_debug)

  debug-same : debug_answers f r ≡ debug_answers f s
  unfolding debug_in
  debug-same = ap debug_answers_of tables-same

  same-lookups : (kind i j : ℕ) → looked_up f r kind i j ≡ looked_up f s kind i j
  unfolding looked_up
  same-lookups kind i j = λ k. get_or (lookups_of (run-same k) (debug-same k) i j) kind []

pub laws : Laws
laws = record { same-lookups = same-lookups }
