-- A file whose header is accepted: what `read_from` answers is its sections, each by its counts.
use mathlib.Core.Path.{◌≡◌, refl, sym, ◌∙◌}
use mathlib.Core.List.{List}
use mathlib.Core.Option.{Option}
use Prim.Native.Nat.{ℕ, ◌≤◌, ◌<◌}
use lib.ListN.{length}
use borrow.Author.Tests.{le-leb, lt-leb}
use Rattle.reading.specs.Fault.{Fault}
use Rattle.reading.specs.Answer.{Got, refused, found, ◌>>=◌}
use Rattle.format.specs.Faults.{too_long}
use Rattle.format.specs.Integrity.{content_fits}
use Rattle.format.specs.Parts.{limit, by_bytes}
use Rattle.format.specs.Header.{Header, header_of}
use Rattle.format.specs.Tasks.{TaskTable, task_table}
use Rattle.format.specs.Constants.{Constant, constants}
use Rattle.format.specs.Code.{Code, code_of}
use Rattle.format.specs.Types.{TypeTables}
use Rattle.format.specs.Debug.{Tables}
use Rattle.format.specs.InForce.{InForce}
use Rattle.format.specs.Load.{Loaded, read_in, types_found, debug_found, in_force_found, load}
use Rattle.format.specs.Record.{TaskCounts, TypeCounts, DebugCounts, Container, task_counts, type_counts, debug_counts, record_of, read_from}
use Rattle.format.specs.Lookups.{read_at}
use Rattle.blake3.specs.Blake3.{blake3}
use Rattle.header.proofs.Found.{header-found}
use Rattle.integrity.specs.Hashes.{content_checked}
use Rattle.integrity.proofs.Laws.{laws}
use Rattle.container.specs.Sections.{Accepted, task_counts_at, type_counts_of, constant_count_at, code_reads_at, record_from}

abbrev loaded : Header → TaskTable → Option TypeTables → List (Constant (List ℕ)) → Code → Option (Tables (List ℕ)) → InForce → Loaded
loaded h t u cs k debug rows = record { header = h; tasks = t; types = u; constants = cs; code = k; debug = debug; in_force = rows }

abbrev read : Code → Got (Unit {0})
read k = found tt

-- the sections one after another, by their tables and by the tables' counts
alike : (h : Header) (debug : Option (Tables (List ℕ))) (rows : InForce) (x : Got TaskTable) (y : Got (Option TypeTables)) (z : Got (List (Constant (List ℕ)))) (w : Got Code)
    → ◌≡◌ {A = Got Container}
    ((x >>= λ t. y >>= λ u. z >>= λ cs. w >>= λ k. found (loaded h t u cs k debug rows)) >>= λ l. found (record_of l))
    ((x >>= λ t. found (task_counts t)) >>= λ t. (y >>= λ u. found (type_counts u)) >>= λ u. (z >>= λ cs. found (length cs)) >>= λ n. (w >>= read) >>= λ k.
    found (record { header = h; tasks = t; types = u; constants = n; debug = debug_counts debug; in_force = rows }))
alike h debug rows (refused d) y z w = refl
alike h debug rows (found t) (refused d) z w = refl
alike h debug rows (found t) (found u) (refused d) w = refl
alike h debug rows (found t) (found u) (found cs) (refused d) = refl
alike h debug rows (found t) (found u) (found cs) (found k) = refl

pub accepted : (f : List ℕ) (h : Header) → Accepted f h → read_from blake3 f ≡ record_from f h
unfolding load read_at
accepted f h a =
    let d = h.directory in
    rw (le-leb _ _ a.short, a.header, a.content)
    (alike h (debug_found blake3 f h) (in_force_found blake3 f h) (read_in f d.tasks task_table) (types_found f h) (read_in f d.constants (constants by_bytes)) (read_in f d.code (code_of h.runtime.functions)))

-- each answer, by what was answered before
module _ (f : List ℕ) (h : Header) (a : Accepted f h) where
  pub tasks-refused : {e : Fault} → refused e ≡ task_counts_at f h.directory.tasks → refused e ≡ read_from blake3 f
  tasks-refused k = rw (accepted f h a, ← k)

  module _ {t : TaskCounts} (i : found t ≡ task_counts_at f h.directory.tasks) where
    pub types-refused : {e : Fault} → refused e ≡ type_counts_of f h → refused e ≡ read_from blake3 f
    types-refused k = rw (accepted f h a, ← i, ← k)

    module _ {u : Option TypeCounts} (j : found u ≡ type_counts_of f h) where
      pub constants-refused : {e : Fault} → refused e ≡ constant_count_at f h.directory.constants → refused e ≡ read_from blake3 f
      constants-refused k = rw (accepted f h a, ← i, ← j, ← k)

      module _ {n : ℕ} (k : found n ≡ constant_count_at f h.directory.constants) where
        pub code-refused : {e : Fault} → refused e ≡ code_reads_at f h.directory.code h.runtime.functions → refused e ≡ read_from blake3 f
        code-refused m = rw (accepted f h a, ← i, ← j, ← k, ← m)

        pub all_found : {d : Option DebugCounts} {rows : InForce} → found tt ≡ code_reads_at f h.directory.code h.runtime.functions → d ≡ debug_counts (debug_found blake3 f h)
            → rows ≡ in_force_found blake3 f h
            → ◌≡◌ {A = Got Container} (found (record { header = h; tasks = t; types = u; constants = n; debug = d; in_force = rows })) (read_from blake3 f)
        all_found m e g = rw (accepted f h a, ← i, ← j, ← k, ← m, e, g)

module _ (f : List ℕ) where
  pub too-long : limit < length f → refused too_long ≡ read_from blake3 f
  unfolding load
  too-long l = rw (lt-leb _ _ l)

  module _ (l : length f ≤ limit) where
    pub header_refused : {e : Fault} → refused e ≡ header_of f → refused e ≡ read_from blake3 f
    unfolding load
    header_refused k = rw (le-leb _ _ l, ← k)

    module _ {h : Header} (i : found h ≡ header_of f) where
      fits : content_checked f h ≡ content_fits blake3 f h
      fits = laws.content f h (header-found f h i).long l

      pub content-refused : {e : Fault} → refused e ≡ content_checked f h → refused e ≡ read_from blake3 f
      unfolding load
      content-refused k = rw (le-leb _ _ l, ← i, ← fits, ← k)

      pub are-accepted : found tt ≡ content_checked f h → Accepted f h
      are-accepted k = record { short = l; header = sym i; content = sym (k ∙ fits) }
