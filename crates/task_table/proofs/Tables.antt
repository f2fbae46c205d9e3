-- The section from its header and its two tables, and each answer from what the section's reader answers.
use mathlib.Core.Path.{◌≡◌, refl, sym, ap, subst, ◌∙◌}
use mathlib.Core.List.{List}
use Prim.Native.Nat.{ℕ, ◌+◌, ◌*◌, ◌≤◌}
use native.Mathlib.Omega.{arith}
use lib.ListN.{length, drop, length-drop}
use lib.Seq.{drop-drop}
use Rattle.reading.specs.Fault.{Fault}
use Rattle.reading.specs.Numbers.{le_at}
use Rattle.reading.specs.Reader.{Read, fault, got, next, u16, give, many}
use Rattle.reading.specs.Answer.{Got, refused, found, ◌>>=◌, item_of, indexed}
use Rattle.reading.specs.Places.{on_to, stops_by, left_of, Goes, Holds, GivesFrom}
use Rattle.reading.specs.declared.Table.{Table}
use Rattle.reading.proofs.Reading.{both, number_at}
use Rattle.reading.proofs.Width.{Needs, width-number, needs-none, needs-bind, fixed_number}
use Rattle.reading.proofs.Tables.{many-length, holds_at, reaches}
use Rattle.reading.proofs.Left.{stays-local, walk-gives}
use Rattle.format.specs.Faults.{no_entry}
use Rattle.format.specs.Parts.{Place, cut}
use Rattle.format.specs.Tasks.{Task, task, Program, program, TaskTable, task_table}
use Rattle.format.specs.Record.{TaskCounts, task_counts}
use Rattle.format.specs.Lookups.{read_at}
use Rattle.format.proofs.Answers.{never, same-found, refused-then, item-got}
use Rattle.base.proofs.FileWalks.{opened, walk-gives-from}
use Rattle.task_table.specs.Lookups.{task_table_header_size, task_entry_size, task_counts_inside, task_entries, program_entries, task_inside, program_inside, tasks_at, programs_at, next_task_at, next_program_at}
use Rattle.task_table.specs.Laws.{Laws}
use Rattle.format.proofs.Widths.{task-width}
use Rattle.format.proofs.Readers.{local-task, local-program}

-- Reading the section

pub table-needs : Needs task_table_header_size task_table
unfolding task_table
table-needs = needs-bind (fixed_number 2) λ n. needs-bind (fixed_number 2) λ m. needs-bind (fixed_number 2) λ g. needs-none _

module _ (s : List ℕ) (n m g : ℕ) (h : task_table_header_size ≤ length s) (i : n ≡ le_at 2 s 0) (j : m ≡ le_at 2 s 2) (k : g ≡ le_at 2 s 4) where
  table-head : task_table s
      ≡ next (many n task (drop task_table_header_size s)) (λ ts. λ x. next (many m program x) (λ ps. give (record { shared_globals = g; tasks = ts; programs = ps })))
  unfolding task_table
  table-head = rw (number_at 2 s 0 2 refl (omega arith), number_at 2 s 2 4 refl (omega arith), number_at 2 s 4 task_table_header_size refl h, i, j, k)

  -- a task that is refused
  pub table-stop : (f : Fault) → many n task (drop task_table_header_size s) ≡ fault f → refused f ≡ task_counts_inside s
  table-stop f e = rw (table-head, e)

  -- the tasks reach to p
  module _ (p : ℕ) (w : Goes (many n task) s task_table_header_size (on_to p)) where
    pub table-short : (f : Fault) → Goes (many m program) s p (stops_by f) → refused f ≡ task_counts_inside s
    table-short f e = rw (table-head, w.1.1, e)

    pub table-whole : (k : ℕ) → Goes (many m program) s p (on_to k) → found (record { shared_globals = g; tasks = n; programs = m }) ≡ task_counts_inside s
    table-whole k q =
        let a = many-length task n (drop task_table_header_size s) w.1.0 (drop p s) w.1.1 in
        let b = many-length program m (drop p s) q.1.0 (drop k s) q.1.1 in
        rw (table-head, w.1.1, q.1.1, a, b)

-- The tables of a section that reads

pub record Readable (s : List ℕ) (t : TaskTable) : Type 0 where
  pub tasks : Holds task s (task_entries (task_counts t)) t.tasks
  pub programs : Holds program s (program_entries (task_counts t)) t.programs

-- behind the three numbers of the header
after-header : {n m g : ℕ} (s x y z : List ℕ) → u16 s ≡ got n x → u16 x ≡ got m y → u16 y ≡ got g z → (z ≡ drop task_table_header_size s) × (task_table_header_size ≤ length s)
after-header {n} {m} {g} s x y z e f h =
    let a = (width-number 2).takes s n x e in
    let b = (width-number 2).takes x m y f in
    let c = (width-number 2).takes y g z h in
    let four : y ≡ drop 4 s = b.0 ∙ ap (drop 2) a.0 ∙ drop-drop 2 2 s in
    (c.0 ∙ ap (drop 2) four ∙ drop-drop 2 4 s, omega (arith, c.1, ap length four ∙ length-drop 4 s))

pub readable : (s : List ℕ) (t : TaskTable) (rest : List ℕ) → task_table s ≡ got t rest → Readable s t
unfolding task_table
readable s t rest e =
    let a = both (u16 s) e in
    let b = both (u16 a.middle) a.second in
    let c = both (u16 b.middle) b.second in
    let d = both (many a.item task c.middle) c.second in
    let p = both (many b.item program d.middle) d.second in
    let h = after-header s a.middle b.middle c.middle a.first b.first c.first in
    let k = reaches task a.item task_table_header_size s c.middle d.middle d.item h.0 h.1 d.first task-width in
    let all : record { shared_globals = c.item; tasks = d.item; programs = p.item } ≡ t = cc in
    subst (λ (v : TaskTable). Readable s v) all
    (record {
      tasks = holds_at task a.item task_table_header_size s c.middle d.middle d.item h.0 h.1 d.first;
      programs = holds_at program b.item (task_table_header_size + task_entry_size * length d.item) s d.middle p.middle p.item k.0 k.1 p.first;
    })

-- Each answer from the counts

-- a section that does not read is refused to every lookup
pub counts-refused : {B : Type 0} (s : List ℕ) (f : Fault) (go : TaskTable → Got B) → refused f ≡ task_counts_inside s → refused f ≡ (item_of (task_table s) >>= go)
counts-refused s f go e = refused-then (item_of (task_table s)) task_counts go f e

module _ (s : List ℕ) (c : TaskCounts) (e : found c ≡ task_counts_inside s) where
  record Counted : Type 0 where
    table : TaskTable
    rest : List ℕ
    reads : task_table s ≡ got table rest
    counts : task_counts table ≡ c
    tasks : Holds task s (task_entries c) table.tasks
    programs : Holds program s (program_entries c) table.programs

  counted : Counted
  counted = here (task_table s) refl e
    where
      here : (x : Read TaskTable) → task_table s ≡ x → found c ≡ (item_of x >>= λ t. found (task_counts t)) → Counted
      here (fault f) d e = never (sym e)
      here (got t rest) d e =
          let z : task_counts t ≡ c = sym (same-found e) in
          let r = readable s t rest d in
          record {
            table = t;
            rest = rest;
            reads = d;
            counts = z;
            tasks = subst (λ (v : TaskCounts). Holds task s (task_entries v) t.tasks) z r.tasks;
            programs = subst (λ (v : TaskCounts). Holds program s (program_entries v) t.programs) z r.programs;
          }

  -- where a table starts
  pub start : (g : TaskCounts → Table) → found (g c) ≡ (item_of (task_table s) >>= λ t. found (g (task_counts t)))
  start g = rw (counted.reads, counted.counts)

  -- the entry at an index
  module _ (k : ℕ) where
    pub task-is : (x : Got Task) → ((xs : List Task) (rest : List ℕ) → left_of task s (task_entries c) ≡ got xs rest → x ≡ indexed no_entry xs k) → x ≡ task_inside s k
    task-is x h = rw counted.reads (h counted.table.tasks counted.tasks.rest counted.tasks.reads)

    pub program-is : (x : Got Program) → ((xs : List Program) (rest : List ℕ) → left_of program s (program_entries c) ≡ got xs rest → x ≡ indexed no_entry xs k) → x ≡ program_inside s k
    program-is x h = rw counted.reads (h counted.table.programs counted.programs.rest counted.programs.reads)

-- in a file
module _ (f : List ℕ) (p : Place) (t : TaskTable) (e : read_at f p task_table ≡ found t) where
  stand : Readable (cut f p) t
  stand = let g = item-got (task_table (cut f p)) t (opened f p task_table t e).reads in readable (cut f p) t g.0 g.1

  tasks-in : GivesFrom (tasks_at f p) (next_task_at f p) t.tasks
  tasks-in = walk-gives-from f p task_table t e task (stays-local (cut f p) local-task) (λ v. task_entries (task_counts v)) t.tasks _ stand.tasks.reads

  programs-in : GivesFrom (programs_at f p) (next_program_at f p) t.programs
  programs-in = walk-gives-from f p task_table t e program (stays-local (cut f p) local-program) (λ v. program_entries (task_counts v)) t.programs _ stand.programs.reads

pub laws : Laws
laws =
    record {
      tasks = λ s t rest e. walk-gives s task (stays-local s local-task) (task_entries (task_counts t)) t.tasks _ (readable s t rest e).tasks.reads;
      programs = λ s t rest e. walk-gives s program (stays-local s local-program) (program_entries (task_counts t)) t.programs _ (readable s t rest e).programs.reads;
      tasks_in = tasks-in;
      programs_in = programs-in;
    }
