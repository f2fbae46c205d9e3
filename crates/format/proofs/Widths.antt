-- The widths of the entries of tables: each takes so many bytes, and with fewer it stops. Those under `Fixed` are refused for nothing else.
use lib.Dec.{leb}
use Rattle.reading.proofs.Width.{Width, Needs, Fixed, needs-none, needs-bind, width-check, width-bind, width-number, fixed-give, fixed-bind, fixed-bytes, fixed_number, fixed-width}
use Rattle.format.specs.Faults.{invalid_task_type, invalid_field_type, invalid_array_stride}
use Rattle.format.specs.Tasks.{task, program}
use Rattle.format.specs.Types.{field, stride_fits, array, user_fb}
use Rattle.format.specs.Code.{function}
use Rattle.format.specs.Debug.{line, string_layout}

pub task-needs : Needs 32 task
unfolding task
task-needs =
    needs-bind (fixed_number 2) λ i.
    needs-bind (fixed_number 2) λ p.
    needs-bind (fixed_number 1) λ k.
    needs-bind (fixed_number 1) λ f.
    needs-bind (fixed_number 8) λ n.
    needs-bind (fixed_number 2) λ v.
    needs-bind (fixed_number 8) λ w.
    needs-bind (fixed_number 2) λ m.
    needs-bind (fixed_number 2) λ o.
    needs-bind (fixed-bytes 4) λ r. needs-none _

pub task-width : Width 32 task
unfolding task
task-width =
    width-bind (width-number 2) λ i.
    width-bind (width-number 2) λ p.
    width-bind (width-number 1) λ k.
    width-bind (width-number 1) λ f.
    width-bind (width-number 8) λ n.
    width-bind (width-number 2) λ v.
    width-bind (width-number 8) λ w.
    width-bind (width-number 2) λ m.
    width-bind (width-number 2) λ o.
    width-bind (fixed-width (fixed-bytes 4)) λ r. width-check (leb k 2) (invalid_task_type k) _

pub program-fixed : Fixed 16 program
unfolding program
program-fixed =
    fixed-bind (fixed_number 2) λ i.
    fixed-bind (fixed_number 2) λ t.
    fixed-bind (fixed_number 2) λ e.
    fixed-bind (fixed_number 2) λ v.
    fixed-bind (fixed_number 2) λ n.
    fixed-bind (fixed_number 2) λ f.
    fixed-bind (fixed_number 2) λ m.
    fixed-bind (fixed_number 2) λ u. fixed-give _

pub field-needs : Needs 4 field
unfolding field
field-needs = needs-bind (fixed_number 1) λ k. needs-bind (fixed_number 1) λ r. needs-bind (fixed_number 2) λ e. needs-none _

pub field-width : Width 4 field
unfolding field
field-width =
    width-bind (width-number 1) λ k.
    width-bind (width-number 1) λ r.
    width-bind (width-number 2) λ e. width-check (leb k 10) (invalid_field_type k) (record { kind = k; extra = e })

pub array-needs : Needs 12 array
unfolding array
array-needs =
    needs-bind (fixed_number 1) λ k.
    needs-bind (fixed_number 1) λ r.
    needs-bind (fixed_number 4) λ n.
    needs-bind (fixed_number 2) λ e.
    needs-bind (fixed_number 4) λ t. needs-none _

pub array-width : Width 12 array
unfolding array
array-width =
    width-bind (width-number 1) λ k.
    width-bind (width-number 1) λ r.
    width-bind (width-number 4) λ n.
    width-bind (width-number 2) λ e.
    width-bind (width-number 4) λ t.
    width-check (stride_fits k e t) (invalid_array_stride k t) (record { kind = k; elements = n; extra = e; stride = t })

pub user-fb-fixed : Fixed 8 user_fb
unfolding user_fb
user-fb-fixed =
    fixed-bind (fixed_number 2) λ i.
    fixed-bind (fixed_number 2) λ f.
    fixed-bind (fixed_number 2) λ o.
    fixed-bind (fixed_number 1) λ n.
    fixed-bind (fixed_number 1) λ r. fixed-give _

pub function-fixed : Fixed 16 function
unfolding function
function-fixed =
    fixed-bind (fixed_number 2) λ i.
    fixed-bind (fixed_number 4) λ o.
    fixed-bind (fixed_number 4) λ n.
    fixed-bind (fixed_number 2) λ t.
    fixed-bind (fixed_number 2) λ l.
    fixed-bind (fixed_number 2) λ p. fixed-give _

pub line-fixed : Fixed 10 line
unfolding line
line-fixed =
    fixed-bind (fixed_number 2) λ f.
    fixed-bind (fixed_number 2) λ o.
    fixed-bind (fixed_number 2) λ i.
    fixed-bind (fixed_number 2) λ l.
    fixed-bind (fixed_number 2) λ c. fixed-give _

pub layout-fixed : Fixed 8 string_layout
unfolding string_layout
layout-fixed =
    fixed-bind (fixed_number 2) λ v.
    fixed-bind (fixed_number 4) λ o.
    fixed-bind (fixed_number 2) λ l. fixed-give _
