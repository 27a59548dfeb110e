use Rattle.std.proofs.Common.{◌≡◌, ◌-◌, ◌≤◌, false, [], length, vec_capacity}
use Rattle.turn_lock.specs.declared.view.Stage.TheVariants.{Idle}
use Rattle.turn_lock.specs.Views.{view, marks_from}
use Rattle.turn_lock.specs.Passes.{Dealt}
use Rattle.turn_lock.proofs.lock.opening.deal.Given as goal

abbrev pub invariant-loop-number : goal.invariant-loop-number
invariant-loop-number g l =
    (l.seat.table_id ≡ l.fn.seat.table_id)
    × (l.seat.me ≡ (view (marks_from l.number (l.fn.passes - l.number) (g.T.Logged.fixed l.fn.like.value) (g.T.Logged.log l.fn.like.value)) Idle false, []))
    × (length l.row.items ≡ l.number)
    × (l.fn.passes ≤ vec_capacity l.row)
    × Dealt {g = g.T.Logged} l.fn.seat.table_id (g.T.Logged.fixed l.fn.like.value) (g.T.Logged.log l.fn.like.value) 0 l.row.items
