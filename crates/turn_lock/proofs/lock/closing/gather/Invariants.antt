use Rattle.std.proofs.Common.{◌≡◌, ◌++◌, false, [], map, length, All}
use Rattle.turn_lock.specs.declared.view.Stage.TheVariants.{Idle}
use Rattle.turn_lock.specs.Views.{view}
use Rattle.turn_lock.specs.Passes.{mark_of, pass_lock}
use Rattle.turn_lock.proofs.lock.closing.gather.Given as goal

abbrev pub invariant-loop-next : goal.invariant-loop-next
invariant-loop-next g l =
    (l.seat.table_id ≡ l.fn.shared.table_id)
    × (l.seat.me ≡ (view l.seat.me.0.marks Idle false, []))
    × (map mark_of l.passes.items ++ l.seat.me.0.marks ≡ map mark_of l.fn.passes.items)
    × All (λ p. pass_lock p ≡ l.fn.shared.table_id) l.passes.items

abbrev pub decreases-loop-next : goal.decreases-loop-next
decreases-loop-next g l = length l.passes.items
