-- A worker holds what its path was read with.
use Rattle.std.proofs.Common.{◌≡◌, ◌<◌, ◌+◌, ◌*◌, ℕ, List, length, slice_get, refl, ap, sym, ◌∙◌, Some, arith}
use Rattle.std.specs.Prelude.{◌-◌}
use Rattle.scan_model.specs.Files.{Content}
use Rattle.unit_steps.specs.UnitView.{UnitView}
use Rattle.unit_steps.specs.Work.{rank}
use Rattle.cache_machine.specs.Machine.{Machine, worker_at}
use Rattle.cache_machine.specs.Machine as machine
use Rattle.cache_machine.specs.Steps.{Read, read}
use Rattle.cache_machine.specs.Runs.{Goes, moved}
use Rattle.cache_machine.proofs.RowLemmas.{grows_refl}
use Rattle.scan_core.specs.declared.seat.Seat.TheVariants as SeatIs
use Rattle.scan_core.specs.CoreSteps.{Steps}
use Rattle.scan_core.specs.Seats.{worker_of, SeatFits}
use Rattle.scan_core.specs.Inside.{State, machine_of, seen, HoldsAt}
use Rattle.scan_core.proofs.ListLemmas.{map_set}
use Rattle.scan_core.proofs.SeatLemmas.{worker_of_seat}
use Rattle.scan_core.proofs.Changing.{after, holds_after, steps_after, less_after}

one_less : (x : ℕ) → 4 * x + 7 - 2 < 4 * x + 7 - 1
one_less x = omega arith

module _ {R : Type 0} (content : R → Content (List ℕ)) (s : State R) (holds : HoldsAt content s) (w n : ℕ) (u : UnitView) (place : ℕ) (r : R) (at : slice_get s.seats w ≡ Some (SeatIs.Reads n u place)) where
  abbrev m : Machine
  m = machine_of content s

  fits : SeatFits {R = R} s.jobs s.settings m.rows w (SeatIs.Reads n u place)
  fits = holds.seats w (SeatIs.Reads n u place) at

  worker_is : worker_at m w ≡ machine.Claiming n (length u.answers)
  worker_is = worker_of_seat content s.seats w (SeatIs.Reads n u place) at

  abbrev pub has_read : State R
  has_read = after content s holds w (SeatIs.Reads n u place) at s.entries s.next s.ends (SeatIs.Holds n u place r)

  machine_now : machine_of content has_read ≡ moved s.jobs s.settings m (Goes (Read w (content r)))
  machine_now = ap (λ z. record m { workers = z }) (map_set (worker_of content) s.seats w (SeatIs.Holds n u place r)) ∙ sym (ap (λ z. read m w (content r) z) worker_is)

  pub holds_read : HoldsAt content has_read
  holds_read = holds_after content s holds w (SeatIs.Reads n u place) at s.entries s.next s.ends (SeatIs.Holds n u place r) (Goes (Read w (content r))) machine_now
      (grows_refl m.rows) (λ x differ i p claimed. claimed) fits

  pub steps_read : Steps (seen content s) (seen content has_read) (read m w (content r) (worker_at m w))
  steps_read = steps_after content s holds w (SeatIs.Reads n u place) at s.entries s.next s.ends (SeatIs.Holds n u place r) (read m w (content r) (worker_at m w)) machine_now
      (less_after content s holds w (SeatIs.Reads n u place) at s.entries s.next s.ends (SeatIs.Holds n u place r) refl (one_less (rank u.work))) holds_read
