-- A run that doesn't end with want of memory has no end that is want of memory.
use Rattle.std.proofs.Common.{◌≡◌, ℕ, Bool, true, false, List, [], ◌∷◌, if◌then◌else◌, refl, ap, inl, inr}
use Rattle.std.specs.Prelude.{◌≢◌, ◌||◌}
use Rattle.std.specs.List.{list_any}
use Rattle.std.proofs.lemmas.List.Elements.{All-nil, All-cons}
use Rattle.scan_model.specs.declared.unit_end.UnitEnd.{UnitEnd}
use Rattle.scan_model.specs.declared.unit_end.UnitEnd.TheVariants as Ends
use Rattle.scheduler.specs.Order.{HaveMemory}
use Rattle.scanner.specs.declared.status.Status.{Status}
use Rattle.scanner.specs.declared.status.Status.TheVariants as Statuses
use Rattle.scanner.specs.Statuses.{number}
use Rattle.scanner.specs.Sinks.{Change}
use Rattle.scanner.specs.Printed.{is_no_memory, is_failure}
use Rattle.scanner.specs.Run.{IsPrintedUnlessNoMemory}

none_left : (a b : Bool) → (a || b) ≡ false → a ≡ false
none_left true b h = cc
none_left false b h = refl

none_right : (a b : Bool) → (a || b) ≡ false → b ≡ false
none_right true b h = cc
none_right false b h = h

not_this : (end : UnitEnd) → is_no_memory end ≡ false → end ≢ Ends.NoMemory
not_this end h e = let t : is_no_memory end ≡ true = ap is_no_memory e in cc

had : (ends : List UnitEnd) → list_any is_no_memory ends ≡ false → HaveMemory ends
had [] h = All-nil (λ end. end ≢ Ends.NoMemory)
had (end ∷ ends) h =
    All-cons (λ end. end ≢ Ends.NoMemory) end ends (not_this end (none_left (is_no_memory end) (list_any is_no_memory ends) h)) (had ends (none_right (is_no_memory end) (list_any is_no_memory ends) h))

by_status : (ends : List UnitEnd) (other : Status) (status : ℕ) (b : Bool) → list_any is_no_memory ends ≡ b → status ≡ number (if b then Statuses.NoMemory else other) → status ≢ number Statuses.NoMemory → HaveMemory ends
by_status ends other status true h e not = absurd (not e)
by_status ends other status false h e not = had ends h

pub printed_has_memory : (text : List ℕ) (ends : List UnitEnd) (out err : Change) (status : ℕ) → IsPrintedUnlessNoMemory text ends out err status → status ≢ number Statuses.NoMemory → HaveMemory ends
printed_has_memory text ends out err status (inl none) not = absurd (not none.told.status_is)
printed_has_memory text ends out err status (inr (inl all)) not =
    by_status ends (if list_any is_failure ends then Statuses.SomeFailed else Statuses.Fine) status (list_any is_no_memory ends) refl all.status_is not
printed_has_memory text ends out err status (inr (inr (inl failed))) not = by_status ends Statuses.SinkFault status (list_any is_no_memory ends) refl failed.status_is not
printed_has_memory text ends out err status (inr (inr (inr failed))) not = by_status ends Statuses.SinkFault status (list_any is_no_memory ends) refl failed.status_is not
