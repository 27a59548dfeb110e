-- Which seat it is that wants this.
use Rattle.std.proofs.Common.{◌≡◌, ℕ, List, slice_get, length, refl, ap, sym, ◌∙◌, subst, Option, Some, None}
use Rattle.std.specs.Prelude.{slice_index_or, slice_set}
use Rattle.std.proofs.lemmas.Option.{slice_get_read}
use Rattle.scan_model.specs.declared.command.Settings.{Settings}
use Rattle.scan_model.specs.declared.command.Job.{Job}
use Rattle.scan_model.specs.Files.{Content}
use Rattle.unit_steps.specs.UnitView.{UnitView, IsOver}
use Rattle.cache_machine.specs.Rows.{Held, Claimed, Done, Row, held_at}
use Rattle.cache_machine.specs.Wants.{Want, wants_held, wants_path, wants_as, Draw_wanted, Look_wanted, Read_wanted, Publish_wanted, End_wanted, Waits, Is_over}
use Rattle.cache_machine.proofs.WorkerLemmas.{get_there}
use Rattle.scan_core.specs.declared.seat.Seat.{Seat}
use Rattle.scan_core.specs.declared.seat.Seat.TheVariants as SeatIs
use Rattle.scan_core.specs.CoreView.{CoreView}
use Rattle.scan_core.specs.Events.{core_wants}
use Rattle.scan_core.specs.Seats.{worker_of, HasEnd, SeatFits}
use Rattle.scan_core.specs.Inside.{State, rows_of, seen, HoldsAt}
use Rattle.scan_core.proofs.ListLemmas.{get_set}
use Rattle.scan_core.proofs.UnitLemmas.{unit_path, unit_over, refused_path}
use Rattle.scan_core.proofs.SeatLemmas.{worker_of_seat, wants_within}

-- what a look is there for
held_wants : {A : Type 0} (held : Option Held) (want : Want) → wants_held held ≡ want → (Look_wanted ≡ want → A) → (Waits ≡ want → A) → A
held_wants None want h look wait = look h
held_wants (Some (Claimed v)) want h look wait = wait h
held_wants (Some (Done before)) want h look wait = look h

module _ {R : Type 0} (content : R → Content (List ℕ)) (jobs : List Job) (settings : Settings) (rows : List Row) (w : ℕ) where
  abbrev WantsAs : Seat R → Want → Type 0
  WantsAs seat want = wants_as jobs settings rows (worker_of content seat) ≡ want

  -- by what it wants
  which : {A : Type 0} (seat : Seat R) (want : Want) → SeatFits jobs settings rows w seat → WantsAs seat want → (seat ≡ SeatIs.Idle → Draw_wanted ≡ want → A) →
      ((n : ℕ) (u : UnitView) → seat ≡ SeatIs.Looks n u → Look_wanted ≡ want → A) → (Waits ≡ want → A) → ((n : ℕ) (u : UnitView) (i : ℕ) → seat ≡ SeatIs.Reads n u i → Read_wanted ≡ want → A) →
      ((n : ℕ) (u : UnitView) (i : ℕ) (r : R) → seat ≡ SeatIs.Holds n u i r → Publish_wanted ≡ want → A) → (HasEnd seat → End_wanted ≡ want → A) → (Is_over ≡ want → A) → A
  which SeatIs.Idle want fits h idle looks waits reads holds ends over = idle refl h
  which (SeatIs.Refused n f) want fits h idle looks waits reads holds ends over =
      ends tt (sym (ap (λ z. wants_path rows z) (refused_path jobs settings rows n f fits)) ∙ h)
  which (SeatIs.Looks n u) want fits h idle looks waits reads holds ends over =
      held_wants (held_at rows fits.1.0) want (sym (ap (λ z. wants_path rows z) (unit_path jobs settings rows n u fits.1.0 fits.0 fits.1.1)) ∙ h) (looks n u refl) waits
  which (SeatIs.Ends n u) want fits h idle looks waits reads holds ends over =
      ends (subst IsOver (sym fits.1.1) tt) (sym (ap (λ z. wants_path rows z) (unit_over jobs settings rows n u fits.1.0 fits.0 fits.1.1)) ∙ h)
  which (SeatIs.Reads n u i) want fits h idle looks waits reads holds ends over = reads n u i refl h
  which (SeatIs.Holds n u i r) want fits h idle looks waits reads holds ends over = holds n u i r refl h
  which (SeatIs.Spent n) want fits h idle looks waits reads holds ends over = ends tt h
  which SeatIs.Over want fits h idle looks waits reads holds ends over = over h

  draws : (seat : Seat R) → SeatFits jobs settings rows w seat → WantsAs seat Draw_wanted → seat ≡ SeatIs.Idle
  draws seat fits h = which seat Draw_wanted fits h (λ is e. is) (λ n u is e. cc) (λ e. cc) (λ n u i is e. cc) (λ n u i r is e. cc) (λ has e. cc) (λ e. cc)

  looks : (seat : Seat R) → SeatFits jobs settings rows w seat → WantsAs seat Look_wanted → ((n : ℕ) (u : UnitView) → seat ≡ SeatIs.Looks n u → ⊥) → ⊥
  looks seat fits h not = which seat Look_wanted fits h (λ is e. cc) (λ n u is e. not n u is) (λ e. cc) (λ n u i is e. cc) (λ n u i r is e. cc) (λ has e. cc) (λ e. cc)

  reads : (seat : Seat R) → SeatFits jobs settings rows w seat → WantsAs seat Read_wanted → ((n : ℕ) (u : UnitView) (i : ℕ) → seat ≡ SeatIs.Reads n u i → ⊥) → ⊥
  reads seat fits h not = which seat Read_wanted fits h (λ is e. cc) (λ n u is e. cc) (λ e. cc) (λ n u i is e. not n u i is) (λ n u i r is e. cc) (λ has e. cc) (λ e. cc)

  publishes : (seat : Seat R) → SeatFits jobs settings rows w seat → WantsAs seat Publish_wanted → ((n : ℕ) (u : UnitView) (i : ℕ) (r : R) → seat ≡ SeatIs.Holds n u i r → ⊥) → ⊥
  publishes seat fits h not = which seat Publish_wanted fits h (λ is e. cc) (λ n u is e. cc) (λ e. cc) (λ n u i is e. cc) (λ n u i r is e. not n u i r is) (λ has e. cc) (λ e. cc)

  ends : (seat : Seat R) → SeatFits jobs settings rows w seat → WantsAs seat End_wanted → HasEnd seat
  ends seat fits h = which seat End_wanted fits h (λ is e. cc) (λ n u is e. cc) (λ e. cc) (λ n u i is e. cc) (λ n u i r is e. cc) (λ has e. has) (λ e. cc)

module _ {R : Type 0} (content : R → Content (List ℕ)) (s : State R) (holds : HoldsAt content s) (v : CoreView) (is : seen content s ≡ v) (w : ℕ) where
  abbrev rows : List Row
  rows = rows_of content s

  wants_of : (want : Want) (seat : Seat R) → core_wants v w ≡ want → slice_get s.seats w ≡ Some seat → wants_as s.jobs s.settings rows (worker_of content seat) ≡ want
  wants_of want seat wants at =
      sym (ap (λ z. wants_as s.jobs s.settings rows z) (worker_of_seat content s.seats w seat at)) ∙ ap (λ (z : CoreView). core_wants z w) is ∙ wants

  -- the seat of a worker that draws
  pub idle_seat : core_wants v w ≡ Draw_wanted → slice_get s.seats w ≡ Some SeatIs.Idle
  idle_seat wants =
      let there = get_there s.seats w (wants_within content s v w Draw_wanted is wants (λ e. cc)) in
      there.1 ∙ ap (λ z. Some z) (draws content s.jobs s.settings rows w there.0 (holds.seats w there.0 there.1) (wants_of Draw_wanted there.0 wants there.1))

  module _ (seat : Seat R) (read : seat ≡ slice_index_or s.seats w seat) where
    pub seat_of : (want : Want) → core_wants v w ≡ want → (Is_over ≡ want → ⊥) → slice_get s.seats w ≡ Some seat
    seat_of want wants not = slice_get_read s.seats (length s.seats) w seat refl (wants_within content s v w want is wants not) read

    pub looking_seat : core_wants v w ≡ Look_wanted → ((n : ℕ) (u : UnitView) → seat ≡ SeatIs.Looks n u → ⊥) → ⊥
    looking_seat wants not =
        let at = seat_of Look_wanted wants (λ e. cc) in
        looks content s.jobs s.settings rows w seat (holds.seats w seat at) (wants_of Look_wanted seat wants at) not

    pub reading_seat : core_wants v w ≡ Read_wanted → ((n : ℕ) (u : UnitView) (i : ℕ) → seat ≡ SeatIs.Reads n u i → ⊥) → ⊥
    reading_seat wants not =
        let at = seat_of Read_wanted wants (λ e. cc) in
        reads content s.jobs s.settings rows w seat (holds.seats w seat at) (wants_of Read_wanted seat wants at) not

    pub publishing_seat : core_wants v w ≡ Publish_wanted → ((n : ℕ) (u : UnitView) (i : ℕ) (r : R) → seat ≡ SeatIs.Holds n u i r → ⊥) → ⊥
    publishing_seat wants not =
        let at = seat_of Publish_wanted wants (λ e. cc) in
        publishes content s.jobs s.settings rows w seat (holds.seats w seat at) (wants_of Publish_wanted seat wants at) not

    pub ending_seat : core_wants v w ≡ End_wanted → HasEnd seat
    ending_seat wants =
        let at = seat_of End_wanted wants (λ e. cc) in
        ends content s.jobs s.settings rows w seat (holds.seats w seat at) (wants_of End_wanted seat wants at)

    -- what was taken out of its place
    pub found_seat : (want : Want) → core_wants v w ≡ want → (Is_over ≡ want → ⊥) → (replaced found : Seat R) → replaced ≡ seat → replaced ≡ found → slice_get s.seats w ≡ Some found
    found_seat want wants not replaced found same found_is = seat_of want wants not ∙ ap (λ z. Some z) (sym same ∙ found_is)

    pub ending_found : core_wants v w ≡ End_wanted → (replaced : Seat R) → replaced ≡ seat → HasEnd replaced
    ending_found wants replaced same = subst HasEnd (sym same) (ending_seat wants)

-- its place is idle until it has its next seat
pub emptied : {R : Type 0} (seats : List (Seat R)) (w : ℕ) (seat idle : Seat R) → slice_get seats w ≡ Some seat → idle ≡ SeatIs.Idle → slice_get (slice_set seats w idle) w ≡ Some SeatIs.Idle
emptied seats w seat idle at is = get_set seats w seat idle at ∙ ap (λ z. Some z) is
