-- A worker's job has its end recorded.
use Rattle.std.proofs.Common.{◌≡◌, ◌<◌, ℕ, true, List, map, length, slice_get, refl, ap, sym, ◌∙◌, Some, None, arith}
use Rattle.std.specs.Prelude.{slice_set, ◌^◌}
use Rattle.scan_model.specs.declared.command.Settings.{Settings}
use Rattle.scan_model.specs.declared.command.Job.{Job}
use Rattle.scan_model.specs.declared.unit_end.UnitEnd.{UnitEnd}
use Rattle.scan_model.specs.Files.{Content}
use Rattle.scan_model.specs.Answer.{Known}
use Rattle.unit_steps.specs.UnitView.{end_of_phase}
use Rattle.cache_machine.specs.Machine.{Machine, worker_at}
use Rattle.cache_machine.specs.Machine as machine
use Rattle.cache_machine.specs.JobLooks.{path_at, answer_at, end_in}
use Rattle.cache_machine.specs.Numbers.{has_number}
use Rattle.cache_machine.specs.Steps.{End, record_end, end_path, end}
use Rattle.cache_machine.specs.Runs.{Goes, moved}
use Rattle.cache_machine.proofs.NumberLemmas.{if_true}
use Rattle.cache_machine.proofs.Steps.{job_of}
use Rattle.cache_machine.proofs.Reached.{reached_sound}
use Rattle.cache_machine.proofs.RowLemmas.{grows_refl}
use Rattle.scan_core.specs.declared.seat.Seat.{Seat}
use Rattle.scan_core.specs.declared.seat.Seat.TheVariants as SeatIs
use Rattle.scan_core.specs.CoreSteps.{Steps}
use Rattle.scan_core.specs.Seats.{left_at, worker_of, HasEnd, seat_end, seat_number, SeatFits}
use Rattle.scan_core.specs.Inside.{State, machine_of, seen, HoldsAt}
use Rattle.scan_core.proofs.ListLemmas.{map_set}
use Rattle.scan_core.proofs.UnitLemmas.{unit_over, unit_answer, refused_path, refused_answer}
use Rattle.scan_core.proofs.SeatLemmas.{worker_of_seat}
use Rattle.scan_core.proofs.Changing.{after, holds_after, steps_after, less_after}

module _ {R : Type 0} where
  left_of_end : (seat : Seat R) → HasEnd seat → left_at seat ≡ 2
  left_of_end (SeatIs.Refused n f) has = refl
  left_of_end (SeatIs.Ends n u) has = refl
  left_of_end (SeatIs.Spent n) has = refl
  left_of_end SeatIs.Idle has = absurd has
  left_of_end (SeatIs.Looks n u) has = absurd has
  left_of_end (SeatIs.Reads n u i) has = absurd has
  left_of_end (SeatIs.Holds n u i r) has = absurd has
  left_of_end SeatIs.Over has = absurd has

  end_has_number : (content : R → Content (List ℕ)) (seat : Seat R) → HasEnd seat → has_number (seat_number seat) (worker_of content seat) ≡ true
  end_has_number content (SeatIs.Refused n f) has = if_true n n refl
  end_has_number content (SeatIs.Ends n u) has = if_true n n refl
  end_has_number content (SeatIs.Spent n) has = if_true n n refl
  end_has_number content SeatIs.Idle has = absurd has
  end_has_number content (SeatIs.Looks n u) has = absurd has
  end_has_number content (SeatIs.Reads n u i) has = absurd has
  end_has_number content (SeatIs.Holds n u i r) has = absurd has
  end_has_number content SeatIs.Over has = absurd has

ends_known : (jobs : List Job) (settings : Settings) (m : Machine) (w n k : ℕ) (is : UnitEnd) → path_at jobs settings m.rows n k ≡ None → answer_at jobs settings m.rows n ≡ Known is →
    end jobs settings m w (machine.At n k) ≡ record_end m w n (Some is)
ends_known jobs settings m w n k is none known = ap (λ z. end_path jobs settings m w n z) none ∙ ap (λ z. record_end m w n (end_in z)) known

-- the machine records the seat's end
seat_ends : {R : Type 0} (content : R → Content (List ℕ)) (jobs : List Job) (settings : Settings) (m : Machine) (w : ℕ) (seat : Seat R) → SeatFits jobs settings m.rows w seat → HasEnd seat →
    end jobs settings m w (worker_of content seat) ≡ record_end m w (seat_number seat) (Some (seat_end seat))
seat_ends {R = R} content jobs settings m w (SeatIs.Refused n f) fits has =
    ends_known jobs settings m w n 0 (seat_end {R = R} (SeatIs.Refused n f)) (refused_path jobs settings m.rows n f fits) (refused_answer jobs settings m.rows n f fits)
seat_ends content jobs settings m w (SeatIs.Ends n u) fits has =
    ends_known jobs settings m w n (length u.answers) (end_of_phase u.phase) (unit_over jobs settings m.rows n u fits.1.0 fits.0 fits.1.1)
    (unit_answer jobs settings m.rows n u fits.1.0 fits.0 fits.1.1 ∙ ap (λ z. Known (end_of_phase z)) (sym fits.1.1))
seat_ends content jobs settings m w (SeatIs.Spent n) fits has = refl
seat_ends content jobs settings m w SeatIs.Idle fits has = absurd has
seat_ends content jobs settings m w (SeatIs.Looks n u) fits has = absurd has
seat_ends content jobs settings m w (SeatIs.Reads n u i) fits has = absurd has
seat_ends content jobs settings m w (SeatIs.Holds n u i r) fits has = absurd has
seat_ends content jobs settings m w SeatIs.Over fits has = absurd has

module _ {R : Type 0} (content : R → Content (List ℕ)) (s : State R) (holds : HoldsAt content s) (w : ℕ) (seat : Seat R) (at : slice_get s.seats w ≡ Some seat) (has : HasEnd seat) where
  abbrev m : Machine
  m = machine_of content s

  worker_is : worker_at m w ≡ worker_of content seat
  worker_is = worker_of_seat content s.seats w seat at

  -- the place of its end is there
  pub end_place : seat_number seat < length s.ends
  end_place =
      let sound = reached_sound s.jobs s.settings (length (map (worker_of content) s.seats)) m holds.reached in
      let job = job_of s.jobs s.settings m w (seat_number seat) (worker_of content seat) worker_is sound (end_has_number content seat has) in
      let ends = sound.jobs_ends in omega arith

  abbrev pub ended : State R
  ended = after content s holds w seat at s.entries s.next (slice_set s.ends (seat_number seat) (Some (seat_end seat))) SeatIs.Idle

  machine_now : machine_of content ended ≡ moved s.jobs s.settings m (Goes (End w))
  machine_now =
      ap (λ z. record m { workers = z; ends = slice_set s.ends (seat_number seat) (Some (seat_end seat)) }) (map_set (worker_of content) s.seats w SeatIs.Idle)
      ∙ sym (ap (λ z. end s.jobs s.settings m w z) worker_is ∙ seat_ends content s.jobs s.settings m w seat (holds.seats w seat at) has)

  pub holds_ended : HoldsAt content ended
  holds_ended = holds_after content s holds w seat at s.entries s.next (slice_set s.ends (seat_number seat) (Some (seat_end seat))) SeatIs.Idle (Goes (End w)) machine_now
      (grows_refl m.rows) (λ x differ i p claimed. claimed) tt

  pub steps_ended : Steps (seen content s) (seen content ended) (end s.jobs s.settings m w (worker_at m w))
  steps_ended =
      let two = left_of_end seat has in
      steps_after content s holds w seat at s.entries s.next (slice_set s.ends (seat_number seat) (Some (seat_end seat))) SeatIs.Idle (end s.jobs s.settings m w (worker_at m w)) machine_now
      (less_after content s holds w seat at s.entries s.next (slice_set s.ends (seat_number seat) (Some (seat_end seat))) SeatIs.Idle refl (omega arith)) holds_ended
