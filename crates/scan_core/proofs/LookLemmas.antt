-- A look at a path: its row is done, or there is none.
use Rattle.std.proofs.Common.{◌≡◌, ◌<◌, ◌+◌, ◌*◌, ℕ, List, [], ◌∷◌, ◌++◌, map, length, slice_get, refl, ap, sym, ◌∙◌, subst, Option, Some, None, nat_eq, append-nil, arith}
use Rattle.std.specs.Prelude.{IfOk, OnErr, Result, slice_set, ◌-◌}
use Rattle.std.specs.Option.{option_map}
use Rattle.std.specs.Cmp.Lexicographic.{pointwise}
use Rattle.std.specs.Map.{lookup}
use Rattle.std.specs.declared.result.Result.TheVariants.{Ok, Err}
use Rattle.scan_model.specs.declared.memory.NoMemory.{NoMemory}
use Rattle.scan_model.specs.Files.{Content}
use Rattle.unit_laws.specs.Reduction.{reduced_content}
use Rattle.unit_steps.specs.UnitView.{UnitView, Asks, IsAsking, given, asked_by}
use Rattle.unit_steps.specs.Work.{rank}
use Rattle.unit_steps.proofs.Logs.{get_last}
use Rattle.cache_machine.specs.Rows.{Held, Claimed, Done, Row, held_at, done_of, map_of}
use Rattle.cache_machine.specs.Machine.{Machine, worker_at}
use Rattle.cache_machine.specs.Machine as machine
use Rattle.cache_machine.specs.JobLooks.{path_at}
use Rattle.cache_machine.specs.Steps.{Look, look, look_path, look_held}
use Rattle.cache_machine.specs.Spending.{look_spent}
use Rattle.cache_machine.specs.Runs.{moved}
use Rattle.cache_machine.specs.Wants.{Look_wanted, Waits, wants_held, wants_path, wants_as}
use Rattle.cache_machine.specs.RowGrowth.{RowsGrow}
use Rattle.cache_machine.proofs.RowLemmas.{grows_refl, grows_append}
use Rattle.cache_machine.proofs.JobLemmas.{get_append}
use Rattle.scan_core.specs.declared.seat.Kept.TheVariants as KeptIs
use Rattle.scan_core.specs.declared.seat.Seat.{Seat}
use Rattle.scan_core.specs.declared.seat.Seat.TheVariants as SeatIs
use Rattle.scan_core.specs.Claims.{Lacks, IsClaim}
use Rattle.scan_core.specs.CoreView.{CoreView}
use Rattle.scan_core.specs.Events.{core_wants}
use Rattle.scan_core.specs.CoreSteps.{Steps, after_step}
use Rattle.scan_core.specs.Running.{RunsOnTo}
use Rattle.scan_core.specs.Seats.{left_at, looking, worker_of, SeatFits, seat_or_spent}
use Rattle.scan_core.specs.Inside.{Entry, State, held_of, row_of, machine_of, seen, left_in, HoldsAt}
use Rattle.scan_core.proofs.ListLemmas.{map_set, map_append, length_map}
use Rattle.scan_core.proofs.UnitLemmas.{unit_path}
use Rattle.scan_core.proofs.RowLookups.{held_looked_up}
use Rattle.scan_core.proofs.SeatLemmas.{worker_of_seat, asked_path}
use Rattle.scan_core.proofs.Answering.{answered_at, answered_worker, answered_fits, answered_left, still_less}
use Rattle.scan_core.proofs.Changing.{ClaimsStay, seat_stays, after, holds_after, steps_after, less_after, move_of, moved_is}

reading_less : (x : ℕ) → 4 * x + 7 - 1 < 4 * x + 7
reading_less x = omega arith

spent_less : (x : ℕ) → 2 < 4 * x + 7
spent_less x = omega arith

pub looks_asking : {R : Type 0} (content : R → Content (List ℕ)) (s : State R) → HoldsAt content s → (w n : ℕ) (u : UnitView) → slice_get s.seats w ≡ Some (SeatIs.Looks n u) → IsAsking u.phase
looks_asking content s holds w n u at = let fits = holds.seats w (SeatIs.Looks n u) at in subst IsAsking (sym fits.1.1) tt

module _ {R : Type 0} (content : R → Content (List ℕ)) (s : State R) (holds : HoldsAt content s) (w n : ℕ) (u : UnitView) (at : slice_get s.seats w ≡ Some (SeatIs.Looks n u))
    (of : List ℕ) (one : asked_by u.phase ≡ of ∷ []) where
  abbrev m : Machine
  m = machine_of content s

  fits : SeatFits {R = R} s.jobs s.settings m.rows w (SeatIs.Looks n u)
  fits = holds.seats w (SeatIs.Looks n u) at

  asks : u.phase ≡ Asks of
  asks = asked_path u of fits.1.0 one fits.1.1

  worker_is : worker_at m w ≡ machine.At n (length u.answers)
  worker_is = worker_of_seat content s.seats w (SeatIs.Looks n u) at

  path_is : path_at s.jobs s.settings m.rows n (length u.answers) ≡ Some of
  path_is = unit_path s.jobs s.settings m.rows n u of fits.0 asks

  -- the machine's look, by what the row holds
  look_is : (held : Option Held) → held_at m.rows of ≡ held → moved s.jobs s.settings m (move_of {A = ℕ} {E = ℕ} (Ok 0) (Look w)) ≡ look_held m w n (length u.answers) of held
  look_is held h =
      ap (λ z. look s.jobs s.settings m w z) worker_is ∙ ap (λ z. look_path m w n (length u.answers) z) path_is ∙ ap (λ z. look_held m w n (length u.answers) of z) h

  -- where another claimed the path it waits
  pub not_claimed : (v : CoreView) (x : ℕ) → seen content s ≡ v → core_wants v w ≡ Look_wanted → Some (KeptIs.Claimed x) ≡ lookup (λ key. pointwise nat_eq of key.items) s.entries → ⊥
  not_claimed v x is wants found =
      let held : held_at m.rows of ≡ Some (Claimed x) = held_looked_up content s.entries of ∙ ap (λ z. option_map (held_of content) z) (sym found) in
      let waits : core_wants (seen content s) w ≡ Waits =
      ap (λ z. wants_as s.jobs s.settings m.rows z) worker_is ∙ ap (λ z. wants_path m.rows z) path_is ∙ ap (λ z. wants_held z) held in
      let no : Waits ≡ Look_wanted = sym waits ∙ ap (λ (z : CoreView). core_wants z w) is ∙ wants in cc

  spent_is : look_spent m w (worker_at m w) ≡ record m { workers = slice_set m.workers w (machine.Spent n) }
  spent_is = ap (λ z. look_spent m w z) worker_is

  -- ## The row is done

  module _ (r : R) (found : Some (KeptIs.Done r) ≡ lookup (λ key. pointwise nat_eq of key.items) s.entries) (next : Result (Seat R) NoMemory)
      (told : IfOk next (RunsOnTo n (given u (reduced_content (content r))) (rank u.work))) where
    row_is : held_at m.rows of ≡ Some (Done (content r))
    row_is = held_looked_up content s.entries of ∙ ap (λ z. option_map (held_of content) z) (sym found)

    in_map : map_of m.rows of ≡ Some (content r)
    in_map = ap done_of row_is

    abbrev pub answered : State R
    answered = after content s holds w (SeatIs.Looks n u) at s.entries s.next s.ends (seat_or_spent n next)

    workers_answered : map (worker_of content) (slice_set s.seats w (seat_or_spent n next)) ≡ slice_set m.workers w (answered_at next n (length u.answers))
    workers_answered =
        map_set (worker_of content) s.seats w (seat_or_spent n next)
        ∙ ap (λ z. slice_set m.workers w z) (answered_worker s.jobs s.settings m.rows n u of (content r) fits.0 asks in_map content w next told)

    answered_by : (result : Result (Seat R) NoMemory) → record m { workers = slice_set m.workers w (answered_at result n (length u.answers)) } ≡ moved s.jobs s.settings m (move_of result (Look w))
    answered_by (Ok seat) = sym (look_is (Some (Done (content r))) row_is)
    answered_by (Err none) = sym spent_is

    machine_answered : machine_of content answered ≡ moved s.jobs s.settings m (move_of next (Look w))
    machine_answered = ap (λ z. record m { workers = z }) workers_answered ∙ answered_by next

    pub holds_answered : HoldsAt content answered
    holds_answered = holds_after content s holds w (SeatIs.Looks n u) at s.entries s.next s.ends (seat_or_spent n next) (move_of next (Look w)) machine_answered
        (grows_refl m.rows) (λ x differ i p claimed. claimed) (answered_fits s.jobs s.settings m.rows n u of (content r) fits.0 asks in_map content w next told)

    less_answered : left_in answered < left_in s
    less_answered = less_after content s holds w (SeatIs.Looks n u) at s.entries s.next s.ends (seat_or_spent n next) refl
        (still_less (left_at (seat_or_spent n next)) (rank u.work) (answered_left s.jobs s.settings m.rows n u of (content r) fits.0 asks in_map content w next told))

    pub steps_answered : Steps (seen content s) (seen content answered) (after_step next s.jobs s.settings m (Look w))
    steps_answered = steps_after content s holds w (SeatIs.Looks n u) at s.entries s.next s.ends (seat_or_spent n next) (after_step next s.jobs s.settings m (Look w))
        (machine_answered ∙ moved_is next s.jobs s.settings m (Look w)) less_answered holds_answered

  -- ## There is no row

  pub lacks_asked : Lacks s.entries of → (other : List ℕ) → asked_by u.phase ≡ other ∷ [] → Lacks s.entries other
  lacks_asked lacks other h = let e : of ∷ [] ≡ other ∷ [] = sym one ∙ h in let same : of ≡ other = cc in subst (λ z. Lacks s.entries z) same lacks

  pub claim_of : (entries : List (Entry R)) (result : Result (Seat R) NoMemory) →
      IfOk result (λ seat. (seat ≡ SeatIs.Reads n u (length s.entries)) × ((other : List ℕ) → asked_by u.phase ≡ other ∷ [] → IsClaim s.entries entries other w)) →
      IfOk result (λ seat. (seat ≡ SeatIs.Reads n u (length s.entries)) × IsClaim s.entries entries of w)
  claim_of entries (Ok seat) h = (h.0, h.1 of one)
  claim_of entries (Err none) h = tt

  module _ (lacks : Lacks s.entries of) where
    no_row : held_at m.rows of ≡ None
    no_row = held_looked_up content s.entries of ∙ ap (λ z. option_map (held_of content) z) lacks

    module _ (entries : List (Entry R)) (next : Result (Seat R) NoMemory)
        (ok : IfOk next (λ seat. (seat ≡ SeatIs.Reads n u (length s.entries)) × IsClaim s.entries entries of w)) (err : OnErr next (entries ≡ s.entries)) where
      abbrev pub claimed : State R
      claimed = after content s holds w (SeatIs.Looks n u) at entries s.next s.ends (seat_or_spent n next)

      -- the rows that are added: one, or without memory none
      abbrev added : Result (Seat R) NoMemory → List Row
      added (Ok seat) = record { path = of; held = Claimed w } ∷ []
      added (Err none) = []

      rows_by : (result : Result (Seat R) NoMemory) → IfOk result (λ seat. (seat ≡ SeatIs.Reads n u (length s.entries)) × IsClaim s.entries entries of w) → OnErr result (entries ≡ s.entries) →
          map (row_of content) entries ≡ m.rows ++ added result
      rows_by (Ok seat) h k =
          ap (λ z. map (row_of content) z) h.1.rows ∙ map_append (row_of content) s.entries ((h.1.key, KeptIs.Claimed w) ∷ [])
          ∙ ap (λ (z : List ℕ). m.rows ++ record { path = z; held = Claimed w } ∷ []) h.1.path_is
      rows_by (Err none) h k = ap (λ z. map (row_of content) z) k ∙ sym (append-nil m.rows)

      rows_now : map (row_of content) entries ≡ m.rows ++ added next
      rows_now = rows_by next ok err

      grow : RowsGrow m.rows (map (row_of content) entries)
      grow = subst (λ z. RowsGrow m.rows z) (sym rows_now) (grows_append m.rows (added next))

      stay : (v : ℕ) → ClaimsStay m.rows (map (row_of content) entries) v
      stay v = subst (λ z. ClaimsStay m.rows z v) (sym rows_now) (λ i p there. get_append m.rows (added next) i (record { path = p; held = Claimed v }) there)

      machine_by : (result : Result (Seat R) NoMemory) → IfOk result (λ seat. (seat ≡ SeatIs.Reads n u (length s.entries)) × IsClaim s.entries entries of w) → OnErr result (entries ≡ s.entries) →
          record m { rows = map (row_of content) entries; workers = slice_set m.workers w (worker_of content (seat_or_spent n result)) } ≡ moved s.jobs s.settings m (move_of result (Look w))
      machine_by (Ok seat) h k =
          ap (λ z. record m { rows = z; workers = slice_set m.workers w (worker_of content seat) }) (rows_by (Ok seat) h k)
          ∙ ap (λ z. record m { rows = m.rows ++ record { path = of; held = Claimed w } ∷ []; workers = slice_set m.workers w (worker_of content z) }) h.0 ∙ sym (look_is None no_row)
      machine_by (Err none) h k = ap (λ z. record m { rows = map (row_of content) z; workers = slice_set m.workers w (machine.Spent n) }) k ∙ sym spent_is

      machine_claimed : machine_of content claimed ≡ moved s.jobs s.settings m (move_of next (Look w))
      machine_claimed =
          ap (λ z. record m { rows = map (row_of content) entries; workers = z }) (map_set (worker_of content) s.seats w (seat_or_spent n next)) ∙ machine_by next ok err

      row_claimed : slice_get (m.rows ++ record { path = of; held = Claimed w } ∷ []) (length s.entries) ≡ Some (record { path = of; held = Claimed w })
      row_claimed =
          ap (λ k. slice_get (m.rows ++ record { path = of; held = Claimed w } ∷ []) k) (sym (length_map (row_of content) s.entries)) ∙ get_last m.rows (record { path = of; held = Claimed w })

      reads_fits : (more : List Row) → more ≡ m.rows ++ record { path = of; held = Claimed w } ∷ [] → SeatFits {R = R} s.jobs s.settings more w (SeatIs.Looks n u) →
          SeatFits {R = R} s.jobs s.settings more w (SeatIs.Reads n u (length s.entries))
      reads_fits more is looks = (looks.0, record { path = of; asks = asks; claimed = ap (λ z. slice_get z (length s.entries)) is ∙ row_claimed })

      fits_by : (result : Result (Seat R) NoMemory) → IfOk result (λ seat. (seat ≡ SeatIs.Reads n u (length s.entries)) × IsClaim s.entries entries of w) →
          map (row_of content) entries ≡ m.rows ++ added result → SeatFits s.jobs s.settings (map (row_of content) entries) w (seat_or_spent n result)
      fits_by (Ok seat) h is = subst (λ (z : Seat R). SeatFits s.jobs s.settings (map (row_of content) entries) w z) (sym h.0)
          (reads_fits (map (row_of content) entries) is (seat_stays {R = R} s.jobs s.settings m.rows (map (row_of content) entries) w grow (stay w) (SeatIs.Looks n u) fits))
      fits_by (Err none) h is = tt

      pub holds_claimed : HoldsAt content claimed
      holds_claimed = holds_after content s holds w (SeatIs.Looks n u) at entries s.next s.ends (seat_or_spent n next) (move_of next (Look w)) machine_claimed
          grow (λ v differ. stay v) (fits_by next ok rows_now)

      left_by : (result : Result (Seat R) NoMemory) → IfOk result (λ seat. (seat ≡ SeatIs.Reads n u (length s.entries)) × IsClaim s.entries entries of w) → left_at (seat_or_spent n result) < looking u.work
      left_by (Ok seat) h = subst (λ (z : Seat R). left_at z < looking u.work) (sym h.0) (reading_less (rank u.work))
      left_by (Err none) h = spent_less (rank u.work)

      pub steps_claimed : Steps (seen content s) (seen content claimed) (after_step next s.jobs s.settings m (Look w))
      steps_claimed = steps_after content s holds w (SeatIs.Looks n u) at entries s.next s.ends (seat_or_spent n next) (after_step next s.jobs s.settings m (Look w))
          (machine_claimed ∙ moved_is next s.jobs s.settings m (Look w)) (less_after content s holds w (SeatIs.Looks n u) at entries s.next s.ends (seat_or_spent n next) refl (left_by next ok))
          holds_claimed
