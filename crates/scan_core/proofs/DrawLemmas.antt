-- An idle worker takes the next number.
use Rattle.std.proofs.Common.{◌≡◌, ◌<◌, ◌≤◌, ◌+◌, ◌*◌, ℕ, zero, suc, Bool, true, false, nat_lt, if◌then◌else◌, List, [], ◌∷◌, map, length, slice_get, refl, ap, sym, ◌∙◌, subst, Option, Some, None, arith}
use Rattle.std.specs.Prelude.{IfOk, OnErr, Result, slice_set, ◌^◌, min, ◌-◌, sum}
use Rattle.std.specs.declared.result.Result.TheVariants.{Ok, Err}
use Rattle.std.proofs.lemmas.Bool.Decides.{nat_tests}
use Rattle.std.proofs.lemmas.Option.{slice_get_within}
use Rattle.scan_model.specs.declared.memory.NoMemory.{NoMemory}
use Rattle.scan_model.specs.declared.command.Settings.{Settings}
use Rattle.scan_model.specs.declared.command.Command.{Command}
use Rattle.scan_model.specs.declared.command.Job.{Job}
use Rattle.scan_model.specs.declared.command.Job.TheVariants as JobIs
use Rattle.scan_model.specs.Files.{Content}
use Rattle.unit_laws.specs.KnownAnswers.{Agrees}
use Rattle.unit_steps.specs.UnitView.{UnitView, Fits, IsSameScan}
use Rattle.unit_steps.specs.Work.{rank}
use Rattle.unit_scan.specs.Told.{rank_limit}
use Rattle.cache_machine.specs.Rows.{Row, map_of}
use Rattle.cache_machine.specs.Machine.{Worker, Idle, worker_at}
use Rattle.cache_machine.specs.Machine as machine
use Rattle.cache_machine.specs.Steps.{Draw, drawn, draw}
use Rattle.cache_machine.specs.Spending.{draw_spent}
use Rattle.cache_machine.specs.Wants.{Draw_wanted}
use Rattle.cache_machine.specs.Numbers.{one_if, is_over, overs}
use Rattle.cache_machine.specs.Runs.{moved}
use Rattle.cache_machine.proofs.Reached.{reached_sound}
use Rattle.cache_machine.proofs.RowLemmas.{grows_refl}
use Rattle.scan_core.specs.declared.seat.Seat.{Seat}
use Rattle.scan_core.specs.declared.seat.Seat.TheVariants as SeatIs
use Rattle.scan_core.specs.CoreView.{CoreView}
use Rattle.scan_core.specs.CoreSteps.{Steps, after_step}
use Rattle.scan_core.specs.Events.{core_wants}
use Rattle.scan_core.specs.Running.{RunsOnTo, IsFirstSeat}
use Rattle.scan_core.specs.Seats.{command_limit, left_at, worker_of, IsUnitOf, SeatFits, seat_or_spent}
use Rattle.scan_core.specs.Inside.{State, rows_of, machine_of, seen, left_in, HoldsAt}
use Rattle.scan_core.proofs.ListLemmas.{map_set, length_set, length_map, get_map, sum_set}
use Rattle.scan_core.proofs.SeatLemmas.{worker_of_seat}
use Rattle.scan_core.proofs.WantingSeats.{idle_seat}
use Rattle.scan_core.proofs.Answering.{asking_path}
use Rattle.scan_core.proofs.Changing.{after, holds_after, steps_after, move_of, moved_is}

-- ## The number

within_drawn : (jobs : List Job) (n : ℕ) → n < length jobs → drawn jobs n ≡ machine.At n 0
within_drawn jobs n h = let k : nat_lt n (length jobs) ≡ true = grind (arith, nat_tests) in ap (λ b. if b then machine.At n 0 else machine.Over) k

past : {A : Type 0} (xs : List A) (n : ℕ) → slice_get xs n ≡ None → length xs ≤ n
past [] n h = omega arith
past (x ∷ xs) zero h = cc
past (x ∷ xs) (suc n) h = let k = past xs n h in omega arith

past_drawn : (jobs : List Job) (n : ℕ) → slice_get jobs n ≡ None → drawn jobs n ≡ machine.Over
past_drawn jobs n h = let k = past jobs n h in let b : nat_lt n (length jobs) ≡ false = grind (arith, nat_tests) in ap (λ z. if z then machine.At n 0 else machine.Over) b

-- ## The first seat

module _ {R : Type 0} (content : R → Content (List ℕ)) where
  run_worker : (n limit : ℕ) (u : UnitView) (seat : Seat R) → u.answers ≡ [] → RunsOnTo n u limit seat → worker_of content seat ≡ machine.At n 0
  run_worker n limit u (SeatIs.Looks m v) none h = ap (λ z. machine.At z (length v.answers)) h.0 ∙ ap (λ z. machine.At n (length z)) (h.1.0.answers ∙ none)
  run_worker n limit u (SeatIs.Ends m v) none h = ap (λ z. machine.At z (length v.answers)) h.0 ∙ ap (λ z. machine.At n (length z)) (h.1.0.answers ∙ none)
  run_worker n limit u SeatIs.Idle none h = absurd h
  run_worker n limit u (SeatIs.Refused m f) none h = absurd h
  run_worker n limit u (SeatIs.Reads m v i) none h = absurd h
  run_worker n limit u (SeatIs.Holds m v i r) none h = absurd h
  run_worker n limit u (SeatIs.Spent m) none h = absurd h
  run_worker n limit u SeatIs.Over none h = absurd h

  first_worker : (jobs : List Job) (settings : Settings) (n : ℕ) (job : Option Job) (seat : Seat R) → slice_get jobs n ≡ job → IsFirstSeat settings n job seat → worker_of content seat ≡ drawn jobs n
  first_worker jobs settings n None seat at h = ap (worker_of content) h ∙ sym (past_drawn jobs n at)
  first_worker jobs settings n (Some (JobIs.Refused f)) seat at h = ap (worker_of content) h ∙ sym (within_drawn jobs n (slice_get_within jobs n (JobIs.Refused f) at))
  first_worker jobs settings n (Some (JobIs.Run command)) seat at h =
      run_worker n rank_limit h.0 seat h.1.1.1.0 h.1.1.1.1 ∙ sym (within_drawn jobs n (slice_get_within jobs n (JobIs.Run command) at))

first_left : (a : ℕ) → a < rank_limit → 4 * a + 7 < command_limit
first_left a h = omega arith

ending_left : 2 < command_limit
ending_left = omega arith

none_left : 0 < command_limit
none_left = omega arith

module _ {R : Type 0} where
  run_left : (n : ℕ) (u : UnitView) (seat : Seat R) → RunsOnTo n u rank_limit seat → left_at seat < command_limit
  run_left n u (SeatIs.Looks m v) h = first_left (rank v.work) h.1.1.1.1
  run_left n u (SeatIs.Ends m v) h = ending_left
  run_left n u SeatIs.Idle h = absurd h
  run_left n u (SeatIs.Refused m f) h = absurd h
  run_left n u (SeatIs.Reads m v i) h = absurd h
  run_left n u (SeatIs.Holds m v i r) h = absurd h
  run_left n u (SeatIs.Spent m) h = absurd h
  run_left n u SeatIs.Over h = absurd h

  left_first : (settings : Settings) (n : ℕ) (job : Option Job) (seat : Seat R) → IsFirstSeat settings n job seat → left_at seat < command_limit
  left_first settings n None seat h = subst (λ (z : Seat R). left_at z < command_limit) (sym h) none_left
  left_first settings n (Some (JobIs.Refused f)) seat h = subst (λ (z : Seat R). left_at z < command_limit) (sym h) ending_left
  left_first settings n (Some (JobIs.Run command)) seat h = run_left n h.0 seat h.1.1.1.1

first_unit : (jobs : List Job) (settings : Settings) (rows : List Row) (n : ℕ) (command : Command) (u v : UnitView) → slice_get jobs n ≡ Some (JobIs.Run command) → u.command ≡ command → u.settings ≡ settings → u.answers ≡ [] → IsSameScan u v → Fits v →
    IsUnitOf jobs settings rows n v
first_unit jobs settings rows n command u v at is settings_are none same fits = record {
  job = at ∙ ap (λ z. Some (JobIs.Run z)) (sym (same.command ∙ is));
  settings_are = same.settings ∙ settings_are;
  fits = fits;
  agrees = subst (λ z. Agrees (map_of rows) z) (sym (same.answers ∙ none)) tt;
}

module _ {R : Type 0} (jobs : List Job) (settings : Settings) (rows : List Row) (w n : ℕ) where
  run_fits : (command : Command) (limit : ℕ) (u : UnitView) (seat : Seat R) → slice_get jobs n ≡ Some (JobIs.Run command) → u.command ≡ command → u.settings ≡ settings → u.answers ≡ [] →
      RunsOnTo n u limit seat → SeatFits jobs settings rows w seat
  run_fits command limit u (SeatIs.Looks m v) at is settings_are none h =
      (subst (λ z. IsUnitOf jobs settings rows z v) (sym h.0) (first_unit jobs settings rows n command u v at is settings_are none h.1.0 h.1.1.0), asking_path v.phase h.1.1.1.0)
  run_fits command limit u (SeatIs.Ends m v) at is settings_are none h =
      (subst (λ z. IsUnitOf jobs settings rows z v) (sym h.0) (first_unit jobs settings rows n command u v at is settings_are none h.1.0 h.1.1.0), h.1.1.1)
  run_fits command limit u SeatIs.Idle at is settings_are none h = absurd h
  run_fits command limit u (SeatIs.Refused m f) at is settings_are none h = absurd h
  run_fits command limit u (SeatIs.Reads m v i) at is settings_are none h = absurd h
  run_fits command limit u (SeatIs.Holds m v i r) at is settings_are none h = absurd h
  run_fits command limit u (SeatIs.Spent m) at is settings_are none h = absurd h
  run_fits command limit u SeatIs.Over at is settings_are none h = absurd h

  first_fits : (job : Option Job) (seat : Seat R) → slice_get jobs n ≡ job → IsFirstSeat settings n job seat → SeatFits jobs settings rows w seat
  first_fits None seat at h = subst (λ (z : Seat R). SeatFits jobs settings rows w z) (sym h) tt
  first_fits (Some (JobIs.Refused f)) seat at h = subst (λ (z : Seat R). SeatFits jobs settings rows w z) (sym h) at
  first_fits (Some (JobIs.Run command)) seat at h = run_fits command rank_limit h.0 seat at h.1.0 h.1.1.0 h.1.1.1.0 h.1.1.1.1

-- ## The numbers that are left

one_most : (b : Bool) → one_if b ≤ 1
one_most true = omega arith
one_most false = omega arith

overs_most : (ws : List Worker) → overs ws ≤ length ws
overs_most [] = omega arith
overs_most (x ∷ ws) = let k = overs_most ws in let one = one_most (is_over x) in omega arith

-- a worker that isn't over is no part of the overs
overs_but_one : (ws : List Worker) (w : ℕ) (s : Worker) → slice_get ws w ≡ Some s → is_over s ≡ false → overs ws < length ws
overs_but_one [] w s at h = cc
overs_but_one (x ∷ ws) zero s at h =
    let e : x ≡ s = cc in let none : one_if (is_over x) ≡ 0 = ap (λ z. one_if (is_over z)) e ∙ ap one_if h in let most = overs_most ws in omega arith
overs_but_one (x ∷ ws) (suc w) s at h = let k = overs_but_one ws w s at h in let one = one_most (is_over x) in omega arith

fewer : (jobs seats next overs : ℕ) → min next jobs + overs ≡ next → overs < seats → next < jobs + seats
fewer jobs seats next overs h k = grind arith

one_more_limit : (d limit before after : ℕ) → after < limit + before → d * limit + after < (d + 1) * limit + before
one_more_limit d limit before after h = let e : (d + 1) * limit ≡ d * limit + limit = grind arith in omega arith

drawn_left : (total next limit seat before after : ℕ) → next < total → after + 1 ≡ before + seat → seat < limit → (total - (next + 1)) * limit + after < (total - next) * limit + before
drawn_left total next limit seat before after h sums less =
    let rest = total - (next + 1) in
    let one : total - next ≡ rest + 1 = omega arith in
    subst (λ z. rest * limit + after < z * limit + before) (sym one) (one_more_limit rest limit before after (omega arith))

module _ {R : Type 0} (content : R → Content (List ℕ)) (s : State R) (holds : HoldsAt content s) (v : CoreView) (is : seen content s ≡ v) (w : ℕ)
    (wants : core_wants v w ≡ Draw_wanted) where
  pub at : slice_get s.seats w ≡ Some SeatIs.Idle
  at = idle_seat content s holds v is w wants

  -- there are few numbers
  pub next_within : s.next < length s.jobs + length s.seats
  next_within =
      let sound = reached_sound s.jobs s.settings (length (map (worker_of content) s.seats)) (machine_of content s) holds.reached in
      let some = overs_but_one (map (worker_of content) s.seats) w machine.Idle (get_map (worker_of content) s.seats w SeatIs.Idle at) refl in
      let same = length_map (worker_of content) s.seats in
      fewer (length s.jobs) (length s.seats) s.next (overs (map (worker_of content) s.seats)) sound.over (omega arith)

  pub next_fits : s.next + 1 < 2 ^ 32
  next_fits = let k = next_within in let a = holds.few_jobs in let b = holds.few_seats in omega arith

  module _ (next : Result (Seat R) NoMemory) (first : IfOk next (IsFirstSeat s.settings s.next (slice_get s.jobs s.next))) (job : OnErr next (s.next < length s.jobs)) where
    abbrev pub drew : State R
    drew = after content s holds w SeatIs.Idle at s.entries (s.next + 1) s.ends (seat_or_spent s.next next)

    idle : worker_at (machine_of content s) w ≡ Idle
    idle = worker_of_seat content s.seats w SeatIs.Idle at

    -- the machine draws
    drawn_by : (result : Result (Seat R) NoMemory) → IfOk result (IsFirstSeat s.settings s.next (slice_get s.jobs s.next)) → OnErr result (s.next < length s.jobs) →
        record (machine_of content s) { next = s.next + 1; workers = map (worker_of content) (slice_set s.seats w (seat_or_spent s.next result)) }
        ≡ moved s.jobs s.settings (machine_of content s) (move_of result (Draw w))
    drawn_by (Ok seat) h k =
        let set = map_set (worker_of content) s.seats w seat in
        let worker = first_worker content s.jobs s.settings s.next (slice_get s.jobs s.next) seat refl h in
        ap (λ z. record (machine_of content s) { next = s.next + 1; workers = z }) (set ∙ ap (λ z. slice_set (map (worker_of content) s.seats) w z) worker)
        ∙ sym (ap (λ z. draw s.jobs (machine_of content s) w z) idle)
    drawn_by (Err none) h k =
        let set = map_set (worker_of content) s.seats w (SeatIs.Spent s.next) in
        let within : nat_lt s.next (length s.jobs) ≡ true = grind (arith, nat_tests) in
        ap (λ z. record (machine_of content s) { next = s.next + 1; workers = z }) set
        ∙ sym (ap (λ z. draw_spent s.jobs (machine_of content s) w z) idle ∙ ap (λ b. if b then record (machine_of content s) { next = s.next + 1; workers = slice_set (map (worker_of content) s.seats) w (machine.Spent s.next) } else machine_of content s) within)

    fits_by : (result : Result (Seat R) NoMemory) → IfOk result (IsFirstSeat s.settings s.next (slice_get s.jobs s.next)) → SeatFits s.jobs s.settings (rows_of content s) w (seat_or_spent s.next result)
    fits_by (Ok seat) h = first_fits s.jobs s.settings (rows_of content s) w s.next (slice_get s.jobs s.next) seat refl h
    fits_by (Err none) h = tt

    left_by : (result : Result (Seat R) NoMemory) → IfOk result (IsFirstSeat s.settings s.next (slice_get s.jobs s.next)) → left_at (seat_or_spent s.next result) < command_limit
    left_by (Ok seat) h = left_first s.settings s.next (slice_get s.jobs s.next) seat h
    left_by (Err none) h = ending_left

    pub holds_drawn : HoldsAt content drew
    holds_drawn = holds_after content s holds w SeatIs.Idle at s.entries (s.next + 1) s.ends (seat_or_spent s.next next) (move_of next (Draw w)) (drawn_by next first job)
        (grows_refl (rows_of content s)) (λ x differ i of claimed. claimed) (fits_by next first)

    less_drawn : left_in drew < left_in s
    less_drawn =
        let lengths = length_set s.seats w (seat_or_spent s.next next) in
        let sums = sum_set left_at s.seats w SeatIs.Idle (seat_or_spent s.next next) at in
        subst (λ k. (length s.jobs + k - (s.next + 1)) * command_limit + sum (map left_at (slice_set s.seats w (seat_or_spent s.next next))) < left_in s) (sym lengths)
        (drawn_left (length s.jobs + length s.seats) s.next command_limit (left_at (seat_or_spent s.next next)) (sum (map left_at s.seats))
        (sum (map left_at (slice_set s.seats w (seat_or_spent s.next next)))) next_within sums (left_by next first))

    pub steps_drawn : Steps (seen content s) (seen content drew) (after_step next s.jobs s.settings (machine_of content s) (Draw w))
    steps_drawn = steps_after content s holds w SeatIs.Idle at s.entries (s.next + 1) s.ends (seat_or_spent s.next next)
        (after_step next s.jobs s.settings (machine_of content s) (Draw w)) (drawn_by next first job ∙ moved_is next s.jobs s.settings (machine_of content s) (Draw w)) less_drawn holds_drawn
