-- One worker goes on at another seat.
use Rattle.std.proofs.Common.{◌≡◌, ◌≢◌, ◌<◌, ◌+◌, ℕ, List, [], ◌∷◌, ◌++◌, map, length, slice_get, refl, ap, sym, ◌∙◌, subst, Option, Some, None, arith}
use Rattle.std.specs.Prelude.{slice_set, slice_index_or, ◌-◌, ◌*◌, Result, OnErr}
use Rattle.std.specs.Option.{option_map}
use Rattle.std.specs.declared.result.Result.TheVariants.{Ok, Err}
use Rattle.scan_model.specs.declared.memory.NoMemory.{NoMemory}
use Rattle.scan_model.specs.declared.command.Settings.{Settings}
use Rattle.scan_model.specs.declared.command.Job.{Job}
use Rattle.scan_model.specs.declared.unit_end.UnitEnd.{UnitEnd}
use Rattle.scan_model.specs.Files.{Content, FileMap}
use Rattle.unit_laws.specs.Growth.{Extends}
use Rattle.unit_laws.specs.Reduction.{Given, reduced_content}
use Rattle.unit_laws.specs.KnownAnswers.{Agrees}
use Rattle.unit_steps.specs.UnitView.{UnitView}
use Rattle.cache_machine.specs.Rows.{Row, Claimed, map_of}
use Rattle.cache_machine.specs.RowGrowth.{RowsGrow}
use Rattle.cache_machine.specs.Machine.{Machine}
use Rattle.cache_machine.specs.Machine as machine
use Rattle.cache_machine.specs.Steps.{Event, act}
use Rattle.cache_machine.specs.Runs.{Move, Goes, Fails, moved, run, start, IsReached}
use Rattle.cache_machine.proofs.RowLemmas.{extends}
use Rattle.scan_core.specs.declared.seat.Seat.{Seat}
use Rattle.scan_core.specs.declared.seat.Seat.TheVariants as SeatIs
use Rattle.scan_core.specs.CoreView.{CoreView}
use Rattle.scan_core.specs.CoreSteps.{Steps, after_step}
use Rattle.scan_core.specs.Ends.{SameEnd}
use Rattle.scan_core.specs.Seats.{command_limit, left_at, worker_of, IsUnitOf, HasRow, SeatFits, seat_or_spent}
use Rattle.scan_core.specs.Inside.{Entry, State, rows_of, machine_of, seen, left_in, HoldsAt}
use Rattle.scan_core.proofs.ListLemmas.{length_set, length_map, each_set, sum_set, get_set}
use Rattle.scan_core.proofs.SeatLemmas.{worker_of_seat}

-- ## Other seats

given_stays : (found later : Option (Content (List ℕ))) (is : Given) → ((told : Content (List ℕ)) → found ≡ Some told → later ≡ Some told) →
    option_map reduced_content found ≡ Some is → option_map reduced_content later ≡ Some is
given_stays None later is each h = cc
given_stays (Some told) later is each h = ap (λ z. option_map reduced_content z) (each told refl) ∙ h

agrees_more : (files more : FileMap (List ℕ)) → Extends (List ℕ) files more → (answers : List (List ℕ × Given)) → Agrees files answers → Agrees more answers
agrees_more files more grow [] agree = tt
agrees_more files more grow (a ∷ answers) agree =
    (given_stays (files a.0) (more a.0) a.1 (λ told h. grow a.0 told h) agree.0, agrees_more files more grow answers agree.1)

pub unit_stays : (jobs : List Job) (settings : Settings) (rows more : List Row) (n : ℕ) (u : UnitView) → RowsGrow rows more → IsUnitOf jobs settings rows n u → IsUnitOf jobs settings more n u
unit_stays jobs settings rows more n u grow h = record {
  job = h.job;
  settings_are = h.settings_are;
  fits = h.fits;
  agrees = agrees_more (map_of rows) (map_of more) (extends rows more grow) u.answers h.agrees;
}

-- rows that this worker claimed stay at their places
abbrev pub ClaimsStay : List Row → List Row → ℕ → Type 0
ClaimsStay rows more w = (i : ℕ) (path : List ℕ) → slice_get rows i ≡ Some (record { path = path; held = Claimed w }) → slice_get more i ≡ Some (record { path = path; held = Claimed w })

row_stays : (rows more : List Row) (w : ℕ) (u : UnitView) (i : ℕ) → ClaimsStay rows more w → HasRow rows w u i → HasRow more w u i
row_stays rows more w u i stay h = record { path = h.path; asks = h.asks; claimed = stay i h.path h.claimed }

module _ {R : Type 0} (jobs : List Job) (settings : Settings) where
  pub seat_stays : (rows more : List Row) (w : ℕ) → RowsGrow rows more → ClaimsStay rows more w → (seat : Seat R) → SeatFits jobs settings rows w seat → SeatFits jobs settings more w seat
  seat_stays rows more w grow stay SeatIs.Idle h = h
  seat_stays rows more w grow stay (SeatIs.Refused n f) h = h
  seat_stays rows more w grow stay (SeatIs.Looks n u) h = (unit_stays jobs settings rows more n u grow h.0, h.1)
  seat_stays rows more w grow stay (SeatIs.Ends n u) h = (unit_stays jobs settings rows more n u grow h.0, h.1)
  seat_stays rows more w grow stay (SeatIs.Reads n u i) h = (unit_stays jobs settings rows more n u grow h.0, row_stays rows more w u i stay h.1)
  seat_stays rows more w grow stay (SeatIs.Holds n u i r) h = (unit_stays jobs settings rows more n u grow h.0, row_stays rows more w u i stay h.1)
  seat_stays rows more w grow stay (SeatIs.Spent n) h = h
  seat_stays rows more w grow stay SeatIs.Over h = h

-- ## One move more

run_more : (jobs : List Job) (settings : Settings) (moves : List Move) (move : Move) (m : Machine) → run jobs settings (moves ++ move ∷ []) m ≡ moved jobs settings (run jobs settings moves m) move
run_more jobs settings [] move m = refl
run_more jobs settings (x ∷ moves) move m = run_more jobs settings moves move (moved jobs settings m x)

reached_more : (jobs : List Job) (settings : Settings) (workers : ℕ) (m : Machine) (move : Move) → IsReached jobs settings workers m → IsReached jobs settings workers (moved jobs settings m move)
reached_more jobs settings workers m move h =
    (h.0 ++ move ∷ [], run_more jobs settings h.0 move (start jobs workers) ∙ ap (λ z. moved jobs settings z move) h.1)

pub reached_by : (jobs : List Job) (settings : Settings) (workers count : ℕ) (m now : Machine) (move : Move) → IsReached jobs settings workers m → now ≡ moved jobs settings m move → count ≡ workers →
    IsReached jobs settings count now
reached_by jobs settings workers count m now move h is same =
    subst (λ z. IsReached jobs settings count z) (sym is) (subst (λ z. IsReached jobs settings z (moved jobs settings m move)) (sym same) (reached_more jobs settings workers m move h))

-- the move that an event is, by whether there was memory
abbrev pub move_of : {A E : Type 0} → Result A E → Event → Move
move_of (Ok a) e = Goes e
move_of (Err none) e = Fails e

pub moved_is : {A E : Type 0} (result : Result A E) (jobs : List Job) (settings : Settings) (m : Machine) (e : Event) → moved jobs settings m (move_of result e) ≡ after_step result jobs settings m e
moved_is (Ok a) jobs settings m e = refl
moved_is (Err none) jobs settings m e = refl

pub after_same : {A B E F : Type 0} (result : Result A E) (other : Result B F) → SameEnd result other → (jobs : List Job) (settings : Settings) (m : Machine) (e : Event) →
    after_step other jobs settings m e ≡ after_step result jobs settings m e
after_same (Ok a) (Ok b) same jobs settings m e = refl
after_same (Ok a) (Err f) same jobs settings m e = absurd same
after_same (Err f) (Ok b) same jobs settings m e = absurd same
after_same (Err f) (Err g) same jobs settings m e = refl

less_by : (p q s t a b : ℕ) → p ≡ q → s + a ≡ t + b → b < a → p + s < q + t
less_by p q s t a b e sums less = omega arith

-- ## The change

module _ {R : Type 0} (content : R → Content (List ℕ)) (s : State R) (holds : HoldsAt content s) (w : ℕ) (seat : Seat R) (at : slice_get s.seats w ≡ Some seat)
    (entries : List (Entry R)) (next : ℕ) (ends : List (Option UnitEnd)) (b : Seat R) where
  -- with another seat, and what else is new
  abbrev pub after : State R
  after = record { jobs = s.jobs; settings = s.settings; entries = entries; next = next; seats = slice_set s.seats w b; ends = ends }

  workers_after : length (map (worker_of content) (slice_set s.seats w b)) ≡ length (map (worker_of content) s.seats)
  workers_after = length_map (worker_of content) (slice_set s.seats w b) ∙ length_set s.seats w b ∙ sym (length_map (worker_of content) s.seats)

  pub holds_after : (move : Move) → machine_of content after ≡ moved s.jobs s.settings (machine_of content s) move → RowsGrow (rows_of content s) (rows_of content after) →
      ((v : ℕ) → v ≢ w → ClaimsStay (rows_of content s) (rows_of content after) v) → SeatFits s.jobs s.settings (rows_of content after) w b → HoldsAt content after
  holds_after move is grow stay fits = record {
    reached = reached_by s.jobs s.settings (length (map (worker_of content) s.seats)) (length (map (worker_of content) (slice_set s.seats w b))) (machine_of content s) (machine_of content after)
        move holds.reached is workers_after;
    seats = each_set (λ v x. SeatFits s.jobs s.settings (rows_of content after) v x) s.seats w b
        (λ v x differ there. seat_stays s.jobs s.settings (rows_of content s) (rows_of content after) v grow (stay v differ) x (holds.seats v x there)) fits;
    jobs_fit = holds.jobs_fit;
    settings_fit = holds.settings_fit;
    few_jobs = holds.few_jobs;
    few_seats = let k = length_set s.seats w b in let few = holds.few_seats in omega arith;
  }

  pub steps_after : (to : Machine) → machine_of content after ≡ to → left_in after < left_in s → HoldsAt content after → Steps (seen content s) (seen content after) to
  steps_after to is less now = record {
    machine = is;
    left = less;
    scan = record { jobs = refl; settings = refl; workers = workers_after };
    reached = now.reached;
  }

  -- the same jobs are drawn, and less is left to the seat
  pub less_after : next ≡ s.next → left_at b < left_at seat → left_in after < left_in s
  less_after same less =
      let sums = sum_set left_at s.seats w seat b at in
      let lengths = length_set s.seats w b in
      let drawn : (length s.jobs + length (slice_set s.seats w b) - next) * command_limit ≡ (length s.jobs + length s.seats - s.next) * command_limit =
      ap (λ k. (length s.jobs + k - next) * command_limit) lengths ∙ ap (λ k. (length s.jobs + length s.seats - k) * command_limit) same in
      less_by _ _ _ _ _ _ drawn sums less

-- what was shown of the core's parts, said of what callers see
pub steps_told : {R A B E F : Type 0} (content : R → Content (List ℕ)) (s t now : State R) (v : CoreView) (result : Result A E) (next : Result B F) (e : Event) →
    seen content s ≡ v → SameEnd result next → now ≡ t → Steps (seen content s) (seen content t) (after_step next s.jobs s.settings (machine_of content s) e) →
    Steps v (seen content now) (after_step result v.jobs v.settings v.machine e)
steps_told content s t now v result next e is same at h =
    subst (λ (z : CoreView). Steps z (seen content now) (after_step result z.jobs z.settings z.machine e)) is
    (subst (λ z. Steps (seen content s) (seen content z) (after_step result s.jobs s.settings (machine_of content s) e)) (sym at)
    (subst (λ z. Steps (seen content s) (seen content t) z) (after_same result next same s.jobs s.settings (machine_of content s) e) h))

-- and of an event that takes no memory
pub went_told : {R : Type 0} (content : R → Content (List ℕ)) (s t now : State R) (v : CoreView) (e : Event) →
    seen content s ≡ v → now ≡ t → Steps (seen content s) (seen content t) (act s.jobs s.settings (machine_of content s) e) → Steps v (seen content now) (act v.jobs v.settings v.machine e)
went_told content s t now v e is at h =
    subst (λ (z : CoreView). Steps z (seen content now) (act z.jobs z.settings z.machine e)) is
    (subst (λ z. Steps (seen content s) (seen content z) (act s.jobs s.settings (machine_of content s) e)) (sym at) h)

-- a worker that found no memory is at a spent seat
spent_seat : {R : Type 0} (content : R → Content (List ℕ)) (seats : List (Seat R)) (w n : ℕ) (seat : Seat R) → slice_get seats w ≡ Some seat →
    slice_index_or (map (worker_of content) (slice_set seats w (SeatIs.Spent n))) w machine.Over ≡ machine.Spent n
spent_seat content seats w n seat at = worker_of_seat content (slice_set seats w (SeatIs.Spent n)) w (SeatIs.Spent n) (get_set seats w seat (SeatIs.Spent n) at)

pub spent_told : {R A E : Type 0} (content : R → Content (List ℕ)) (seats now : List (Seat R)) (w n : ℕ) (seat : Seat R) (result : Result A E) (next : Result (Seat R) NoMemory) →
    slice_get seats w ≡ Some seat → SameEnd result next → now ≡ slice_set seats w (seat_or_spent n next) →
    OnErr result ((m : ℕ) × (slice_index_or (map (worker_of content) now) w machine.Over ≡ machine.Spent m))
spent_told content seats now w n seat (Ok a) next at same is = tt
spent_told content seats now w n seat (Err e) (Ok other) at same is = absurd same
spent_told content seats now w n seat (Err e) (Err none) at same is =
    (n, ap (λ z. slice_index_or (map (worker_of content) z) w machine.Over) is ∙ spent_seat content seats w n seat at)
