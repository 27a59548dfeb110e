-- A unit whose path has its answer runs on: the worker's next seat, or want of memory.
use Rattle.std.proofs.Common.{◌≡◌, ◌<◌, ◌+◌, ◌*◌, ℕ, List, [], ◌∷◌, ◌++◌, length, refl, ap, sym, ◌∙◌, subst, Some, arith}
use Rattle.std.specs.Prelude.{IfOk, Result, ◌-◌}
use Rattle.std.specs.Option.{option_map}
use Rattle.std.specs.declared.result.Result.TheVariants.{Ok, Err}
use Rattle.scan_model.specs.declared.memory.NoMemory.{NoMemory}
use Rattle.scan_model.specs.declared.command.Settings.{Settings}
use Rattle.scan_model.specs.declared.command.Job.{Job}
use Rattle.scan_model.specs.declared.command.Job.TheVariants as JobIs
use Rattle.scan_model.specs.Files.{Content}
use Rattle.unit_laws.specs.Reduction.{reduced_content}
use Rattle.unit_laws.specs.KnownAnswers.{Agrees}
use Rattle.unit_steps.specs.UnitView.{UnitView, Phase, Asks, Over, Runs, Spent, Fits, IsAsking, IsSameScan, told, given}
use Rattle.unit_steps.specs.Work.{rank}
use Rattle.unit_steps.proofs.Callers.{agrees_given}
use Rattle.cache_machine.specs.Rows.{Row, map_of}
use Rattle.cache_machine.specs.Machine.{Worker}
use Rattle.cache_machine.specs.Machine as machine
use Rattle.scan_core.specs.declared.seat.Seat.{Seat}
use Rattle.scan_core.specs.declared.seat.Seat.TheVariants as SeatIs
use Rattle.scan_core.specs.Seats.{left_at, looking, worker_of, IsUnitOf, SeatFits, seat_or_spent}
use Rattle.scan_core.specs.Running.{RunsOnTo}
use Rattle.scan_core.proofs.ListLemmas.{length_push}

-- where its worker is then
abbrev pub answered_at : {A E : Type 0} → Result A E → ℕ → ℕ → Worker
answered_at (Ok a) n k = machine.At n (k + 1)
answered_at (Err none) n k = machine.Spent n

pub asking_path : (phase : Phase) → IsAsking phase → (of : List ℕ) × (phase ≡ Asks of)
asking_path (Asks path) h = (path, refl)
asking_path Runs h = absurd h
asking_path (Over end) h = absurd h
asking_path Spent h = absurd h

looking_less : (a b : ℕ) → a < b → 4 * a + 7 < 4 * b + 7 - 2
looking_less a b less = omega arith

ending_less : (b : ℕ) → 2 < 4 * b + 7 - 2
ending_less b = omega arith

pub still_less : (a b : ℕ) → a < 4 * b + 7 - 2 → a < 4 * b + 7
still_less a b less = omega arith

module _ (jobs : List Job) (settings : Settings) (rows : List Row) (n : ℕ) (u : UnitView) (of : List ℕ) (is : Content (List ℕ)) (fits : IsUnitOf jobs settings rows n u) (asks : u.phase ≡ Asks of)
    (found : map_of rows of ≡ Some is) where
  abbrev now : UnitView
  now = given u (reduced_content is)

  answers_now : now.answers ≡ u.answers ++ (of, reduced_content is) ∷ []
  answers_now = ap (λ z. u.answers ++ told z (reduced_content is)) asks

  agrees_now : Agrees (map_of rows) now.answers
  agrees_now = subst (λ z. Agrees (map_of rows) z) (sym answers_now) (agrees_given (map_of rows) u.answers of (reduced_content is) fits.agrees (ap (λ z. option_map reduced_content z) found))

  unit_now : (v : UnitView) → IsSameScan now v → Fits v → IsUnitOf jobs settings rows n v
  unit_now v same stands = record {
    job = fits.job ∙ ap (λ z. Some (JobIs.Run z)) (sym same.command);
    settings_are = same.settings ∙ fits.settings_are;
    fits = stands;
    agrees = subst (λ z. Agrees (map_of rows) z) (sym same.answers) agrees_now;
  }

  count_now : (v : UnitView) → IsSameScan now v → length v.answers ≡ length u.answers + 1
  count_now v same = ap (λ z. length z) (same.answers ∙ answers_now) ∙ length_push u.answers (of, reduced_content is)

  module _ {R : Type 0} (content : R → Content (List ℕ)) (w : ℕ) where
    seat_worker : (seat : Seat R) → RunsOnTo n now (rank u.work) seat → worker_of content seat ≡ machine.At n (length u.answers + 1)
    seat_worker (SeatIs.Looks m v) h = ap (λ z. machine.At z (length v.answers)) h.0 ∙ ap (λ z. machine.At n z) (count_now v h.1.0)
    seat_worker (SeatIs.Ends m v) h = ap (λ z. machine.At z (length v.answers)) h.0 ∙ ap (λ z. machine.At n z) (count_now v h.1.0)
    seat_worker SeatIs.Idle h = absurd h
    seat_worker (SeatIs.Refused m f) h = absurd h
    seat_worker (SeatIs.Reads m v i) h = absurd h
    seat_worker (SeatIs.Holds m v i r) h = absurd h
    seat_worker (SeatIs.Spent m) h = absurd h
    seat_worker SeatIs.Over h = absurd h

    seat_fits : (seat : Seat R) → RunsOnTo n now (rank u.work) seat → SeatFits jobs settings rows w seat
    seat_fits (SeatIs.Looks m v) h = (subst (λ z. IsUnitOf jobs settings rows z v) (sym h.0) (unit_now v h.1.0 h.1.1.0), asking_path v.phase h.1.1.1.0)
    seat_fits (SeatIs.Ends m v) h = (subst (λ z. IsUnitOf jobs settings rows z v) (sym h.0) (unit_now v h.1.0 h.1.1.0), h.1.1.1)
    seat_fits SeatIs.Idle h = absurd h
    seat_fits (SeatIs.Refused m f) h = absurd h
    seat_fits (SeatIs.Reads m v i) h = absurd h
    seat_fits (SeatIs.Holds m v i r) h = absurd h
    seat_fits (SeatIs.Spent m) h = absurd h
    seat_fits SeatIs.Over h = absurd h

    seat_left : (seat : Seat R) → RunsOnTo n now (rank u.work) seat → left_at seat < looking u.work - 2
    seat_left (SeatIs.Looks m v) h = looking_less (rank v.work) (rank u.work) h.1.1.1.1
    seat_left (SeatIs.Ends m v) h = ending_less (rank u.work)
    seat_left SeatIs.Idle h = absurd h
    seat_left (SeatIs.Refused m f) h = absurd h
    seat_left (SeatIs.Reads m v i) h = absurd h
    seat_left (SeatIs.Holds m v i r) h = absurd h
    seat_left (SeatIs.Spent m) h = absurd h
    seat_left SeatIs.Over h = absurd h

    pub answered_worker : (next : Result (Seat R) NoMemory) → IfOk next (RunsOnTo n now (rank u.work)) → worker_of content (seat_or_spent n next) ≡ answered_at next n (length u.answers)
    answered_worker (Ok seat) h = seat_worker seat h
    answered_worker (Err none) h = refl

    pub answered_fits : (next : Result (Seat R) NoMemory) → IfOk next (RunsOnTo n now (rank u.work)) → SeatFits jobs settings rows w (seat_or_spent n next)
    answered_fits (Ok seat) h = seat_fits seat h
    answered_fits (Err none) h = tt

    pub answered_left : (next : Result (Seat R) NoMemory) → IfOk next (RunsOnTo n now (rank u.work)) → left_at (seat_or_spent n next) < looking u.work - 2
    answered_left (Ok seat) h = seat_left seat h
    answered_left (Err none) h = ending_less (rank u.work)
