-- How a run over a store begins, and how it goes on from one step to the next.
use Rattle.std.proofs.Common.{◌≡◌, ◌⊎◌, inl, inr, ℕ, zero, suc, ◌<◌, List, [], length, refl, ap, sym, ◌∙◌, subst, Option, Some, None}
use Rattle.std.specs.Prelude.{slice_index_or, replicate}
use Rattle.std.specs.List.{AllByRecursion}
use Rattle.std.proofs.lemmas.List.{length-replicate}
use Rattle.std.proofs.lemmas.List.Elements.{All-nil}
use Rattle.scan_model.specs.declared.Outcome.{Outcome}
use Rattle.scan_model.specs.declared.command.Settings.{Settings}
use Rattle.scan_model.specs.declared.command.Job.{Job}
use Rattle.scan_model.specs.Files.{FileMap}
use Rattle.cache_machine.specs.Machine.{Machine, Worker, Idle, Over}
use Rattle.cache_machine.specs.Runs.{start, IsReached}
use Rattle.cache_machine.proofs.Sound.{IsSound}
use Rattle.cache_machine.proofs.Reached.{reached_sound}
use Rattle.shard_cache.specs.declared.kept_row.KeptRow.{KeptRow}
use Rattle.shard_cache.specs.Rows.{ShardView}
use Rattle.shard_cache.proofs.StoreRunLemmas.{extended_refl}
use Rattle.scan_core.specs.CoreView.{CoreView}
use Rattle.scan_core.specs.Events.{IsReachedCore}
use Rattle.scheduler.specs.Asks.{AsksForLooks}
use Rattle.scheduler.specs.Schedule.{next_number, chosen, movers}
use Rattle.scheduler.specs.Moving.{place_at, PlaceFits, PlacesFit, Moment, HasStepped}
use Rattle.scheduler.proofs.MoverLemmas.{all_over}
use Rattle.scheduler.proofs.Following.{following_start}
use Rattle.scheduler.proofs.Running.{GivenFits}
use Rattle.scheduler.proofs.Scheduled.{IsScheduled, scheduled_more}

-- ## The core

pub starts_reached : (core : CoreView) (jobs : List Job) (workers : ℕ) → core.jobs ≡ jobs → core.machine ≡ start jobs workers → IsReachedCore core
starts_reached core jobs workers same_jobs is = ([], ap (λ z. start z (length core.machine.workers)) same_jobs ∙ (ap (λ z. start jobs z) (ap (λ (z : Machine). length z.workers) is ∙ length-replicate workers Idle) ∙ sym is))

pub starts_with : (core : CoreView) (jobs : List Job) (workers : ℕ) → core.machine ≡ start jobs workers → length core.machine.workers ≡ workers
starts_with core jobs workers is = ap (λ (z : Machine). length z.workers) is ∙ length-replicate workers Idle

-- a core that scans these jobs is at a moment that is reached
pub core_sound : (core : CoreView) (jobs : List Job) (settings : Settings) → core.jobs ≡ jobs → core.settings ≡ settings → IsReachedCore core → IsSound jobs settings core.machine
core_sound core jobs settings same_jobs same_settings reached =
    reached_sound jobs settings (length core.machine.workers) core.machine
    (subst (λ z. IsReached z settings (length core.machine.workers) core.machine) same_jobs (subst (λ z. IsReached core.jobs z (length core.machine.workers) core.machine) same_settings reached))

-- where it has no mover, all its workers are over
pub core_over : (core : CoreView) (x : ℕ) → IsReachedCore core → chosen (movers core.jobs core.settings core.machine) x ≡ None → AllByRecursion (λ worker. worker ≡ Over) core.machine.workers
core_over core x reached none = all_over core.jobs core.settings core.machine (reached_sound core.jobs core.settings (length core.machine.workers) core.machine reached) x none

idle_or_over : (count w : ℕ) → (slice_index_or (replicate count Idle) w Over ≡ Idle) ⊎ (slice_index_or (replicate count Idle) w Over ≡ Over)
idle_or_over zero w = inr refl
idle_or_over (suc count) zero = inl refl
idle_or_over (suc count) (suc w) = idle_or_over count w

module _ {S O G : Type 0} (given_path : G → List ℕ) (given_origin : G → ℕ) (outcome : G → Outcome) (bytes : G → List ℕ) (jobs : List Job) (settings : Settings) (workers number : ℕ) where
  place_at_start : (old : List (ShardView S O G)) (s : Worker) (place : Option (KeptRow S O G)) → (s ≡ Idle) ⊎ (s ≡ Over) → PlaceFits given_path outcome bytes jobs settings [] old s place
  place_at_start old s place (inl e) = subst (λ z. PlaceFits given_path outcome bytes jobs settings [] old z place) (sym e) tt
  place_at_start old s place (inr e) = subst (λ z. PlaceFits given_path outcome bytes jobs settings [] old z place) (sym e) tt

  given_at_start : (old : List (ShardView S O G)) (s : Worker) (place : Option (KeptRow S O G)) → (s ≡ Idle) ⊎ (s ≡ Over) → GivenFits given_path given_origin outcome bytes jobs settings old [] [] s place
  given_at_start old s place (inl e) = subst (λ z. GivenFits given_path given_origin outcome bytes jobs settings old [] [] z place) (sym e) tt
  given_at_start old s place (inr e) = subst (λ z. GivenFits given_path given_origin outcome bytes jobs settings old [] [] z place) (sym e) tt

  at_start : (old : List (ShardView S O G)) (held : List (Option (KeptRow S O G))) →
      IsScheduled given_path given_origin outcome bytes jobs settings workers number old number (record { machine = start jobs workers; held = held; store = old })
  at_start old held = record {
    running = record {
      done = λ path content e. cc;
      grown = λ path content e. e;
      fit = λ w. place_at_start old (slice_index_or (replicate workers Idle) w Over) (place_at held w) (idle_or_over workers w);
      extended = extended_refl given_path given_origin old;
      valid = inl refl;
      origins = refl;
      taken = All-nil _;
      looks = All-nil _;
      given = λ w. given_at_start old (slice_index_or (replicate workers Idle) w Over) (place_at held w) (idle_or_over workers w);
    };
    published = [];
    in_order = refl;
    following = following_start jobs settings workers number;
  }

  -- nothing was asked, and nothing added
  pub nothing_asked : (files : FileMap (List ℕ)) (old : List (ShardView S O G)) → AsksForLooks given_path given_origin files jobs settings old old
  nothing_asked files old = record { extended = extended_refl given_path given_origin old; looks = All-nil _ }

  -- the run begins
  pub scheduled_begins : (old : List (ShardView S O G)) (held : List (Option (KeptRow S O G))) (m : Machine) → m ≡ start jobs workers →
      IsScheduled given_path given_origin outcome bytes jobs settings workers number old number (record { machine = m; held = held; store = old })
  scheduled_begins old held m is =
      subst (λ z. IsScheduled given_path given_origin outcome bytes jobs settings workers number old number (record { machine = z; held = held; store = old })) (sym is) (at_start old held)

  -- what a core finds in its places
  pub core_fit : (core : CoreView) (old : List (ShardView S O G)) (x : ℕ) (held : List (Option (KeptRow S O G))) (store : List (ShardView S O G)) → core.jobs ≡ jobs → core.settings ≡ settings →
      IsScheduled given_path given_origin outcome bytes jobs settings workers number old x (record { machine = core.machine; held = held; store = store }) →
      PlacesFit given_path outcome bytes core.jobs core.settings core.machine held store
  core_fit core old x held store same_jobs same_settings h =
      subst (λ z. PlacesFit given_path outcome bytes z core.settings core.machine held store) (sym same_jobs)
      (subst (λ z. PlacesFit given_path outcome bytes jobs z core.machine held store) (sym same_settings) h.running.fit)

  -- the chosen worker of the core makes its step
  pub core_scheduled : (core : CoreView) (old : List (ShardView S O G)) (x w : ℕ) (r new : Moment S O G) → core.jobs ≡ jobs → core.settings ≡ settings → core.machine ≡ r.machine → w < length r.held → IsReachedCore core →
      chosen (movers core.jobs core.settings core.machine) (next_number x) ≡ Some w → HasStepped given_path given_origin outcome bytes core.jobs core.settings w r new →
      IsScheduled given_path given_origin outcome bytes jobs settings workers number old x r → IsScheduled given_path given_origin outcome bytes jobs settings workers number old (next_number x) new
  core_scheduled core old x w r new same_jobs same_settings same_machine inside reached c step h =
      let sound = core_sound core jobs settings same_jobs same_settings reached in
      let mover : chosen (movers jobs settings core.machine) (next_number x) ≡ Some w =
      subst (λ z. chosen (movers z settings core.machine) (next_number x) ≡ Some w) same_jobs (subst (λ z. chosen (movers core.jobs z core.machine) (next_number x) ≡ Some w) same_settings c) in
      let stepped : HasStepped given_path given_origin outcome bytes jobs settings w r new =
      subst (λ z. HasStepped given_path given_origin outcome bytes z settings w r new) same_jobs (subst (λ z. HasStepped given_path given_origin outcome bytes core.jobs z w r new) same_settings step) in
      scheduled_more given_path given_origin outcome bytes jobs settings workers number old x w r new inside (subst (λ z. IsSound jobs settings z) same_machine sound)
      (subst (λ z. chosen (movers jobs settings z) (next_number x) ≡ Some w) same_machine mover) stepped h
