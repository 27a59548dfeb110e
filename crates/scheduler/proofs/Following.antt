-- The machine of the run goes the way of the schedule, as long as memory isn't wanting.
use Rattle.std.proofs.Common.{◌≡◌, ◌⊎◌, inl, inr, ℕ, zero, suc, List, [], ◌++◌, refl, ap, sym, ◌∙◌, Some}
use Rattle.std.specs.List.{AllByRecursion}
use Rattle.scan_model.specs.declared.command.Settings.{Settings}
use Rattle.scan_model.specs.declared.command.Job.{Job}
use Rattle.scan_model.specs.Files.{FileMap}
use Rattle.cache_machine.specs.Machine.{Machine, Over}
use Rattle.cache_machine.specs.Steps.{Event, act}
use Rattle.cache_machine.specs.Runs.{start}
use Rattle.cache_machine.specs.Wants.{wanted}
use Rattle.scheduler.specs.Schedule.{Scheduled, next_number, chosen, movers, published_by, wanted_event, steps_by, step_of, scheduled_step, scheduled_steps, scheduled_start, IsScheduledRun}
use Rattle.scan_core.specs.Events.{worker_in}
use Rattle.scheduler.specs.Moments.{IsShort, HasMoved, HaveRead}
use Rattle.scheduler.proofs.Turns.{IsTurn, read_before}

module _ (jobs : List Job) (settings : Settings) where
  abbrev moment : Machine → ℕ → List (List ℕ) → Scheduled
  moment m x paths = record { machine = m; number = x; published = paths }

  module _ (files : FileMap (List ℕ)) where
    -- so many steps of the schedule lead here
    abbrev pub LeadsTo : Scheduled → Scheduled → Type 0
    LeadsTo first last = (count : ℕ) × (scheduled_steps jobs settings files count first ≡ last)

    steps_more : (count : ℕ) (s : Scheduled) → scheduled_steps jobs settings files (suc count) s ≡ scheduled_step jobs settings files (scheduled_steps jobs settings files count s)
    steps_more zero s = refl
    steps_more (suc count) s = steps_more count (scheduled_step jobs settings files s)

    leads_more : (first s last : Scheduled) → LeadsTo first s → scheduled_step jobs settings files s ≡ last → LeadsTo first last
    leads_more first s last (count, e) h = (suc count, steps_more count first ∙ ap (scheduled_step jobs settings files) e ∙ h)

    -- the chosen worker's step
    step_is : (m : Machine) (x w : ℕ) (paths : List (List ℕ)) (event : Event) → chosen (movers jobs settings m) (next_number x) ≡ Some w → wanted_event jobs settings files m w ≡ Some event →
        scheduled_step jobs settings files (moment m x paths) ≡ moment (act jobs settings m event) (next_number x) (paths ++ published_by event (wanted jobs settings m w))
    step_is m x w paths event c e =
        ap (λ z. step_of jobs settings files (moment m x paths) (next_number x) z) c ∙ ap (λ z. steps_by jobs settings files (moment m x paths) (next_number x) w z) e

  module _ (workers number : ℕ) where
    abbrev first : Scheduled
    first = scheduled_start jobs workers number

    -- Over any files that have what was read, the schedule leads to this machine, number and order of publications, unless
    -- memory was wanting for some job.
    abbrev pub IsFollowing : Machine → ℕ → List (List ℕ) → Type 0
    IsFollowing m x paths = (files : FileMap (List ℕ)) → HaveRead jobs settings files m → IsShort m ⊎ LeadsTo files first (moment m x paths)

    pub following_start : IsFollowing (start jobs workers) number []
    following_start files h = inr (0, refl)

    -- the chosen worker makes its step
    pub following_more : (m new : Machine) (x w : ℕ) (paths : List (List ℕ)) (event : Event) → IsFollowing m x paths → chosen (movers jobs settings m) (next_number x) ≡ Some w →
        ((files : FileMap (List ℕ)) → HaveRead jobs settings files new → wanted_event jobs settings files m w ≡ Some event) → IsTurn jobs settings m new w → HasMoved jobs settings event m new →
        IsFollowing new (next_number x) (paths ++ published_by event (wanted jobs settings m w))
    following_more m new x w paths event f c wants_it turn (inr (e, spent)) files h = inl (spent.0.0, inr (worker_in event, spent.0.1))
    following_more m new x w paths event f c wants_it turn (inl e) files h = elim (f files (read_before jobs settings files m new w turn h)) [
      | inl short ↦ inl (turn.short short)
      | inr leads ↦ inr (
          leads_more files first (moment m x paths) (moment new (next_number x) (paths ++ published_by event (wanted jobs settings m w))) leads
          (step_is files m x w paths event c (wants_it files h) ∙ ap (λ z. moment z (next_number x) (paths ++ published_by event (wanted jobs settings m w))) (sym e))
          )
    ]

    -- where all are over, that was the whole run, or some job ended for want of memory
    pub followed : (m : Machine) (x : ℕ) (paths : List (List ℕ)) (files : FileMap (List ℕ)) → IsFollowing m x paths → HaveRead jobs settings files m → AllByRecursion (λ worker. worker ≡ Over) m.workers →
        IsShort m ⊎ IsScheduledRun jobs settings files workers number (moment m x paths)
    followed m x paths files f h over = elim (f files h) [
      | inl short ↦ inl short
      | inr leads ↦ inr (record { count = leads.0; steps = leads.1; over = over })
    ]
