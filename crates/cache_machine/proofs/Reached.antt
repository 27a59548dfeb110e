-- Every moment that is reached has what each step keeps, and what follows.
use Rattle.std.proofs.Common.{◌≡◌, ◌⊎◌, inl, inr, ℕ, zero, suc, ◌+◌, ◌<◌, ◌≤◌, List, [], ◌∷◌, map, length, slice_get, refl, ap, sym, ◌∙◌, subst, Option, Some, None, arith}
use Rattle.std.specs.Prelude.{slice_index_or, replicate, min}
use Rattle.std.specs.List.{AllByRecursion}
use Rattle.scan_model.specs.declared.command.Settings.{Settings}
use Rattle.scan_model.specs.declared.command.Job.{Job}
use Rattle.scan_model.specs.declared.unit_end.UnitEnd.{UnitEnd}
use Rattle.scan_model.specs.Answer.{Known, Unread}
use Rattle.cache_machine.specs.Rows.{map_of}
use Rattle.cache_machine.specs.Machine.{Machine, Worker, Idle, At, Over, worker_at}
use Rattle.cache_machine.specs.JobLooks.{path_at, answer_at}
use Rattle.cache_machine.specs.Runs.{Move, Goes, Fails, start, moved, run, IsReached}
use Rattle.cache_machine.specs.WorkerRows.{WorkerFits}
use Rattle.cache_machine.specs.Numbers.{ended, drawn_once}
use Rattle.cache_machine.specs.Laws.{IsEndAt}
use Rattle.cache_machine.proofs.Sound.{IsSound}
use Rattle.cache_machine.proofs.NumberLemmas.{if_true, not_drawn, drawn_number, drawn_past}
use Rattle.cache_machine.proofs.JobLemmas.{end_known, needed_to_come}
use Rattle.cache_machine.proofs.WorkerLemmas.{none_idle, none_over, none_ended, all_over, end_there, get_there}
use Rattle.cache_machine.proofs.Changes.{fits_as}
use Rattle.cache_machine.proofs.Steps.{act_sound, spend_sound, job_of}

module _ (jobs : List Job) (settings : Settings) where
  moved_sound : (m : Machine) (move : Move) → IsSound jobs settings m → IsSound jobs settings (moved jobs settings m move)
  moved_sound m (Goes e) h = act_sound jobs settings m e h
  moved_sound m (Fails e) h = spend_sound jobs settings m e h

  run_sound : (moves : List Move) (m : Machine) → IsSound jobs settings m → IsSound jobs settings (run jobs settings moves m)
  run_sound [] m h = h
  run_sound (move ∷ moves) m h = run_sound moves (moved jobs settings m move) (moved_sound m move h)

  -- at the start every worker is idle
  pub idle_fits : (count w : ℕ) → (slice_index_or (replicate count Idle) w Over ≡ Idle) ⊎ (slice_index_or (replicate count Idle) w Over ≡ Over)
  idle_fits zero w = inr refl
  idle_fits (suc count) zero = inl refl
  idle_fits (suc count) (suc w) = idle_fits count w

  worker_fits_at_start : (s : Worker) (w : ℕ) → (s ≡ Idle) ⊎ (s ≡ Over) → WorkerFits jobs settings [] w s
  worker_fits_at_start s w (inl e) = subst (λ z. WorkerFits jobs settings [] w z) (sym e) tt
  worker_fits_at_start s w (inr e) = subst (λ z. WorkerFits jobs settings [] w z) (sym e) tt

  nothing_recorded : (n : ℕ) (end : UnitEnd) (slot : Option (Option UnitEnd)) → ended slot ≡ 0 → slot ≡ Some (Some end) → IsEndAt jobs settings [] n end
  nothing_recorded n end slot zero_here e = absurd (let one : ended slot ≡ 1 = ap ended e in omega arith)

  no_ends : {A : Type 0} (xs : List A) → let none : A → Option UnitEnd = λ x. None in length (map none xs) ≡ length xs
  no_ends [] = refl
  no_ends (x ∷ xs) = ap (λ n. suc n) (no_ends xs)

  start_sound : (count : ℕ) → IsSound jobs settings (start jobs count)
  start_sound count = record {
    differ = tt;
    workers = λ w. worker_fits_at_start (slice_index_or (replicate count Idle) w Over) w (idle_fits count w);
    claims = λ path w claimed. cc;
    numbers = λ n. let a = none_idle n count in let b = none_ended jobs n in let c = not_drawn n (length jobs) in omega arith;
    over = let none = none_over count in omega arith;
    ends = λ n end e. nothing_recorded n end (slice_get (map (λ job. None) jobs) n) (none_ended jobs n) e;
    jobs_ends = no_ends jobs;
  }

  pub reached_sound : (workers : ℕ) (m : Machine) → IsReached jobs settings workers m → IsSound jobs settings m
  reached_sound workers m h = subst (λ z. IsSound jobs settings z) h.1 (run_sound h.0 (start jobs workers) (start_sound workers))

  -- ## What follows

  job_at : (m : Machine) (w n k : ℕ) → worker_at m w ≡ At n k → IsSound jobs settings m → (job : Job) × (slice_get jobs n ≡ Some job)
  job_at m w n k e h = get_there jobs n (job_of jobs settings m w n (At n k) e h (if_true n n refl))

  pub needed_comes : (m : Machine) → IsSound jobs settings m → (w n k : ℕ) (path : List ℕ) → worker_at m w ≡ At n k → answer_at jobs settings m.rows n ≡ Unread path →
      (later : ℕ) × ((k ≤ later) × ((path_at jobs settings m.rows n later ≡ Some path) × (map_of m.rows path ≡ None)))
  needed_comes m h w n k path e needs =
      let job = job_at m w n k e h in
      needed_to_come jobs settings m.rows n k job.0 path job.1 (fits_as jobs settings m w (At n k) e h) needs

  pub known_where_looked : (m : Machine) → IsSound jobs settings m → (w n k : ℕ) → worker_at m w ≡ At n k → path_at jobs settings m.rows n k ≡ None →
      (end : UnitEnd) × (answer_at jobs settings m.rows n ≡ Known end)
  known_where_looked m h w n k e none =
      let job = job_at m w n k e h in
      end_known jobs settings m.rows n k job.0 job.1 (fits_as jobs settings m w (At n k) e h) none

  pub over_ends : (m : Machine) → IsSound jobs settings m → 1 ≤ length m.workers → AllByRecursion (λ worker. worker ≡ Over) m.workers → (n : ℕ) → n < length jobs →
      (end : UnitEnd) × ((slice_get m.ends n ≡ Some (Some end)) × IsEndAt jobs settings m.rows n end)
  over_ends m h some all n below =
      let over = all_over n m.workers all in
      let past = drawn_past m.next (length jobs) (length m.workers) n (ap (λ z. min m.next (length jobs) + z) (sym over.0) ∙ h.over) some below in
      let drawn : drawn_once jobs m.next n ≡ 1 = drawn_number m.next n (length jobs) past below in
      let number = h.numbers n in
      let none = over.1 in
      let end = end_there (slice_get m.ends n) (omega arith) in
      (end.0, (end.1, h.ends n end.0 end.1))
