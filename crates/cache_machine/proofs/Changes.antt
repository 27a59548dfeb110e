-- One worker's change, and what it owes for the whole to hold again.
use Rattle.std.proofs.Common.{◌≡◌, ◌≢◌, ℕ, ◌+◌, List, length, slice_get, ap, sym, ◌∙◌, subst, Option, Some, arith}
use Rattle.std.specs.Prelude.{slice_set, min}
use Rattle.scan_model.specs.declared.command.Settings.{Settings}
use Rattle.scan_model.specs.declared.command.Job.{Job}
use Rattle.scan_model.specs.declared.unit_end.UnitEnd.{UnitEnd}
use Rattle.cache_machine.specs.Rows.{Claimed, Row, held_at}
use Rattle.cache_machine.specs.Machine.{Machine, Worker, Idle, At, Claiming, Holding, Spent, Over, worker_at, with_worker}
use Rattle.cache_machine.specs.RowGrowth.{RowsDiffer, RowsGrow}
use Rattle.cache_machine.specs.WorkerRows.{HasClaim, WorkerFits, IsClaimant}
use Rattle.cache_machine.specs.Numbers.{has_number, one_if, workers_in, ended, drawn_once, is_over, overs}
use Rattle.cache_machine.specs.Laws.{IsEndAt}
use Rattle.cache_machine.proofs.Sound.{IsSound}
use Rattle.cache_machine.proofs.RowLemmas.{grows_refl}
use Rattle.cache_machine.proofs.JobLemmas.{path_stays, answered_stays}
use Rattle.cache_machine.proofs.WorkerLemmas.{set_fits, count_set, over_set}

module _ (jobs : List Job) (settings : Settings) where
  -- what a change of worker w's state owes
  pub record Change (m : Machine) (w : ℕ) (rows : List Row) (next : ℕ) (s : Worker) (ends : List (Option UnitEnd)) : Type 0 where
    pub there : worker_at m w ≡ Over → ⊥
    pub differ : RowsDiffer rows
    pub grow : RowsGrow m.rows rows
    pub kept : (path : List ℕ) (v : ℕ) → v ≢ w → held_at m.rows path ≡ Some (Claimed v) → held_at rows path ≡ Some (Claimed v)
    pub before : (path : List ℕ) (v : ℕ) → v ≢ w → held_at rows path ≡ Some (Claimed v) → held_at m.rows path ≡ Some (Claimed v)
    pub fits : WorkerFits jobs settings rows w s
    pub claims : (path : List ℕ) → held_at rows path ≡ Some (Claimed w) → IsClaimant jobs settings rows path s
    pub numbers : (n : ℕ) → one_if (has_number n s) + ended (slice_get ends n) + drawn_once jobs m.next n ≡
        one_if (has_number n (worker_at m w)) + ended (slice_get m.ends n) + drawn_once jobs next n
    pub over : one_if (is_over s) + m.next + min next (length jobs) ≡ one_if (is_over (worker_at m w)) + next + min m.next (length jobs)
    pub ends_fit : (n : ℕ) (end : UnitEnd) → slice_get ends n ≡ Some (Some end) → IsEndAt jobs settings rows n end
    pub jobs_ends : length ends ≡ length jobs

  claim_stays : (rows more : List Row) (w n k : ℕ) → RowsGrow rows more →
      ((path : List ℕ) → held_at rows path ≡ Some (Claimed w) → held_at more path ≡ Some (Claimed w)) → HasClaim jobs settings rows w n k → HasClaim jobs settings more w n k
  claim_stays rows more w n k grow kept h = record {
    path = h.path;
    kth = path_stays jobs settings rows more n k h.path grow h.kth;
    claimed = kept h.path h.claimed;
  }

  worker_stays : (rows more : List Row) (w : ℕ) → RowsGrow rows more →
      ((path : List ℕ) → held_at rows path ≡ Some (Claimed w) → held_at more path ≡ Some (Claimed w)) → (s : Worker) → WorkerFits jobs settings rows w s → WorkerFits jobs settings more w s
  worker_stays rows more w grow kept Idle h = tt
  worker_stays rows more w grow kept (At n k) h = answered_stays jobs settings rows more n k grow h
  worker_stays rows more w grow kept (Claiming n k) h = (answered_stays jobs settings rows more n k grow h.0, claim_stays rows more w n k grow kept h.1)
  worker_stays rows more w grow kept (Holding n k content) h = (answered_stays jobs settings rows more n k grow h.0, claim_stays rows more w n k grow kept h.1)
  worker_stays rows more w grow kept (Spent n) h = tt
  worker_stays rows more w grow kept Over h = tt

  claimant_stays : (rows more : List Row) (path : List ℕ) → RowsGrow rows more → (s : Worker) → IsClaimant jobs settings rows path s → IsClaimant jobs settings more path s
  claimant_stays rows more path grow Idle h = h
  claimant_stays rows more path grow (At n k) h = h
  claimant_stays rows more path grow (Claiming n k) h = path_stays jobs settings rows more n k path grow h
  claimant_stays rows more path grow (Holding n k content) h = path_stays jobs settings rows more n k path grow h
  claimant_stays rows more path grow (Spent n) h = h
  claimant_stays rows more path grow Over h = h

  count_changed : (m : Machine) (w : ℕ) (rows : List Row) (next : ℕ) (s : Worker) (ends : List (Option UnitEnd)) → IsSound jobs settings m → Change m w rows next s ends → (n : ℕ) →
      workers_in n (slice_set m.workers w s) + ended (slice_get ends n) ≡ drawn_once jobs next n
  count_changed m w rows next s ends h c n =
      let a = count_set n m.workers w s c.there in
      let b = h.numbers n in
      let d = c.numbers n in omega arith

  over_changed : (m : Machine) (w : ℕ) (rows : List Row) (next : ℕ) (s : Worker) (ends : List (Option UnitEnd)) → IsSound jobs settings m → Change m w rows next s ends →
      min next (length jobs) + overs (slice_set m.workers w s) ≡ next
  over_changed m w rows next s ends h c =
      let a = over_set m.workers w s c.there in
      let b = h.over in
      let d = c.over in omega arith

  pub changed : (m : Machine) (w : ℕ) (rows : List Row) (next : ℕ) (s : Worker) (ends : List (Option UnitEnd)) → IsSound jobs settings m → Change m w rows next s ends →
      IsSound jobs settings (record { rows = rows; next = next; workers = slice_set m.workers w s; ends = ends })
  changed m w rows next s ends h c = record {
    differ = c.differ;
    workers = set_fits m.workers w s (λ v z. WorkerFits jobs settings rows v z) c.there
        (λ v other. worker_stays m.rows rows v c.grow (λ path claimed. c.kept path v other claimed) (worker_at m v) (h.workers v)) c.fits;
    claims = λ path. set_fits m.workers w s (λ v z. held_at rows path ≡ Some (Claimed v) → IsClaimant jobs settings rows path z) c.there
        (λ v other claimed. claimant_stays m.rows rows path c.grow (worker_at m v) (h.claims path v (c.before path v other claimed))) (c.claims path);
    numbers = count_changed m w rows next s ends h c;
    over = over_changed m w rows next s ends h c;
    ends = c.ends_fit;
    jobs_ends = c.jobs_ends;
  }

  -- ## Steps without new rows

  pub claimant_as : (m : Machine) (w : ℕ) (s : Worker) → worker_at m w ≡ s → IsSound jobs settings m → (path : List ℕ) → held_at m.rows path ≡ Some (Claimed w) → IsClaimant jobs settings m.rows path s
  claimant_as m w s e h path claimed = subst (λ z. IsClaimant jobs settings m.rows path z) e (h.claims path w claimed)

  pub fits_as : (m : Machine) (w : ℕ) (s : Worker) → worker_at m w ≡ s → IsSound jobs settings m → WorkerFits jobs settings m.rows w s
  fits_as m w s e h = subst (λ z. WorkerFits jobs settings m.rows w z) e (h.workers w)

  pub turned : (m : Machine) (w next : ℕ) (s : Worker) (ends : List (Option UnitEnd)) → IsSound jobs settings m → (worker_at m w ≡ Over → ⊥) → WorkerFits jobs settings m.rows w s →
      ((path : List ℕ) → held_at m.rows path ≡ Some (Claimed w) → IsClaimant jobs settings m.rows path s) →
      ((n : ℕ) → one_if (has_number n s) + ended (slice_get ends n) + drawn_once jobs m.next n ≡
      one_if (has_number n (worker_at m w)) + ended (slice_get m.ends n) + drawn_once jobs next n) →
      (one_if (is_over s) + m.next + min next (length jobs) ≡ one_if (is_over (worker_at m w)) + next + min m.next (length jobs)) →
      ((n : ℕ) (end : UnitEnd) → slice_get ends n ≡ Some (Some end) → IsEndAt jobs settings m.rows n end) → length ends ≡ length jobs →
      IsSound jobs settings (record { rows = m.rows; next = next; workers = slice_set m.workers w s; ends = ends })
  turned m w next s ends h there fits claims numbers over ends_fit jobs_ends = changed m w m.rows next s ends h (record {
    there = there;
    differ = h.differ;
    grow = grows_refl m.rows;
    kept = λ path v other claimed. claimed;
    before = λ path v other claimed. claimed;
    fits = fits;
    claims = claims;
    numbers = numbers;
    over = over;
    ends_fit = ends_fit;
    jobs_ends = jobs_ends;
  })

  -- in the same command
  pub goes_on : (m : Machine) (w : ℕ) (was s : Worker) → worker_at m w ≡ was → (was ≡ Over → ⊥) → IsSound jobs settings m → WorkerFits jobs settings m.rows w s →
      ((path : List ℕ) → IsClaimant jobs settings m.rows path was → IsClaimant jobs settings m.rows path s) →
      ((n : ℕ) → has_number n s ≡ has_number n was) → is_over s ≡ is_over was → IsSound jobs settings (with_worker m w s)
  goes_on m w was s e there h fits claims numbers over =
      turned m w m.next s m.ends h (λ o. there (sym e ∙ o)) fits (λ path claimed. claims path (claimant_as m w was e h path claimed))
      (λ n. let k : has_number n s ≡ has_number n (worker_at m w) = numbers n ∙ ap (λ z. has_number n z) (sym e) in
      ap (λ z. one_if z + ended (slice_get m.ends n) + drawn_once jobs m.next n) k)
      (let k : is_over s ≡ is_over (worker_at m w) = over ∙ ap is_over (sym e) in ap (λ z. one_if z + m.next + min m.next (length jobs)) k) h.ends h.jobs_ends
