-- The jobs of a made tree, one after another.
use Rattle.std.proofs.Common.{◌≡◌, ℕ, ◌+◌, ◌-◌, ◌≤◌, List, [], ◌∷◌, ◌++◌, length, map, All, refl, ap, sym, ◌∙◌, subst, arith}
use Rattle.std.specs.List.{range_with_len}
use Rattle.std.proofs.lemmas.List.Elements.{All-push}
use Rattle.std.proofs.lemmas.List.FromFn.{length-map-range_with_len}
use Rattle.scan_model.specs.declared.command.Job.{Job}
use Rattle.scan_model.specs.Fits.{JobFits}
use Rattle.big_gen.proofs.RangeLemmas.{one_more}
use Rattle.made_scan.specs.MadeJobs.{made_job}

-- the jobs of the units before this one
pub record AreJobsBefore (unit : ℕ) (jobs : List Job) : Type 0 where
  pub are : jobs ≡ map made_job (range_with_len 1 (unit - 1))
  pub fit : All (λ job. JobFits job) jobs

pub one_job_more : (unit : ℕ) (jobs now : List Job) (job : Job) → 1 ≤ unit → AreJobsBefore unit jobs → job ≡ made_job unit → JobFits job → now ≡ jobs ++ job ∷ [] →
    AreJobsBefore (unit + 1) now
one_job_more unit jobs now job low before is fits pushed = record {
  are = one_more made_job 1 unit (unit + 1 - 1) [] jobs now low refl before.are (pushed ∙ ap (λ z. jobs ++ z ∷ []) is);
  fit = subst (λ z. All (λ job. JobFits job) z) (sym pushed) (All-push (λ job. JobFits job) jobs job before.fit fits);
}

pub jobs_number : (unit n : ℕ) (jobs : List Job) → unit ≡ n + 1 → AreJobsBefore unit jobs → length jobs ≡ n
jobs_number unit n jobs last before = let count = ap length before.are ∙ length-map-range_with_len made_job 1 (unit - 1) in omega (arith, count)
