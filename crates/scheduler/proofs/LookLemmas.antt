-- The k-th path that job n looks at is one that some job looks at.
use Rattle.std.proofs.Common.{◌≡◌, ◌<◌, ℕ, zero, suc, List, [], ◌∷◌, length, slice_get, Contains, get_or, refl, Option, Some, None, arith}
use Rattle.scan_model.specs.declared.command.Settings.{Settings}
use Rattle.scan_model.specs.declared.command.Job.{Job}
use Rattle.scan_model.specs.Files.{FileMap}
use Rattle.scan_model.specs.Answer.{looked}
use Rattle.cache_machine.specs.Rows.{Row, map_of}
use Rattle.cache_machine.specs.JobLooks.{looked_by_job, path_at}
use Rattle.shard_cache.specs.Ends.{IsLookedAt}

get_inside : {A : Type 0} (xs : List A) (k : ℕ) (x : A) → slice_get xs k ≡ Some x → (k < length xs) × (get_or xs k x ≡ x)
get_inside [] k x h = cc
get_inside (y ∷ xs) zero x h = (omega arith, cc)
get_inside (y ∷ xs) (suc k) x h = let r = get_inside xs k x h in (let less = r.0 in omega arith, r.1)

pub get_contains : {A : Type 0} (xs : List A) (k : ℕ) (x : A) → slice_get xs k ≡ Some x → Contains xs x
get_contains xs k x h = let r = get_inside xs k x h in (k, r.0, r.1)

module _ (settings : Settings) (jobs : List Job) (files : FileMap (List ℕ)) (n k : ℕ) (path : List ℕ) where
  by_job : (job : Option Job) → slice_get jobs n ≡ job → slice_get (looked_by_job settings files job) k ≡ Some path → IsLookedAt files settings jobs path
  by_job None e h = cc
  by_job (Some job) e h =
      let r = get_inside jobs n job e in
      (n, job, r.0, r.1, get_contains (looked files settings job) k path h)

-- the worker's look is one
pub job_looks_at : (jobs : List Job) (settings : Settings) (rows : List Row) (n k : ℕ) (path : List ℕ) → path_at jobs settings rows n k ≡ Some path → IsLookedAt (map_of rows) settings jobs path
job_looks_at jobs settings rows n k path h = by_job settings jobs (map_of rows) n k path (slice_get jobs n) refl h
