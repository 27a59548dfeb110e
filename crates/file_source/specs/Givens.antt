-- What a read gave.
use Rattle.std.specs.Prelude.{◌≡◌, ◌≢◌, ◌≤◌, ◌<◌, ℕ, List, [], length}
use Rattle.scan_model.specs.declared.Outcome.{Outcome}
use Rattle.scan_model.specs.declared.Outcome.TheVariants.{Present, Absent, Failed, Big, NoMemory}
use Rattle.scan_model.specs.Limits.{file_limit}

-- the outcome of a read has its cause: so many calls of it failed, and so many bytes came
pub record IsGiven (outcome : Outcome) (bytes : List ℕ) (faults came : ℕ) : Type 0 where
  pub present : outcome ≡ Present → (length bytes ≡ came) × (came ≤ file_limit) × (faults ≡ 0)
  pub absent : outcome ≡ Absent → (came ≡ 0) × (faults ≡ 0)
  pub failed : outcome ≡ Failed → 1 ≤ faults
  pub big : outcome ≡ Big → (file_limit < came) × (faults ≡ 0)
  -- where too many bytes came, it is Big, a failure or want of memory
  pub over : file_limit < came → outcome ≢ Failed → outcome ≢ NoMemory → outcome ≡ Big
  pub nothing : outcome ≢ Present → bytes ≡ []
