-- What a read gave, by whether it waited for the other in vain: then it has failed, and nothing came.
use Rattle.std.specs.Prelude.{ℕ, Bool, true, false, List, []}
use Rattle.scan_model.specs.declared.Outcome.{Outcome}
use Rattle.scan_model.specs.declared.Outcome.TheVariants.{Failed}

abbrev pub outcome_after : Bool → Outcome → Outcome
outcome_after true outcome = Failed
outcome_after false outcome = outcome

abbrev pub bytes_after : Bool → List ℕ → List ℕ
bytes_after true bytes = []
bytes_after false bytes = bytes

abbrev pub faults_after : Bool → ℕ → ℕ
faults_after true faults = 1
faults_after false faults = faults

abbrev pub came_after : Bool → ℕ → ℕ
came_after true came = 0
came_after false came = came
