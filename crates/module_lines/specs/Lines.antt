-- What taking a line does to a builder.
use Rattle.std.specs.Prelude.{◌≡◌, ℕ, List, [], ◌∷◌, ◌++◌, if◌then◌else◌}
use Rattle.std.specs.declared.result.Result.{Result}
use Rattle.std.specs.declared.result.Result.TheVariants.{Ok, Err}
use Rattle.scan_model.specs.declared.memory.NoMemory.{NoMemory}
use Rattle.scan_model.specs.declared.module_line.ModuleFault.{ModuleFault}
use Rattle.scan_model.specs.ModuleLines.{Builder}
use Rattle.scan_model.specs.TokenTests.{is_among}

-- the builder has become what the line makes of it; at a fault, which is the line's own, and at want of memory it is unchanged
abbrev pub Takes : Result Builder ModuleFault → Builder → Builder → Result (Result (Unit {0}) ModuleFault) NoMemory → Type 0
Takes line old new (Ok (Ok _)) = line ≡ Ok new
Takes line old new (Ok (Err fault)) = (line ≡ Err fault) × (new ≡ old)
Takes line old new (Err _) = new ≡ old

-- the names with this one, once
abbrev pub with_name : List (List ℕ) → List ℕ → List (List ℕ)
with_name names name = if is_among names name then names else names ++ name ∷ []
