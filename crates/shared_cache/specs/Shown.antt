-- What callers are shown of a look.
use Rattle.std.specs.Prelude.{◌≡◌}
use Rattle.std.specs.declared.result.Result.{Result}
use Rattle.std.specs.declared.result.Result.TheVariants.{Ok, Err}
use Rattle.scan_model.specs.declared.memory.NoMemory as want
use Rattle.file_source.specs.declared.Source.{Ghosts}
use Rattle.cache_desk.specs.declared.desk.Found.{Found}
use Rattle.cache_desk.specs.declared.desk.Found.TheVariants as FoundIs
use Rattle.shared_cache.specs.declared.looked.Looked.{Looked}
use Rattle.shared_cache.specs.declared.looked.Looked.TheVariants as LookedIs

abbrev pub IsShown : {S O G : Type 0} {g : Ghosts S O G} → Result (Found S O G) want.NoMemory → Result (Looked S O G g) want.NoMemory → Type 0
IsShown (Ok (FoundIs.Done answer)) (Ok (LookedIs.Done shown)) = shown ≡ answer
IsShown (Ok (FoundIs.Mine path opener)) (Ok (LookedIs.Mine claim)) = (claim.path ≡ path) × (claim.opener ≡ opener)
IsShown (Ok FoundIs.Busy) (Ok (LookedIs.Busy mark)) = Unit {0}
IsShown (Err _) (Err _) = Unit {0}
IsShown found shown = ⊥
