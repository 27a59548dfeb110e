-- What the passes of a shard's lock see of a look and of a publication.
use Rattle.std.specs.Prelude.{◌≡◌, ℕ, List, [], ◌∷◌, ◌++◌, Contains}
use Rattle.std.specs.declared.result.Result.{Result}
use Rattle.std.specs.declared.result.Result.TheVariants.{Ok, Err}
use Rattle.scan_model.specs.declared.Outcome.{Outcome}
use Rattle.scan_model.specs.declared.memory.NoMemory as want
use Rattle.reducer.specs.Answers.{content_of}
use Rattle.shard_cache.specs.Rows.{shard_number}
use Rattle.turn_lock.specs.Logs.{Fits}
use Rattle.cache_desk.specs.declared.entry.Entry.{Entry}
use Rattle.cache_desk.specs.declared.desk.Found.{Found}
use Rattle.cache_desk.specs.declared.desk.Found.TheVariants as FoundIs
use Rattle.cache_desk.specs.Log.{Free, Claimed, Done, claim, publication, maker, standing}
use Rattle.cache_desk.specs.Desk.{told}

-- a look at a path on a log, by passes of this number, at a shard of which this is fixed: what it gives, and the log then
abbrev pub LookAt : {S O G : Type 0} → (O → List ℕ) → (O → ℕ) → List ℕ → ℕ → List ℕ → List Entry → Result (Found S O G) want.NoMemory → List Entry → Type 0
LookAt opener_path opener_origin path by fixed log (Ok (FoundIs.Done answer)) after =
    (after ≡ log) × ((w : ℕ) × (o : Outcome) × (b : List ℕ) × (standing log path ≡ Done w o b) × (content_of answer ≡ told o b))
LookAt opener_path opener_origin path by fixed log (Ok (FoundIs.Mine claimed opener)) after =
    (standing log path ≡ Free) × (after ≡ log ++ claim path by ∷ []) × (claimed ≡ path) × (opener_path opener ≡ path)
    × (fixed ≡ shard_number path ∷ opener_origin opener ∷ [])
LookAt opener_path opener_origin path by fixed log (Ok FoundIs.Busy) after =
    (after ≡ log) × ((w : ℕ) × (standing log path ≡ Claimed w))
LookAt opener_path opener_origin path by fixed log (Err _) after = after ≡ log

-- the same, where the passes had seen this much: the log fits them
abbrev pub SeesLook : {S O G : Type 0} → (O → List ℕ) → (O → ℕ) → List ℕ → ℕ → List ℕ → List Entry → Result (Found S O G) want.NoMemory → List Entry → Type 0
SeesLook opener_path opener_origin path by fixed before r after =
    (log : List Entry) × Fits maker by before log × LookAt opener_path opener_origin path by fixed log r after

-- a publication on a log that fits what the passes had seen
abbrev pub SeesEntry : ℕ → List Entry → Entry → List Entry → Type 0
SeesEntry by before e after = (log : List Entry) × Fits maker by before log × (after ≡ log ++ e ∷ [])

-- the passes have seen that this was published for the path
abbrev pub HasSeen : List Entry → List ℕ → Outcome → List ℕ → Type 0
HasSeen log path o b = (w : ℕ) × Contains log (publication path w o b)
