-- The passes of a cache that is new.
use Rattle.std.specs.Prelude.{◌≡◌, ℕ, List, [], All, Some, slice_get}
use Rattle.turn_lock.specs.declared.Logged.{Ghosts}
use Rattle.turn_lock.specs.declared.lock.TurnLock.{TurnLock}
use Rattle.cache_desk.specs.declared.desk.Desk.{Desk}
use Rattle.shared_cache.specs.declared.cache.Passes.{Passes}
use Rattle.shared_cache.specs.Shared.{ArePasses, all_seen}

-- the lists of passes have the numbers from 0 on, in order, one pass of each lock, and none has seen anything
abbrev pub AreDealt : {S O G E : Type 0} {g : Ghosts (Desk S O G) E} → List (TurnLock (Desk S O G) E) → List (Passes S O G E g) → Type 0
AreDealt {S} {O} {G} {E} {g} locks hands = (k : ℕ) (hand : Passes S O G E g) → slice_get hands k ≡ Some hand
    → ArePasses locks hand.passes.items k × (hand.number ≡ k) × All (λ log. log ≡ []) (all_seen hand.passes.items)
