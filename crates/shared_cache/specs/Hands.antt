-- Locks that are made or closed one after another, and the workers' passes, of which each lock gives or takes one.
use Rattle.std.specs.Prelude.{◌≡◌, ◌≤◌, ℕ, List, [], ◌∷◌, ◌++◌, length, All, Vec, vec_capacity}
use Rattle.std.specs.declared.alloc.Global.{Global}
use Rattle.turn_lock.specs.declared.Logged.{Ghosts}
use Rattle.turn_lock.specs.declared.lock.Pass.{Pass}
use Rattle.turn_lock.specs.declared.lock.TurnLock.{TurnLock}
use Rattle.turn_lock.specs.Passes.{IsPassOf, number}
use Rattle.cache_desk.specs.declared.desk.Desk.{Desk}
use Rattle.shared_cache.specs.declared.cache.Passes.{Passes}
use Rattle.shared_cache.specs.Shared.{ArePasses, AreNumbered, AreFresh, HavePasses, HaveRoom, locks_fixed}
use Rattle.shared_cache.specs.Opening.{AreDealt}

module _ {S O G E : Type 0} {g : Ghosts (Desk S O G) E} where
  -- the worker has one pass more, at the end
  abbrev pub IsOneMore : Passes S O G E g → Pass (Desk S O G) E g → Passes S O G E g → Type 0
  IsOneMore before pass after = (after.passes.items ≡ before.passes.items ++ pass ∷ []) × (after.number ≡ before.number) × (vec_capacity after.passes ≡ vec_capacity before.passes)

  -- each worker has one pass more, in order
  abbrev pub HaveOneMore : List (Passes S O G E g) → List (Pass (Desk S O G) E g) → List (Passes S O G E g) → Type 0
  HaveOneMore [] [] [] = Unit {0}
  HaveOneMore (before ∷ befores) (pass ∷ row) (after ∷ afters) = IsOneMore before pass after × HaveOneMore befores row afters
  HaveOneMore befores row afters = ⊥

  -- each worker's last pass is of the lock, and has the worker's number
  abbrev pub HaveLast : TurnLock (Desk S O G) E → List (Passes S O G E g) → Type 0
  HaveLast lock hands = All (λ (hand : Passes S O G E g). (others : List (Pass (Desk S O G) E g)) × (last : Pass (Desk S O G) E g)
      × (hand.passes.items ≡ others ++ last ∷ []) × IsPassOf lock last × (number last ≡ hand.number)) hands

  -- there are places for sixteen locks, their rooms, and sixteen passes of each worker
  abbrev pub HavePlaces : Vec (TurnLock (Desk S O G) E) Global → Vec (Vec (Pass (Desk S O G) E g) Global) Global → List (Passes S O G E g) → Type 0
  HavePlaces locks rooms hands = (16 ≤ vec_capacity locks) × (16 ≤ vec_capacity rooms) × All (λ (hand : Passes S O G E g). 16 ≤ vec_capacity hand.passes) hands

  -- locks with the numbers from 0 on, a room for each, and the passes of at most 64 workers, one of each lock
  pub record AreParts {X : Type 0} (log : Desk S O G → List X) (fixed : Desk S O G → List ℕ) (locks : List (TurnLock (Desk S O G) E)) (rooms : List (Vec (Pass (Desk S O G) E g) Global)) (hands : List (Passes S O G E g)) : Type 0 where
    pub numbered : AreNumbered (locks_fixed fixed locks)
    pub fresh : AreFresh log locks
    pub counted : HavePasses locks (length hands)
    pub rooms_are : length rooms ≡ length locks
    pub few : length hands ≤ 64
    pub roomy : HaveRoom 64 rooms
    pub own : All (λ (hand : Passes S O G E g). ArePasses locks hand.passes.items hand.number) hands

  -- the same for this many workers, before anything happened
  pub record AreMade {X : Type 0} (log : Desk S O G → List X) (fixed : Desk S O G → List ℕ) (workers : ℕ) (locks : List (TurnLock (Desk S O G) E)) (rooms : List (Vec (Pass (Desk S O G) E g) Global)) (hands : List (Passes S O G E g)) : Type 0 where
    pub parts : AreParts log fixed locks rooms hands
    pub count : length hands ≡ workers
    pub dealt : AreDealt locks hands
