-- What each step on the lock's table tells the seat that makes it.
use Rattle.std.specs.Prelude.{◌≡◌, ◌≢◌, ℕ, ◌%◌, ◌^◌, true, false, List, [], ◌∷◌, map, Option, Some, None}
use Rattle.atomic_table.specs.Table.{Me, Step}
use Rattle.turn_lock.specs.declared.view.Stage.TheVariants.{Idle, Waits, Turn}
use Rattle.turn_lock.specs.declared.view.View.{View}
use Rattle.turn_lock.specs.Logs.{Fits}
use Rattle.turn_lock.specs.Views.{mark, view, told, in_turn}

module _ {T E : Type 0} (log_of : T → List E) (number_fixed : T → List ℕ) (maker : E → ℕ) where
  abbrev Seat : Type 0
  Seat = Me (Option T) (View E)

  -- a ticket is drawn: the seat waits with it, and the word has its remainder
  abbrev pub ticket_drawn : Step (Option T) → Seat → ℕ → Seat → Type 0
  ticket_drawn st m r m' = (t : ℕ) × (r ≡ t % 2 ^ 64) × (m' ≡ (view m.0.marks (Waits t) m.0.opening, m.1))

  -- the seat's turn has come, and the slot is its own: with nothing in it for the opening seat, and else with a state that fits the pass
  abbrev pub TurnComes : ℕ → Seat → Seat → Type 0
  TurnComes t m m' = (m.0.opening ≡ true → m' ≡ (view m.0.marks (Turn t) true, (0, None) ∷ m.1))
      × ((k : ℕ) (fixed : List ℕ) (seen : List E) → m.0 ≡ view (mark k fixed seen ∷ []) (Waits t) false
      → (x : T) × Fits maker k seen (log_of x) × (number_fixed x ≡ fixed) × (m' ≡ (view (mark k fixed (log_of x) ∷ []) (Turn t) false, (0, Some x) ∷ m.1)))

  -- the turn is loaded: it is the seat's own or nothing changes, and the opening seat never waits
  abbrev pub turn_loaded : Step (Option T) → Seat → ℕ → Seat → Type 0
  turn_loaded st m r m' = (t : ℕ) → m.0.stage ≡ Waits t → (r ≡ t % 2 ^ 64 → TurnComes t m m') × (r ≢ t % 2 ^ 64 → m' ≡ m) × (m.0.opening ≡ true → r ≡ t % 2 ^ 64)

  -- the next is served: the slot goes home, and the seat has seen the log of the state in it
  abbrev pub next_served : Step (Option T) → Seat → ℕ → Seat → Type 0
  next_served st m r m' = (x : T) → m.1 ≡ (0, Some x) ∷ [] → m' ≡ (view (map (told (log_of x)) m.0.marks) Idle false, [])

  -- the seat is in its turn, and has taken the state out of the slot
  abbrev pub IsTurn : ℕ → List ℕ → List E → Seat → Type 0
  IsTurn k fixed log m = (t : ℕ) × (m ≡ (in_turn k fixed log t, (0, None) ∷ []))
