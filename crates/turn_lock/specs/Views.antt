-- What a seat at the lock's table knows: a mark for each of its numbers, and where it stands with its ticket.
use Rattle.std.specs.Prelude.{◌≡◌, ◌≢◌, ◌⊎◌, ℕ, zero, suc, ◌+◌, Bool, true, false, List, [], ◌∷◌, length}
use mathlib.Core.Option.{some}
use mathlib.Core.Option as maybe
use Rattle.turn_lock.specs.declared.view.Mark.{Mark}
use Rattle.turn_lock.specs.declared.view.Stage.{Stage}
use Rattle.turn_lock.specs.declared.view.Stage.TheVariants.{Idle, Waits, Turn}
use Rattle.turn_lock.specs.declared.view.View.{View}

module _ {X : Type 0} where
  -- P holds of each element
  abbrev pub Each : (X → Type 0) → List X → Type 0
  Each P [] = Unit {0}
  Each P (x ∷ xs) = P x × Each P xs

  -- the sum of f over the elements
  abbrev pub total : (X → ℕ) → List X → ℕ
  total f [] = 0
  total f (x ∷ xs) = f x + total f xs

  -- what is left when the first element goes
  abbrev pub without_first : List X → List X
  without_first [] = []
  without_first (x ∷ xs) = xs

  -- the first element alone
  abbrev pub only_first : List X → List X
  only_first [] = []
  only_first (x ∷ xs) = x ∷ []

-- how many tickets a stage holds
abbrev pub ticket_count : Stage → ℕ
ticket_count Idle = 0
ticket_count (Waits t) = 1
ticket_count (Turn t) = 1

-- the ticket that a stage holds
abbrev pub ticket_of : Stage → maybe.Option ℕ
ticket_of Idle = maybe.none
ticket_of (Waits t) = some t
ticket_of (Turn t) = some t

module _ {E : Type 0} where
  abbrev pub mark : ℕ → List ℕ → List E → Mark E
  mark number fixed seen = record { number = number; fixed = fixed; seen = seen }

  -- the marks of n numbers from k on
  abbrev pub marks_from : ℕ → ℕ → List ℕ → List E → List (Mark E)
  marks_from k zero fixed seen = []
  marks_from k (suc n) fixed seen = mark k fixed seen ∷ marks_from (k + 1) n fixed seen

  abbrev pub view : List (Mark E) → Stage → Bool → View E
  view ms st o = record { marks = ms; stage = st; opening = o }

  -- the view of the seat with which a lock of n passes is opened
  abbrev pub start : List ℕ → List E → ℕ → View E
  start fixed seen n = view (marks_from 0 n fixed seen) Idle true

  -- a pass between two of its turns
  abbrev pub resting : ℕ → List ℕ → List E → View E
  resting number fixed seen = view (mark number fixed seen ∷ []) Idle false

  -- a pass in its turn
  abbrev pub in_turn : ℕ → List ℕ → List E → ℕ → View E
  in_turn number fixed log t = view (mark number fixed log ∷ []) (Turn t) false

  -- what is known of a number that has seen the log
  abbrev pub told : List E → Mark E → Mark E
  told log m = mark m.number m.fixed log

  -- a seat that gave all that it knew to another
  abbrev pub spent : View E
  spent = view [] Idle false

  -- the first of the numbers
  abbrev pub number_of : List (Mark E) → ℕ
  number_of [] = 0
  number_of (m ∷ ms) = m.number

  -- what is fixed, as the first of the numbers knows it
  abbrev pub fixed_of : List (Mark E) → List ℕ
  fixed_of [] = []
  fixed_of (m ∷ ms) = m.fixed

  -- what the first of the numbers has seen
  abbrev pub seen_of : List (Mark E) → List E
  seen_of [] = []
  seen_of (m ∷ ms) = m.seen

  -- how many numbers a view has
  abbrev pub numbers_of : View E → ℕ
  numbers_of v = length v.marks

  -- how many tickets a view has
  abbrev pub tickets_of : View E → ℕ
  tickets_of v = ticket_count v.stage

  -- one of the marks is of the number k
  abbrev pub HasNumber : ℕ → List (Mark E) → Type 0
  HasNumber k [] = ⊥
  HasNumber k (m ∷ ms) = (m.number ≡ k) ⊎ HasNumber k ms

  -- no number stands twice
  abbrev pub Distinct : List (Mark E) → Type 0
  Distinct [] = Unit {0}
  Distinct (m ∷ ms) = Each (λ n. n.number ≢ m.number) ms × Distinct ms
