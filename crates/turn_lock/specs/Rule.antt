-- The rule of the lock's table, which every step keeps. Word 0 is the next ticket, word 1 the ticket that is served.
use Rattle.std.specs.Prelude.{◌≡◌, ℕ, ◌+◌, ◌%◌, ◌^◌, ◌<◌, ◌≤◌, true, false, List, [], ◌∷◌, length, Option, Some, None}
use mathlib.Core.Option.{some}
use mathlib.Core.Option as maybe
use lib.ListN.{get_elem?}
use Rattle.atomic_table.specs.Table.{State}
use Rattle.turn_lock.specs.declared.view.Mark.{Mark}
use Rattle.turn_lock.specs.declared.view.Stage.{Stage}
use Rattle.turn_lock.specs.declared.view.Stage.TheVariants.{Idle, Waits, Turn}
use Rattle.turn_lock.specs.declared.view.View.{View}
use Rattle.turn_lock.specs.Logs.{Fits, Grown}
use Rattle.turn_lock.specs.Views.{Each, total, ticket_count, ticket_of, numbers_of, tickets_of, HasNumber, Distinct}

-- where the state is: not yet put in, at home in the slot, or out with the seat of that place
pub data Phase (T : Type 0) : Type 0 where
  fresh : Phase T
  at_home : T → Phase T
  out_with : ℕ → Phase T

-- a mark: its number is one of the lock's and belongs to this seat, what it has seen fits the log, and what it holds for fixed is fixed
abbrev pub MarkOk : {E : Type 0} → (E → ℕ) → List ℕ → List E → ℕ → (ℕ → ℕ) → ℕ → Mark E → Type 0
MarkOk maker fixed log passes owner seat m = (m.number < passes) × (owner m.number ≡ seat) × Fits maker m.number m.seen log × (m.fixed ≡ fixed)

module _ {T E : Type 0} (log_of : T → List E) (number_fixed : T → List ℕ) (maker : E → ℕ) where
  -- what the slot shows: nothing yet, the state, or that a seat has it
  abbrev pub home : Phase T → List (maybe.Option (Option T))
  home fresh = some None ∷ []
  home (at_home x) = some (Some x) ∷ []
  home (out_with j) = maybe.none ∷ []

  -- before the state is in, the opening view is the only one; a state at home has the log and what is fixed; a state that is out is with a seat in its turn
  abbrev pub PhaseOk : List ℕ → List E → List (View E) → Phase T → Type 0
  PhaseOk fixed log views fresh = (v : View E) × (views ≡ v ∷ []) × (v.opening ≡ true) × Each (λ m. m.seen ≡ log) v.marks
  PhaseOk fixed log views (at_home x) = (log_of x ≡ log) × (number_fixed x ≡ fixed)
  PhaseOk fixed log views (out_with j) = (v : View E) × (t : ℕ) × (get_elem? views j ≡ some v) × (v.stage ≡ Turn t)

  -- the opening view is gone once the state is at home
  abbrev pub MayOpen : Phase T → Type 0
  MayOpen fresh = Unit {0}
  MayOpen (at_home x) = ⊥
  MayOpen (out_with j) = Unit {0}

  -- a ticket that waits is one of those out; a seat in its turn has the ticket that is served, has the slot, and has seen the whole log
  abbrev pub StageOk : ℕ → ℕ → Phase T → List E → ℕ → List (Mark E) → Stage → Type 0
  StageOk turn count phase log seat ms Idle = Unit {0}
  StageOk turn count phase log seat ms (Waits t) = (turn ≤ t) × (t < turn + count)
  StageOk turn count phase log seat ms (Turn t) = (t ≡ turn) × (0 < count) × (phase ≡ out_with seat) × Each (λ m. m.seen ≡ log) ms

  -- what holds of one seat: only one with one number, or the opening one, has a ticket, and the opening one is alone
  pub record SeatOk (fixed : List ℕ) (passes turn count : ℕ) (phase : Phase T) (log : List E) (owner : ℕ → ℕ) (views : ℕ) (seat : ℕ) (v : View E) : Type 0 where
    pub marked : Each (MarkOk maker fixed log passes owner seat) v.marks
    pub distinct : Distinct v.marks
    pub staged : StageOk turn count phase log seat v.marks v.stage
    pub backed : ticket_count v.stage ≤ length v.marks
    pub lone : v.opening ≡ false → 0 < ticket_count v.stage → length v.marks ≡ 1
    pub opens : v.opening ≡ true → (views ≡ 1) × MayOpen phase

  -- the whole rule: turn is the ticket that is served as a number of any size, and owner says which seat has a number
  pub record Ruled (first : List E) (fixed : List ℕ) (passes : ℕ) (s : State (Option T) (View E)) : Type 0 where
    pub turn : ℕ
    pub phase : Phase T
    pub log : List E
    pub owner : ℕ → ℕ
    pub few : passes ≤ 64
    pub words_are : s.words ≡ (turn + total tickets_of s.views) % 2 ^ 64 ∷ turn % 2 ^ 64 ∷ []
    pub homes_are : s.homes ≡ home phase
    pub all_marks : total numbers_of s.views ≡ passes
    pub owned : (k : ℕ) → k < passes → (v : View E) × (get_elem? s.views (owner k) ≡ some v) × HasNumber k v.marks
    pub phase_ok : PhaseOk fixed log s.views phase
    pub each_seat : (j : ℕ) (v : View E) → get_elem? s.views j ≡ some v → SeatOk fixed passes turn (total tickets_of s.views) phase log owner (length s.views) j v
    pub apart : (i j t : ℕ) (v w : View E) → get_elem? s.views i ≡ some v → get_elem? s.views j ≡ some w → ticket_of v.stage ≡ some t → ticket_of w.stage ≡ some t → i ≡ j
    pub grown : Grown maker passes first log
