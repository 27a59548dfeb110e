-- What a clause says of a lock and of its passes.
use Rattle.std.specs.Prelude.{◌≡◌, ℕ, ◌+◌, List, [], ◌∷◌, ◌++◌, Some, slice_get, All}
use Rattle.turn_lock.specs.declared.view.Mark.{Mark}
use Rattle.atomic_table.specs.Seated.{TableId}
use Rattle.turn_lock.specs.declared.Logged.{Ghosts}
use Rattle.turn_lock.specs.declared.lock.Pass.{Pass}
use Rattle.turn_lock.specs.declared.lock.TurnLock.{TurnLock}
use Rattle.turn_lock.specs.Logs.{Fits}
use Rattle.turn_lock.specs.Views.{seen_of, fixed_of, mark}

module _ {T E : Type 0} where
  -- which lock it is
  abbrev pub lock_id : TurnLock T E → TableId
  lock_id l = l.table.shared.table_id

  -- how many passes it has
  abbrev pub pass_count : TurnLock T E → ℕ
  pass_count l = l.table.shared.key.passes

  -- the log of the state that it was made with
  abbrev pub first_log : (T → List E) → TurnLock T E → List E
  first_log log l = log l.table.shared.key.first.value

  -- what is fixed of the state that it was made with
  abbrev pub lock_fixed : (T → List ℕ) → TurnLock T E → List ℕ
  lock_fixed fixed l = fixed l.table.shared.key.first.value

  module _ {g : Ghosts T E} where
    -- which lock the pass is of
    abbrev pub pass_lock : Pass T E g → TableId
    pass_lock p = p.seat.table_id

    abbrev pub number : Pass T E g → ℕ
    number p = p.number

    -- the log that the pass has seen
    abbrev pub seen : Pass T E g → List E
    seen p = seen_of p.seat.me.0.marks

    -- what is fixed, as the pass knows it
    abbrev pub pass_fixed : Pass T E g → List ℕ
    pass_fixed p = fixed_of p.seat.me.0.marks

    -- the pass is one of the lock's, and what it knows to be fixed is the lock's
    abbrev pub IsPassOf : TurnLock T E → Pass T E g → Type 0
    IsPassOf l p = (pass_lock p ≡ lock_id l) × (pass_fixed p ≡ lock_fixed g.fixed l)

    -- the log begins with what the pass has seen, and no later entry names the pass
    abbrev pub FitsPass : List E → Pass T E g → Type 0
    FitsPass log p = Fits g.maker (number p) (seen p) log

    -- the passes have the numbers from k on, and each has seen the log and knows what is fixed
    abbrev pub Dealt : TableId → List ℕ → List E → ℕ → List (Pass T E g) → Type 0
    Dealt id fixed log k [] = Unit {0}
    Dealt id fixed log k (p ∷ ps) = ((pass_lock p ≡ id) × (number p ≡ k) × (seen p ≡ log) × (pass_fixed p ≡ fixed)) × Dealt id fixed log (k + 1) ps

    -- the passes are of the lock, have the numbers from 0 on, in order, and each has seen the log
    abbrev pub AreFirst : TurnLock T E → List E → List (Pass T E g) → Type 0
    AreFirst l log ps = (k : ℕ) (p : Pass T E g) → slice_get ps k ≡ Some p → IsPassOf l p × (number p ≡ k) × (seen p ≡ log)

    -- what the pass knows, under its number
    abbrev pub mark_of : Pass T E g → Mark E
    mark_of p = mark (number p) (pass_fixed p) (seen p)

    -- one of the passes has the number k
    abbrev pub IsNamed : List (Pass T E g) → ℕ → Type 0
    IsNamed ps k = (i : ℕ) × (p : Pass T E g) × (slice_get ps i ≡ Some p) × (number p ≡ k)

    -- the log begins with the first, and each later entry names one of the passes
    abbrev pub GrownBy : (E → ℕ) → List (Pass T E g) → List E → List E → Type 0
    GrownBy maker ps first log = (rest : List E) × (log ≡ first ++ rest) × All (λ e. IsNamed ps (maker e)) rest
