-- What a line does, from what its parts do.
use Rattle.std.proofs.Common.{◌≡◌, ℕ, Bool, true, List, refl, ap, sym, ◌∙◌, subst}
use Rattle.std.specs.Prelude.{Result, Ok, Err, IfOk}
use Rattle.scan_model.specs.declared.token.Line.{Line}
use Rattle.scan_model.specs.Files.{FileMap}
use Rattle.scan_model.specs.State.{Setup, Core}
use Rattle.scan_model.specs.Effect.{Effect, Now, stop}
use Rattle.scan_model.specs.declared.unit_end.FaultKind.{FaultKind}
use Rattle.plain_lines.specs.declared.action.Action.{Action}
use Rattle.plain_lines.specs.declared.action.Action.TheVariants.{Goes, Stops}
use Rattle.plain_lines.specs.declared.kept_line.KeptLine.{KeptLine}
use Rattle.plain_lines.specs.declared.state.FileState.{FileState}
use Rattle.plain_lines.specs.declared.state.UnitState.{UnitState}
use Rattle.scan_model.specs.Conditionals.{next_group, on_chosen, opening_of}
use Rattle.plain_lines.specs.declared.conditionals.NextGroup.TheVariants.{Asked}
use Rattle.plain_lines.specs.States.{groups_of, core_of}
use Rattle.plain_lines.specs.NextGroups.{finds}
use Rattle.plain_lines.proofs.ConditionLemmas.{on_next, next_group-found}
use Rattle.plain_lines.specs.Lines.{line_of}
use Rattle.plain_lines.specs.Actions.{LineEffect, Does, Acts}

module _ (at : KeptLine) where
  -- the effects are the same where they count: at this state of the file and the unit
  abbrev pub SameEffect : FileState → UnitState → LineEffect → LineEffect → Type 0
  SameEffect file unit e f =
      (files : FileMap (List Line)) (setup : Setup) → setup.command.dialect ≡ at.dialect → (entered : ℕ) (looked : List (List ℕ)) →
      e files setup (core_of at.path.now entered looked file unit) ≡ f files setup (core_of at.path.now entered looked file unit)

  pub acts_as : (e f : LineEffect) (file : FileState) (unit : UnitState) (file' : FileState) (unit' : UnitState) (action : Action) →
      SameEffect file unit e f → Acts at f file unit file' unit' action → Acts at e file unit file' unit' action
  acts_as e f file unit file' unit' action same h = λ files setup d entered looked.
      let P : Effect (List Line) → Type 0 = λ z. Does files setup at (core_of at.path.now entered looked file unit) unit.builder (core_of at.path.now entered looked file' unit') unit'.builder z action in
      subst P (sym (same files setup d entered looked)) (h files setup d entered looked)

  -- a fault, where nothing has changed
  pub acts_stops : (e : LineEffect) (file : FileState) (unit : UnitState) (kind : FaultKind) →
      SameEffect file unit e (λ files setup c. stop kind c (line_of at)) → Acts at e file unit file unit (Stops kind)
  acts_stops e file unit kind same = λ files setup d entered looked. (same files setup d entered looked, (refl, refl))

  -- nothing, where nothing has changed
  pub acts_nothing : (e : LineEffect) (file : FileState) (unit : UnitState) →
      SameEffect file unit e (λ files setup c. Now c) → Acts at e file unit file unit Goes
  acts_nothing e file unit same = λ files setup d entered looked. (same files setup d entered looked, refl)

-- ## Conditionals

-- an effect that a condition's value leads to
abbrev pub Asks : Type 0
Asks = FileMap (List Line) → Setup → Core → (Bool → Core → Effect (List Line)) → Effect (List Line)

module _ (at : KeptLine) (condition : Asks) where
  -- a next group whose condition is asked does what the condition leads to
  pub next_asked : (file : FileState) (unit : UnitState) (file' : FileState) (unit' : UnitState) (action : Action) → finds (groups_of file.groups.items) ≡ Asked →
      Acts at (λ files setup c. condition files setup c (on_chosen (line_of at) (opening_of true c.stack))) file unit file' unit' action →
      Acts at (λ files setup c. next_group c (line_of at) (condition files setup c) c.stack) file unit file' unit' action
  next_asked file unit file' unit' action found = acts_as at (λ files setup c. next_group c (line_of at) (condition files setup c) c.stack) (λ files setup c. condition files setup c (on_chosen (line_of at) (opening_of true c.stack))) file unit file' unit' action
      (λ files setup d entered looked. let c = core_of at.path.now entered looked file unit in
      next_group-found c (line_of at) (condition files setup c) c.stack ∙ ap (on_next c (line_of at) (condition files setup c) c.stack) found)

pub if_ok : {X Y : Type 0} (P Q : X → Type 0) (r : Result X Y) → ((x : X) → P x → Q x) → IfOk r P → IfOk r Q
if_ok P Q (Ok x) step h = step x h
if_ok P Q (Err y) step h = tt
