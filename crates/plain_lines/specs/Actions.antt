-- What a line does, by the action that the code answers.
use Rattle.std.specs.Prelude.{◌≡◌, ℕ, ◌<◌, true, List, [], Some}
use Rattle.std.specs.declared.result.Result.TheVariants.{Ok, Err}
use Rattle.scan_model.specs.declared.token.Line.{Line}
use Rattle.scan_model.specs.declared.command.Form.{Form}
use Rattle.scan_model.specs.HeaderName.{Named, Term, terms}
use Rattle.scan_model.specs.Condition.{value}
use Rattle.scan_model.specs.ModuleLines.{Builder, take}
use Rattle.scan_model.specs.Files.{FileMap}
use Rattle.scan_model.specs.State.{Setup, Core}
use Rattle.scan_model.specs.Stream.{ModuleLine}
use Rattle.scan_model.specs.Effect.{Effect, Now, Sends, stop}
use Rattle.scan_model.specs.Includes.{include_by}
use Rattle.scan_model.specs.Conditionals.{is_skipped, with_has_values, on_value, on_chosen, opening_of}
use Rattle.plain_lines.specs.declared.action.Action.{Action}
use Rattle.plain_lines.specs.declared.action.Action.TheVariants.{Goes, Skips, Sent, Refused, Stops, Includes, Tests}
use Rattle.plain_lines.specs.declared.action.Condition.{Condition}
use Rattle.plain_lines.specs.declared.kept_line.KeptLine.{KeptLine}
use Rattle.plain_lines.specs.declared.state.FileState.{FileState}
use Rattle.plain_lines.specs.declared.state.UnitState.{UnitState}
use Rattle.plain_lines.specs.States.{core_of}
use Rattle.plain_lines.specs.Conditions.{test_count}
use Rattle.plain_lines.specs.Lines.{line_of, BeginsGroup}

-- an effect over any files
abbrev pub LineEffect : Type 0
LineEffect = FileMap (List Line) → Setup → Core → Effect (List Line)

-- a header that is looked for
abbrev pub named : Form → List ℕ → Named
named form name = record { form = form; name = name; after = [] }

-- nothing of the state has changed
abbrev pub Stays : Core → Builder → Core → Builder → Type 0
Stays c b c' b' = (c' ≡ c) × (b' ≡ b)

-- a module or import line of this state and line
abbrev pub IsOf : Core → Line → ModuleLine → Type 0
IsOf c l m = (m.path ≡ c.path) × (m.line ≡ l.line) × (m.looked ≡ c.looked)

-- From the state c and the builder b the line has the effect e, as the action says, and the state is now c' and the
-- builder b'.
module _ (files : FileMap (List Line)) (setup : Setup) (at : KeptLine) (c : Core) (b : Builder) (c' : Core) (b' : Builder) (e : Effect (List Line)) where
  -- the effect is that of the condition, which has these terms
  pub record IsTested (condition : Condition) (ts : List Term) : Type 0 where
    pub terms : terms condition.toks ≡ Some ts
    pub tests : condition.tests ≡ test_count ts
    pub some : 0 < condition.tests
    pub effect : e ≡ with_has_values files setup (line_of at) ts c (λ has. on_value (line_of at) (on_chosen (line_of at) (opening_of condition.is_elif c.stack)) (value condition.toks has))

  abbrev pub Does : Action → Type 0
  Does Goes = (e ≡ Now c') × (b' ≡ b)
  Does Skips = (e ≡ Now c') × (b' ≡ b) × (is_skipped c'.stack ≡ true) × BeginsGroup at
  Does Sent = (m : ModuleLine) × ((e ≡ Sends m c') × (take b m.exported m.keyword m.toks ≡ Ok b') × IsOf c (line_of at) m)
  Does (Refused fault) =
      (m : ModuleLine) × ((e ≡ Sends m c) × (take b m.exported m.keyword m.toks ≡ Err fault) × IsOf c (line_of at) m × Stays c b c' b')
  Does (Stops kind) = (e ≡ stop kind c (line_of at)) × Stays c b c' b'
  Does (Includes form name) = (e ≡ include_by files setup c (line_of at) (named form name)) × Stays c b c' b'
  Does (Tests condition) = (ts : List Term) × (IsTested condition ts × Stays c b c' b' × BeginsGroup at)

-- The same of the line's effect, over all files and setups of its dialect, whatever was entered and looked at before: from
-- these states of the file and the unit to those.
abbrev pub Acts : KeptLine → LineEffect → FileState → UnitState → FileState → UnitState → Action → Type 0
Acts at e file unit file' unit' action =
    (files : FileMap (List Line)) (setup : Setup) → setup.command.dialect ≡ at.dialect → (entered : ℕ) (looked : List (List ℕ)) →
    Does files setup at (core_of at.path.now entered looked file unit) unit.builder (core_of at.path.now entered looked file' unit') unit'.builder
    (e files setup (core_of at.path.now entered looked file unit)) action

-- the definitions see nothing changed
abbrev pub IsSame : List ℕ → FileState → UnitState → FileState → UnitState → Type 0
IsSame path file unit file' unit' =
    (entered : ℕ) (looked : List (List ℕ)) →
    Stays (core_of path entered looked file unit) unit.builder (core_of path entered looked file' unit') unit'.builder
