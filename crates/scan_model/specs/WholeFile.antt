-- One step over a line of a whole file, and the file ([cpp.pre], [cpp.include]).
use Rattle.std.specs.Prelude.{ℕ, zero, suc, ◌+◌, ◌-◌, nat_le, if◌then◌else◌, List, [], ◌∷◌, ◌++◌, Option}
use Rattle.scan_model.specs.declared.token.Line.{Line}
use Rattle.scan_model.specs.declared.expansion.Expanded.{Expanded}
use Rattle.scan_model.specs.Lines.{is_directive}
use Rattle.scan_model.specs.Expansion.{expand}
use Rattle.scan_model.specs.Files.{FileMap}
use Rattle.scan_model.specs.Site.{first_site}
use Rattle.scan_model.specs.State.{Group, Setup, Core, State, Reached, Going, then_go}
use Rattle.scan_model.specs.Stream.{Run}
use Rattle.scan_model.specs.Effect.{Enter, halted, done, fault}
use Rattle.scan_model.specs.Conditionals.{is_skipped}
use Rattle.scan_model.specs.DirectiveLines.{effect}
use Rattle.scan_model.specs.declared.expansion.Mode.TheVariants as ModeIs
use Rattle.scan_model.specs.declared.expansion.Expanded.TheVariants as Gives
use Rattle.scan_model.specs.declared.unit_end.FaultKind.TheVariants as FaultIs

-- ## Text

-- the run is expanded as one list; where that is bad or too long it is passed on as written
abbrev pub run_done : State → Expanded → State
run_done s (Gives.Done toks counter) = record s { run = []; counter = counter; stream = s.stream ++ Run s.core.path toks ∷ [] }
run_done s answer = record s { run = []; stream = s.stream ++ Run s.core.path s.run ∷ [] }

unfoldable pub end_run : State → State
end_run s = run_done s (expand s.core.macros.defs s.core.site (ModeIs.Text s.counter) s.run)

-- ## The step

abbrev pub joined : State → Line → State
joined s l = record s { run = s.run ++ l.toks }

-- a line of text joins the run; a directive ends the run and acts
unfoldable pub full_line : {X : Type 0} → Enter X → FileMap X → Setup → State → Line → Reached
full_line enter files setup s l =
    let acts = done enter (end_run s) (effect files setup s.core l) in
    if is_directive l then acts else if is_skipped s.core.stack then Going s else Going (joined s l)

abbrev pub full_lines : {X : Type 0} → Enter X → FileMap X → Setup → List Line → State → Reached
full_lines enter files setup [] s = Going s
full_lines enter files setup (l ∷ ls) s = then_go (full_lines enter files setup ls) (full_line enter files setup s l)

-- ## The file

abbrev pub at_file_start : List ℕ → Option ℕ → Core → Core
at_file_start path chain_place c =
    record c { path = path; site = first_site path; chain_place = chain_place; stack = []; entered = c.entered + 1 }

-- the includer's own go on
abbrev pub back_in : Core → Core → Core
back_in includer c =
    record c { path = includer.path; site = includer.site; chain_place = includer.chain_place; stack = includer.stack }

abbrev pub at_file_end : Core → State → List Group → Reached
at_file_end includer s [] = Going (record s { core = back_in includer s.core })
at_file_end includer s (g ∷ gs) =
    halted (fault FaultIs.Unbalanced (record { path = s.core.path; line = g.line })) s.core.looked s

-- how a file's lines are seen: all of them, or those that are kept
abbrev pub View : Type 0 → Type 0
View X = X → List Line

-- a file from which others are entered by `enter`
unfoldable pub full_file : {X : Type 0} → View X → Enter X → FileMap X → Setup → List ℕ → Option ℕ → X → State → Reached
full_file view enter files setup path chain_place text s =
    then_go (λ last. at_file_end s.core (end_run last) last.core.stack)
    (full_lines enter files setup (view text) (record s { core = at_file_start path chain_place s.core }))

abbrev pub entered_limit : ℕ
entered_limit = 65536

-- Enters a file from which files may be entered n - 1 deep; a file of depth d is entered with n = 201 - d.
unfoldable pub enter : {X : Type 0} → View X → FileMap X → Setup → ℕ → Enter X
enter view files setup zero place path chain_place text s = halted (fault FaultIs.TooDeep place) s.core.looked s
enter view files setup (suc n) place path chain_place text s =
    let whole = full_file view (enter view files setup n) files setup path chain_place text s in
    if nat_le entered_limit s.core.entered then halted (fault FaultIs.TooManyEntered place) s.core.looked s else whole

abbrev pub enter_at_depth : {X : Type 0} → View X → FileMap X → Setup → ℕ → Enter X
enter_at_depth view files setup depth = enter view files setup (201 - depth)
