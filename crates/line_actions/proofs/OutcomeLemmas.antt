-- What a line does whose tokens are replaced ([cpp.replace]).
use Rattle.std.proofs.Common.{◌≡◌, ℕ, List, refl, ap, sym, ◌∙◌, subst}
use Rattle.std.specs.Prelude.{Option, OnErr}
use Rattle.std.specs.declared.result.Result.{Result}
use Rattle.std.specs.declared.result.Result.TheVariants.{Ok, Err}
use Rattle.scan_model.specs.declared.token.Tok.{Tok}
use Rattle.scan_model.specs.declared.token.Line.{Line}
use Rattle.scan_model.specs.declared.expansion.Site.{Site}
use Rattle.scan_model.specs.declared.expansion.Mode.{Mode}
use Rattle.scan_model.specs.declared.expansion.Expanded.{Expanded}
use Rattle.scan_model.specs.declared.expansion.Expanded.TheVariants as Gives
use Rattle.scan_model.specs.declared.unit_end.FaultKind.{FaultKind}
use Rattle.scan_model.specs.Expansion.{expand}
use Rattle.scan_model.specs.Files.{FileMap}
use Rattle.scan_model.specs.State.{Setup, Core}
use Rattle.scan_model.specs.Effect.{Effect, stop}
use Rattle.scan_model.specs.Replacing.{on_expanded, with_replaced}
use Rattle.macro_table.specs.Table.{macros_of}
use Rattle.plain_lines.specs.declared.action.Action.{Action}
use Rattle.plain_lines.specs.declared.action.Action.TheVariants.{Stops}
use Rattle.plain_lines.specs.declared.kept_line.KeptLine.{KeptLine}
use Rattle.plain_lines.specs.declared.state.FileState.{FileState}
use Rattle.plain_lines.specs.declared.state.UnitState.{UnitState}
use Rattle.plain_lines.specs.States.{site_of, core_of}
use Rattle.plain_lines.specs.Lines.{line_of}
use Rattle.plain_lines.specs.Actions.{Does, Acts, IsSame}
use Rattle.line_actions.specs.Replaced.{outcome}

-- by what the code has of the replaced tokens
abbrev pub on_outcome : Core → Line → (List Tok → Effect (List Line)) → Result (List Tok) FaultKind → Effect (List Line)
on_outcome c l further (Ok toks) = further toks
on_outcome c l further (Err fault) = stop fault c l

with_outcome : (c : Core) (l : Line) (further : List Tok → Effect (List Line)) (x : Expanded) → on_expanded c l further x ≡ on_outcome c l further (outcome x)
with_outcome c l further (Gives.Done toks counter) = refl
with_outcome c l further Gives.Bad = refl
with_outcome c l further Gives.TooLong = refl
with_outcome c l further Gives.Counter = refl

-- what follows the replaced tokens
abbrev pub Further : Type 0
Further = FileMap (List Line) → Setup → Core → List Tok → Effect (List Line)

module _ (at : KeptLine) (mode : Mode) (toks : List Tok) (further : Further) (file : FileState) (unit : UnitState) (site : Option Site) (same : site_of at.path.now site ≡ site_of at.path.now file.site) where
  -- the file with this site
  abbrev pub sited : FileState
  sited = record file { site = site }

  abbrev given : Result (List Tok) FaultKind
  given = outcome (expand (macros_of unit.macros).defs (site_of at.path.now file.site) mode toks)

  same_core : (entered : ℕ) (looked : List (List ℕ)) → core_of at.path.now entered looked sited unit ≡ core_of at.path.now entered looked file unit
  same_core entered looked = ap (λ s. let c : Core = record (core_of at.path.now entered looked file unit) { site = s } in c) same

  effect_is : (files : FileMap (List Line)) (setup : Setup) (entered : ℕ) (looked : List (List ℕ)) (r : Result (List Tok) FaultKind) → r ≡ given →
      let c = core_of at.path.now entered looked file unit in
      with_replaced mode c (line_of at) toks (further files setup c) ≡ on_outcome c (line_of at) (further files setup c) r
  effect_is files setup entered looked r is = let c = core_of at.path.now entered looked file unit in
      with_outcome c (line_of at) (further files setup c) (expand c.macros.defs c.site mode toks) ∙ ap (on_outcome c (line_of at) (further files setup c)) (sym is)

  -- the tokens are replaced, and what follows acts
  pub replaced_acts : (out : List Tok) (file' : FileState) (unit' : UnitState) (action : Action) → Ok out ≡ given →
      Acts at (λ files setup c. further files setup c out) sited unit file' unit' action → Acts at (λ files setup c. with_replaced mode c (line_of at) toks (further files setup c)) file unit file' unit' action
  replaced_acts out file' unit' action is h = λ files setup d entered looked.
      let c = core_of at.path.now entered looked file unit in
      let after = core_of at.path.now entered looked file' unit' in
      let P : Core → Type 0 = λ c. Does files setup at c unit.builder after unit'.builder (further files setup c out) action in
      let Q : Effect (List Line) → Type 0 = λ e. Does files setup at c unit.builder after unit'.builder e action in
      subst Q (sym (effect_is files setup entered looked (Ok out) is)) (subst P (same_core entered looked) (h files setup d entered looked))

  -- or that has a fault
  pub replaced_stops : (fault : FaultKind) → Err fault ≡ given → Acts at (λ files setup c. with_replaced mode c (line_of at) toks (further files setup c)) file unit sited unit (Stops fault)
  replaced_stops fault is = λ files setup d entered looked. (effect_is files setup entered looked (Err fault) is, (same_core entered looked, refl))

  -- what is as it was after that is as it was before
  pub same_after : (file' : FileState) (unit' : UnitState) → IsSame at.path.now sited unit file' unit' → IsSame at.path.now file unit file' unit'
  same_after file' unit' h entered looked = ((h entered looked).0 ∙ same_core entered looked, (h entered looked).1)

pub on_err : {X Y : Type 0} (P Q : Type 0) (r : Result X Y) → (P → Q) → OnErr r P → OnErr r Q
on_err P Q (Ok x) step h = tt
on_err P Q (Err y) step h = step h
