-- Conditions by their tests ([cpp.cond]).
use Rattle.std.proofs.Common.{◌≡◌, ℕ, ◌+◌, ◌<◌, Bool, List, [], ◌∷◌, refl, ap, ◌∙◌, subst, arith}
use Rattle.std.specs.Prelude.{Option, Some, None}
use Rattle.std.specs.Option.{option_map}
use Rattle.scan_model.specs.declared.token.Tok.{Tok}
use Rattle.scan_model.specs.declared.token.Line.{Line}
use Rattle.scan_model.specs.declared.unit_end.FaultKind.TheVariants as FaultIs
use Rattle.scan_model.specs.HeaderName.{Term, Plain, Has, terms}
use Rattle.scan_model.specs.Condition.{value}
use Rattle.scan_model.specs.Files.{FileMap}
use Rattle.scan_model.specs.State.{Setup, Core}
use Rattle.scan_model.specs.Effect.{Effect}
use Rattle.scan_model.specs.Conditionals.{with_has_values, on_value, on_terms, on_chosen, opening_of}
use Rattle.if_values.specs.Known.{has_count}
use Rattle.plain_lines.specs.declared.action.Action.{Action}
use Rattle.plain_lines.specs.declared.kept_line.KeptLine.{KeptLine}
use Rattle.plain_lines.specs.declared.state.FileState.{FileState}
use Rattle.plain_lines.specs.declared.state.UnitState.{UnitState}
use Rattle.plain_lines.specs.States.{core_of}
use Rattle.plain_lines.specs.Lines.{line_of}
use Rattle.plain_lines.specs.Actions.{LineEffect, Acts}
use Rattle.plain_lines.proofs.ActLemmas.{acts_as}

module _ (files : FileMap (List Line)) (setup : Setup) (l : Line) where
  no_tests : (ts : List Term) (c : Core) (further : List Bool → Core → Effect (List Line)) → 0 ≡ has_count ts → with_has_values files setup l ts c further ≡ further [] c
  no_tests [] c further e = refl
  no_tests (Plain t ∷ ts) c further e = no_tests ts c further e
  no_tests (Has next form name ∷ ts) c further e = absurd (omega arith)

counted : (n : ℕ) (o : Option (List Term)) → Some n ≡ option_map has_count o → (ts : List Term) × ((o ≡ Some ts) × (n ≡ has_count ts))
counted n None e = cc
counted n (Some ts) e = (ts, (refl, cc))

module _ (at : KeptLine) (toks : List Tok) (is_elif : Bool) (file : FileState) (unit : UnitState) where
  -- what the condition does
  abbrev pub by_terms : LineEffect
  by_terms files setup c = on_terms files setup c (line_of at) toks (on_chosen (line_of at) (opening_of is_elif c.stack)) (terms toks)

  abbrev by_value : List Bool → LineEffect
  by_value has files setup c = on_value (line_of at) (on_chosen (line_of at) (opening_of is_elif c.stack)) (value toks has) c

  pub concluded : (seen : List Tok) (file' : FileState) (unit' : UnitState) (action : Action) → seen ≡ toks → Some 0 ≡ option_map has_count (terms toks) →
      Acts at (λ files setup c. on_value (line_of at) (on_chosen (line_of at) (opening_of is_elif c.stack)) (value seen []) c) file unit file' unit' action → Acts at by_terms file unit file' unit' action
  concluded seen file' unit' action same e h = acts_as at by_terms (by_value []) file unit file' unit' action
      (λ files setup d entered looked.
      let c = core_of at.path.now entered looked file unit in
      let found = counted 0 (terms toks) e in
      ap (on_terms files setup c (line_of at) toks (on_chosen (line_of at) (opening_of is_elif c.stack))) found.1.0
      ∙ no_tests files setup (line_of at) found.0 c (λ has. on_value (line_of at) (on_chosen (line_of at) (opening_of is_elif c.stack)) (value toks has)) found.1.1)
      (subst (λ (ts : List Tok). Acts at (λ files setup c. on_value (line_of at) (on_chosen (line_of at) (opening_of is_elif c.stack)) (value ts []) c) file unit file' unit' action) same h)
