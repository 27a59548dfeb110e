use Rattle.std.proofs.Common.{◌≡◌, ◌∙◌, ap, refl, ℕ, List}
use Rattle.std.specs.Prelude.{Option, Some, None, is_some}
use Rattle.std.specs.Option.{option_copied}
use Rattle.std.specs.Borrow.{Bor}
use Rattle.scan_model.specs.declared.macros.Def.{Def}
use Rattle.scan_model.specs.declared.token.Kind.TheVariants.{Number}
use Rattle.scan_model.specs.declared.token.Tok.{Tok}
use Rattle.expansion.specs.Lists.{digit_of}
use Rattle.expansion.specs.States.{scope_of}
use Rattle.expansion.proofs.StraightLemmas.{settles-defined}
use Rattle.expansion.proofs.straight.defined.Goals as goal

is_some-copied : (o : Option (Bor Def)) → is_some o ≡ is_some (option_copied o)
is_some-copied None = refl
is_some-copied (Some x) = refl

pub returns : goal.returns
returns c =
    let e = scope_of c.args.scope.now in
    let word = c.args.word.now in
    let found = c.in-Some.found in
    let test = c.is_some-is_defined.ensures ∙ is_some-copied c.get.result ∙ ap (is_some {T = Def}) c.get.ensures.value in
    let digit : List ℕ → Tok = λ (text : List ℕ). record word { kind = Number; text = text } in
    settles-defined e word c.args.rest.now found.left.now found.name.now _ c.in-Some.ensures
    (c.in_ok-in_place.ensures ∙ ap digit (c.digit.ensures ∙ ap digit_of test)) refl
