use Rattle.std.proofs.Common.{◌≡◌, Some, sym, ◌∙◌, ap, arith}
use Rattle.std.specs.Option.{option_map}
use Rattle.scan_model.specs.declared.condition.HasNext.TheVariants.{End, Bad, At}
use Rattle.scan_model.specs.HeaderName.{header_or_name}
use Rattle.line_actions.specs.Names.{form_and_name}
use Rattle.if_values.proofs.WalkLemmas.{walked}
use Rattle.line_actions.proofs.TestLemmas.{finds_none, never_bad, finds_test, has_some_name}
use Rattle.line_actions.proofs.conditions.next_test.Goals as goal

pub returns-in-End : goal.returns-in-End
returns-in-End c = finds_none c.args.toks.now c.args.from (walked c.args.toks.now c.args.from End c.requires.place c.in-End.ensures)

pub unreachable-requires : goal.unreachable-requires
unreachable-requires c = never_bad c.args.toks.now c.args.from c.in-Bad.field-0 c.requires.terms (walked c.args.toks.now c.args.from (Bad c.in-Bad.field-0) c.requires.place c.in-Bad.ensures)

pub rest-requires : goal.rest-requires
rest-requires c = let w = walked c.args.toks.now c.args.from (At c.in-At.at) c.requires.place c.in-At.ensures in w.1.inside

pub overflow_add-result : goal.overflow_add-result
overflow_add-result c = let w = walked c.args.toks.now c.args.from (At c.in-At.at) c.requires.place c.in-At.ensures in
    omega (arith, w.1.within)

pub unreachable-requires-in-None : goal.unreachable-requires-in-None
unreachable-requires-in-None c = let w = walked c.args.toks.now c.args.from (At c.in-At.at) c.requires.place c.in-At.ensures in
    has_some_name c.args.toks.now c.args.from c.in-At.at w
    (ap (λ ts. option_map form_and_name (header_or_name ts)) (sym c.rest.ensures) ∙ sym c.in_ok-form-in-At.ensures ∙ c.in-None.is)

pub returns-in-Some : goal.returns-in-Some
returns-in-Some c = let w = walked c.args.toks.now c.args.from (At c.in-At.at) c.requires.place c.in-At.ensures in
    let named : c.in_ok-form-in-At.field-0 ≡ Some (c.in-Some.form, c.in-Some.name) = c.in-Some.is in
    finds_test c.args.toks.now c.args.from c.in-At.at c.in-Some.form c.in-Some.name c.requires.terms w
    (ap (λ ts. option_map form_and_name (header_or_name ts)) (sym c.rest.ensures) ∙ sym c.in_ok-form-in-At.ensures ∙ named)
