use Rattle.std.proofs.Common.{◌≡◌, ◌<◌, ◌∙◌, length, drop, sym, ap, arith, ◌-◌, take}
use Rattle.std.specs.Option.{option_map}
use Rattle.std.proofs.lemmas.Grind.{common_steps}
use Rattle.if_values.specs.Names.{name_shape}
use Rattle.if_values.proofs.NameLemmas.{angled-rest, ended_by}
use Rattle.if_values.proofs.header_name.angled.Goals as goal

pub returns-in_err-after-clause-value : goal.returns-in_err-after-clause-value
returns-in_err-after-clause-value c =
    let toks = c.args.toks.now in
    let some : 0 < length toks = grind (arith, c.if-is_empty.ensures) in
    let rest : take (length toks - 1) (drop 1 toks) ≡ drop 1 toks = grind (arith, common_steps) in
    ap (option_map name_shape) c.from_residual.ensures ∙ (ap (option_map ended_by) c.in_err-after.ensures.value ∙ sym (angled-rest toks _ c.index-toks-0.result some c.index-toks-0.is (sym c.if-is_greater.ensures) rest))

pub returns-clause-value : goal.returns-clause-value
returns-clause-value c =
    let toks = c.args.toks.now in
    let some : 0 < length toks = grind (arith, c.if-is_empty.ensures) in
    let rest : take (length toks - 1) (drop 1 toks) ≡ drop 1 toks = grind (arith, common_steps) in
    ap (option_map ended_by) c.in_ok-after.ensures.value ∙ sym (angled-rest toks _ c.index-toks-0.result some c.index-toks-0.is (sym c.if-is_greater.ensures) rest)
