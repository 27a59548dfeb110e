use Rattle.std.proofs.Common.{◌<◌, ◌∙◌, length, sym, ap, arith}
use Rattle.std.specs.Option.{option_map}
use Rattle.std.proofs.lemmas.List.{take_rest}
use Rattle.line_actions.specs.Names.{angled_name, spelled}
use Rattle.line_actions.proofs.NameLemmas.{name_nothing, name_string, name_angle, name_other}
use Rattle.line_actions.proofs.header_names.name_of.Goals as goal

pub returns-then-is_empty : goal.returns-then-is_empty
returns-then-is_empty c = name_nothing c.args.toks.now (grind (arith, c.if-is_empty.ensures))

pub returns-then-is_plain_string : goal.returns-then-is_plain_string
returns-then-is_plain_string c = let some : 0 < length c.args.toks.now = grind (arith, c.if-is_empty.ensures) in
    let text = c.as_slice.ensures in
    rw (name_string c.args.toks.now c.index-toks-0.result some c.index-toks-0.is (sym c.if-is_plain_string.ensures)) (rw text at c.quoted.ensures)

pub returns-then-not-is_less : goal.returns-then-not-is_less
returns-then-not-is_less c = let some : 0 < length c.args.toks.now = grind (arith, c.if-is_empty.ensures) in
    sym (name_other c.args.toks.now c.index-toks-0.result some c.index-toks-0.is (sym c.if-is_plain_string.ensures) (sym c.if-not-is_less.ensures))

pub returns : goal.returns
returns c = let some : 0 < length c.args.toks.now = grind (arith, c.if-is_empty.ensures) in
    c.as_angled.ensures ∙ ap (option_map angled_name) (c.in_ok-angled.ensures ∙ ap spelled (take_rest c.args.toks.now 1))
    ∙ sym (name_angle c.args.toks.now c.index-toks-0.result some c.index-toks-0.is (sym c.if-is_plain_string.ensures) (sym c.if-not-is_less.ensures))
