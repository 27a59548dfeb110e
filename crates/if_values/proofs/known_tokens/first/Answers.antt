use Rattle.std.proofs.Common.{◌≡◌, ◌<◌, ◌∙◌, sym, ap, length, arith}
use Rattle.if_values.specs.Items.{first_of}
use Rattle.scan_model.specs.Condition.{has_literal}
use Rattle.std.specs.Prelude.{Some, Bool}
use Rattle.if_values.proofs.KnownLemmas.{known-entry, known-plain, known-nothing}
use Rattle.if_values.proofs.known_tokens.first.Goals as goal

pub returns-then-is_empty : goal.returns-then-is_empty
returns-then-is_empty c =
    let none : length c.args.toks.now ≡ 0 = grind (arith, c.if-is_empty.ensures) in
    sym (ap first_of (known-nothing c.args.toks.now c.args.has.now none))

pub first_entry-requires : goal.first_entry-requires
first_entry-requires c =
    let some : 0 < length c.args.toks.now = grind (arith, c.if-is_empty.ensures) in
    (known-entry c.args.toks.now c.index-toks-0.result c.args.has.now some c.index-toks-0.is (sym c.if-is_has.ensures) c.requires).0

pub returns-then-is_has : goal.returns-then-is_has
returns-then-is_has c =
    let some : 0 < length c.args.toks.now = grind (arith, c.if-is_empty.ensures) in
    ap (λ (b : Bool). Some (has_literal b)) c.first_entry.ensures
    ∙ sym (known-entry c.args.toks.now c.index-toks-0.result c.args.has.now some c.index-toks-0.is (sym c.if-is_has.ensures) c.requires).1

pub returns-else-is_has : goal.returns-else-is_has
returns-else-is_has c =
    let some : 0 < length c.args.toks.now = grind (arith, c.if-is_empty.ensures) in
    sym (ap first_of (known-plain c.args.toks.now c.index-toks-0.result c.args.has.now some c.index-toks-0.is (sym c.if-is_has.ensures) c.requires).0)
