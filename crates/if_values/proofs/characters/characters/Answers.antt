use Rattle.std.proofs.Common.{◌<◌, ◌∙◌, length, arith, rules, sym}
use Rattle.if_values.proofs.CharacterLemmas.{reads-more, reads-shorter}
use Rattle.if_values.proofs.characters.characters.Goals as goal

pub characters-smaller : goal.characters-smaller
characters-smaller c =
    let some : 0 < length c.characters.rest.now = grind (arith, c.if-is_empty.ensures) in
    reads-shorter c.characters.rest.now c.in_ok-found.found.after.now c.in_ok-found.found.value (λ e. c.characters-test.true (c.byte_at.ensures ∙ e)) some (sym c.in_ok-found.ensures)

pub characters-preserved : goal.characters-preserved
characters-preserved c =
    let l = c.characters in
    let some : 0 < length l.rest.now = grind (arith, c.if-is_empty.ensures) in
    record {
      few = omega arith;
      long = search rules;
      read = reads-more c.args.text.now l.rest.now c.in_ok-found.found.after.now l.bytes l.count c.in_ok-found.found.value l.invariant.read (λ e. c.characters-test.true (c.byte_at.ensures ∙ e)) some (omega arith) (sym c.in_ok-found.ensures);
    }
