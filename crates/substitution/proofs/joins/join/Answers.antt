use Rattle.std.proofs.Common.{sym}
use Rattle.substitution.proofs.joins.join.Goals as goal

pub returns-in-Placemarker-clause-value : goal.returns-in-Placemarker-clause-value
returns-in-Placemarker-clause-value c =
    record {
      known = c.as_operand.ensures.known c.args.sets.now c.requires.right;
      meant = rw c.in-Placemarker.is (sym (c.as_operand.ensures.value c.args.sets.now));
    }
