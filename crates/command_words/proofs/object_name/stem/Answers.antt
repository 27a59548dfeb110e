use Rattle.std.proofs.Common.{arith, rules}
use Rattle.command_words.proofs.LastSeparator.{rsplit_once_char}
use Rattle.command_words.proofs.object_name.stem.Goals as goal

pub returns-in-Some : goal.returns-in-Some
returns-in-Some c =
    let split = rsplit_once_char 46 c.args.name.now _ c.rsplit_once.ensures.cases (omega arith) in
    rw (← split) (grind rules)

pub returns-in-None : goal.returns-in-None
returns-in-None c =
    let split = rsplit_once_char 46 c.args.name.now _ c.rsplit_once.ensures.cases (omega arith) in
    rw (← split) (grind rules)
