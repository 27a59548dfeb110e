use Rattle.std.proofs.lemmas.List.{take_rest}
use Rattle.substitution.proofs.StringLemmas.{bytes-step}
use Rattle.substitution.proofs.strings.add_bytes.Goals as goal

pub bytes-preserved : goal.bytes-preserved
bytes-preserved c = bytes-step c.args.quoted c.args.bytes.now c.bytes.i _ _ _ c.bytes-test.true c.bytes.invariant (rw take_rest at c.in_ok-add_byte.ensures)
