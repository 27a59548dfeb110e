use Rattle.std.proofs.Common.{◌≡◌, ap, arith}
use Rattle.std.specs.Prelude.{length}
use Rattle.expansion.proofs.RescanLemmas.{rescan-bad, rescan-too_long, rescan-goes}
use Rattle.expansion.proofs.machine.Machine.rescan.Goals as goal

pub returns-in_default : goal.returns-in_default
returns-in_default c = λ e. rescan-bad e c.args.self.now _ c.args.list c.in_default.is

pub returns-then-length-self : goal.returns-then-length-self
returns-then-length-self c = λ e. rescan-too_long e c.args.self.now _ c.args.list c.in-Some.list c.in-Some.is (omega (arith, c.if-length-self.true, ap length c.as_slice-length.ensures))

pub returns : goal.returns
returns c =
    let same : length c.as_slice-length.result.now ≡ length c.in-Some.list = ap length c.as_slice-length.ensures in
    λ e. rescan-goes e c.args.self.now c.args.added c.args.list c.in-Some.list _ _ _ c.requires.valid c.in-Some.is (omega arith) (omega arith) c.put_before.ensures.extended c.in_ok-put_before.ensures.value c.in_ok-put_before.ensures.others
