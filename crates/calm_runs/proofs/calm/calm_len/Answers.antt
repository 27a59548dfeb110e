use Rattle.std.proofs.Common.{◌+◌, ◌≤◌, length, arith}
use Rattle.calm_runs.proofs.LaneLemmas.{calm_more}
use Rattle.calm_runs.proofs.calm.calm_len.Goals as goal

pub returns-then-calm-lt16-clause-all : goal.returns-then-calm-lt16-clause-all
returns-then-calm-lt16-clause-all c =
    let calm = c.calm_lanes-calm in
    calm_more c.args.written.now c.lanes.len _ c.lanes.invariant.all (omega arith) (omega (arith, calm.ensures.within, c.lanes-test.true, c.lanes.invariant.within)) calm.ensures.all

pub lanes-preserved : goal.lanes-preserved
lanes-preserved c =
    let calm = c.calm_lanes-calm in
    let within : c.lanes.len + calm.result ≤ length c.args.written.now = omega (arith, calm.ensures.within, c.lanes-test.true, c.lanes.invariant.within) in
    record { within = within; all = calm_more c.args.written.now c.lanes.len _ c.lanes.invariant.all (omega arith) within calm.ensures.all }
