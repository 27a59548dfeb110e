use Rattle.std.proofs.Common.{sym}
use Rattle.scheduler.proofs.MovingLemmas.{wants_to_publish}
use Rattle.scheduler.proofs.moving.step.Goals as goal

pub publish-requires-clause-wanted : goal.publish-requires-clause-wanted
publish-requires-clause-wanted g c κs within =
    let core = c.args.core.now in
    wants_to_publish g.S.Source.given_path g.S.Source.given_outcome g.S.Source.given_bytes core.jobs core.settings core.machine c.args.held.now.items c.args.store.now c.args.worker c.requires.fit (sym c.in-Publish.ensures.wants)
