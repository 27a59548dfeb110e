use Rattle.std.proofs.Common.{reverse}
use Rattle.workers.specs.Hands.{IsDone}
use Rattle.workers.proofs.HandLemmas.{All-reverse, all_ready}
use Rattle.workers.proofs.working.work_together.Goals as goal

pub work_all-hands-requires-clause-ready : goal.work_all-hands-requires-clause-ready
work_all-hands-requires-clause-ready g c κs within = all_ready _ _ _ _ _ c.requires.ready c.put_together-seats.ensures.parts

pub returns-clause-done : goal.returns-clause-done
returns-clause-done g c =
    (reverse c.work_all-hands.result.items, c.take_apart.ensures.parts, All-reverse (IsDone c.args.cache.now c.args.tickets.now c.args.settings.now c.args.jobs.now) _ c.work_all-hands.ensures.done)
