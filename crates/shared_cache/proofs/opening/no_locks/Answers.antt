use Rattle.cache_desk.specs.Desk.{log_of, fixed_of}
use Rattle.shared_cache.proofs.NewLemmas.{made_none}
use Rattle.shared_cache.proofs.opening.no_locks.Goals as goal

pub returns-clause-made : goal.returns-clause-made
returns-clause-made g c =
    made_none (log_of g.S.Source.given_outcome g.S.Source.given_bytes) fixed_of c.args.workers c.in_ok-locks.locks.items c.in_ok-rooms.rooms.items c.in_ok-hands.hands.items c.in_ok-locks.ensures.items c.in_ok-rooms.ensures.items c.in_ok-hands.ensures.count c.requires c.in_ok-hands.ensures.dealt
