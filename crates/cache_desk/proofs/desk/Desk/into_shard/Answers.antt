use Rattle.std.proofs.Common.{rules, ◌≡◌, ◌+◌, ◌≤◌, length, refl, sym, ap, subst, ◌∙◌, arith}
use Rattle.cache_desk.proofs.IndexLemmas.{all_known}
use Rattle.cache_desk.proofs.desk.Desk.into_shard.Goals as goal

pub rows_of-rows-requires-clause-known : goal.rows_of-rows-requires-clause-known
rows_of-rows-requires-clause-known g c κs within = all_known c.self.inside.events.items c.self.inside.places c.self.invariant.3

pub rows_of-rows-requires-clause-room : goal.rows_of-rows-requires-clause-room
rows_of-rows-requires-clause-room g c κs within =
    let n = c.self.invariant.4 in let room = c.self.invariant.1.for_rows in (c.self.invariant.2, omega arith)
