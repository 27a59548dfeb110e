use Rattle.std.proofs.Common.{◌≡◌, ◌+◌, ◌≤◌, ◌++◌, length, All}
use Rattle.std.specs.Prelude.{IsSome, vec_capacity}
use Rattle.std.specs.Vec.Iter.{into_iter_items, into_iter_len}
use Rattle.shard_cache.specs.Places.{place_of, IsIndexOf}
use Rattle.cache_desk.specs.Desk.{path_of, rows_in}
use Rattle.cache_desk.proofs.rows.rows_of.Given as goal

abbrev pub invariant-events : goal.invariant-events
invariant-events g l = record {
  count : into_iter_len l.event-iterator ≡ length (into_iter_items l.event-iterator);
  rows : l.rows.items ++ rows_in (into_iter_items l.event-iterator) ≡ rows_in l.fn.events.items;
  room : length l.rows.items + length (rows_in (into_iter_items l.event-iterator)) ≤ vec_capacity l.rows;
  known : All (λ event. IsSome (place_of l.places (path_of event))) (into_iter_items l.event-iterator);
  index : IsIndexOf (λ row. row.path) l.rows.items l.places;
}
