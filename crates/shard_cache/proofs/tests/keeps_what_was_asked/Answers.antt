use Rattle.std.proofs.Common.{◌≡◌, ◌∙◌, [], ap}
use Rattle.std.proofs.lemmas.List.Elements.{All-nil}
use Rattle.shard_cache.specs.Rows.{shard_number, all_rows}
use Rattle.shard_cache.proofs.StoreLemmas.{all_rows-asked}
use Rattle.shard_cache.proofs.tests.keeps_what_was_asked.Goals as goal

pub add-requires-clause-fresh : goal.add-requires-clause-fresh
add-requires-clause-fresh g c κs =
    let path = c.in_ok-path.path in
    let no_row : all_rows c.ask.new.self ≡ [] = ap all_rows c.in_ok-opener.ensures.ok ∙ all_rows-asked path (shard_number path) c.in-Ok.store ∙ c.in-Ok.ensures.no_row in
    rw no_row (All-nil _)
