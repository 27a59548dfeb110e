use Rattle.std.proofs.Common.{◌≡◌, ◌+◌, ◌≤◌, ◌++◌, List, [], length, sym, ap, subst, ◌∙◌, append-nil, arith}
use Rattle.std.specs.Prelude.{IsSome}
use Rattle.std.specs.Option.{ForSome}
use Rattle.shard_cache.specs.Places.{place_of}
use Rattle.cache_desk.specs.Desk.{row_and}
use Rattle.cache_desk.proofs.rows.add_published.Goals as goal

pub add_row-requires-clause-room : goal.add_row-requires-clause-room
add_row-requires-clause-room g c κs within =
    let n = ap (λ o. length (row_and o [])) c.in-Some.is in let m = c.requires.room in omega arith

pub add_row-requires-clause-known : goal.add_row-requires-clause-known
add_row-requires-clause-known g c κs within = c.requires.known _ c.in-Some.is

pub returns-in-Some-clause-rows : goal.returns-in-Some-clause-rows
returns-in-Some-clause-rows g c = c.add_row.ensures.rows ∙ ap (λ o. c.args.rows.now.items ++ row_and o []) (sym c.in-Some.is)

pub returns-in-None-clause-rows : goal.returns-in-None-clause-rows
returns-in-None-clause-rows g c = sym (ap (λ o. c.args.rows.now.items ++ row_and o []) c.in-None.is ∙ append-nil c.args.rows.now.items)
