use Rattle.std.proofs.Common.{◌≡◌, ◌<◌, length, sym, ap, subst, ◌∙◌, arith}
use Rattle.std.specs.Prelude.{MatchOption, Contains}
use Rattle.shard_cache.specs.Rows.{IsRow, LacksPath, all_rows, shard_number}
use Rattle.shard_cache.proofs.PlaceLemmas.{match_weaker}
use Rattle.shard_cache.proofs.StoreLemmas.{lacks_at, contains_at}
use Rattle.shard_cache.proofs.store.Store.find.Goals as goal

pub returns-clause-row : goal.returns-clause-row
returns-clause-row g c =
    let shards = c.self.inside.shards.items in
    let path = c.args.path.now in
    let k = c.shard_of.result in
    let bound = c.shard_of.ensures.bound in
    let sixteen = c.self.invariant.sixteen in
    let inside : k < length shards = omega arith in
    let number : shard_number path ≡ k = ap shard_number (sym c.as_slice.ensures.value) ∙ sym c.shard_of.ensures.number in
    let fits = IsRow g.S.Source.given_path g.S.Source.given_outcome g.S.Source.given_bytes in
    subst (λ ss. MatchOption c.find.result (LacksPath ss path) (λ row. (row.now.path ≡ path) × Contains (all_rows ss) row.now)) c.self.view_is
    (match_weaker c.find.result
    (λ lacks. lacks_at fits path 0 k shards c.index.result.now c.self.invariant.each (omega arith) inside c.index.ensures lacks)
    (λ row found. (found.0, contains_at k shards c.index.result.now row.now inside c.index.ensures found.1))
    c.find.ensures)
