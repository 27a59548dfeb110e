use Rattle.std.proofs.Common.{◌≡◌, length, arith}
use Rattle.shard_cache.specs.Rows.{IsRow}
use Rattle.shard_cache.proofs.RowLemmas.{AreFresh, made-all}
use Rattle.shard_cache.proofs.store.Store.new.Goals as goal

pub invariant_of-result : goal.invariant_of-result
invariant_of-result g c =
    let sixteen : length c.args.sources.items ≡ 16 = grind (arith, c.args.sources.ok.0, c.requires.sixteen) in
    let none : length c.loop-source.left.items ≡ 0 = grind (arith, c.loop-source.left.ok.0, rw c.in_default-pop.is at c.pop.ensures.cases) in
    (made-all g.S.Source.asked g.S.Source.origin (IsRow g.S.Source.given_path g.S.Source.given_outcome g.S.Source.given_bytes) c.args.sources.items c.loop-source.left.items c.loop-source.shards.items sixteen c.requires.fresh c.loop-source.invariant.made none).valid

pub returns : goal.returns
returns g c =
    let sixteen : length c.args.sources.items ≡ 16 = grind (arith, c.args.sources.ok.0, c.requires.sixteen) in
    let none : length c.loop-source.left.items ≡ 0 = grind (arith, c.loop-source.left.ok.0, rw c.in_default-pop.is at c.pop.ensures.cases) in
    let all : AreFresh (IsRow g.S.Source.given_path g.S.Source.given_outcome g.S.Source.given_bytes) g.S.Source.origin c.args.sources.items c.loop-source.shards.items = made-all g.S.Source.asked g.S.Source.origin (IsRow g.S.Source.given_path g.S.Source.given_outcome g.S.Source.given_bytes) c.args.sources.items c.loop-source.left.items c.loop-source.shards.items sixteen c.requires.fresh c.loop-source.invariant.made none in
    record { no_row = all.no_row; nothing_asked = all.nothing_asked; origins = all.origins; valid = all.valid; err = tt }
