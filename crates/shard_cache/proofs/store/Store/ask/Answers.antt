use Rattle.std.proofs.Common.{◌≡◌, ◌∙◌, ap}
use Rattle.std.proofs.lemmas.Result.{on_ok_weaker}
use Rattle.shard_cache.specs.Rows.{IsRow, shard_number, asked_also}
use Rattle.shard_cache.proofs.RowLemmas.{IsStore-asked, set-change_at}
use Rattle.shard_cache.proofs.store.Store.ask.Goals as goal

pub invariant_of-self : goal.invariant_of-self
invariant_of-self g c = IsStore-asked (IsRow g.S.Source.given_path g.S.Source.given_outcome g.S.Source.given_bytes) c.args.path.now c.shard_of-number.result c.self.inside.shards.items c.index_mut-shard.result.now c.ask.new.self c.self.invariant c.shard_of-number.ensures.bound c.index_mut-shard.ensures.value (rw c.self.view_is c.requires) c.ask.ensures.rows

pub returns-clause-ok : goal.returns-clause-ok
returns-clause-ok g c =
    let number : c.shard_of-number.result ≡ shard_number c.args.path.now = c.shard_of-number.ensures.number ∙ ap shard_number c.as_slice.ensures.value in
    on_ok_weaker c.ask.result
    (λ e. rw (← c.self.view_is, ← number) (set-change_at (asked_also c.args.path.now) c.self.inside.shards.items c.shard_of-number.result c.index_mut-shard.result.now c.ask.new.self c.index_mut-shard.ensures.value e))
    c.ask.ensures.ok

pub returns-clause-valid : goal.returns-clause-valid
returns-clause-valid g c = IsStore-asked (IsRow g.S.Source.given_path g.S.Source.given_outcome g.S.Source.given_bytes) c.args.path.now c.shard_of-number.result c.self.inside.shards.items c.index_mut-shard.result.now c.ask.new.self c.self.invariant c.shard_of-number.ensures.bound c.index_mut-shard.ensures.value (rw c.self.view_is c.requires) c.ask.ensures.rows
