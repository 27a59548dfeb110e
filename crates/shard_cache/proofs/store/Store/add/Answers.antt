use Rattle.std.proofs.Common.{◌≡◌, ◌∙◌, ap, sym}
use Rattle.std.proofs.lemmas.Result.{on_ok_weaker}
use Rattle.shard_cache.specs.Rows.{IsRow, shard_number, kept_also}
use Rattle.shard_cache.proofs.RowLemmas.{IsStore-added, set-change_at}
use Rattle.shard_cache.proofs.store.Store.add.Goals as goal

pub invariant_of-self : goal.invariant_of-self
invariant_of-self g c =
    let number : c.shard_of-number.result ≡ shard_number c.args.row.path = c.shard_of-number.ensures.number ∙ ap shard_number c.as_slice.ensures.value in
    IsStore-added (IsRow g.S.Source.given_path g.S.Source.given_outcome g.S.Source.given_bytes) c.args.row c.shard_of-number.result c.self.inside.shards.items c.index_mut-shard.result.now c.add.new.self c.add.result c.self.invariant c.shard_of-number.ensures.bound c.index_mut-shard.ensures.value (rw c.self.view_is c.requires.fresh) (sym number) (record { given = c.requires.given; reduced = c.requires.reduced }) c.add.ensures.ok c.add.ensures.err

pub returns-clause-ok : goal.returns-clause-ok
returns-clause-ok g c =
    let number : c.shard_of-number.result ≡ shard_number c.args.row.path = c.shard_of-number.ensures.number ∙ ap shard_number c.as_slice.ensures.value in
    on_ok_weaker c.add.result
    (λ e. rw (← c.self.view_is, ← number) (set-change_at (kept_also c.args.row) c.self.inside.shards.items c.shard_of-number.result c.index_mut-shard.result.now c.add.new.self c.index_mut-shard.ensures.value e))
    c.add.ensures.ok

pub returns-clause-valid : goal.returns-clause-valid
returns-clause-valid g c =
    let number : c.shard_of-number.result ≡ shard_number c.args.row.path = c.shard_of-number.ensures.number ∙ ap shard_number c.as_slice.ensures.value in
    IsStore-added (IsRow g.S.Source.given_path g.S.Source.given_outcome g.S.Source.given_bytes) c.args.row c.shard_of-number.result c.self.inside.shards.items c.index_mut-shard.result.now c.add.new.self c.add.result c.self.invariant c.shard_of-number.ensures.bound c.index_mut-shard.ensures.value (rw c.self.view_is c.requires.fresh) (sym number) (record { given = c.requires.given; reduced = c.requires.reduced }) c.add.ensures.ok c.add.ensures.err
