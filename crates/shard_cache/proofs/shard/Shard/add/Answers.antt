use Rattle.std.proofs.Common.{rules, ◌≡◌, length, sym, ap, subst, ◌∙◌, arith, [], ◌∷◌, length-append}
use Rattle.std.specs.Prelude.{is_err, false}
use Rattle.shard_cache.specs.Places.{IsPlaced, IsIndexOf}
use Rattle.shard_cache.proofs.PlaceLemmas.{index_more, at_ok}
use Rattle.shard_cache.proofs.shard.Shard.add.Goals as goal

pub invariant_of-self-2 : goal.invariant_of-self-2
invariant_of-self-2 g c =
    let fine : is_err c.put.result ≡ false = search rules in
    let same_rows = c.reserve.ensures.items in
    let place = c.len-place.ensures in
    let count = c.self.inside.rows.ok.0 in
    let more = c.push_reserved.ensures.items in
    let placed = at_ok c.put.result fine c.put.ensures.ok in
    let key = c.in-Ok.ensures.items ∙ c.as_slice.ensures.value in
    let was = c.self.invariant in
    let below = c.if-place-ge-MOST_ROWS.false in
    let long = ap length more ∙ length-append c.reserve.new.self.items (c.args.row ∷ []) in
    let long_before = ap length same_rows in (
      subst (λ rows. IsIndexOf (λ row. row.path) rows c.put.new.self) (sym more)
          (index_more (λ row. row.path) c.reserve.new.self.items c.args.row c.self.inside.places c.put.new.self
          (subst (λ p. IsPlaced p (length c.reserve.new.self.items) c.self.inside.places c.put.new.self) key
          (subst (λ n. IsPlaced c.in-Ok.key.items n c.self.inside.places c.put.new.self) (search rules) placed))
          (subst (λ rows. IsIndexOf (λ row. row.path) rows c.self.inside.places) (sym same_rows) was.0)),
      omega arith,
    )
