use Rattle.std.proofs.Common.{rules, ◌≡◌, List, [], ◌∷◌, ◌++◌, length, ap, sym, subst, ◌∙◌, arith}
use Rattle.shard_cache.specs.Places.{IsPlaced, IsIndexOf}
use Rattle.shard_cache.proofs.PlaceLemmas.{index_more}
use Rattle.cache_desk.specs.declared.happened.Happened.TheVariants as HappenedIs
use Rattle.cache_desk.proofs.LogLemmas.{claim_stays}
use Rattle.cache_desk.proofs.IndexLemmas.{claimed_known, rows_publication}
use Rattle.shard_cache.specs.Rows.{IsRow}
use Rattle.cache_desk.specs.Log.{HasClaim}
use Rattle.cache_desk.specs.Desk.{log_of, path_of, HasRoom}
use Rattle.shard_cache.specs.Places.{place_of}
use Rattle.std.specs.Prelude.{IsSome}
use Rattle.cache_desk.proofs.DeskLemmas.{has_place, room_at, room_publication, keeps_publication}
use Rattle.cache_desk.proofs.desk.Desk.publish.Goals as goal

pub overflow_sub-self : goal.overflow_sub-self
overflow_sub-self g c =
    let o = g.S.Source.given_outcome in let b = g.S.Source.given_bytes in
    let has = subst (λ d. HasClaim c.args.by c.args.row.path (log_of o b d)) (sym c.self.view_is) c.requires.claim in
    let p = (has_place o b _ c.args.row c.args.by _ _ _ _ c.self.invariant.0.legal has c.self.invariant.1).0 in omega arith

pub push_reserved-requires : goal.push_reserved-requires
push_reserved-requires g c =
    let o = g.S.Source.given_outcome in let b = g.S.Source.given_bytes in
    let has = subst (λ d. HasClaim c.args.by c.args.row.path (log_of o b d)) (sym c.self.view_is) c.requires.claim in
    let h = (has_place o b _ c.args.row c.args.by _ _ _ _ c.self.invariant.0.legal has c.self.invariant.1).1 in search rules

pub invariant_of-self : goal.invariant_of-self
invariant_of-self g c =
    let o = g.S.Source.given_outcome in let b = g.S.Source.given_bytes in
    let has = subst (λ d. HasClaim c.args.by c.args.row.path (log_of o b d)) (sym c.self.view_is) c.requires.claim in
    let inv = c.self.invariant in
    let more = c.push_reserved.ensures.items in
    let events = c.self.inside.events.items in
    let at : c.len-place.result ≡ length events = search rules in
    let put : IsPlaced c.args.row.path (length events) c.self.inside.places c.change.new.self =
    subst (λ n. IsPlaced c.args.row.path n c.self.inside.places c.change.new.self) at
    (subst (λ k. IsPlaced k c.len-place.result c.self.inside.places c.change.new.self) c.as_slice.ensures.value c.change.ensures) in (
      keeps_publication o b (IsRow g.S.Source.given_path o b) g.S.Source.given_origin _ _ _ _ _ c.args.row c.args.by inv.0 has (c.requires.placed ∙ ap (λ d. d.number) (sym c.self.view_is)) c.requires.fits (c.requires.origin ∙ ap (λ d. d.origin) (sym c.self.view_is)) more,
      room_at o b _ _ _ _ _ _ (sym c.push_reserved.ensures.capacity) (room_publication o b _ _ c.args.row c.args.by _ _ _ _ inv.0.legal has inv.1 more),
      inv.2,
      subst (λ es. IsIndexOf path_of es c.change.new.self) (sym more) (index_more path_of events (HappenedIs.Publication (record { row = c.args.row; by = c.args.by })) c.self.inside.places c.change.new.self put inv.3),
      (let n = rows_publication _ _ c.args.row c.args.by more in let m = inv.4 in let p = (has_place o b _ c.args.row c.args.by _ _ _ _ inv.0.legal has inv.1).0 in omega arith),
      inv.5,
    )

pub change-requires : goal.change-requires
change-requires g c =
    let o = g.S.Source.given_outcome in let b = g.S.Source.given_bytes in
    let has = subst (λ d. HasClaim c.args.by c.args.row.path (log_of o b d)) (sym c.self.view_is) c.requires.claim in
    let stands = claim_stays c.args.by c.args.row.path _ c.self.invariant.0.legal has in
    subst (λ p. IsSome (place_of c.self.inside.places p)) (sym c.as_slice.ensures.value)
    (claimed_known o b c.args.row.path c.self.inside.events.items c.self.inside.places c.args.by c.self.invariant.3 stands)
