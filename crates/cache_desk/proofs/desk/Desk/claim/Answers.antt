use Rattle.std.proofs.Common.{rules, refl, ◌≡◌, ◌+◌, ◌≤◌, ◌^◌, List, [], ◌∷◌, ◌++◌, ap, sym, subst, ◌∙◌, arith, length}
use Rattle.shard_cache.specs.Rows.{IsRow}
use Rattle.shard_cache.specs.Places.{IsPlaced, IsIndexOf}
use Rattle.shard_cache.proofs.PlaceLemmas.{index_more, index_early}
use Rattle.cache_desk.specs.declared.happened.Happened.TheVariants as HappenedIs
use Rattle.cache_desk.specs.Log.{standing}
use Rattle.cache_desk.specs.Desk.{log_of, path_of, rows_in}
use Rattle.cache_desk.proofs.DeskLemmas.{keeps_claim, keeps_same, room_claim, room_more}
use Rattle.cache_desk.proofs.IndexLemmas.{free_is_new, rows_claim}
use Rattle.cache_desk.proofs.desk.Desk.claim.Goals as goal

pub invariant_of-self-2 : goal.invariant_of-self-2
invariant_of-self-2 g c =
    let o = g.S.Source.given_outcome in
    let b = g.S.Source.given_bytes in
    let inv = c.self.invariant in
    let path = c.args.path.now in
    let events = c.self.inside.events.items in
    let own : c.in_ok-own.own ≡ path = c.in_ok-own.ensures in
    let free = ap (λ d. standing (log_of o b d) path) c.self.view_is ∙ c.requires.free in
    let placed = c.requires.placed ∙ ap (λ d. d.number) (sym c.self.view_is) in
    let more = c.push_reserved.ensures.items ∙ (λ i. c.reserve-2.ensures.items i ++ HappenedIs.Claim (record { path = own i; by = c.args.by }) ∷ []) in
    let key : c.in_ok-key.key.items ≡ path = c.in_ok-key.ensures.items ∙ c.as_slice.ensures.value in
    let at : c.len-place.result ≡ length events = search rules in
    let put : IsPlaced path (length events) c.self.inside.places c.put.new.self =
    subst (λ n. IsPlaced path n c.self.inside.places c.put.new.self) at
    (subst (λ k. IsPlaced k c.len-place.result c.self.inside.places c.put.new.self) key c.in_ok-put.ensures.ok) in
    let count = rows_claim _ _ path c.args.by more in (
      keeps_claim o b (IsRow g.S.Source.given_path o b) g.S.Source.given_origin _ _ _ _ _ _ _ path c.args.by inv.0 free placed c.in_ok-opener.ensures.ok c.ask.ensures.same_origin more,
      room_claim o b _ _ path c.args.by _ _ _ _ _ _ _ _ inv.1 more (search rules) (search rules) (let l = c.reserve-2.ensures.len in let k = c.in_ok-reserve-2.ensures.ok in let m = c.push_reserved.ensures.capacity in search rules) (search rules),
      c.reserve.ensures.items ∙ inv.2,
      subst (λ es. IsIndexOf path_of es c.put.new.self) (sym more) (index_more path_of events (HappenedIs.Claim (record { path = path; by = c.args.by })) c.self.inside.places c.put.new.self put inv.3),
      (let n = inv.4 in omega arith),
      (let n = c.if-self-ge-MOST_ROWS.false in omega arith),
    )

pub invariant_of-self-in_err-reserve-2 : goal.invariant_of-self-in_err-reserve-2
invariant_of-self-in_err-reserve-2 g c =
    let o = g.S.Source.given_outcome in let b = g.S.Source.given_bytes in
    let inv = c.self.invariant in
    let events = c.self.inside.events.items in
    let same = c.reserve-2.ensures.items in (
      keeps_same o b (IsRow g.S.Source.given_path o b) g.S.Source.given_origin _ _ _ _ _ _ _ inv.0 refl refl same,
      room_more o b events _ _ _ _ _ _ _ same (let k = c.reserve-2.ensures.capacity in search rules) (let k = c.reserve.ensures.capacity in search rules) inv.1,
      c.reserve.ensures.items ∙ inv.2,
      subst (λ es. IsIndexOf path_of es c.self.inside.places) (sym same) inv.3,
      ap (λ es. length (rows_in es) + c.self.inside.open) same ∙ inv.4,
      inv.5,
    )

pub invariant_of-self-in_err-put : goal.invariant_of-self-in_err-put
invariant_of-self-in_err-put g c =
    let o = g.S.Source.given_outcome in let b = g.S.Source.given_bytes in
    let inv = c.self.invariant in
    let events = c.self.inside.events.items in
    let same = c.reserve-2.ensures.items in (
      keeps_same o b (IsRow g.S.Source.given_path o b) g.S.Source.given_origin _ _ _ _ _ _ _ inv.0 refl refl same,
      room_more o b events _ _ _ _ _ _ _ same (let k = c.reserve-2.ensures.capacity in search rules) (let k = c.reserve.ensures.capacity in search rules) inv.1,
      c.reserve.ensures.items ∙ inv.2,
      subst (λ ps. IsIndexOf path_of c.reserve-2.new.self.items ps) (sym c.in_err-put.ensures.err) (subst (λ es. IsIndexOf path_of es c.self.inside.places) (sym same) inv.3),
      ap (λ es. length (rows_in es) + c.self.inside.open) same ∙ inv.4,
      inv.5,
    )

pub invariant_of-self-in_err-opener : goal.invariant_of-self-in_err-opener
invariant_of-self-in_err-opener g c =
    let o = g.S.Source.given_outcome in let b = g.S.Source.given_bytes in
    let inv = c.self.invariant in
    let path = c.args.path.now in
    let events = c.self.inside.events.items in
    let same = c.reserve-2.ensures.items in
    let free = ap (λ d. standing (log_of o b d) path) c.self.view_is ∙ c.requires.free in
    let key : c.in_ok-key.key.items ≡ path = c.in_ok-key.ensures.items ∙ c.as_slice.ensures.value in
    let put = subst (λ k. IsPlaced k c.len-place.result c.self.inside.places c.put.new.self) key c.in_ok-put.ensures.ok in (
      keeps_same o b (IsRow g.S.Source.given_path o b) g.S.Source.given_origin _ _ _ _ _ _ _ inv.0 c.in_err-opener.ensures.err c.ask.ensures.same_origin same,
      room_more o b events _ _ _ _ _ _ _ same (let k = c.reserve-2.ensures.capacity in search rules) (let k = c.reserve.ensures.capacity in search rules) inv.1,
      c.reserve.ensures.items ∙ inv.2,
      subst (λ es. IsIndexOf path_of es c.put.new.self) (sym same) (index_early path_of events path c.len-place.result c.self.inside.places c.put.new.self (free_is_new o b path events free) put inv.3),
      ap (λ es. length (rows_in es) + c.self.inside.open) same ∙ inv.4,
      inv.5,
    )
