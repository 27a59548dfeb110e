use Rattle.std.proofs.Common.{◌≡◌, ap, refl, sym, subst, ◌∙◌}
use Rattle.shard_cache.specs.Rows.{IsRow}
use Rattle.cache_desk.specs.Log.{standing}
use Rattle.shard_cache.specs.Places.{IsIndexOf}
use Rattle.cache_desk.specs.Desk.{log_of, entries, told, path_of}
use Rattle.cache_desk.proofs.DeskLemmas.{tells_done, tells_claimed}
use Rattle.cache_desk.proofs.desk.Desk.look.Goals as goal

pub returns-in-Done : goal.returns-in-Done
returns-in-Done g c =
    let o = g.S.Source.given_outcome in let b = g.S.Source.given_bytes in let fits = IsRow g.S.Source.given_path o b in
    let t = tells_done o b fits (λ row. row.now) _ _ _ c.in-Done.is c.spot_of.ensures in
    (refl, (t.0, t.1, t.2, ap (λ d. standing (log_of o b d) c.args.path.now) (sym c.self.view_is) ∙ ((λ i. standing (entries o b (sym c.as_slice.ensures.value i)) (sym c.as_slice-2.ensures.value i)) ∙ t.3), c.in_ok-answer_of-in-Done.ensures ∙ (λ i. told (t.4 i) (t.5 i))))

pub returns-in-Claimed : goal.returns-in-Claimed
returns-in-Claimed g c =
    let o = g.S.Source.given_outcome in let b = g.S.Source.given_bytes in let fits = IsRow g.S.Source.given_path o b in
    let t = tells_claimed o b fits (λ row. row.now) _ _ c.in-Claimed.is c.spot_of.ensures in
    (refl, (t.0, ap (λ d. standing (log_of o b d) c.args.path.now) (sym c.self.view_is) ∙ ((λ i. standing (entries o b (sym c.as_slice.ensures.value i)) (sym c.as_slice-2.ensures.value i)) ∙ t.1)))

pub spot_of-requires-clause-index : goal.spot_of-requires-clause-index
spot_of-requires-clause-index g c κs within = subst (λ es. IsIndexOf path_of es c.self.inside.places) (sym c.as_slice.ensures.value) c.self.invariant.3
