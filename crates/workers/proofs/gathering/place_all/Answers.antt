use Rattle.std.proofs.Common.{rules, ◌≡◌, ◌∷◌, [], ◌++◌, ℕ, All, length, Some, sym, subst, ◌∙◌}
use Rattle.std.proofs.lemmas.List.Elements.{All-pop}
use Rattle.worker.specs.declared.share.Share.{Share}
use Rattle.worker.specs.Shares.{ends_in}
use Rattle.workers.specs.Places.{AreBelow}
use Rattle.workers.proofs.PlaceLemmas.{Stands-one, Stands-over}
use Rattle.workers.proofs.gathering.place_all.Goals as goal

pub shares-preserved : goal.shares-preserved
shares-preserved c =
    let P : ℕ → Share → Type 0 = λ n share. AreBelow n (ends_in share) in
    let below = All-pop (P (length c.shares.places.items)) c.shares.shares.items c.pop.new.self.items c.pop.result c.pop.ensures.items c.shares.invariant.below in
    record {
      count = c.place-places.ensures.count ∙ c.shares.invariant.count;
      below = subst (λ n. All (P n) c.pop.new.self.items) (sym c.place-places.ensures.count) below.0;
      placed = Stands-one ends_in c.shares.places.items c.place-places.result.items c.args.shares.items c.shares.shares.items c.pop.new.self.items c.in-Some.share c.into_ends.result.items
          c.in-Some.ensures.items c.into_ends.ensures c.place-places.ensures.placed c.shares.invariant.placed;
    }
