use Rattle.std.proofs.Common.{rules, ◌≡◌, ◌<◌, ◌∷◌, [], ◌++◌, ℕ, length, Some, sym, subst, ◌∙◌}
use Rattle.std.specs.Prelude.{IfSome}
use Rattle.std.proofs.Math.ListN.{set}
use Rattle.std.proofs.lemmas.List.{length-set}
use Rattle.std.proofs.lemmas.List.Elements.{All-pop}
use Rattle.scan_model.specs.declared.UnitEnd.{UnitEnd}
use Rattle.workers.specs.Places.{AreBelow}
use Rattle.workers.proofs.PlaceLemmas.{Goes, Goes-one, Goes-over}
use Rattle.workers.proofs.gathering.place.Goals as goal

pub ends-preserved : goal.ends-preserved
ends-preserved c =
    let places = c.ends.places.items in
    let number = c.in-Some.number in
    let rest = c.pop.new.self.items in
    let P : ℕ × UnitEnd → Type 0 = λ e. e.0 < length places in
    let below = All-pop P c.ends.ends.items rest c.pop.result c.pop.ensures.items c.ends.invariant.below in
    let inside : number < length places = subst (λ r. IfSome r P) c.in-Some.is below.1 in
    let long = length-set places number c.put.new.place in
    record {
      count = long ∙ c.ends.invariant.count;
      below = subst (λ n. AreBelow n rest) (sym long) below.0;
      placed = subst (λ place. Goes c.args.places.items (set places number place) c.args.ends.items rest) (sym c.put.ensures)
          (Goes-one c.args.places.items places c.args.ends.items c.ends.ends.items rest number c.in-Some.end c.in-Some.ensures.items inside c.ends.invariant.placed);
    }

pub returns-clause-placed : goal.returns-clause-placed
returns-clause-placed c = Goes-over c.args.places.items c.ends.places.items c.args.ends.items c.ends.ends.items (search rules) c.ends.invariant.placed
