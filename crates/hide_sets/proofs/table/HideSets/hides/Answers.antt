use Rattle.std.proofs.Common.{◌∙◌, ap, sym, arith}
use Rattle.hide_sets.specs.Sets.{hides_of, has_name}
use Rattle.hide_sets.proofs.Known.{unknown_is_hidden_nowhere}
use Rattle.hide_sets.proofs.Search.{hides-latest, hides-rest}
use Rattle.hide_sets.proofs.table.HideSets.hides.Goals as goal

pub returns-then-not-contains : goal.returns-then-not-contains
returns-then-not-contains c =
    sym (unknown_is_hidden_nowhere c.self.inside.known c.self.inside.names.items c.self.inside.nodes.items c.args.self.now c.args.set c.args.name.now c.self.invariant.0 c.self.invariant.1 c.self.view_is (sym c.contains.ensures ∙ c.if-not-contains.true))

pub returns-then-eq : goal.returns-then-eq
returns-then-eq c = hides-latest _ (hides_of c.args.self.now c.in-Some.latest.rest) _ _ (ap has_name c.in-Some.ensures.1) c.if-eq.ensures ∙ c.names.invariant.1

pub names-preserved : goal.names-preserved
names-preserved c = (omega (arith, c.in-Some.ensures.0, c.names.invariant.0), hides-rest _ (hides_of c.args.self.now c.in-Some.latest.rest) _ _ (ap has_name c.in-Some.ensures.1) c.if-eq.ensures ∙ c.names.invariant.1)

pub returns : goal.returns
returns c = sym (ap (λ n. hides_of c.args.self.now n c.args.name.now) c.in_default.ensures) ∙ c.names.invariant.1
