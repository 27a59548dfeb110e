use Rattle.std.proofs.Common.{◌∙◌, ap, sym, inr}
use Rattle.std.specs.Prelude.{Some, slice_set}
use Rattle.scheduler.proofs.MovingLemmas.{place_read, may_be_added}
use Rattle.scheduler.proofs.moving.publish.Goals as goal

pub add-requires-clause-fresh : goal.add-requires-clause-fresh
add-requires-clause-fresh g c κs within =
    let S = g.S.Source in
    let core = c.args.core.now in
    (may_be_added S.given_path S.given_outcome S.given_bytes core.jobs core.settings core.machine c.args.held.now.items c.args.store.now c.args.worker c.index_mut.result.now c.in-Some.row c.requires.wanted c.requires.places
    c.index_mut.ensures.value (sym c.replace.ensures.value ∙ c.in-Some.is)).lacks

pub add-requires-clause-given : goal.add-requires-clause-given
add-requires-clause-given g c κs within =
    let S = g.S.Source in
    let core = c.args.core.now in
    (may_be_added S.given_path S.given_outcome S.given_bytes core.jobs core.settings core.machine c.args.held.now.items c.args.store.now c.args.worker c.index_mut.result.now c.in-Some.row c.requires.wanted c.requires.places
    c.index_mut.ensures.value (sym c.replace.ensures.value ∙ c.in-Some.is)).fits.given

pub add-requires-clause-reduced : goal.add-requires-clause-reduced
add-requires-clause-reduced g c κs within =
    let S = g.S.Source in
    let core = c.args.core.now in
    (may_be_added S.given_path S.given_outcome S.given_bytes core.jobs core.settings core.machine c.args.held.now.items c.args.store.now c.args.worker c.index_mut.result.now c.in-Some.row c.requires.wanted c.requires.places
    c.index_mut.ensures.value (sym c.replace.ensures.value ∙ c.in-Some.is)).fits.reduced

pub returns-clause-published : goal.returns-clause-published
returns-clause-published g c = inr (record {
  row = c.in-Some.row;
  want = c.requires.wanted.want;
  place = place_read c.args.held.now.items c.args.worker c.index_mut.result.now (Some c.in-Some.row) c.requires.places c.index_mut.ensures.value (sym c.replace.ensures.value ∙ c.in-Some.is);
  moved = c.advance-in-Ok.ensures.moved;
  held = ap (λ z. slice_set c.args.held.now.items c.args.worker z) c.replace.ensures.after;
  store = c.in-Ok.ensures.ok;
  valid = c.in-Ok.ensures.valid;
})
