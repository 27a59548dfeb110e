use Rattle.std.proofs.Common.{◌+◌, ◌∙◌, ap, sym, refl, arith}
use Rattle.reducer.specs.SkipTable.{is_endif, is_else, seen_from}
use Rattle.reducer.proofs.SkipLemmas.{entry_is, directive_read, partner_after, in_group, at_endif, at_broken, at_next, at_ended}
use Rattle.reducer.proofs.skip_table.past_conditional.Goals as goal

pub bounds-directives-next : goal.bounds-directives-next
bounds-directives-next c =
    let ds = c.args.directives.now in
    let found = entry_is ds c.args.skips.now (c.args.k + 1) c.groups.at _ _ c.requires.later (omega arith) c.groups.invariant.within c.in-Partner.is in
    (partner_after ds c.groups.at c.in-Partner.partner found).1

pub returns-then-is_endif : goal.returns-then-is_endif
returns-then-is_endif c =
    let ds = c.args.directives.now in
    let k = c.args.k in
    let p = c.in-Partner.partner in
    let found = entry_is ds c.args.skips.now (k + 1) c.groups.at _ _ c.requires.later (omega arith) c.groups.invariant.within c.in-Partner.is in
    let partner = partner_after ds c.groups.at p found in
    let here = entry_is ds c.args.skips.now (k + 1) p _ _ c.requires.later (omega (arith, partner.0)) partner.1 refl in
    let endif = sym (ap is_endif (directive_read ds p _ partner.1)) ∙ sym c.is_endif.ensures ∙ c.if-is_endif.true in
    c.seen_from.ensures ∙ ap (λ s. seen_from s p k) (sym here) ∙ sym (c.groups.invariant.same ∙ at_endif ds k c.groups.at c.args.opener c.groups.past_else p found endif)

pub returns-then-past_else : goal.returns-then-past_else
returns-then-past_else c =
    let ds = c.args.directives.now in
    let k = c.args.k in
    let p = c.in-Partner.partner in
    let found = entry_is ds c.args.skips.now (k + 1) c.groups.at _ _ c.requires.later (omega arith) c.groups.invariant.within c.in-Partner.is in
    let partner = partner_after ds c.groups.at p found in
    let endif = sym (ap is_endif (directive_read ds p _ partner.1)) ∙ sym c.is_endif.ensures ∙ c.if-is_endif.false in
    sym (c.groups.invariant.same ∙ at_broken ds k c.groups.at c.args.opener c.groups.past_else p found endif c.if-past_else.true)

pub groups-smaller : goal.groups-smaller
groups-smaller c =
    let ds = c.args.directives.now in
    let found = entry_is ds c.args.skips.now (c.args.k + 1) c.groups.at _ _ c.requires.later (omega arith) c.groups.invariant.within c.in-Partner.is in
    let partner = partner_after ds c.groups.at c.in-Partner.partner found in
    omega (arith, partner.0, partner.1)

pub groups-preserved : goal.groups-preserved
groups-preserved c =
    let ds = c.args.directives.now in
    let k = c.args.k in
    let o = c.args.opener in
    let p = c.in-Partner.partner in
    let found = entry_is ds c.args.skips.now (k + 1) c.groups.at _ _ c.requires.later (omega arith) c.groups.invariant.within c.in-Partner.is in
    let partner = partner_after ds c.groups.at p found in
    let endif = sym (ap is_endif (directive_read ds p _ partner.1)) ∙ sym c.is_endif.ensures ∙ c.if-is_endif.false in
    let is = ap is_else (sym (directive_read ds p _ partner.1)) ∙ sym c.is_else-past_else.ensures in
    record {
      order = omega (arith, partner.0);
      within = partner.1;
      same = c.groups.invariant.same ∙ at_next ds k c.groups.at o c.groups.past_else p found endif c.if-past_else.false ∙ ap (in_group ds k p o) is;
    }

pub returns-in_default : goal.returns-in_default
returns-in_default c =
    let ds = c.args.directives.now in
    let here = entry_is ds c.args.skips.now (c.args.k + 1) c.groups.at _ _ c.requires.later (omega arith) c.groups.invariant.within refl in
    c.seen_from-in_default.ensures ∙ ap (λ s. seen_from s c.groups.at c.args.opener) (sym here)
    ∙ sym (c.groups.invariant.same ∙ at_ended ds c.args.k c.groups.at c.args.opener c.groups.past_else (λ p e. c.in_default.not-Partner p (sym here ∙ e)))
