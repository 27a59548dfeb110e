use Rattle.std.proofs.Common.{◌∙◌, ◌+◌, ◌<◌, ap, sym, refl, length, arith}
use Rattle.reducer.specs.SkipTable.{seen_from}
use Rattle.reducer.proofs.SkipLemmas.{entry_is, directive_read, skip_last, skip_opens, skip_closes, skip_other}
use Rattle.reducer.proofs.skip_table.skip_of.Goals as goal

pub returns-then-next-directives : goal.returns-then-next-directives
returns-then-next-directives c = skip_last c.args.directives.now c.args.k c.if-next-directives.true

pub returns-then-opens : goal.returns-then-opens
returns-then-opens c =
    let ds = c.args.directives.now in
    let k = c.args.k in
    let within : k + 1 < length ds = omega (arith, c.if-next-directives.false) in
    c.past_conditional.ensures ∙ skip_opens ds k _ within (directive_read ds (k + 1) _ within) (sym c.opens.ensures ∙ c.if-opens.true)

pub returns-then-closes : goal.returns-then-closes
returns-then-closes c =
    let ds = c.args.directives.now in
    let k = c.args.k in
    let within : k + 1 < length ds = omega (arith, c.if-next-directives.false) in
    skip_closes ds k _ within (directive_read ds (k + 1) _ within) (sym c.closes.ensures ∙ c.if-closes.true)

pub returns-else-closes : goal.returns-else-closes
returns-else-closes c =
    let ds = c.args.directives.now in
    let k = c.args.k in
    let within : k + 1 < length ds = omega (arith, c.if-next-directives.false) in
    let here = entry_is ds c.args.skips.now (k + 1) (k + 1) _ _ c.requires.later (omega arith) within refl in
    c.seen_from.ensures ∙ ap (λ s. seen_from s (k + 1) k) (sym here)
    ∙ skip_other ds k _ within (directive_read ds (k + 1) _ within) (sym c.opens.ensures ∙ c.if-opens.false) (sym c.closes.ensures ∙ c.if-closes.false)
