use Rattle.std.proofs.Common.{drop, ap, sym, ◌∙◌, subst, false, ◌≡◌, true}
use Rattle.scan_model.specs.declared.directive.Directive.TheVariants.{Endif}
use Rattle.scan_model.specs.Conditionals.{is_skipped}
use Rattle.scan_model.specs.Directives.{directive_of}
use Rattle.plain_lines.specs.declared.action.Action.{Action}
use Rattle.plain_lines.specs.States.{groups_of, core_of}
use Rattle.plain_lines.specs.Lines.{toks_at, line_of, after_word}
use Rattle.plain_lines.specs.Actions.{Acts}
use Rattle.plain_lines.proofs.ActLemmas.{if_ok, acts_as}
use Rattle.line_actions.specs.Kinds.{is_if, is_next, is_plain, or_skips}
use Rattle.line_actions.proofs.DispatchLemmas.{by_hash, by_plain, hash_as, if_begins, next_begins, begins_group_here, or_skips_acts, is_end, is_plain_last, plain_done}
use Rattle.line_actions.proofs.line_action.hash_line.Goals as goal

pub returns-then-is_if-clause-ok : goal.returns-then-is_if-clause-ok
returns-then-is_if-clause-ok c = let at = c.args.at.now in let file = c.args.file.now in let unit = c.args.unit.now in
    let opens : is_if c.directive-directive.result ≡ true = sym c.if-is_if.ensures in
    let begins = begins_group_here at c.requires.hash (if_begins _ (ap is_if (sym c.directive-directive.ensures.word) ∙ opens)) in
    let acts = hash_as at _ c.directive-directive.result (sym c.directive-directive.ensures.word) file unit c.opening_line.new.file unit c.in_ok-action.action c.in_ok-action.ensures.ok in
    let shown = c.or_skips.ensures ∙ ap (λ gs. or_skips (groups_of gs) c.in_ok-action.action) c.deref.ensures.value in
    subst (λ (action : Action). Acts at (by_hash at (directive_of at.dialect (drop 1 (toks_at at)))) file unit c.opening_line.new.file unit action) (sym shown)
    (or_skips_acts at (by_hash at (directive_of at.dialect (drop 1 (toks_at at)))) file unit c.opening_line.new.file unit c.in_ok-action.action begins acts)

pub returns-then-is_next-clause-ok : goal.returns-then-is_next-clause-ok
returns-then-is_next-clause-ok c = let at = c.args.at.now in let file = c.args.file.now in let unit = c.args.unit.now in
    let goes_on : is_next c.directive-directive.result ≡ true = sym c.if-is_next.ensures in
    let begins = begins_group_here at c.requires.hash (next_begins _ (ap is_next (sym c.directive-directive.ensures.word) ∙ goes_on)) in
    let acts = hash_as at _ c.directive-directive.result (sym c.directive-directive.ensures.word) file unit c.next_line.new.file unit c.in_ok-action-2.action c.in_ok-action-2.ensures.ok in
    let shown = c.or_skips-then-is_next.ensures ∙ ap (λ gs. or_skips (groups_of gs) c.in_ok-action-2.action) c.deref-then-is_next.ensures.value in
    subst (λ (action : Action). Acts at (by_hash at (directive_of at.dialect (drop 1 (toks_at at)))) file unit c.next_line.new.file unit action) (sym shown)
    (or_skips_acts at (by_hash at (directive_of at.dialect (drop 1 (toks_at at)))) file unit c.next_line.new.file unit c.in_ok-action-2.action begins acts)

pub returns-then-is_endif-clause-ok : goal.returns-then-is_endif-clause-ok
returns-then-is_endif-clause-ok c = let at = c.args.at.now in let file = c.args.file.now in let unit = c.args.unit.now in
    let ends = sym c.directive-directive.ensures.word ∙ is_end c.directive-directive.result (sym c.if-is_endif.ensures) in
    hash_as at _ Endif ends file unit c.endif_line.new.file unit c.endif_line.result (c.endif_line.ensures unit)

pub returns-clause-ok : goal.returns-clause-ok
returns-clause-ok c = let at = c.args.at.now in let file = c.args.file.now in let unit = c.args.unit.now in
    let live : is_skipped (groups_of file.groups.items) ≡ false = ap (λ gs. is_skipped (groups_of gs)) (sym c.deref-2.ensures.value) ∙ sym c.if-is_skipped.ensures in
    let plain : is_plain c.directive-directive.result ≡ true = is_plain_last c.directive-directive.result (sym c.if-is_if.ensures) (sym c.if-is_next.ensures) (sym c.if-is_endif.ensures) in
    if_ok _ _ c.plain_line.result
    (λ action h. hash_as at _ c.directive-directive.result (sym c.directive-directive.ensures.word) file unit c.plain_line.new.file c.plain_line.new.unit action
    (acts_as at (by_hash at c.directive-directive.result) (by_plain at c.directive-directive.result) file unit c.plain_line.new.file c.plain_line.new.unit action
    (λ files setup d entered looked. plain_done files setup (core_of at.path.now entered looked file unit) (line_of at) (after_word at) c.directive-directive.result plain live)
    h))
    c.plain_line.ensures.ok
