use Rattle.std.proofs.Common.{◌≡◌, true, false, ap, sym, ◌∙◌}
use Rattle.std.specs.Prelude.{not}
use Rattle.scan_model.specs.Conditionals.{is_skipped, opened, opened_skipped, with_condition, with_defined}
use Rattle.plain_lines.specs.States.{groups_of, core_of}
use Rattle.plain_lines.specs.Lines.{line_of, after_word}
use Rattle.plain_lines.proofs.ActLemmas.{if_ok, acts_as}
use Rattle.line_actions.proofs.OutcomeLemmas.{on_err}
use Rattle.line_actions.proofs.DispatchLemmas.{by_hash, if_skipped, live_if, live_ifdef, live_ifndef}
use Rattle.line_actions.proofs.directives.opening_line.Goals as goal

pub returns-then-is_skipped-clause-ok : goal.returns-then-is_skipped-clause-ok
returns-then-is_skipped-clause-ok c = let at = c.args.at.now in let file = c.args.file.now in let unit = c.args.unit.now in
    let skipped : is_skipped (groups_of file.groups.items) ≡ true = ap (λ gs. is_skipped (groups_of gs)) (sym c.deref.ensures.value) ∙ sym c.if-is_skipped.ensures in
    if_ok _ _ c.skipped_if_line.result
    (λ action h. acts_as at (by_hash at c.args.directive) (λ files setup c'. opened_skipped (line_of at) c') file unit c.skipped_if_line.new.file unit action
    (λ files setup d entered looked. if_skipped files setup (core_of at.path.now entered looked file unit) (line_of at) (after_word at) c.args.directive c.requires.opens skipped)
    (h unit))
    c.skipped_if_line.ensures.ok

pub returns-then-is_skipped-clause-err : goal.returns-then-is_skipped-clause-err
returns-then-is_skipped-clause-err c = on_err _ _ c.skipped_if_line.result (λ h. h c.args.unit.now) c.skipped_if_line.ensures.err

pub returns-in-If-clause-ok : goal.returns-in-If-clause-ok
returns-in-If-clause-ok c = let at = c.args.at.now in let file = c.args.file.now in let unit = c.args.unit.now in
    let live : is_skipped (groups_of file.groups.items) ≡ false = ap (λ gs. is_skipped (groups_of gs)) (sym c.deref.ensures.value) ∙ sym c.if-is_skipped.ensures in
    if_ok _ _ c.if_line.result
    (λ action h. acts_as at (by_hash at c.args.directive) (λ files setup c'. with_condition files setup c' (line_of at) (after_word at) (opened (line_of at))) file unit c.if_line.new.file unit action
    (λ files setup d entered looked. live_if files setup (core_of at.path.now entered looked file unit) (line_of at) (after_word at) c.args.directive live c.in-If.is)
    h)
    c.if_line.ensures.ok

pub returns-in-Ifdef-clause-ok : goal.returns-in-Ifdef-clause-ok
returns-in-Ifdef-clause-ok c = let at = c.args.at.now in let file = c.args.file.now in let unit = c.args.unit.now in
    let live : is_skipped (groups_of file.groups.items) ≡ false = ap (λ gs. is_skipped (groups_of gs)) (sym c.deref.ensures.value) ∙ sym c.if-is_skipped.ensures in
    if_ok _ _ c.ifdef_line.result
    (λ action h. acts_as at (by_hash at c.args.directive) (λ files setup c'. with_defined c' (line_of at) (after_word at) (opened (line_of at))) file unit c.ifdef_line.new.file unit action
    (λ files setup d entered looked. live_ifdef files setup (core_of at.path.now entered looked file unit) (line_of at) (after_word at) c.args.directive live c.in-Ifdef.is)
    h)
    c.ifdef_line.ensures.ok

pub returns-in-Ifndef-clause-ok : goal.returns-in-Ifndef-clause-ok
returns-in-Ifndef-clause-ok c = let at = c.args.at.now in let file = c.args.file.now in let unit = c.args.unit.now in
    let live : is_skipped (groups_of file.groups.items) ≡ false = ap (λ gs. is_skipped (groups_of gs)) (sym c.deref.ensures.value) ∙ sym c.if-is_skipped.ensures in
    if_ok _ _ c.ifdef_line-in-Ifndef.result
    (λ action h. acts_as at (by_hash at c.args.directive) (λ files setup c'. with_defined c' (line_of at) (after_word at) (λ yields. opened (line_of at) (not yields))) file unit c.ifdef_line-in-Ifndef.new.file unit action
    (λ files setup d entered looked. live_ifndef files setup (core_of at.path.now entered looked file unit) (line_of at) (after_word at) c.args.directive live c.in-Ifndef.is)
    h)
    c.ifdef_line-in-Ifndef.ensures.ok
