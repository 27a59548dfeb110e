use Rattle.std.proofs.Common.{ap, sym, ◌∙◌}
use Rattle.scan_model.specs.Conditionals.{with_condition}
use Rattle.plain_lines.specs.States.{groups_of}
use Rattle.plain_lines.specs.NextGroups.{finds}
use Rattle.plain_lines.specs.Lines.{line_of, after_word}
use Rattle.plain_lines.proofs.ActLemmas.{if_ok, next_asked}
use Rattle.line_actions.proofs.conditions.elif_line.Goals as goal

pub returns-in-Asked-clause-ok : goal.returns-in-Asked-clause-ok
returns-in-Asked-clause-ok c = if_ok _ _ c.if_line.result
    (λ action h. next_asked c.args.at.now (λ files setup c' further. with_condition files setup c' (line_of c.args.at.now) (after_word c.args.at.now) further)
    c.args.file.now c.args.unit.now c.if_line.new.file c.args.unit.now action (ap (λ gs. finds (groups_of gs)) (sym c.deref.ensures.value) ∙ sym c.in-Asked.ensures) h)
    c.if_line.ensures.ok
