use Rattle.scan_model.specs.declared.directive.Directive.TheVariants.{Elif, Elifdef, Elifndef, Else}
use Rattle.plain_lines.proofs.ActLemmas.{if_ok}
use Rattle.line_actions.proofs.DispatchLemmas.{hash_as}
use Rattle.line_actions.proofs.directives.next_line.Goals as goal

pub returns-in-Elif-clause-ok : goal.returns-in-Elif-clause-ok
returns-in-Elif-clause-ok c = if_ok _ _ c.elif_line.result
    (λ action h. hash_as c.args.at.now c.args.directive Elif c.in-Elif.is c.args.file.now c.args.unit.now c.elif_line.new.file c.args.unit.now action h)
    c.elif_line.ensures.ok

pub returns-in-Elifdef-clause-ok : goal.returns-in-Elifdef-clause-ok
returns-in-Elifdef-clause-ok c = if_ok _ _ c.elifdef_line.result
    (λ action h. hash_as c.args.at.now c.args.directive Elifdef c.in-Elifdef.is c.args.file.now c.args.unit.now c.elifdef_line.new.file c.args.unit.now action h)
    c.elifdef_line.ensures.ok

pub returns-in-Elifndef-clause-ok : goal.returns-in-Elifndef-clause-ok
returns-in-Elifndef-clause-ok c = if_ok _ _ c.elifdef_line-in-Elifndef.result
    (λ action h. hash_as c.args.at.now c.args.directive Elifndef c.in-Elifndef.is c.args.file.now c.args.unit.now c.elifdef_line-in-Elifndef.new.file c.args.unit.now action h)
    c.elifdef_line-in-Elifndef.ensures.ok

pub returns-in-Else-clause-ok : goal.returns-in-Else-clause-ok
returns-in-Else-clause-ok c = hash_as c.args.at.now c.args.directive Else c.in-Else.is c.args.file.now c.args.unit.now c.else_line.new.file c.args.unit.now c.else_line.result (c.else_line.ensures c.args.unit.now)
