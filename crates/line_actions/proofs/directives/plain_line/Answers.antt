use Rattle.scan_model.specs.declared.directive.Directive.TheVariants.{Define, Undef, Include, IncludeNext, Renumber, Pragma}
use Rattle.plain_lines.proofs.ActLemmas.{if_ok}
use Rattle.line_actions.proofs.DispatchLemmas.{plain_as}
use Rattle.line_actions.proofs.directives.plain_line.Goals as goal

pub returns-in-Define-clause-ok : goal.returns-in-Define-clause-ok
returns-in-Define-clause-ok c = if_ok _ _ c.define_line.result
    (λ action h. plain_as c.args.at.now c.args.directive Define c.in-Define.is c.args.file.now c.args.unit.now c.args.file.now c.define_line.new.unit action (h c.args.file.now))
    c.define_line.ensures.ok

pub returns-in-Undef-clause-ok : goal.returns-in-Undef-clause-ok
returns-in-Undef-clause-ok c = plain_as c.args.at.now c.args.directive Undef c.in-Undef.is c.args.file.now c.args.unit.now c.args.file.now c.undef_line.new.unit c.undef_line.result (c.undef_line.ensures c.args.file.now)

pub returns-in-Include-clause-ok : goal.returns-in-Include-clause-ok
returns-in-Include-clause-ok c = if_ok _ _ c.include_line.result
    (λ action h. plain_as c.args.at.now c.args.directive Include c.in-Include.is c.args.file.now c.args.unit.now c.include_line.new.file c.args.unit.now action h)
    c.include_line.ensures.ok

pub returns-in-IncludeNext-clause-ok : goal.returns-in-IncludeNext-clause-ok
returns-in-IncludeNext-clause-ok c = if_ok _ _ c.include_line-in-IncludeNext.result
    (λ action h. plain_as c.args.at.now c.args.directive IncludeNext c.in-IncludeNext.is c.args.file.now c.args.unit.now c.include_line-in-IncludeNext.new.file c.args.unit.now action h)
    c.include_line-in-IncludeNext.ensures.ok

pub returns-in-Renumber-clause-ok : goal.returns-in-Renumber-clause-ok
returns-in-Renumber-clause-ok c = if_ok _ _ c.line_line.result
    (λ action h. plain_as c.args.at.now c.args.directive Renumber c.in-Renumber.is c.args.file.now c.args.unit.now c.line_line.new.file c.args.unit.now action h)
    c.line_line.ensures.ok

pub returns-in-Pragma-clause-ok : goal.returns-in-Pragma-clause-ok
returns-in-Pragma-clause-ok c = if_ok _ _ c.pragma_line.result
    (λ action h. plain_as c.args.at.now c.args.directive Pragma c.in-Pragma.is c.args.file.now c.args.unit.now c.args.file.now c.pragma_line.new.unit action (h c.args.file.now))
    c.pragma_line.ensures.ok
