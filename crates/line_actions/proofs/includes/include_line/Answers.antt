use Rattle.plain_lines.specs.States.{core_of}
use Rattle.plain_lines.specs.Lines.{line_of, after_word}
use Rattle.scan_model.specs.Includes.{include_line}
use Rattle.plain_lines.proofs.ActLemmas.{if_ok, acts_as}
use Rattle.line_actions.proofs.NameLemmas.{by_replaced, no_header_line}
use Rattle.line_actions.proofs.includes.include_line.Goals as goal

pub returns-in-None-clause-ok : goal.returns-in-None-clause-ok
returns-in-None-clause-ok c = let at = c.args.at.now in let file = c.args.file.now in let unit = c.args.unit.now in
    if_ok _ _ c.include_replaced.result
    (λ action h. acts_as at (λ files setup c'. include_line c.args.next files setup c' (line_of at) (after_word at)) (λ files setup c'. by_replaced c.args.next files setup c' (line_of at) (after_word at))
    file unit c.include_replaced.new.file unit action
    (λ files setup d entered looked. no_header_line c.args.next files setup (core_of at.path.now entered looked file unit) (line_of at) (after_word at) c.in-None.ensures)
    h)
    c.include_replaced.ensures.ok
