use Rattle.std.proofs.Common.{ap, sym, ◌∙◌, drop}
use Rattle.std.proofs.lemmas.List.{drop-drop}
use Rattle.scan_model.specs.Macros.{push, pop}
use Rattle.scan_model.specs.Directives.{quoted_name, with_macros, pragma_line}
use Rattle.plain_lines.specs.States.{core_of}
use Rattle.plain_lines.specs.Lines.{toks_at, after_word}
use Rattle.plain_lines.proofs.ActLemmas.{if_ok, acts_as}
use Rattle.plain_lines.proofs.PragmaLemmas.{on_pragma, pragma_by}
use Rattle.plain_lines.proofs.pragmas.pragma_line.Goals as goal

pub returns-in-PushMacro-clause-ok : goal.returns-in-PushMacro-clause-ok
returns-in-PushMacro-clause-ok c = let at = c.args.at.now in if_ok _ _ c.push_line.result
    (λ action h file. acts_as at (λ files setup c'. pragma_line c' (after_word at)) (λ files setup c'. with_macros c' push (quoted_name (drop 3 (toks_at at)))) file c.args.unit.now file c.push_line.new.unit action
    (λ files setup d entered looked. let c' = core_of at.path.now entered looked file c.args.unit.now in
    pragma_by c' (after_word at) ∙ ap (on_pragma c' (drop 1 (after_word at))) (sym c.in-PushMacro.ensures) ∙ ap (λ ts. with_macros c' push (quoted_name ts)) (drop-drop 1 2 (toks_at at)))
    (h file))
    c.push_line.ensures.ok

pub returns-in-PopMacro-clause-ok : goal.returns-in-PopMacro-clause-ok
returns-in-PopMacro-clause-ok c = let at = c.args.at.now in
    λ file. acts_as at (λ files setup c'. pragma_line c' (after_word at)) (λ files setup c'. with_macros c' pop (quoted_name (drop 3 (toks_at at)))) file c.args.unit.now file c.pop_line.new.unit c.pop_line.result
    (λ files setup d entered looked. let c' = core_of at.path.now entered looked file c.args.unit.now in
    pragma_by c' (after_word at) ∙ ap (on_pragma c' (drop 1 (after_word at))) (sym c.in-PopMacro.ensures) ∙ ap (λ ts. with_macros c' pop (quoted_name ts)) (drop-drop 1 2 (toks_at at)))
    (c.pop_line.ensures file)
