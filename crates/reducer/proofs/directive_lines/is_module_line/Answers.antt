use Rattle.reducer.specs.Building.{open_toks}
use Rattle.reducer.proofs.PlaceLemmas.{module_line_is}
use Rattle.reducer.proofs.directive_lines.is_module_line.Goals as goal

pub returns : goal.returns
returns c =
    module_line_is (open_toks c.args.lines.now) c.args.first _ _ _ _ c.requires.front c.is_word.ensures c.makes_import.ensures c.is_word-2.ensures c.makes_module.ensures
