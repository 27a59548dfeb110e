use Rattle.std.proofs.Common.{sym, ◌∙◌, refl}
use Rattle.plain_lines.specs.States.{core_of}
use Rattle.plain_lines.specs.Lines.{line_of}
use Rattle.line_actions.specs.Numbers.{change_seen}
use Rattle.line_actions.proofs.NumberLemmas.{line_changed, renumbered_to}
use Rattle.line_actions.proofs.line_numbers.renumber.Goals as goal

pub returns-clause-ok : goal.returns-clause-ok
returns-clause-ok c = λ unit files setup d entered looked.
    let at = c.args.at.now in
    let core = core_of at.path.now entered looked c.args.file.now unit in (
      line_changed core (line_of at) c.args.toks.now (change_seen c.in-Some.change) (sym c.in-Some.ensures)
          ∙ renumbered_to core (line_of at) (change_seen c.in-Some.change) c.in_ok-name.name c.renumbered.result c.in_ok-name.ensures c.renumbered.ensures,
      refl,
    )
