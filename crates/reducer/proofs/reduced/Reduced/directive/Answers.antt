use Rattle.std.proofs.Common.{◌<◌, ◌≡◌, ◌∙◌, sym, subst, length}
use Rattle.scan_model.specs.Skips.{directive_in}
use Rattle.reducer.specs.ReducedLines.{toks_of}
use Rattle.reducer.proofs.TableLemmas.{directive_at_line}
use Rattle.reducer.proofs.reduced.Reduced.directive.Goals as goal

pub returns-clause-directive : goal.returns-clause-directive
returns-clause-directive c =
    let r = c.self.inside in
    let k = c.args.k in
    subst (λ ls. c.in_dialect.result ≡ directive_in c.args.dialect (toks_of ls k)) c.self.view_is
    (c.in_dialect.ensures
    ∙ directive_at_line r.spelled.items r.toks.items r.lines.items k c.index.result.now c.args.dialect c.self.invariant.kept.within (subst (λ ls. k < length ls) (sym c.self.view_is) c.requires) c.index.ensures)
