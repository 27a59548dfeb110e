use Rattle.std.proofs.Common.{◌<◌, ◌≡◌, ◌∙◌, ap, sym, subst, length, get_or}
use Rattle.scan_model.specs.declared.skip.Skip.TheVariants.{Partner}
use Rattle.scan_model.specs.Skips.{skip}
use Rattle.reducer.specs.Indexed.{skips_in}
use Rattle.reducer.proofs.TableLemmas.{skip_at_line}
use Rattle.reducer.proofs.reduced.Reduced.skip.Goals as goal

pub returns-clause-skip : goal.returns-clause-skip
returns-clause-skip c =
    let r = c.self.inside in
    let k = c.args.k in
    let table = skips_in c.args.dialect r.skips.items r.older_skips in
    ap (λ xs. get_or xs k (Partner 0)) c.skips_in.ensures
    ∙ subst (λ ls. get_or table k (Partner 0) ≡ skip ls k c.args.dialect) c.self.view_is
    (skip_at_line r.spelled.items r.toks.items r.lines.items table k (Partner 0) c.args.dialect c.self.invariant.kept.within (c.self.invariant.skips_are c.args.dialect)
    (subst (λ ls. k < length ls) (sym c.self.view_is) c.requires))
