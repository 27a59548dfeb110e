use Rattle.std.proofs.Common.{◌≡◌, ◌∙◌, rules, sym}
use Rattle.scan_model.specs.Paths.{join}
use Rattle.path_search.proofs.WritingLemmas.{join_is, join_absolute, IsNormal-join}
use Rattle.path_search.proofs.joining.join.Goals as goal

pub returns-then-is_absolute : goal.returns-then-is_absolute
returns-then-is_absolute c = let e = join_absolute c.args.base.now c.args.name.now (search rules) in rw (sym e) c.normal.ensures

pub of_normal-requires : goal.of_normal-requires
of_normal-requires c =
    let e : c.of_vec.result ≡ join c.args.base.now c.args.name.now = c.of_vec.ensures ∙ (c.in_ok-extended.ensures ∙ join_is c.args.base.now _ c.args.name.now (search rules) (search rules) (search rules)) in
    rw e (IsNormal-join c.args.base.now c.args.name.now (search rules))

pub returns : goal.returns
returns c = c.of_normal.ensures ∙ (c.of_vec.ensures ∙ (c.in_ok-extended.ensures ∙ join_is c.args.base.now _ c.args.name.now (search rules) (search rules) (search rules)))
