use Rattle.std.proofs.Common.{◌≡◌, ◌∙◌}
use Rattle.scan_model.specs.Paths.{normal}
use Rattle.path_search.proofs.WritingLemmas.{normal_is, IsNormal-normal}
use Rattle.path_search.proofs.normal_form.normal.Goals as goal

pub of_normal-requires : goal.of_normal-requires
of_normal-requires c =
    let e : c.of_vec.result ≡ normal c.args.text.now = c.of_vec.ensures ∙ (c.in_ok-extended.ensures ∙ normal_is _ c.args.text.now c.in_ok-root.ensures) in
    rw e (IsNormal-normal c.args.text.now)

pub returns : goal.returns
returns c = c.of_normal.ensures ∙ (c.of_vec.ensures ∙ (c.in_ok-extended.ensures ∙ normal_is _ c.args.text.now c.in_ok-root.ensures))
