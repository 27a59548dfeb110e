use Rattle.std.proofs.Common.{sym, ◌∙◌, ap, ◌++◌, ◌∷◌, List, ℕ}
use Rattle.module_lines.proofs.DottedNames.{further-step, HaveUtf8Names-rest}
use Rattle.module_lines.proofs.dotted.read_dotted.Goals as goal

pub further-preserved : goal.further-preserved
further-preserved c =
    let longer = c.in_ok-append.ensures.value ∙ ap (λ (s : List ℕ). c.further.name.items ++ 46 ∷ s) c.as_slice-in-further.ensures in (
      further-step c.args.toks.now c.further.after.now _ _ _ c.index-after-1.result (sym c.further-test.ensures) c.past_further-after.ensures longer c.further.invariant.0,
      c.in_ok-append.ensures.utf8,
      HaveUtf8Names-rest _ _ c.past_further-after.ensures c.further.invariant.2,
    )
