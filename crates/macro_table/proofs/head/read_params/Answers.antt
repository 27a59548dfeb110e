use Rattle.std.proofs.Common.{ℕ, List, [], ◌∷◌, ◌++◌, sym, ◌∙◌, ap}
use Rattle.macro_table.specs.Heads.{texts}
use Rattle.macro_table.proofs.HeadLemmas.{texts-push, head_after-param}
use Rattle.macro_table.proofs.head.read_params.Goals as goal

pub params-preserved : goal.params-preserved
params-preserved c =
    let names = ap texts c.in_ok-push.ensures.items ∙ texts-push c.params.params.items c.as_slice.result ∙ ap (λ (name : List ℕ). texts c.params.params.items ++ name ∷ []) c.as_slice.ensures in
    rw (c.past_param-rest.ensures, names) (head_after-param (texts c.params.params.items) c.params.rest.now c.index-rest-0.result (sym c.params-test.ensures) ∙ c.params.invariant)
