use Rattle.std.proofs.Common.{sym, ◌∙◌, ap}
use Rattle.macro_table.specs.Heads.{texts, head_after}
use Rattle.macro_table.proofs.HeadLemmas.{head-begun}
use Rattle.macro_table.proofs.head.read_head.Goals as goal

pub returns : goal.returns
returns c = rw (← ap (λ ps. head_after (texts ps) c.args.toks.now) c.new-params.ensures.items ∙ head-begun c.args.toks.now (sym c.if-begins_with_close.ensures)) c.read_params.ensures
