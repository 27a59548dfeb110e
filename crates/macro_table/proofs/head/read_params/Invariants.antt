use Rattle.std.proofs.Common.{◌≡◌, length}
use Rattle.macro_table.specs.Heads.{texts, head_after}
use Rattle.macro_table.proofs.head.read_params.Given as goal

-- the parameters so far and the rest give what the whole list gives
abbrev pub invariant-params : goal.invariant-params
invariant-params l = head_after (texts l.params.items) l.rest ≡ head_after (texts l.fn.params.items) l.toks

abbrev pub decreases-params : goal.decreases-params
decreases-params l = length l.rest
