use Rattle.std.proofs.Common.{refl}
use Rattle.plain_lines.proofs.Chains.{last_of_3, unlike}
use Rattle.plain_lines.proofs.pragmas.pragma_spelled.Goals as goal

pub returns-else-eq-3 : goal.returns-else-eq-3
returns-else-eq-3 c = last_of_3 _ _ _ _ _ _ _ _ (unlike _ _ _ c.as_slice.ensures c.if-eq.ensures) (unlike _ _ _ c.as_slice-else-eq.ensures c.if-eq-2.ensures) (unlike _ _ _ c.as_slice-else-eq-2.ensures c.if-eq-3.ensures) refl
