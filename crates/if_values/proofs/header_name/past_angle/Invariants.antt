use Rattle.std.proofs.Common.{◌≡◌, drop}
use Rattle.if_values.specs.Names.{past_angle}
use Rattle.if_values.proofs.header_name.past_angle.Given as goal

abbrev pub invariant-angle : goal.invariant-angle
invariant-angle l = past_angle (drop l.i l.toks) ≡ past_angle l.toks
