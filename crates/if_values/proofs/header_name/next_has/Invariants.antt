use Rattle.std.proofs.Common.{◌≡◌, length, drop}
use Rattle.scan_model.specs.HeaderName.{next_has_from}
use Rattle.if_values.proofs.header_name.next_has.Given as goal

abbrev pub invariant-places : goal.invariant-places
invariant-places l = next_has_from (length l.toks) l.place (drop l.place l.toks) ≡ next_has_from (length l.toks) l.from (drop l.from l.toks)
