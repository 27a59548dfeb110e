use Rattle.std.proofs.Common.{◌≡◌, ◌+◌, ◌-◌, ◌≤◌, length, drop}
use Rattle.scan_model.specs.Literals.{digits_len}
use Rattle.if_values.proofs.digits.digits_len.Given as goal

abbrev pub invariant-digits : goal.invariant-digits
invariant-digits l = record {
  within : l.len ≤ length l.text;
  counted : l.len + digits_len l.base (drop l.len l.text) ≡ digits_len l.base l.text;
}

abbrev pub decreases-digits : goal.decreases-digits
decreases-digits l = length l.text - l.len
