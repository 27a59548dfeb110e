use Rattle.std.proofs.Common.{◌≡◌, ◌<◌, ◌^◌, take}
use Rattle.scan_model.specs.Literals.{number_of}
use Rattle.if_values.proofs.digits.number.Given as goal

abbrev pub invariant-digits : goal.invariant-digits
invariant-digits l = record {
  fits : l.number < 2 ^ 64;
  written : l.number ≡ number_of l.base (take l.byte-index l.text);
}
