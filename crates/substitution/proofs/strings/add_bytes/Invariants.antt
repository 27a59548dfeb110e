use Rattle.std.proofs.Common.{◌≡◌, ◌++◌, drop}
use Rattle.scan_model.specs.Substitution.{shown_bytes}
use Rattle.substitution.proofs.strings.add_bytes.Given as goal

-- what was added, and what is left to add, are the whole
abbrev pub invariant-bytes : goal.invariant-bytes
invariant-bytes l = l.text.items ++ shown_bytes l.quoted (drop l.i l.bytes) ≡ l.initial.text.items ++ shown_bytes l.quoted l.bytes
