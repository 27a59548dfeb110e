use Rattle.std.proofs.Common.{◌≡◌, ◌++◌, drop}
use Rattle.scan_model.specs.Substitution.{shown_after_first}
use Rattle.substitution.specs.Strings.{toks_of}
use Rattle.substitution.proofs.strings.add_further_tokens.Given as goal

-- what was added, and what is left to add, are the whole
abbrev pub invariant-tokens : goal.invariant-tokens
invariant-tokens l = l.text.items ++ shown_after_first (toks_of (drop l.i l.marked)) ≡ l.initial.text.items ++ shown_after_first (toks_of l.marked)
