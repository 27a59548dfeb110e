use Rattle.std.proofs.Common.{◌≡◌, false, drop}
use Rattle.scan_model.specs.Spelling.{after_items}
use Rattle.token_spelling.proofs.quoted.after_items.Given as goal

abbrev pub invariant-loop-i : goal.invariant-loop-i
invariant-loop-i l = after_items l.quote l.escaped (drop l.i l.text) ≡ after_items l.quote false l.text
