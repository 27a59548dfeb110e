use Rattle.std.proofs.Common.{◌≡◌, ◌++◌, ◌∷◌, [], drop}
use Rattle.scan_model.specs.Spelling.{after_word}
use Rattle.token_spelling.proofs.raw_strings.after_close.Given as goal

abbrev pub invariant-loop-i : goal.invariant-loop-i
invariant-loop-i l = let close = 41 ∷ l.delimiter ++ 34 ∷ [] in after_word close (drop l.i l.text) ≡ after_word close l.text
