use Rattle.std.proofs.Common.{◌≡◌, ◌≤◌, take, drop, option_map}
use Rattle.substitution.proofs.ParensLemmas.{before_inside, toks_enclosed}
use Rattle.substitution.proofs.parens.enclosed.Given as goal

-- the tokens so far are inside
abbrev pub invariant-toks : goal.invariant-toks
invariant-toks l =
    record {
      shallow : l.depth ≤ l.i;
      inside : option_map (before_inside (take l.i l.toks)) (toks_enclosed l.depth (drop l.i l.toks)) ≡ toks_enclosed 0 l.toks;
    }
