use Rattle.std.proofs.Common.{◌≡◌, ◌≤◌, ◌++◌, take, drop}
use Rattle.std.specs.Option.{option_map}
use Rattle.macro_table.specs.Names.{enclosed_tokens}
use Rattle.macro_table.proofs.parentheses.before_close.Given as goal

-- the tokens so far, and what the rest gives, are what is enclosed
abbrev pub invariant-loop-i : goal.invariant-loop-i
invariant-loop-i l = (option_map (λ ts. take l.i l.toks ++ ts) (enclosed_tokens l.depth (drop l.i l.toks)) ≡ enclosed_tokens 0 l.toks) × (l.depth ≤ l.i)
