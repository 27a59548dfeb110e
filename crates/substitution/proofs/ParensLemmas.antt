-- What parentheses enclose, token by token.
use Rattle.std.proofs.Common.{◌≡◌, ◌∙◌, refl, ℕ, ◌+◌, ◌<◌, ◌≤◌, ◌&&◌, ◌==◌, List, [], ◌∷◌, ◌++◌, take, drop, Option, Some, None, option_map}
use Rattle.scan_model.specs.declared.token.Tok.{Tok}
use Rattle.scan_model.specs.Parentheses.{Enclosed, enclosed}

abbrev pub toks_enclosed : ℕ → List Tok → Option (Enclosed Tok)
toks_enclosed depth ts = enclosed (λ t. t) depth ts

-- with these before what is enclosed
abbrev pub before_inside : List Tok → Enclosed Tok → Enclosed Tok
before_inside ts e = record { inside = ts ++ e.inside; close = e.close; after = e.after }

before-none : (o : Option (Enclosed Tok)) → option_map (before_inside []) o ≡ o
before-none None = refl
before-none (Some e) = refl

pub enclosed-start : (ts : List Tok) → option_map (before_inside (take 0 ts)) (toks_enclosed 0 (drop 0 ts)) ≡ toks_enclosed 0 ts
enclosed-start ts = before-none (toks_enclosed 0 ts)
