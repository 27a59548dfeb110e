-- What parentheses enclose in a list of tokens.
use Rattle.std.specs.Prelude.{◌≡◌, ◌<◌, List, length, Option, Some}
use Rattle.scan_model.specs.declared.token.Tok.{Tok}
use Rattle.scan_model.specs.Parentheses.{Enclosed}
use Rattle.substitution.specs.declared.parens.Parens.{Parens}

-- these are the two parts of it, both shorter than the list
pub record IsEnclosed (toks : List Tok) (enclosed : Option (Enclosed Tok)) (found : Parens) : Type 0 where
  pub close : Tok
  pub parts : enclosed ≡ Some (record { inside = found.inside.now; close = close; after = found.after.now })
  pub inside_shorter : length found.inside.now < length toks
  pub after_shorter : length found.after.now < length toks
