-- What stands next in a condition.
use Rattle.std.specs.Prelude.{List, [], ◌∷◌, Option, Some, None}
use Rattle.scan_model.specs.declared.token.Tok.{Tok}
use Rattle.scan_model.specs.Condition.{has_literal}
use Rattle.if_values.specs.declared.known_tokens.Item.{Item}
use Rattle.if_values.specs.declared.known_tokens.Item.TheVariants.{Plain, Has}

abbrev pub token_of : Item → Tok
token_of (Plain t) = t.now
token_of (Has b) = has_literal b

abbrev pub first_of : List Tok → Option Tok
first_of [] = None
first_of (t ∷ ts) = Some t
