-- Tokens in which each `__has_include` and `__has_include_next` is a literal.
use Rattle.std.specs.Prelude.{◌≡◌, ℕ, ◌+◌, Bool, List, [], ◌∷◌, length, Some}
use Rattle.std.specs.Option.{option_map, option_map_or}
use Rattle.scan_model.specs.declared.token.Tok.{Tok}
use Rattle.scan_model.specs.HeaderName.{Term, Plain, Has, terms}
use Rattle.scan_model.specs.Condition.{with_has}

abbrev pub has_count : List Term → ℕ
has_count [] = 0
has_count (Plain t ∷ rest) = has_count rest
has_count (Has next form name ∷ rest) = 1 + has_count rest

-- none of them is malformed, and each has one entry
abbrev pub HasEntries : List Tok → List Bool → Type 0
HasEntries toks has = option_map has_count (terms toks) ≡ Some (length has)

-- the tokens, with each as the literal that its entry says
abbrev pub known : List Tok → List Bool → List Tok
known toks has = option_map_or (λ ts. with_has ts has) (terms toks) []
