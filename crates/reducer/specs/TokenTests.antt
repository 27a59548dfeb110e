-- Tests of a line's tokens by their places.
use Rattle.std.specs.Prelude.{ℕ, Bool, false, List, slice_get}
use Rattle.std.specs.Option.{option_map_or}
use Rattle.scan_model.specs.declared.token.Tok.{Tok}

-- the token of this place is there, and passes the test
abbrev pub at_tok : (Tok → Bool) → List Tok → ℕ → Bool
at_tok test ts i = option_map_or test (slice_get ts i) false
