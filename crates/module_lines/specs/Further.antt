-- How a dotted name goes on.
use Rattle.std.specs.Prelude.{Bool, false, ◌&&◌, List, [], ◌∷◌}
use Rattle.scan_model.specs.declared.token.Kind.TheVariants.{Ident}
use Rattle.scan_model.specs.declared.token.Tok.{Tok}
use Rattle.scan_model.specs.TokenTests.{is_of, is_sign}

-- a `.` and an identifier come next
abbrev pub has_further : List Tok → Bool
has_further (d ∷ t ∷ ts) = is_sign ("." ∷ []) d && is_of Ident t
has_further ts = false
