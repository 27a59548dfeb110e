-- Lists of tokens with their hide sets, as the code has them.
use Rattle.std.specs.Prelude.{ℕ, Bool, ◌&&◌, if◌then◌else◌, List, [], ◌∷◌, Option, Some, None, codes}
use Rattle.scan_model.specs.declared.token.Kind.TheVariants.{Ident}
use Rattle.scan_model.specs.declared.token.Tok.{Tok}
use Rattle.scan_model.specs.TokenTests.{is_of, is_open_paren, is_close_paren}
use Rattle.substitution.specs.declared.marked.Marked.{Marked}

-- the name after `defined`, and how many tokens it takes
abbrev pub defined_at : List Marked → Option (List ℕ × ℕ)
defined_at (p ∷ x ∷ q ∷ rest) =
    if is_of Ident p.tok then Some (p.tok.text, 1)
    else if is_open_paren p.tok && is_of Ident x.tok && is_close_paren q.tok then Some (x.tok.text, 3) else None
defined_at (p ∷ rest) = if is_of Ident p.tok then Some (p.tok.text, 1) else None
defined_at [] = None

abbrev pub digit_of : Bool → List ℕ
digit_of is_defined = if is_defined then codes "1" else codes "0"

-- a token that hides no name
abbrev pub unhidden : Tok → Marked
unhidden t = record { tok = t; hides = 0 }
