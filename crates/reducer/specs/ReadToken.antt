-- A token that is read into the open line.
use Rattle.std.specs.Prelude.{◌≡◌, ℕ, Bool, true, false, List, None, Some}
use Rattle.scan_model.specs.declared.token.Tok.{Tok}
use Rattle.scan_model.specs.Spliced.{Spot}
use Rattle.pp_lexer.specs.Reads.{GivesToken}
use Rattle.reducer.specs.declared.open_lines.OpenLines.{OpenLines}
use Rattle.reducer.specs.Building.{open_toks, IsSound, HasToken}

-- the next token of the open line is added to it; where there is none, nothing changes
abbrev pub ReadsToken : List ℕ → OpenLines → List Spot → Bool → OpenLines → List Spot → Type 0
ReadsToken text before spots false after left = (GivesToken text (open_toks before) spots None left) × (after ≡ before) × IsSound after
ReadsToken text before spots true after left = (t : Tok) × (GivesToken text (open_toks before) spots (Some t) left) × HasToken before after t
