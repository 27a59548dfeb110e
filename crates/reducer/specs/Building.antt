-- The lines that are kept so far, and the tokens of the line that is being read.
use Rattle.std.specs.Prelude.{◌≡◌, ◌≤◌, ℕ, List, [], ◌∷◌, ◌++◌, All, map, take, drop, length}
use Rattle.scan_model.specs.declared.token.Tok.{Tok}
use Rattle.scan_model.specs.declared.token.Line.{Line}
use Rattle.reducer.specs.declared.open_lines.OpenLines.{OpenLines}
use Rattle.scan_model.specs.Spliced.{Spot}
use Rattle.reducer.specs.Placed.{place_in}
use Rattle.reducer.specs.FlatLines.{tok_of, lines_of, IsCut, AreWithin}

-- the lines that have ended: what is cut out of the kept fronts of the lists
unfoldable pub kept_lines : OpenLines → List Line
kept_lines b = lines_of (take b.kept_bytes b.spelled.items) (take b.kept_toks b.toks.items) b.lines.items

-- the tokens of the open line: those behind the kept ones
unfoldable pub open_toks : OpenLines → List Tok
open_toks b = map (tok_of b.spelled.items b.line) (drop b.kept_toks b.toks.items)

-- the records of the kept lines lie in what is kept, and those of the open line in the whole
pub record IsSound (b : OpenLines) : Type 0 where
  pub bytes : b.kept_bytes ≤ length b.spelled.items
  pub toks : b.kept_toks ≤ length b.toks.items
  pub kept : AreWithin (take b.kept_bytes b.spelled.items) (take b.kept_toks b.toks.items) b.lines.items
  pub cut : All (IsCut b.spelled.items) (drop b.kept_toks b.toks.items)

-- the lists have no more elements than bytes of the text are read, which leaves these spots
pub record HasRoom (b : OpenLines) (text : List ℕ) (left : List Spot) : Type 0 where
  pub bytes : length b.spelled.items ≤ place_in (length text) left
  pub toks : length b.toks.items ≤ place_in (length text) left

-- the token is added to the open line, and the lines stay
pub record HasToken (before after : OpenLines) (t : Tok) : Type 0 where
  pub sound : IsSound after
  pub kept : kept_lines after ≡ kept_lines before
  pub added : open_toks after ≡ open_toks before ++ t ∷ []

-- the lines are added to those that are kept
pub record HasLines (before after : OpenLines) (more : List Line) : Type 0 where
  pub sound : IsSound after
  pub added : kept_lines after ≡ kept_lines before ++ more
  pub stay : (after.spelled.items ≡ before.spelled.items) × (after.toks.items ≡ before.toks.items)
