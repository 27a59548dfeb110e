-- What a reduced text keeps of its lines.
use Rattle.std.specs.Prelude.{ℕ, ◌<◌, ◌≤◌, List, [], ◌∷◌, All, length, slice_get}
use Rattle.std.specs.Option.{option_map_or}
use Rattle.scan_model.specs.declared.token.Tok.{Tok}
use Rattle.scan_model.specs.declared.token.Line.{Line}
use Rattle.scan_model.specs.Utf8Names.{HasUtf8Name}

-- the first line has at least the given number, and each further one at least the `next` of the line before
abbrev pub AreOrdered : ℕ → List Line → Type 0
AreOrdered from [] = Unit {0}
AreOrdered from (l ∷ ls) = (from ≤ l.line) × (l.line < l.next) × (l.next ≤ 33554434) × AreOrdered l.next ls

-- what every reduced text keeps: the order of the numbers, the text of identifiers, and how many tokens a line has
pub record AreReduced (lines : List Line) : Type 0 where
  pub ordered : AreOrdered 1 lines
  pub utf8 : All (λ line. All HasUtf8Name line.toks) lines
  pub short : All (λ line. length line.toks ≤ 33554433) lines

-- the tokens of the line of this number, from 0
abbrev pub toks_of : List Line → ℕ → List Tok
toks_of lines k = option_map_or (λ line. line.toks) (slice_get lines k) []
