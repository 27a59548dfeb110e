-- Header names that a cursor passes ([lex.header]).
use Rattle.std.specs.Prelude.{◌≡◌, ℕ, ◌+◌, ◌<◌, Bool, not, ◌&&◌, ◌||◌, ◌==◌, List, drop, length}
use Rattle.std.specs.Bool.{MatchBool}
use Rattle.std.specs.List.{prefix_len}
use Rattle.scan_model.specs.Spliced.{Spot}
use Rattle.lexeme_reader.specs.Fronts.{line}

-- the second byte closes what the first opens
abbrev pub closes_header : ℕ → ℕ → Bool
closes_header first close = (first == 60 && close == 62) || (first == 34 && close == 34)

-- how many bytes stand before the closing one
abbrev pub len_before : ℕ → List ℕ → ℕ
len_before close s = prefix_len (λ c. not (c == close)) s

-- The line has been passed up to its first closing byte, with it, where it has one.
abbrev pub PassesClosing : Bool → ℕ → List Spot → List Spot → Type 0
PassesClosing found close old new = MatchBool found
    ((len_before close (line old) < length (line old)) × (new ≡ drop (len_before close (line old) + 1) old))
    (len_before close (line old) ≡ length (line old))
