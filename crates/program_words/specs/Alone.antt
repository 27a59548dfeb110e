-- Whether the words ask for a run on one thread.
use Rattle.std.specs.Prelude.{ℕ, Bool, false, ◌&&◌, ◌||◌, nat_eq, List, [], ◌∷◌, codes}
use Rattle.std.specs.List.{starts_with}
use Rattle.scan_model.specs.TokenTests.{same}

-- the word asks for it by itself
abbrev pub is_alone_word : List ℕ → Bool
is_alone_word word = same word (codes "-j1") || same word (codes "-j=1") || starts_with nat_eq word (codes "--schedule")

-- the word asks for it after another, which is `-j` or isn't
abbrev pub asks_alone : Bool → List ℕ → Bool
asks_alone after_count word = is_alone_word word || (after_count && same word (codes "1"))

-- of words behind one that is `-j` or isn't
abbrev pub alone_from : Bool → List (List ℕ) → Bool
alone_from after_count [] = false
alone_from after_count (word ∷ words) = asks_alone after_count word || alone_from (same word (codes "-j")) words

abbrev pub is_alone : List (List ℕ) → Bool
is_alone words = alone_from false words
