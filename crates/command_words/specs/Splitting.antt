-- How the text of a command is split into words: a machine that takes one character after another.
use Rattle.std.specs.Prelude.{ℕ, Bool, false, not, ◌||◌, ◌==◌, if◌then◌else◌, List, [], ◌∷◌, ◌++◌, fold, Result, Ok, Err}
use Rattle.std.specs.Char.{encode_utf8}
use Rattle.std.specs.Str.{chars}
use Rattle.std.specs.String.{string_bytes}
use Rattle.command_words.specs.declared.bad_command.BadCommand.{BadCommand}
use Rattle.command_words.specs.declared.splitting.Mode.{Mode}
use Rattle.command_words.specs.declared.splitting.Mode.TheVariants.{Between, Bare, Escaped, Single, Double, DoubleEscaped}
use Rattle.command_words.specs.declared.splitting.Splitter.{Splitter}

-- ## Characters: `'` is 39, `"` is 34 and `\` is 92

-- a space, a tab, a CR or an LF parts words
abbrev pub is_separator : ℕ → Bool
is_separator c = c == 32 || c == 9 || c == 13 || c == 10

-- a character that a backslash keeps inside `"`
abbrev pub is_kept_in_double : ℕ → Bool
is_kept_in_double c = c == 34 || c == 92

-- a character that means something outside quotes
abbrev pub is_special : ℕ → Bool
is_special c = is_separator c || c == 39 || is_kept_in_double c

-- ## One character

-- where a character outside quotes leads
abbrev pub mode_outside : ℕ → Mode
mode_outside c =
    if is_separator c then Between else (if c == 39 then Single else (if c == 34 then Double else (if c == 92 then Escaped else Bare)))

-- where a character leads
abbrev pub next_mode : Mode → ℕ → Mode
next_mode Between c = mode_outside c
next_mode Bare c = mode_outside c
next_mode Escaped c = Bare
next_mode Single c = if c == 39 then Bare else Single
next_mode Double c = if c == 34 then Bare else (if c == 92 then DoubleEscaped else Double)
next_mode DoubleEscaped c = Double

-- a character that only says where words and quotes begin and end
abbrev pub is_dropped : Mode → ℕ → Bool
is_dropped Between c = is_special c
is_dropped Bare c = is_special c
is_dropped Escaped c = false
is_dropped Single c = c == 39
is_dropped Double c = is_kept_in_double c
is_dropped DoubleEscaped c = false

-- inside `"` a backslash stays before a character that it doesn't keep
abbrev pub keeps_backslash : Mode → ℕ → Bool
keeps_backslash DoubleEscaped c = not (is_kept_in_double c)
keeps_backslash mode c = false

-- what the word gets of a character
abbrev pub kept : Mode → ℕ → List ℕ
kept mode c = if is_dropped mode c then [] else (if keeps_backslash mode c then 92 ∷ encode_utf8 c else encode_utf8 c)

-- a word that is under way ends at a character outside quotes that parts words
abbrev pub ends_word : Mode → ℕ → Bool
ends_word Bare c = is_separator c
ends_word mode c = false

-- ## The machine

-- how far a text is split: the word under way, which is empty between words, and the words before it
pub record Split : Type 0 where
  pub mode : Mode
  pub word : List ℕ
  pub words : List (List ℕ)

-- how far the code's splitter is
abbrev pub seen : Splitter → Split
seen s = record { mode = s.mode; word = string_bytes s.word; words = s.words.items }

abbrev pub start : Split
start = record { mode = Between; word = []; words = [] }

abbrev pub step : Split → ℕ → Split
step s c = record {
  mode = next_mode s.mode c;
  word = if ends_word s.mode c then [] else s.word ++ kept s.mode c;
  words = if ends_word s.mode c then s.words ++ s.word ∷ [] else s.words;
}

abbrev pub bad_command : BadCommand
bad_command = record {}

-- the words at the text's end; an open quote or a last backslash is refused
abbrev pub ended : Mode → List ℕ → List (List ℕ) → Result (List (List ℕ)) BadCommand
ended Between word words = Ok words
ended Bare word words = Ok (words ++ word ∷ [])
ended mode word words = Err bad_command

abbrev pub finish : Split → Result (List (List ℕ)) BadCommand
finish s = ended s.mode s.word s.words

abbrev pub split_to_end : List ℕ → Split
split_to_end text = fold step start (chars text)

-- the words of a command's text
abbrev pub split : List ℕ → Result (List (List ℕ)) BadCommand
split text = finish (split_to_end text)
