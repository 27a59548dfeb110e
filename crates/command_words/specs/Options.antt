-- How the words of a command are told apart: what each option takes, and what its text is for.
use Rattle.std.specs.Prelude.{ℕ, Bool, not, ◌&&◌, nat_eq, if◌then◌else◌, List, [], ◌∷◌, drop, length, codes, Option, Some, None}
use Rattle.std.specs.Option.{option_map_or}
use Rattle.std.specs.List.{starts_with}
use Rattle.scan_model.specs.Spelling.{is_one_of}
use Rattle.scan_model.specs.TokenTests.{same}
use Rattle.command_words.specs.declared.options.Purpose.{Purpose}
use Rattle.command_words.specs.declared.options.Purpose.TheVariants.{Define, Undefine, AngledFolder, QuoteFolder, SystemFolder, AfterFolder, ForcedFile, Output, Nothing}
use Rattle.command_words.specs.declared.options.WordClass.{WordClass}
use Rattle.command_words.specs.declared.options.WordClass.TheVariants.{Takes, Joined, Unsupported, Other}

-- an option that takes the next word, which says nothing that a scan needs
abbrev pub takes_for_nothing : List ℕ → Bool
takes_for_nothing word = is_one_of ("-x" ∷ "-MF" ∷ "-MT" ∷ "-MQ" ∷ "-MJ" ∷ "-target" ∷ "-arch" ∷ []) word

-- what the next word is for, where the word takes it
abbrev pub next_purpose : List ℕ → Option Purpose
next_purpose word =
    if same word (codes "-D") then Some Define
    else (if same word (codes "-U") then Some Undefine
    else (if same word (codes "-I") then Some AngledFolder
    else (if same word (codes "-o") then Some Output
    else (if same word (codes "-isystem") then Some SystemFolder
    else (if same word (codes "-iquote") then Some QuoteFolder
    else (if same word (codes "-idirafter") then Some AfterFolder
    else (if same word (codes "-include") then Some ForcedFile
    else (if takes_for_nothing word then Some Nothing else None))))))))

-- what the text behind a name of two characters is for
abbrev pub short_purpose : List ℕ → Option Purpose
short_purpose word =
    if starts_with nat_eq word (codes "-D") then Some Define
    else (if starts_with nat_eq word (codes "-U") then Some Undefine
    else (if starts_with nat_eq word (codes "-I") then Some AngledFolder
    else (if starts_with nat_eq word (codes "-o") then Some Output else None)))

-- the word begins with this option's name, and what is behind it doesn't begin with `-`
abbrev pub is_joined : List ℕ → List ℕ → Bool
is_joined name word = starts_with nat_eq word name && not (starts_with nat_eq (drop (length name) word) (codes "-"))

abbrev pub long_class : List ℕ → WordClass
long_class word =
    if starts_with nat_eq word (codes "-imacros") then Unsupported
    else (if is_joined (codes "-isystem") word then Joined SystemFolder 8
    else (if is_joined (codes "-iquote") word then Joined QuoteFolder 7
    else (if is_joined (codes "-idirafter") word then Joined AfterFolder 10 else Other)))

-- a word that doesn't take the next one
abbrev pub joined_class : List ℕ → WordClass
joined_class word = option_map_or (λ purpose. Joined purpose 2) (short_purpose word) (long_class word)

-- the first of these rows that a word goes by
unfoldable pub class_of : List ℕ → WordClass
class_of word = option_map_or (λ purpose. Takes purpose) (next_purpose word) (joined_class word)
