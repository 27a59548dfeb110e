-- What the words of a command say, read from left to right.
use Rattle.std.specs.Prelude.{ℕ, ◌+◌, Bool, true, false, ◌&&◌, ◌||◌, ◌==◌, nat_lt, nat_le, if◌then◌else◌, List, [], ◌∷◌, ◌++◌, drop, length, codes, Option, Some, None, Result, Ok, Err}
use Prim.Native.String.{String}
use Rattle.std.specs.Option.{option_map_or}
use Rattle.std.specs.List.{list_any, position_or_len, before_first, after_first}
use Rattle.scan_model.specs.declared.command.CommandFault.{CommandFault}
use Rattle.scan_model.specs.declared.command.CommandFault.TheVariants.{UnsupportedOption, BadCommand}
use Rattle.scan_model.specs.declared.command.Setting.{Setting}
use Rattle.scan_model.specs.declared.command.Setting.TheVariants as SettingIs
use Rattle.scan_model.specs.declared.command.SearchList.{SearchList}
use Rattle.scan_model.specs.declared.command.Dialect.TheVariants.{Cxx20}
use Rattle.scan_model.specs.Dialects.{dialect_after}
use Rattle.scan_model.specs.Limits.{file_limit}
use Rattle.scan_model.specs.Paths.{join}
use Rattle.command_words.specs.declared.options.Purpose.{Purpose}
use Rattle.command_words.specs.declared.options.Purpose.TheVariants.{Define, Undefine, AngledFolder, QuoteFolder, SystemFolder, AfterFolder, ForcedFile, Output, Nothing}
use Rattle.command_words.specs.declared.options.WordClass.{WordClass}
use Rattle.command_words.specs.declared.options.WordClass.TheVariants.{Takes, Joined, Unsupported, Other}
use Rattle.command_words.specs.declared.reading.Reading.{Reading}
use Rattle.command_words.specs.Options.{class_of}

-- what follows `-std=` where the language is newer than C++20
abbrev pub later_names : List String
later_names = "c++23" ∷ "c++2b" ∷ "c++26" ∷ "c++2c" ∷ "gnu++23" ∷ "gnu++2b" ∷ "gnu++26" ∷ "gnu++2c" ∷ []

-- no word is read
abbrev pub nothing_read : Reading
nothing_read = record {
  settings = [];
  forced = [];
  search = record { quote = []; angled = []; system = []; after = [] };
  output = None;
  dialect = Cxx20;
  waits = None;
}

-- ## What is refused

-- how many settings, forced files and folders there are
abbrev pub added : Reading → ℕ
added r = length r.settings + length r.forced + length r.search.quote + length r.search.angled + length r.search.system + length r.search.after

-- it can get no more of them
abbrev pub is_full : Reading → Bool
is_full r = nat_le file_limit (added r)

-- it gets one more of them
abbrev pub is_added : Purpose → Bool
is_added Output = false
is_added Nothing = false
is_added purpose = true

abbrev pub is_setting : Purpose → Bool
is_setting Define = true
is_setting Undefine = true
is_setting purpose = false

-- a newline, or more than 33,554,400 bytes
abbrev pub is_bad_setting : List ℕ → Bool
is_bad_setting text = nat_lt 33554400 (length text) || list_any (λ c. c == 10) text

abbrev pub is_refused : Purpose → List ℕ → Reading → Bool
is_refused purpose text r = (is_added purpose && is_full r) || (is_setting purpose && is_bad_setting text)

-- ## What a text adds

abbrev pub is_equals : ℕ → Bool
is_equals c = c == 61

-- what `-D` defines: its first `=` stands for a blank, and without one the macro is 1
abbrev pub defined : List ℕ → List ℕ
defined text =
    if nat_lt (position_or_len is_equals text) (length text)
    then before_first is_equals text ++ 32 ∷ after_first is_equals text else text ++ codes " 1"

abbrev pub with_setting : Setting → Reading → Reading
with_setting setting r = record r { settings = r.settings ++ setting ∷ [] }

abbrev pub with_forced : List ℕ → Reading → Reading
with_forced name r = record r { forced = r.forced ++ name ∷ [] }

abbrev pub with_output : List ℕ → Reading → Reading
with_output name r = record r { output = Some name }

-- the folder stands last in the list that it is for
abbrev pub with_folder : Purpose → List ℕ → SearchList → SearchList
with_folder AngledFolder path s = record s { angled = s.angled ++ path ∷ [] }
with_folder QuoteFolder path s = record s { quote = s.quote ++ path ∷ [] }
with_folder SystemFolder path s = record s { system = s.system ++ path ∷ [] }
with_folder AfterFolder path s = record s { after = s.after ++ path ∷ [] }
with_folder purpose path s = s

-- folders are below the command's directory
abbrev pub with_text : List ℕ → Purpose → List ℕ → Reading → Reading
with_text directory Define text r = with_setting (SettingIs.Define (defined text)) r
with_text directory Undefine text r = with_setting (SettingIs.Undef text) r
with_text directory ForcedFile text r = with_forced text r
with_text directory Output text r = with_output text r
with_text directory Nothing text r = r
with_text directory purpose text r = record r { search = with_folder purpose (join directory text) r.search }

-- an option's text is read
abbrev pub take : List ℕ → Purpose → List ℕ → Reading → Result Reading CommandFault
take directory purpose text r = if is_refused purpose text r then Err BadCommand else Ok (with_text directory purpose text r)

-- ## One word after another

abbrev pub by_class : List ℕ → WordClass → List ℕ → Reading → Result Reading CommandFault
by_class directory (Takes purpose) word r = Ok (record r { waits = Some purpose })
by_class directory (Joined purpose n) word r = take directory purpose (drop n word) r
by_class directory Unsupported word r = Err UnsupportedOption
by_class directory Other word r = Ok (record r { dialect = dialect_after r.dialect word })

-- a word that the word before takes isn't looked at
abbrev pub step : List ℕ → List ℕ → Reading → Result Reading CommandFault
step directory word r =
    option_map_or (λ purpose. take directory purpose word (record r { waits = None })) r.waits (by_class directory (class_of word) word r)

-- no word is left; the last one may not wait for another
abbrev pub ended : Reading → Result Reading CommandFault
ended r = option_map_or (λ purpose. Err BadCommand) r.waits (Ok r)

abbrev pub and_then : (Reading → Result Reading CommandFault) → Result Reading CommandFault → Result Reading CommandFault
and_then next (Ok r) = next r
and_then next (Err fault) = Err fault

-- all of the words, up to the first fault
abbrev pub walk : List ℕ → List (List ℕ) → Reading → Result Reading CommandFault
walk directory [] r = ended r
walk directory (word ∷ words) r = and_then (walk directory words) (step directory word r)
