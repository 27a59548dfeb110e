-- What the bytes of a Clang JSON compilation database say: its entries, or why it is refused.
use Rattle.std.specs.Prelude.{ℕ, suc, List, [], ◌∷◌, codes, length, nat_le, Option, Some, None, option_map, option_and_then, Result, Ok, Err, if◌then◌else◌}
use Rattle.std.specs.Str.{is_utf8}
use Rattle.serde_json.specs.Data.{Data, Items, no_items, item}
use Rattle.serde_json.specs.Find.{get, as_str, as_array}
use Rattle.serde_json.specs.Read as json
use Rattle.compile_db.specs.declared.entry.Entry.{Entry}
use Rattle.compile_db.specs.declared.entry.EntryWords.{EntryWords}
use Rattle.compile_db.specs.declared.entry.EntryWords.TheVariants.{Arguments, Command}
use Rattle.compile_db.specs.declared.database.DbFault.{DbFault}
use Rattle.compile_db.specs.declared.database.DbFault.TheVariants.{NotJson, NotArray, BadEntry, TooMany}

-- the JSON value that the bytes are; bytes that aren't UTF-8 are none
abbrev pub value_of : List ℕ → Option Data
value_of text = if is_utf8 text then json.read text else None

-- the text that a member is, where it is there and is one
abbrev pub text_of : Option Data → Option (List ℕ)
text_of member = option_and_then as_str member

-- the texts that these are, where each is one
abbrev pub texts_of : Items → Option (List (List ℕ))
texts_of no_items = Some []
texts_of (item d ds) = option_and_then (λ text. option_map (λ texts. text ∷ texts) (texts_of ds)) (as_str d)

-- the words of `arguments`, where it is there, and else of `command`
abbrev pub words_of : Option Data → Option Data → Option EntryWords
words_of (Some arguments) command = option_map Arguments (option_and_then texts_of (as_array arguments))
words_of None command = option_map Command (text_of command)

-- the text of `output`, which may be missing
abbrev pub output_of : Option Data → Option (Option (List ℕ))
output_of None = Some None
output_of (Some d) = option_map Some (as_str d)

-- the entry of these parts, where each is well-formed
abbrev pub entry_with : Option (List ℕ) → Option (List ℕ) → Option EntryWords → Option (Option (List ℕ)) → Option Entry
entry_with (Some directory) (Some file) (Some words) (Some output) = Some (record { directory = directory; file = file; words = words; output = output })
entry_with directory file words output = None

-- the entry that a value is; one that isn't an object has no members, so it is none
abbrev pub entry_of : Data → Option Entry
entry_of d =
    entry_with (text_of (get (codes "directory") d)) (text_of (get (codes "file") d))
    (words_of (get (codes "arguments") d) (get (codes "command") d))
    (output_of (get (codes "output") d))

-- the entry before those that come after it, or the number of the first that is refused
abbrev pub entry_before : ℕ → Option Entry → Result (List Entry) DbFault → Result (List Entry) DbFault
entry_before number None later = Err (BadEntry number)
entry_before number (Some entry) (Ok entries) = Ok (entry ∷ entries)
entry_before number (Some entry) (Err fault) = Err fault

-- the entries that these are, the first of which has this number
abbrev pub entries_from : ℕ → Items → Result (List Entry) DbFault
entries_from number no_items = Ok []
entries_from number (item d ds) = entry_before number (entry_of d) (entries_from (suc number) ds)

-- the most entries that a database may have
abbrev pub max_entries : ℕ
max_entries = 131072

-- the entries, unless there are more than that
abbrev pub limited : Result (List Entry) DbFault → Result (List Entry) DbFault
limited (Ok entries) = if nat_le (length entries) max_entries then Ok entries else Err (TooMany (length entries))
limited (Err fault) = Err fault

-- the entries of an array's items, or of no array
abbrev pub of_items : Option Items → Result (List Entry) DbFault
of_items None = Err NotArray
of_items (Some ds) = limited (entries_from 1 ds)

-- the entries of a JSON value, or of none
abbrev pub of_value : Option Data → Result (List Entry) DbFault
of_value None = Err NotJson
of_value (Some d) = of_items (as_array d)

-- what the database says: its entries, or the first of the faults
unfoldable pub database : List ℕ → Result (List Entry) DbFault
database text = of_value (value_of text)
