-- The database where its bytes are a JSON value, and where they are none.
use Rattle.std.proofs.Common.{◌≡◌, ℕ, List, Bool, true, false, Option, Some, None, Err, if◌then◌else◌, refl, ap, ◌∙◌}
use Rattle.std.specs.Str.{IsUtf8, is_utf8}
use Rattle.std.proofs.lemmas.Str.{IsUtf8-from_is_utf8, is_utf8-from_IsUtf8}
use Rattle.serde_json.specs.Data.{Data, Items}
use Rattle.serde_json.specs.Find.{as_array}
use Rattle.serde_json.specs.Read as json
use Rattle.compile_db.specs.Database.{database, of_value, of_items, value_of, limited, entries_from}
use Rattle.compile_db.specs.declared.database.DbFault.TheVariants.{NotJson, NotArray}

if_true : (test : Bool) (found : Option Data) → test ≡ true → (if test then found else None) ≡ found
if_true true found h = refl
if_true false found h = cc

if_none : (test : Bool) (found : Option Data) → (test ≡ true → found ≡ None) → (if test then found else None) ≡ None
if_none true found h = h refl
if_none false found h = refl

value_of-read : (text : List ℕ) (d : Data) → IsUtf8 text → json.read text ≡ Some d → value_of text ≡ Some d
value_of-read text d utf8 is = if_true (is_utf8 text) (json.read text) (is_utf8-from_IsUtf8 text utf8) ∙ is

pub database-array : (text : List ℕ) (d : Data) (ds : Items) → IsUtf8 text → json.read text ≡ Some d → as_array d ≡ Some ds → database text ≡ limited (entries_from 1 ds)
unfolding database
database-array text d ds utf8 is array = ap of_value (value_of-read text d utf8 is) ∙ ap of_items array

pub database-no_array : (text : List ℕ) (d : Data) → IsUtf8 text → json.read text ≡ Some d → as_array d ≡ None → database text ≡ Err NotArray
unfolding database
database-no_array text d utf8 is none = ap of_value (value_of-read text d utf8 is) ∙ ap of_items none

pub database-no_json : (text : List ℕ) → (IsUtf8 text → json.read text ≡ None) → database text ≡ Err NotJson
unfolding database
database-no_json text none = ap of_value (if_none (is_utf8 text) (json.read text) (λ utf8. none (IsUtf8-from_is_utf8 text utf8)))
