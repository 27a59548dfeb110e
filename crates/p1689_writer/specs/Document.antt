-- The P1689R5 document over the records of a scan.
use Rattle.std.specs.Prelude.{ℕ, List, [], ◌∷◌, ◌++◌, map, Option, Some, None, codes}
use Rattle.std.specs.List.{filter_map}
use Rattle.json.specs.Tree.{json_tokens}
use Rattle.json.specs.Layout.{pretty}
use Rattle.serde_json.specs.Data.{unsigned, Data, boolean, number, string, array, object, Members, no_members, member}
use Rattle.serde_json.specs.View.{items_of}
use Rattle.serde_json.specs.Written.{outline}
use Rattle.scan_model.specs.declared.unit_end.Provided.{Provided}
use Rattle.scan_model.specs.declared.unit_end.Record.{Record}
use Rattle.scan_model.specs.declared.unit_end.UnitEnd.{UnitEnd}
use Rattle.scan_model.specs.declared.unit_end.UnitEnd.TheVariants as ends

-- ## Values, with each object's members in the order of their keys

-- a module that is provided from this source
abbrev pub provided_entry : List ℕ → Provided → Data
provided_entry source p =
    object (member (codes "is-interface") (boolean p.interface) (member (codes "logical-name") (string p.name) (member (codes "source-path") (string source) no_members)))

-- one entry, or none
abbrev pub provided_entries : List ℕ → Option Provided → List Data
provided_entries source None = []
provided_entries source (Some p) = provided_entry source p ∷ []

abbrev pub required_entry : List ℕ → Data
required_entry name = object (member (codes "logical-name") (string name) no_members)

-- a list with its key before the later members, left out where it is empty
abbrev pub list_member : List ℕ → List Data → Members → Members
list_member key [] later = later
list_member key (d ∷ ds) later = member key (array (items_of (d ∷ ds))) later

-- what one unit's rule says
abbrev pub rule_of : Record → Data
rule_of r =
    let requires = list_member (codes "requires") (map required_entry r.required) no_members in
    object (member (codes "primary-output") (string r.output) (list_member (codes "provides") (provided_entries r.source r.provides) requires))

abbrev pub record_of : UnitEnd → Option Record
record_of (ends.Record r) = Some r
record_of (ends.Stopped fault) = None
record_of (ends.Refused fault) = None
record_of ends.NoMemory = None

-- the rules of the units that ended with a record, in order
abbrev pub rules : List UnitEnd → List Data
rules es = map rule_of (filter_map record_of es)

abbrev pub document_data : List UnitEnd → Data
document_data es = object (member (codes "revision") (number (unsigned 0)) (member (codes "rules") (array (items_of (rules es))) (member (codes "version") (number (unsigned 1)) no_members)))

-- ## The text

-- the value in JSON, a line for each item and member, two spaces deeper for each bracket, and a newline
unfoldable pub document : List UnitEnd → List ℕ
document es = pretty (json_tokens (outline (document_data es))) ++ 10 ∷ []
