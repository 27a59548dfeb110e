-- What takes no further condition: literals and identifiers.
use Rattle.std.specs.Prelude.{if◌then◌else◌, ℕ, List, Option, Some, None}
use Rattle.std.specs.Option.{option_map}
use Rattle.scan_model.specs.declared.token.Kind.TheVariants.{Ident, Number, Char}
use Rattle.scan_model.specs.declared.token.Tok.{Tok}
use Rattle.scan_model.specs.TokenTests.{is_of}
use Rattle.scan_model.specs.Literals.{integer, char_value}
use Rattle.scan_model.specs.ConditionTree.{Literal, Parsed, signed_value, attribute_value, literal, identifier}
use Rattle.if_values.specs.Reading.{Reader, read_of}

abbrev pub leaf_read : Tok → Reader
leaf_read t ts =
    let number = option_map read_of (literal (integer t.text) ts) in
    let char = option_map read_of (literal (char_value t.text) ts) in
    let name = option_map read_of (identifier t ts) in
    if is_of Number t then number
    else if is_of Char t then char
    else if is_of Ident t then name
    else None

-- the attribute's number, before what follows
abbrev pub attributed : List Tok → ℕ → Parsed
attributed ts n = record { tree = Literal (signed_value n); after = ts }

abbrev pub attribute_named : Tok → Option ℕ
attribute_named t = if is_of Ident t then Some (attribute_value t.text) else None
