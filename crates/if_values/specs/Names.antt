-- What the code reads of a header's name: its form, and what follows it.
use Rattle.std.specs.Prelude.{List, [], ◌∷◌, if◌then◌else◌, Option, Some, None}
use Rattle.scan_model.specs.declared.token.Tok.{Tok}
use Rattle.scan_model.specs.declared.command.Form.{Form}
use Rattle.scan_model.specs.TokenTests.{is_sign}
use Rattle.scan_model.specs.HeaderName.{Named}
use Rattle.if_values.specs.declared.header_name.Name.{Name}

abbrev pub shape : Named → Form × List Tok
shape n = (n.form, n.after)

abbrev pub name_shape : Name → Form × List Tok
name_shape n = (n.form, n.after.now)

-- what follows the first `>`
abbrev pub past_angle : List Tok → Option (List Tok)
past_angle [] = None
past_angle (t ∷ ts) = let further = past_angle ts in if is_sign (">" ∷ []) t then Some ts else further
