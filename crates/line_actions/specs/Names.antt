-- The names of headers as the code reads them ([cpp.include]).
use Rattle.std.specs.Prelude.{◌≡◌, ℕ, Bool, true, false, ◌==◌, if◌then◌else◌, List, [], ◌∷◌, ◌++◌, length, Option, Some, None}
use Rattle.std.specs.Option.{option_map}
use Rattle.scan_model.specs.declared.token.Tok.{Tok}
use Rattle.scan_model.specs.declared.command.Form.{Form}
use Rattle.scan_model.specs.declared.command.Form.TheVariants.{Quoted, Angled}
use Rattle.scan_model.specs.declared.unit_end.FaultKind.TheVariants as FaultIs
use Rattle.scan_model.specs.TokenTests.{is_sign}
use Rattle.scan_model.specs.HeaderName.{Named}
use Rattle.scan_model.specs.Search.{search_form}
use Rattle.plain_lines.specs.declared.action.Action.{Action}
use Rattle.plain_lines.specs.declared.action.Action.TheVariants.{Stops, Includes}

abbrev pub form_and_name : Named → Form × List ℕ
form_and_name n = (n.form, n.name)

abbrev pub angled_name : List ℕ → Form × List ℕ
angled_name text = (Angled, text)

-- the name in a string, where it isn't empty
abbrev pub quoted_name : List ℕ → Option (Form × List ℕ)
quoted_name text = if length text == 0 then None else Some (Quoted, text)

-- a token behind others in a name
abbrev pub spelled_on : Tok → List ℕ
spelled_on t = if t.space then 32 ∷ t.text else t.text

-- the spellings up to the first `>`
abbrev pub spelled_rest : List Tok → Option (List ℕ)
spelled_rest [] = None
spelled_rest (t ∷ ts) = let further = option_map (spelled_on t ++◌) (spelled_rest ts) in
    if is_sign (">" ∷ []) t then Some [] else further

-- the same after the `<`
abbrev pub spelled : List Tok → Option (List ℕ)
spelled [] = None
spelled (t ∷ ts) = let further = option_map (t.text ++◌) (spelled_rest ts) in
    if is_sign (">" ∷ []) t then None else further

-- whether these tokens have a `>`, up to which their spellings were added
abbrev pub ClosedBy : List ℕ → List Tok → List ℕ → Bool → Type 0
ClosedBy before ts after true = option_map (before ++◌) (spelled_rest ts) ≡ Some after
ClosedBy before ts after false = spelled_rest ts ≡ None

-- what an include of a name does, or one without
abbrev pub included : Option ℕ → Bool → Option (Form × List ℕ) → Action
included chain_place next None = Stops FaultIs.IncludeSyntax
included chain_place next (Some found) =
    if length found.1 == 0 then Stops FaultIs.IncludeSyntax else Includes (search_form next chain_place found.0) found.1
