-- The document has no float, so its text is that of its value.
use Rattle.std.proofs.Common.{◌≡◌, ℕ, List, [], ◌∷◌, ◌++◌, false, ◌||◌, map, Option, Some, None, codes, refl, ap, ◌∙◌, subst}
use Rattle.std.specs.List.{filter_map}
use Rattle.std.proofs.lemmas.Bool.{or_from}
use Rattle.json.specs.Lex.{tokens}
use Rattle.json.specs.Layout.{pretty}
use Rattle.serde_json.specs.Data.{Data, Members, no_members}
use Rattle.serde_json.specs.View.{items_of}
use Rattle.serde_json.specs.Written.{IsInOrder, has_float, items_have_float, members_have_float}
use Rattle.serde_json.proofs.Texts.{tokens_from_order}
use Rattle.scan_model.specs.declared.unit_end.Provided.{Provided}
use Rattle.scan_model.specs.declared.unit_end.Record.{Record}
use Rattle.scan_model.specs.declared.unit_end.UnitEnd.{UnitEnd}
use Rattle.p1689_writer.specs.Document.{provided_entries, required_entry, list_member, rule_of, record_of, document_data, document}

list_whole : (key : List ℕ) (ds : List Data) (later : Members) → items_have_float (items_of ds) ≡ false → members_have_float later ≡ false → members_have_float (list_member key ds later) ≡ false
list_whole key [] later h k = k
list_whole key (d ∷ ds) later h k = or_from _ _ h k

provided_whole : (source : List ℕ) (provides : Option Provided) → items_have_float (items_of (provided_entries source provides)) ≡ false
provided_whole source None = refl
provided_whole source (Some p) = refl

required_whole : (names : List (List ℕ)) → items_have_float (items_of (map required_entry names)) ≡ false
required_whole [] = refl
required_whole (name ∷ names) = required_whole names

rule_whole : (r : Record) → has_float (rule_of r) ≡ false
rule_whole r =
    let required = map required_entry r.required in
    list_whole (codes "provides") (provided_entries r.source r.provides) (list_member (codes "requires") required no_members) (provided_whole r.source r.provides)
    (list_whole (codes "requires") required no_members (required_whole r.required) refl)

rules_whole : (rs : List Record) → items_have_float (items_of (map rule_of rs)) ≡ false
rules_whole [] = refl
rules_whole (r ∷ rs) = or_from _ _ (rule_whole r) (rules_whole rs)

document_whole : (es : List UnitEnd) → has_float (document_data es) ≡ false
document_whole es = or_from _ _ (rules_whole (filter_map record_of es)) refl

-- a pretty text of the document's value, and a newline
pub document_text : (es : List UnitEnd) (text : List ℕ) (d : Data) → d ≡ document_data es → text ≡ pretty (tokens text) → IsInOrder text d → text ++ 10 ∷ [] ≡ document es
unfolding document
document_text es text d same layout order =
    let read = tokens_from_order text (document_data es) (subst (IsInOrder text) same order) (document_whole es) in
    ap (λ t. t ++ 10 ∷ []) (layout ∙ ap pretty read)
