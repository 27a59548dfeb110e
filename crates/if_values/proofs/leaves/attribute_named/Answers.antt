use Rattle.std.proofs.Common.{◌≡◌, ℕ, List, ◌∙◌, sym, ap, true}
use Rattle.std.specs.Prelude.{Some}
use Rattle.std.specs.Option.{option_map}
use Rattle.std.specs.List.{find}
use Rattle.word_table.specs.Rows.{value_of, has_word}
use Rattle.word_table.specs.Tables.{attributes}
use Rattle.scan_model.specs.declared.token.Kind.TheVariants.{Ident}
use Rattle.scan_model.specs.TokenTests.{is_of}
use Rattle.scan_model.specs.ConditionTree.{attribute_value}
use Rattle.if_values.proofs.LeafLemmas.{attribute-is}
use Rattle.if_values.proofs.leaves.attribute_named.Goals as goal

pub returns-then-is_ident : goal.returns-then-is_ident
returns-then-is_ident c =
    let s = c.in-Plain.tok.now.text in
    let found = c.attribute_value.ensures ∙ ap (λ (w : List ℕ). option_map value_of (find (has_word w) attributes)) c.as_slice.ensures in
    let value : c.unwrap_or.result ≡ attribute_value s = attribute-is s c.attribute_value.result c.unwrap_or.result c.unwrap_or.ensures found in
    let named : is_of Ident c.in-Plain.tok.now ≡ true = sym c.if-is_ident.ensures in
    rw (c.in-Plain.is, named) (ap (λ (n : ℕ). Some n) value)
