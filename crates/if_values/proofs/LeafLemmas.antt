-- The table of attributes, as the definition has it.
use Rattle.std.proofs.Common.{◌≡◌, ℕ, Bool, true, false, cond, List, [], ◌∷◌, ◌∙◌, ap, refl}
use Rattle.std.specs.Prelude.{Option, Some, unwrap_or}
use Rattle.std.specs.Option.{option_map}
use Rattle.std.specs.List.{find}
use Rattle.word_table.specs.Rows.{Entry, value_of, has_word}
use Rattle.word_table.specs.Tables.{attributes}
use Rattle.scan_model.specs.ConditionTree.{attribute_value}

row-by : (b : Bool) (e : Entry) (o : Option Entry) (n : ℕ) → unwrap_or (option_map value_of o) 0 ≡ n → unwrap_or (option_map value_of (cond b (Some e) o)) 0 ≡ cond b (value_of e) n
row-by true e o n h = refl
row-by false e o n h = h

-- the first row's value that has the word, or 0
chain : List Entry → List ℕ → ℕ
chain [] s = 0
chain (e ∷ es) s = cond (has_word s e) (value_of e) (chain es s)

found-chain : (es : List Entry) (s : List ℕ) → unwrap_or (option_map value_of (find (has_word s) es)) 0 ≡ chain es s
unfolding chain
found-chain [] s = refl
found-chain (e ∷ es) s = row-by (has_word s e) e (find (has_word s) es) (chain es s) (found-chain es s)

attribute-found : (s : List ℕ) → unwrap_or (option_map value_of (find (has_word s) attributes)) 0 ≡ attribute_value s
unfolding chain
attribute-found s = found-chain attributes s

pub attribute-is : (s : List ℕ) (o : Option ℕ) (n : ℕ) → n ≡ unwrap_or o 0 → o ≡ option_map value_of (find (has_word s) attributes) → n ≡ attribute_value s
attribute-is s o n e f = e ∙ (ap (λ (p : Option ℕ). unwrap_or p 0) f ∙ attribute-found s)
