-- How a parameter list goes on.
use Rattle.std.proofs.Common.{◌≡◌, ℕ, true, false, List, [], ◌∷◌, ◌++◌, refl, sym, ap, ◌∙◌, drop, get_or, append_assoc, ◌||◌}
use Rattle.std.specs.Prelude.{Option, Some, None, codes}
use Rattle.std.specs.Option.{option_map}
use Rattle.std.specs.Borrow.{Bor}
use Rattle.std.specs.Cmp.Lexicographic.{bytes_decides}
use Rattle.std.proofs.Math.Bool.{or-false}
use Rattle.std.proofs.lemmas.Bool.{and_parts, true≢false, eqb-true}
use Prim.Native.String.{String}
use Rattle.scan_model.specs.declared.token.Kind.TheVariants.{Ident, Punct}
use Rattle.scan_model.specs.declared.token.Tok.{Tok}
use Rattle.scan_model.specs.Spelling.{spells}
use Rattle.scan_model.specs.TokenTests.{kind_number, is_of, is_sign, is_comma, is_close_paren, begins_with}
use Rattle.scan_model.specs.MacroDefinition.{Head, with_param, more_params, head}
use Rattle.macro_table.specs.Heads.{texts, with_params, head_after, goes_on}

-- an identifier is no sign
ident_no_sign : (t : Tok) (signs : List String) → is_of Ident t ≡ true → is_sign signs t ≡ false
ident_no_sign t signs e = let k : kind_number t.kind ≡ 0 = eqb-true (kind_number t.kind) 0 e in rw k refl

-- a comma has that text
comma_text : (t : Tok) → is_comma t ≡ true → t.text ≡ codes ","
comma_text t e = sym ((bytes_decides (codes ",") t.text).0 (sym (or-false (spells "," t.text)) ∙ (and_parts (is_of Punct t) (spells "," t.text || false) e).1))

comma_closes : (t : Tok) → is_comma t ≡ true → is_close_paren t ≡ false
comma_closes t e = rw ((and_parts (is_of Punct t) (spells "," t.text || false) e).0, comma_text t e) refl

comma_no_ellipsis : (t : Tok) → is_comma t ≡ true → is_sign ("..." ∷ []) t ≡ false
comma_no_ellipsis t e = rw ((and_parts (is_of Punct t) (spells "," t.text || false) e).0, comma_text t e) refl

more_params-goes_on : (t u : Tok) (ts : List Tok) → is_of Ident t ≡ true → is_comma u ≡ true → more_params (t ∷ u ∷ ts) ≡ option_map (with_param t.text) (more_params ts)
more_params-goes_on t u ts i k = rw (ident_no_sign t ("..." ∷ []) i, i, comma_closes u k, comma_no_ellipsis u k, k) refl

with_params-push : (names : List (List ℕ)) (name : List ℕ) (o : Option Head) → option_map (with_params (names ++ name ∷ [])) o ≡ option_map (with_params names) (option_map (with_param name) o)
with_params-push names name None = refl
with_params-push names name (Some h) = ap (λ ps. let made : Head = record { params = ps; variadic = h.variadic; body = h.body } in Some made) (append_assoc names (name ∷ []) h.params)

pub texts-push : (names : List (Bor (List ℕ))) (name : Bor (List ℕ)) → texts (names ++ name ∷ []) ≡ texts names ++ name.now ∷ []
texts-push [] name = refl
texts-push (n ∷ ns) name = ap (λ t. n.now ∷ t) (texts-push ns name)

-- one more parameter, as the loop reads it
pub head_after-param : (names : List (List ℕ)) (rest : List Tok) (t : Tok) → goes_on rest ≡ true → head_after (names ++ (get_or rest 0 t).text ∷ []) (drop 2 rest) ≡ head_after names rest
head_after-param names [] t g = absurd (true≢false (sym g))
head_after-param names (d ∷ []) t g = absurd (true≢false (sym g))
head_after-param names (d ∷ u ∷ ts) t g =
    let both = and_parts (is_of Ident d) (is_comma u) g in
    with_params-push names d.text (more_params ts)
    ∙ ap (option_map (with_params names)) (sym (more_params-goes_on d u ts both.0 both.1))

no_params : (o : Option Head) → option_map (with_params []) o ≡ o
no_params None = refl
no_params (Some h) = refl

-- a list that isn't empty
pub head-begun : (ts : List Tok) → begins_with is_close_paren ts ≡ false → head_after [] ts ≡ head ts
head-begun [] e = refl
head-begun (t ∷ ts) e = rw e (no_params (more_params (t ∷ ts)))
