-- Parameters that stand alone, token by token.
use Rattle.std.proofs.Common.{◌≡◌, sym, ◌∙◌, ap, refl, ℕ, ◌+◌, ◌-◌, ◌<◌, Bool, true, false, not, ◌&&◌, ◌||◌, List, [], ◌∷◌, length, take, drop, get_or, arith}
use Rattle.std.proofs.lemmas.List.{drop_more}
use Rattle.scan_model.specs.declared.token.Tok.{Tok}
use Rattle.scan_model.specs.TokenTests.{is_named, is_hash, is_paste, is_comma, begins_with}
use Rattle.scan_model.specs.Substitution.{stands_alone}

-- with neither `#` nor `##` next to it
abbrev pub is_alone : Bool → List Tok → List Tok → List Tok → Bool
is_alone variable before last after = not (begins_with is_hash last) && ((not (begins_with is_paste last) || (variable && begins_with is_comma before)) && not (begins_with is_paste after))

and-assoc : (a b c d : Bool) → (a && b && c && d) ≡ (a && (b && (c && d)))
and-assoc true true c d = refl
and-assoc true false c d = refl
and-assoc false b c d = refl

-- by the first token
pub alone-first : (variable : Bool) (name : List ℕ) (before last : List Tok) (t : Tok) (after : List Tok) → stands_alone variable name before last (t ∷ after) ≡ ((is_named name t && is_alone variable before last after) || stands_alone variable name last (t ∷ []) after)
alone-first variable name before last t after =
    ap (λ (here : Bool). here || stands_alone variable name last (t ∷ []) after)
    (and-assoc (is_named name t) (not (begins_with is_hash last)) (not (begins_with is_paste last) || (variable && begins_with is_comma before)) (not (begins_with is_paste after)))

alone-step : (variable : Bool) (name : List ℕ) (before last : List Tok) (t : Tok) (after : List Tok) → (is_named name t && is_alone variable before last after) ≡ false → stands_alone variable name before last (t ∷ after) ≡ stands_alone variable name last (t ∷ []) after
alone-step variable name before last t after f =
    alone-first variable name before last t after ∙ ap (λ (here : Bool). here || stands_alone variable name last (t ∷ []) after) f

pub alone-more : (variable : Bool) (name : List ℕ) (before last body : List Tok) (i : ℕ) (t : Tok) → i < length body → t ≡ get_or body i t → (is_named name t && is_alone variable before last (drop (i + 1) body)) ≡ false → stands_alone variable name before last (drop i body) ≡ stands_alone variable name [] [] body → stands_alone variable name last (take (i + 1 - i) (drop i body)) (drop (i + 1) body) ≡ stands_alone variable name [] [] body
alone-more variable name before last body i t h e f k =
    let d : drop i body ≡ t ∷ drop (i + 1) body = drop_more body i t h ∙ ap (λ (s : Tok). s ∷ drop (i + 1) body) (sym e) in
    let one : i + 1 - i ≡ 1 = omega arith in
    let front : take (i + 1 - i) (drop i body) ≡ t ∷ [] = ap (λ (n : ℕ). take n (drop i body)) one ∙ ap (take 1) d in
    ap (λ (s : List Tok). stands_alone variable name last s (drop (i + 1) body)) front ∙ sym (alone-step variable name before last t (drop (i + 1) body) f)
    ∙ ap (stands_alone variable name before last) (sym d) ∙ k
