-- Parameters that stand as operands of `#` or `##`, token by token.
use Rattle.std.proofs.Common.{◌≡◌, sym, ◌∙◌, ap, ℕ, ◌+◌, ◌-◌, ◌<◌, Bool, false, ◌&&◌, ◌||◌, List, [], ◌∷◌, length, take, drop, get_or, arith}
use Rattle.std.proofs.lemmas.List.{drop_more}
use Rattle.scan_model.specs.declared.token.Tok.{Tok}
use Rattle.scan_model.specs.TokenTests.{is_named}
use Rattle.substitution.specs.Written.{is_operand, stands_as_operand}

operand-step : (name : List ℕ) (last : List Tok) (t : Tok) (after : List Tok) → (is_named name t && is_operand last after) ≡ false → stands_as_operand name last (t ∷ after) ≡ stands_as_operand name (t ∷ []) after
operand-step name last t after f = ap (λ (here : Bool). here || stands_as_operand name (t ∷ []) after) f

pub operand-more : (name : List ℕ) (last body : List Tok) (i : ℕ) (t : Tok) → i < length body → t ≡ get_or body i t → (is_named name t && is_operand last (drop (i + 1) body)) ≡ false → stands_as_operand name last (drop i body) ≡ stands_as_operand name [] body → stands_as_operand name (take (i + 1 - i) (drop i body)) (drop (i + 1) body) ≡ stands_as_operand name [] body
operand-more name last body i t h e f k =
    let d : drop i body ≡ t ∷ drop (i + 1) body = drop_more body i t h ∙ ap (λ (s : Tok). s ∷ drop (i + 1) body) (sym e) in
    let one : i + 1 - i ≡ 1 = omega arith in
    let front : take (i + 1 - i) (drop i body) ≡ t ∷ [] = ap (λ (n : ℕ). take n (drop i body)) one ∙ ap (take 1) d in
    ap (λ (s : List Tok). stands_as_operand name s (drop (i + 1) body)) front ∙ sym (operand-step name last t (drop (i + 1) body) f)
    ∙ ap (stands_as_operand name last) (sym d) ∙ k
