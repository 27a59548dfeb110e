-- Sets of the names that stand in a list, token by token.
use Rattle.std.proofs.Common.{◌≡◌, sym, ◌∙◌, ap, refl, ℕ, ◌+◌, ◌-◌, ◌<◌, Bool, true, false, cond, ◌&&◌, ◌||◌, List, [], ◌∷◌, length, take, drop, get_or, arith}
use Rattle.std.specs.Prelude.{Option}
use Rattle.std.specs.Cmp.Lexicographic.{nat_list_eq_equiv}
use Rattle.std.proofs.lemmas.List.{drop_more}
use Rattle.std.proofs.lemmas.Slice.Eq.{bytes_eq-Decides}
use Rattle.scan_model.specs.declared.token.Kind.TheVariants.{Ident}
use Rattle.scan_model.specs.declared.token.Tok.{Tok}
use Rattle.scan_model.specs.TokenTests.{is_of, same, is_named}
use Rattle.scan_model.specs.Substitution.{stands_alone, is_variable_part}
use Rattle.substitution.specs.Written.{is_operand, stands_as_operand}
use Rattle.substitution.proofs.AloneLemmas.{is_alone, alone-first}

-- a wanted name is added
pub name-added : (q : List ℕ) (t : Tok) (wanted had has : Bool) → wanted ≡ true → is_of Ident t ≡ true → has ≡ cond (same t.text q) true had → has ≡ ((is_named q t && wanted) || had)
name-added q t wanted had has w ident h = h ∙ ap (λ (b : Bool). cond b true had) (nat_list_eq_equiv.symm t.text q) ∙ at (is_of Ident t) (same q t.text) wanted ident w
  where
    at : (i b w : Bool) → i ≡ true → w ≡ true → cond b true had ≡ (((i && b) && w) || had)
    at true true true e f = refl
    at true false true e f = refl
    at true b false e f = cc
    at false b w e f = cc

-- the next token of the body
next : (body : List Tok) (i : ℕ) (t : Tok) → i < length body → t ≡ get_or body i t → drop i body ≡ t ∷ drop (i + 1) body
next body i t h e = drop_more body i t h ∙ ap (λ (s : Tok). s ∷ drop (i + 1) body) (sym e)

first : (body : List Tok) (i : ℕ) (t : Tok) → drop i body ≡ t ∷ drop (i + 1) body → take (i + 1 - i) (drop i body) ≡ t ∷ []
first body i t d = ap (λ (n : ℕ). take n (drop i body)) (let one : i + 1 - i ≡ 1 = omega arith in one) ∙ ap (take 1) d

-- what is found so far, here, or later
in-turn : (had here later : Bool) → ((here || had) || later) ≡ (had || (here || later))
in-turn true true later = refl
in-turn true false later = refl
in-turn false true later = refl
in-turn false false later = refl

if-named : (b x y : Bool) → (b ≡ true → x ≡ y) → (b && x) ≡ (b && y)
if-named true x y h = h refl
if-named false x y h = refl

-- a token that has the name is the variable part where the name is
named-variable : (variadic : Option (List ℕ)) (q : List ℕ) (t : Tok) (before last after : List Tok) →
    (is_named q t && is_alone (is_variable_part variadic t.text) before last after) ≡ (is_named q t && is_alone (is_variable_part variadic q) before last after)
named-variable variadic q t before last after =
    if-named (is_named q t) _ _ (λ named. ap (λ (name : List ℕ). is_alone (is_variable_part variadic name) before last after) (sym ((bytes_eq-Decides q t.text).0 (second (is_of Ident t) (same q t.text) named))))
  where
    second : (a b : Bool) → (a && b) ≡ true → b ≡ true
    second true b h = h
    second false b h = cc

pub alone-noted : (variadic : Option (List ℕ)) (q : List ℕ) (had has : Bool) (before last body : List Tok) (i : ℕ) (t : Tok) → i < length body → t ≡ get_or body i t →
    has ≡ ((is_named q t && is_alone (is_variable_part variadic t.text) before last (drop (i + 1) body)) || had) →
    (had || stands_alone (is_variable_part variadic q) q before last (drop i body)) ≡ stands_alone (is_variable_part variadic q) q [] [] body →
    (has || stands_alone (is_variable_part variadic q) q last (take (i + 1 - i) (drop i body)) (drop (i + 1) body)) ≡ stands_alone (is_variable_part variadic q) q [] [] body
alone-noted variadic q had has before last body i t h e noted k =
    let variable : Bool = is_variable_part variadic q in
    let after : List Tok = drop (i + 1) body in
    let here : Bool = is_named q t && is_alone variable before last after in
    let later : Bool = stands_alone variable q last (t ∷ []) after in
    let d = next body i t h e in
    ap (λ (s : List Tok). has || stands_alone variable q last s after) (first body i t d)
    ∙ ap (λ (b : Bool). b || later) (noted ∙ ap (λ (b : Bool). b || had) (named-variable variadic q t before last after))
    ∙ in-turn had here later
    ∙ ap (λ (b : Bool). had || b) (sym (alone-first variable q before last t after) ∙ ap (stands_alone variable q before last) (sym d)) ∙ k

pub operand-noted : (q : List ℕ) (had has : Bool) (last body : List Tok) (i : ℕ) (t : Tok) → i < length body → t ≡ get_or body i t →
    has ≡ ((is_named q t && is_operand last (drop (i + 1) body)) || had) →
    (had || stands_as_operand q last (drop i body)) ≡ stands_as_operand q [] body →
    (has || stands_as_operand q (take (i + 1 - i) (drop i body)) (drop (i + 1) body)) ≡ stands_as_operand q [] body
operand-noted q had has last body i t h e noted k =
    let after : List Tok = drop (i + 1) body in
    let here : Bool = is_named q t && is_operand last after in
    let later : Bool = stands_as_operand q (t ∷ []) after in
    let d = next body i t h e in
    ap (λ (s : List Tok). has || stands_as_operand q s after) (first body i t d)
    ∙ ap (λ (b : Bool). b || later) noted
    ∙ in-turn had here later
    ∙ ap (λ (b : Bool). had || b) (ap (stands_as_operand q last) (sym d)) ∙ k
