-- How the climb goes on from one call to the next.
use Rattle.std.proofs.Common.{◌≡◌, ℕ, ◌+◌, ◌-◌, ◌<◌, ◌≤◌, zero, suc, Bool, true, false, List, [], ◌∷◌, ◌++◌, length, take, get_or, ap, sym, subst, ◌∙◌, refl, arith, length-append}
use Rattle.std.proofs.lemmas.List.{take_more}
use Rattle.std.specs.Prelude.{Option, Some, None, is_some}
use Rattle.std.specs.Option.{option_map, option_map_or, option_and_then}
use Rattle.std.specs.List.{AllPass}
use Rattle.std.proofs.lemmas.List.Elements.{All-head, All-tail}
use Rattle.scan_model.specs.declared.token.Tok.{Tok}
use Rattle.scan_model.specs.TokenTests.{begins_with}
use Rattle.scan_model.specs.Literals.{integer}
use Rattle.scan_model.specs.ConditionTree.{Binary, Unary, levels, operator_of, unary_operators}
use Rattle.scan_model.specs.ConditionValue.{of_bool}
use Rattle.scan_model.specs.Condition.{has_literal}
use Rattle.if_values.specs.declared.operand.Operand.{Operand}
use Rattle.if_values.specs.declared.marks.Mark.TheVariants.{Question, Colon}
use Rattle.if_values.specs.Levels.{level_of, levels_from}
use Rattle.if_values.specs.Marks.{is_mark, Passes, PassesOperator, IsPast}
use Rattle.if_values.specs.UnaryRows.{is_unary_operator, prefixed_by}
use Rattle.if_values.specs.Operands.{literal_operand, prefix_operand, infix_operand, choice_operand}
use Rattle.if_values.specs.Reading.{Read, Reader, reading, prefixed_read, unary_read, binary_read, first_read, primary_read, other_read, choice_read, conditional_read, Gives, ReadsConditional, ReadsFirst, ReadsLevels}
use Rattle.if_values.proofs.LevelLemmas.{Resumes, resumes-init, resumes-end, binary-none-at, climbs-on, climbs-off}

-- ---- the operands of a level and the tighter ones

-- A left operand has been read, with further ones of the levels to come.
pub record Climbs (level : ℕ) (start at : List Tok) (left : Operand) : Type 0 where
  pub shorter : length at < length start
  pub same : (m n : ℕ) → length start ≤ m → length start ≤ n → Resumes (levels_from level) (unary_read m (conditional_read n)) (binary_read (levels_from level) (unary_read m (conditional_read n)) start) left at

pub climbs-init : (level : ℕ) (start at : List Tok) (left : Operand) → ReadsLevels [] start (Some left) at → length at < length start → Climbs level start at left
climbs-init level start at left h k = record {
  shorter = k;
  same = λ m n p q. resumes-init (levels_from level) (unary_read m (conditional_read n)) start at left (h m n p q) (omega arith);
}

pub binary-none : (level : ℕ) (start at new : List Tok) → ReadsLevels [] start None at → ReadsLevels (levels_from level) start None new
binary-none level start at new h m n p q = binary-none-at (levels_from level) (unary_read m (conditional_read n)) start (h m n p q)

-- what was to come in front of the operator's token
at-token : (level : ℕ) (start at at1 : List Tok) (left : Operand) (op : Binary) → Climbs level start at left → (p : PassesOperator level at (Some op) at1) → Climbs level start (p.0 ∷ at1) left
at-token level start at at1 left op c p = subst (λ ts. Climbs level start ts left) p.1 c

pub climbs-step : (level : ℕ) (start at at1 at2 : List Tok) (left right : Operand) (op : Binary) → Climbs level start at left → PassesOperator level at (Some op) at1 → level_of op < 10
    → ReadsLevels (levels_from (level_of op + 1)) at1 (Some right) at2 → length at2 < length at1 → IsPast (levels_from (level_of op + 1)) at2 → Climbs level start at2 (infix_operand op left right)
climbs-step level start at at1 at2 left right op c p small h l q =
    let whole = at-token level start at at1 left op c p in
    let below : length (p.0 ∷ at1) < length start = whole.shorter in
    record {
      shorter = omega arith;
      same = λ m n u v. climbs-on level (unary_read m (conditional_read n)) (binary_read (levels_from level) (unary_read m (conditional_read n)) start) left right p.0 at1 at2 op p.2 small p.3
          (h m n (omega arith) (omega arith)) q (omega arith) (whole.same m n u v);
    }

pub climbs-fail : (level : ℕ) (start at at1 at2 new : List Tok) (left : Operand) (op : Binary) → Climbs level start at left → PassesOperator level at (Some op) at1 → level_of op < 10
    → ReadsLevels (levels_from (level_of op + 1)) at1 None at2 → ReadsLevels (levels_from level) start None new
climbs-fail level start at at1 at2 new left op c p small h m n u v =
    let whole = at-token level start at at1 left op c p in
    let below : length (p.0 ∷ at1) < length start = whole.shorter in
    climbs-off level (unary_read m (conditional_read n)) (binary_read (levels_from level) (unary_read m (conditional_read n)) start) left p.0 at1 op p.2 small p.3
    (h m n (omega arith) (omega arith)) (whole.same m n u v)

pub climbs-end : (level : ℕ) (start at new : List Tok) (left : Operand) → Climbs level start at left → PassesOperator level at None new → ReadsLevels (levels_from level) start (Some left) new
climbs-end level start at new left c p m n u v =
    resumes-end (levels_from level) (unary_read m (conditional_read n)) (binary_read (levels_from level) (unary_read m (conditional_read n)) start) left at p.1 (c.same m n u v) ∙ ap (λ ts. Some (reading ts left)) (sym p.0)

pub climbs-past : (level : ℕ) (at new : List Tok) → PassesOperator level at None new → IsPast (levels_from level) new
climbs-past level at new p = subst (IsPast (levels_from level)) (sym p.0) p.1

-- ---- the choice

abbrev then_choice : ℕ → Read → Option Read
then_choice n r = choice_read (conditional_read n) r.operand r.after

abbrev then_other : ℕ → Operand → Read → Option Read
then_other n c r = other_read (conditional_read n) c r.operand r.after

positive : (old new : List Tok) (result : Option Operand) → ((n : ℕ) → length old ≤ n → Gives (conditional_read (suc n) old) result new) → ReadsConditional old result new
positive old new result h zero p = absurd (omega arith)
positive old new result h (suc n) p = h n (omega arith)

-- after the first operand
chosen_by : (old mid : List Tok) (result : Option Operand) → ReadsLevels levels old result mid → (n : ℕ) → length old ≤ n → conditional_read (suc n) old ≡ option_and_then (then_choice n) (option_map (reading mid) result)
chosen_by old mid result h n p = ap (option_and_then (then_choice n)) (h (length old) n (omega arith) p)

pub conditional-none : (old mid new : List Tok) → ReadsLevels levels old None mid → ReadsConditional old None new
conditional-none old mid new h = positive old new None (chosen_by old mid None h)

no_question : (n : ℕ) (c : Operand) (ts : List Tok) → begins_with (is_mark Question) ts ≡ false → choice_read (conditional_read n) c ts ≡ Some (reading ts c)
no_question n c [] e = refl
no_question n c (t ∷ ts) e = rw e refl

pub conditional-plain : (old mid new : List Tok) (c : Operand) → ReadsLevels levels old (Some c) mid → Passes (is_mark Question) mid false new → ReadsConditional old (Some c) new
conditional-plain old mid new c h p = positive old new (Some c) (λ n k. chosen_by old mid (Some c) h n k ∙ (no_question n c mid p.1 ∙ ap (λ ts. Some (reading ts c)) (sym p.0)))

question : (n : ℕ) (c : Operand) (t : Tok) (ts : List Tok) → is_mark Question t ≡ true → choice_read (conditional_read n) c (t ∷ ts) ≡ option_and_then (then_other n c) (conditional_read n ts)
question n c t ts e = rw e refl

-- after the `?` and what follows it
second_by : (old mid mid1 mid2 : List Tok) (c : Operand) (chosen : Option Operand) → ReadsLevels levels old (Some c) mid → length mid < length old → Passes (is_mark Question) mid true mid1 → ReadsConditional mid1 chosen mid2 → (n : ℕ) → length old ≤ n → conditional_read (suc n) old ≡ option_and_then (then_other n c) (option_map (reading mid2) chosen)
second_by old mid mid1 mid2 c chosen h l p k n q =
    let short : length mid1 < length mid = omega (arith, ap length p.1) in
    chosen_by old mid (Some c) h n q ∙ (ap (choice_read (conditional_read n) c) p.1 ∙ (question n c p.0 mid1 p.2 ∙ ap (option_and_then (then_other n c)) (k n (omega arith))))

pub conditional-no-chosen : (old mid mid1 mid2 new : List Tok) (c : Operand) → ReadsLevels levels old (Some c) mid → length mid < length old → Passes (is_mark Question) mid true mid1 → ReadsConditional mid1 None mid2 → ReadsConditional old None new
conditional-no-chosen old mid mid1 mid2 new c h l p k = positive old new None (second_by old mid mid1 mid2 c None h l p k)

no_colon : (n : ℕ) (c a : Operand) (ts : List Tok) → begins_with (is_mark Colon) ts ≡ false → other_read (conditional_read n) c a ts ≡ None
no_colon n c a [] e = refl
no_colon n c a (t ∷ ts) e = rw e refl

pub conditional-no-colon : (old mid mid1 mid2 mid3 new : List Tok) (c a : Operand) → ReadsLevels levels old (Some c) mid → length mid < length old → Passes (is_mark Question) mid true mid1 → ReadsConditional mid1 (Some a) mid2 → Passes (is_mark Colon) mid2 false mid3 → ReadsConditional old None new
conditional-no-colon old mid mid1 mid2 mid3 new c a h l p k r = positive old new None (λ n q. second_by old mid mid1 mid2 c (Some a) h l p k n q ∙ no_colon n c a mid2 r.1)

abbrev chosen_from : Operand → Operand → Read → Read
chosen_from c a r = reading r.after (choice_operand c a r.operand)

colon : (n : ℕ) (c a : Operand) (t : Tok) (ts : List Tok) → is_mark Colon t ≡ true → other_read (conditional_read n) c a (t ∷ ts) ≡ option_map (chosen_from c a) (conditional_read n ts)
colon n c a t ts e = rw e refl

third_by : (old mid mid1 mid2 mid3 mid4 : List Tok) (c a : Operand) (other : Option Operand) → ReadsLevels levels old (Some c) mid → length mid < length old → Passes (is_mark Question) mid true mid1 → ReadsConditional mid1 (Some a) mid2 → length mid2 < length mid1 → Passes (is_mark Colon) mid2 true mid3 → ReadsConditional mid3 other mid4 → (n : ℕ) → length old ≤ n → conditional_read (suc n) old ≡ option_map (chosen_from c a) (option_map (reading mid4) other)
third_by old mid mid1 mid2 mid3 mid4 c a other h l p k j r w n q =
    let short : length mid1 < length mid = omega (arith, ap length p.1) in
    let shorter : length mid3 < length mid2 = omega (arith, ap length r.1) in
    second_by old mid mid1 mid2 c (Some a) h l p k n q ∙ (ap (other_read (conditional_read n) c a) r.1 ∙ (colon n c a r.0 mid3 r.2 ∙ ap (option_map (chosen_from c a)) (w n (omega arith))))

pub conditional-no-other : (old mid mid1 mid2 mid3 mid4 new : List Tok) (c a : Operand) → ReadsLevels levels old (Some c) mid → length mid < length old → Passes (is_mark Question) mid true mid1 → ReadsConditional mid1 (Some a) mid2 → length mid2 < length mid1 → Passes (is_mark Colon) mid2 true mid3 → ReadsConditional mid3 None mid4 → ReadsConditional old None new
conditional-no-other old mid mid1 mid2 mid3 mid4 new c a h l p k j r w = positive old new None (third_by old mid mid1 mid2 mid3 mid4 c a None h l p k j r w)

pub conditional-whole : (old mid mid1 mid2 mid3 mid4 : List Tok) (c a b : Operand) → ReadsLevels levels old (Some c) mid → length mid < length old → Passes (is_mark Question) mid true mid1 → ReadsConditional mid1 (Some a) mid2 → length mid2 < length mid1 → Passes (is_mark Colon) mid2 true mid3 → ReadsConditional mid3 (Some b) mid4 → ReadsConditional old (Some (choice_operand c a b)) mid4
conditional-whole old mid mid1 mid2 mid3 mid4 c a b h l p k j r w = positive old mid4 (Some (choice_operand c a b)) (third_by old mid mid1 mid2 mid3 mid4 c a (Some b) h l p k j r w)

-- ---- unary operators

none_of : {X : Type 0} (o : Option X) → is_some o ≡ false → o ≡ None
none_of None e = refl
none_of (Some x) e = cc

no_row : (m : ℕ) (inner : Reader) (ts : List Tok) → length ts ≤ m → begins_with is_unary_operator ts ≡ false → unary_read m inner ts ≡ first_read inner ts
no_row zero inner [] h e = refl
no_row (suc m) inner [] h e = refl
no_row zero inner (t ∷ ts) h e = absurd (omega arith)
no_row (suc m) inner (t ∷ ts) h e = let none = none_of (operator_of unary_operators t) e in rw none refl

unchanged : (o : Option Operand) → option_map (prefixed_by []) o ≡ o
unchanged None = refl
unchanged (Some x) = refl

-- one operator more
one_more : (t : Tok) (row new : List Tok) (op : Unary) (o : Option Operand) → operator_of unary_operators t ≡ Some op → option_map (prefixed_read op) (option_map (reading new) (option_map (prefixed_by row) o)) ≡ option_map (reading new) (option_map (prefixed_by (t ∷ row)) o)
one_more t row new op None e = refl
one_more t row new op (Some x) e = rw e refl

operator_step : (m : ℕ) (inner : Reader) (t : Tok) (row mid new : List Tok) (o : Option Operand) (x : Option Unary) → operator_of unary_operators t ≡ x → is_some x ≡ true → unary_read m inner (row ++ mid) ≡ option_map (reading new) (option_map (prefixed_by row) o) → unary_read (suc m) inner (t ∷ (row ++ mid)) ≡ option_map (reading new) (option_map (prefixed_by (t ∷ row)) o)
operator_step m inner t row mid new o None e f h = cc
operator_step m inner t row mid new o (Some op) e f h = let step : unary_read (suc m) inner (t ∷ (row ++ mid)) ≡ option_map (prefixed_read op) (unary_read m inner (row ++ mid)) = rw e refl in step ∙ (ap (option_map (prefixed_read op)) h ∙ one_more t row new op o e)

rows : (row mid new : List Tok) (inner : Reader) (m : ℕ) (o : Option Operand) → length (row ++ mid) ≤ m → AllPass is_unary_operator row → begins_with is_unary_operator mid ≡ false → Gives (first_read inner mid) o new → unary_read m inner (row ++ mid) ≡ option_map (reading new) (option_map (prefixed_by row) o)
rows [] mid new inner m o h all e g = no_row m inner mid h e ∙ (g ∙ ap (option_map (reading new)) (sym (unchanged o)))
rows (t ∷ row) mid new inner zero o h all e g = absurd (omega arith)
rows (t ∷ row) mid new inner (suc m) o h all e g =
    operator_step m inner t row mid new o (operator_of unary_operators t) refl (All-head (λ x. is_unary_operator x ≡ true) t row all)
    (rows row mid new inner m o (omega arith) (All-tail (λ x. is_unary_operator x ≡ true) t row all) e g)

pub unary-rows : (old row mid new : List Tok) (o : Option Operand) → old ≡ row ++ mid → AllPass is_unary_operator row → begins_with is_unary_operator mid ≡ false → ReadsFirst mid o new → ReadsLevels [] old (option_map (prefixed_by row) o) new
unary-rows old row mid new o e all f h m n p q =
    let whole : length old ≡ length row + length mid = ap length e ∙ length-append row mid in
    ap (unary_read m (conditional_read n)) e ∙ rows row mid new (conditional_read n) m o (omega (arith, length-append row mid)) all f (h n (omega arith))

-- ---- the literal of a `__has_include`

pub has-read : (known : Bool) (inner : Reader) (ts : List Tok) → primary_read inner (has_literal known) ts ≡ Some (reading ts (literal_operand (of_bool known)))
unfolding integer
has-read true inner ts = refl
has-read false inner ts = refl

pub first-has : (old new : List Tok) (known : Bool) → old ≡ has_literal known ∷ new → ReadsFirst old (Some (literal_operand (of_bool known))) new
first-has old new known e n h = ap (first_read (conditional_read n)) e ∙ has-read known (conditional_read n) new

-- ---- a row's operators, the last one first

prefixed_by-last : (row : List Tok) (t : Tok) (o : Operand) → prefixed_by (row ++ t ∷ []) o ≡ prefixed_by row (option_map_or (λ op. prefix_operand op o) (operator_of unary_operators t) o)
prefixed_by-last [] t o = refl
prefixed_by-last (u ∷ row) t o = let more = prefixed_by-last row t o in ap (λ (p : Operand). option_map_or (λ op. prefix_operand op p) (operator_of unary_operators u) p) more

pub row-step : (row : List Tok) (left : ℕ) (t : Tok) (o p all : Operand) → 0 < left → left ≤ length row → t ≡ get_or row (left - 1) t → prefixed_by (take left row) o ≡ all → p ≡ option_map_or (λ op. prefix_operand op o) (operator_of unary_operators t) o → prefixed_by (take (left - 1) row) p ≡ all
row-step row left t o p all h k e f g =
    let next : left ≡ left - 1 + 1 = omega arith in
    let last : take left row ≡ take (left - 1) row ++ t ∷ [] = ap (λ (n : ℕ). take n row) next ∙ (take_more row (left - 1) t (omega arith) ∙ ap (λ (u : Tok). take (left - 1) row ++ u ∷ []) (sym e)) in
    rw g (sym (prefixed_by-last (take (left - 1) row) t o) ∙ (ap (λ (ts : List Tok). prefixed_by ts o) (sym last) ∙ f))
