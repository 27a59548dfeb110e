-- The levels of a token, and reading on from an operand over the levels: the climb.
use Rattle.std.proofs.Common.{◌≡◌, ℕ, ◌+◌, ◌-◌, ◌<◌, ◌≤◌, zero, suc, List, [], ◌∷◌, length, drop, get_or, map, replicate, ap, sym, subst, ◌∙◌, refl, arith}
use Rattle.std.specs.Prelude.{Option, Some, None, unwrap_or}
use Rattle.std.specs.Option.{option_and_then}
use Rattle.std.proofs.lemmas.List.{drop-drop, drop-map, drop-replicate, drop-set-lt, get_or-drop, get_or-set_same}
use Rattle.std.proofs.Math.ListN.{get_or-map}
use Rattle.scan_model.specs.declared.token.Tok.{Tok}
use Rattle.scan_model.specs.ConditionTree.{Binary, Spelt, levels, operator_of}
use Rattle.if_values.specs.declared.operand.Operand.{Operand}
use Rattle.if_values.specs.Levels.{level_of, levels_from, at_levels, only_at_its_level}
use Rattle.if_values.specs.Items.{first_of}
use Rattle.if_values.specs.Marks.{IsPast, PassesOperator}
use Rattle.if_values.specs.Operands.{infix_operand}
use Rattle.if_values.specs.Reading.{Read, Reader, reading, more_read, binary_read}

-- ---- the levels of a token

past-by : (ls : List (List (Spelt Binary))) (j : ℕ) (t : Tok) (ts : List Tok) → map (λ ops. operator_of ops t) ls ≡ replicate j None → IsPast ls (t ∷ ts)
past-by [] j t ts e = tt
past-by (ops ∷ ls) zero t ts e = absurd (omega (arith, ap length e))
past-by (ops ∷ ls) (suc j) t ts e = (ap (λ (l : List (Option Binary)). get_or l 0 None) e, past-by ls j t ts (ap (drop 1) e))

past-from : (level j : ℕ) (t : Tok) (ts : List Tok) → drop level (at_levels t) ≡ replicate j None → IsPast (levels_from level) (t ∷ ts)
past-from level j t ts e = past-by (levels_from level) j t ts (sym (drop-map (λ ops. operator_of ops t) level levels) ∙ e)

-- where the token is no operator
past-none : (level : ℕ) (t : Tok) (ts : List Tok) → at_levels t ≡ only_at_its_level None → IsPast (levels_from level) (t ∷ ts)
past-none level t ts e = past-from level (10 - level) t ts (ap (drop level) e ∙ drop-replicate level 10 None)

-- where the token's operator is of a looser level
past-looser : (level : ℕ) (t : Tok) (ts : List Tok) (op : Binary) → at_levels t ≡ only_at_its_level (Some op) → level_of op < level → IsPast (levels_from level) (t ∷ ts)
past-looser level t ts op e h =
    past-from level (10 - level) t ts (ap (drop level) e ∙ (drop-set-lt level (replicate 10 None) (level_of op) (Some op) h ∙ drop-replicate level 10 None))

past-nil : (ls : List (List (Spelt Binary))) → IsPast ls []
past-nil [] = tt
past-nil (ops ∷ ls) = (refl, past-nil ls)

own-level : (t : Tok) (op : Binary) → at_levels t ≡ only_at_its_level (Some op) → level_of op < 10 → operator_of (get_or levels (level_of op) []) t ≡ Some op
own-level t op e h =
    sym (get_or-map (λ ops. operator_of ops t) levels (level_of op) [])
    ∙ (ap (λ (l : List (Option Binary)). get_or l (level_of op) None) e ∙ get_or-set_same (replicate 10 None) (level_of op) (Some op) None h)

-- where no operator of the level is passed
pub pass-end : (level : ℕ) (ts : List Tok) → None ≡ first_of ts → PassesOperator level ts None ts
pass-end level [] e = (refl, past-nil (levels_from level))
pass-end level (t ∷ ts) e = cc

pub pass-none : (level : ℕ) (t : Tok) (ts : List Tok) → Some t ≡ first_of ts → at_levels t ≡ only_at_its_level None → PassesOperator level ts None ts
pass-none level t [] e f = cc
pass-none level t (u ∷ ts) e f = (refl, past-none level u ts (ap at_levels (ap (λ (o : Option Tok). unwrap_or o u) (sym e)) ∙ f))

pub pass-looser : (level : ℕ) (t : Tok) (ts : List Tok) (op : Binary) → Some t ≡ first_of ts → at_levels t ≡ only_at_its_level (Some op) → level_of op < level → PassesOperator level ts None ts
pass-looser level t [] op e f h = cc
pass-looser level t (u ∷ ts) op e f h = (refl, past-looser level u ts op (ap at_levels (ap (λ (o : Option Tok). unwrap_or o u) (sym e)) ∙ f) h)

-- ---- reading on

-- more operands of a level, to the right of what has been read
abbrev pub then_more : ℕ → List (Spelt Binary) → Reader → Read → Option Read
then_more n ops operand r = more_read n ops operand r.operand r.after

-- The levels give `whole` where an operand has been read in front of the tokens: each level goes on from what the next
-- tighter one gives, with as many more operands as it may still read.
abbrev pub Resumes : List (List (Spelt Binary)) → Reader → Option Read → Operand → List Tok → Type 0
Resumes [] operand whole left ts = whole ≡ Some (reading ts left)
Resumes (ops ∷ tighter) operand whole left ts =
    (n : ℕ) × (inner : Option Read) × (length ts ≤ n) × Resumes tighter operand inner left ts × (whole ≡ option_and_then (then_more n ops (binary_read tighter operand)) inner)

-- the first operand
pub resumes-init : (ls : List (List (Spelt Binary))) (operand : Reader) (start ts : List Tok) (left : Operand) → operand start ≡ Some (reading ts left) → length ts ≤ length start
    → Resumes ls operand (binary_read ls operand start) left ts
resumes-init [] operand start ts left e h = e
resumes-init (ops ∷ tighter) operand start ts left e h = (length start, binary_read tighter operand start, h, resumes-init tighter operand start ts left e h, refl)

pub binary-none-at : (ls : List (List (Spelt Binary))) (operand : Reader) (start : List Tok) → operand start ≡ None → binary_read ls operand start ≡ None
binary-none-at [] operand start e = e
binary-none-at (ops ∷ tighter) operand start e = ap (option_and_then (then_more (length start) ops (binary_read tighter operand))) (binary-none-at tighter operand start e)

more-operator : (k : ℕ) (ops : List (Spelt Binary)) (operand : Reader) (left : Operand) (t : Tok) (ts : List Tok) (op : Binary) → operator_of ops t ≡ Some op
    → more_read (suc k) ops operand left (t ∷ ts) ≡ option_and_then (λ r. more_read k ops operand (infix_operand op left r.operand) r.after) (operand ts)
more-operator k ops operand left t ts op e = rw e refl

more-end : (k : ℕ) (ops : List (Spelt Binary)) (operand : Reader) (left : Operand) (ts : List Tok) → option_and_then (operator_of ops) (first_of ts) ≡ None → more_read k ops operand left ts ≡ Some (reading ts left)
more-end zero ops operand left ts e = refl
more-end (suc k) ops operand left [] e = refl
more-end (suc k) ops operand left (t ∷ ts) e = rw e refl

-- An operand passes unchanged through levels of which no operator follows it.
resumes-past : (ls : List (List (Spelt Binary))) (operand : Reader) (left : Operand) (ts : List Tok) → IsPast ls ts → Resumes ls operand (Some (reading ts left)) left ts
resumes-past [] operand left ts p = refl
resumes-past (ops ∷ tighter) operand left ts p =
    (length ts, Some (reading ts left), omega arith, resumes-past tighter operand left ts p.1, sym (more-end (length ts) ops (binary_read tighter operand) left ts p.0))

pub resumes-end : (ls : List (List (Spelt Binary))) (operand : Reader) (whole : Option Read) (left : Operand) (ts : List Tok) → IsPast ls ts → Resumes ls operand whole left ts → whole ≡ Some (reading ts left)
resumes-end [] operand whole left ts p r = r
resumes-end (ops ∷ tighter) operand whole left ts p r =
    r.4 ∙ (ap (option_and_then (then_more r.0 ops (binary_read tighter operand))) (resumes-end tighter operand r.1 left ts p.1 r.3) ∙ more-end r.0 ops (binary_read tighter operand) left ts p.0)

-- what an operator leaves of its level: its right operand, and what follows that
abbrev Joins : List (Spelt Binary) → List (List (Spelt Binary)) → Reader → Option Read → Operand → Binary → List Tok → Type 0
Joins ops tighter operand whole left op ts =
    (k : ℕ) × (length ts ≤ k) × (whole ≡ option_and_then (λ r. more_read k ops (binary_read tighter operand) (infix_operand op left r.operand) r.after) (binary_read tighter operand ts))

joins-by : (ops : List (Spelt Binary)) (tighter : List (List (Spelt Binary))) (operand : Reader) (whole inner : Option Read) (left : Operand) (t : Tok) (ts : List Tok) (op : Binary) (n : ℕ)
    → length (t ∷ ts) ≤ n → operator_of ops t ≡ Some op → inner ≡ Some (reading (t ∷ ts) left) → whole ≡ option_and_then (then_more n ops (binary_read tighter operand)) inner → Joins ops tighter operand whole left op ts
joins-by ops tighter operand whole inner left t ts op zero h e f g = absurd (omega arith)
joins-by ops tighter operand whole inner left t ts op (suc k) h e f g =
    (k, omega arith, g ∙ (ap (option_and_then (then_more (suc k) ops (binary_read tighter operand))) f ∙ more-operator k ops (binary_read tighter operand) left t ts op e))

joins : (ops : List (Spelt Binary)) (tighter : List (List (Spelt Binary))) (operand : Reader) (whole : Option Read) (left : Operand) (t : Tok) (ts : List Tok) (op : Binary)
    → operator_of ops t ≡ Some op → IsPast tighter (t ∷ ts) → Resumes (ops ∷ tighter) operand whole left (t ∷ ts) → Joins ops tighter operand whole left op ts
joins ops tighter operand whole left t ts op e p r = joins-by ops tighter operand whole r.1 left t ts op r.0 r.2 e (resumes-end tighter operand r.1 left (t ∷ ts) p r.3) r.4

-- An operator of the k-th level, and its right operand, read from the next tighter level on.
resumes-step : (ls : List (List (Spelt Binary))) (k : ℕ) (operand : Reader) (whole : Option Read) (left right : Operand) (t : Tok) (ts after : List Tok) (op : Binary)
    → operator_of (get_or ls k []) t ≡ Some op → IsPast (drop (suc k) ls) (t ∷ ts) → binary_read (drop (suc k) ls) operand ts ≡ Some (reading after right) → IsPast (drop (suc k) ls) after → length after ≤ length ts
    → Resumes ls operand whole left (t ∷ ts) → Resumes ls operand whole (infix_operand op left right) after
resumes-step [] k operand whole left right t ts after op e p f q h r = cc
resumes-step (ops ∷ ls) zero operand whole left right t ts after op e p f q h r =
    let j = joins ops ls operand whole left t ts op e p r in
    let new = infix_operand op left right in (
      j.0,
      Some (reading after new),
      (let enough : length ts ≤ j.0 = j.1 in omega arith),
      resumes-past ls operand new after q,
      j.2 ∙ ap (option_and_then (λ (r : Read). more_read j.0 ops (binary_read ls operand) (infix_operand op left r.operand) r.after)) f,
    )
resumes-step (ops ∷ ls) (suc k) operand whole left right t ts after op e p f q h r =
    (r.0, r.1, (let enough : length (t ∷ ts) ≤ r.0 = r.2 in omega arith), resumes-step ls k operand r.1 left right t ts after op e p f q h r.3, r.4)

resumes-fail : (ls : List (List (Spelt Binary))) (k : ℕ) (operand : Reader) (whole : Option Read) (left : Operand) (t : Tok) (ts : List Tok) (op : Binary)
    → operator_of (get_or ls k []) t ≡ Some op → IsPast (drop (suc k) ls) (t ∷ ts) → binary_read (drop (suc k) ls) operand ts ≡ None → Resumes ls operand whole left (t ∷ ts) → whole ≡ None
resumes-fail [] k operand whole left t ts op e p f r = cc
resumes-fail (ops ∷ ls) zero operand whole left t ts op e p f r =
    let j = joins ops ls operand whole left t ts op e p r in
    j.2 ∙ ap (option_and_then (λ (r : Read). more_read j.0 ops (binary_read ls operand) (infix_operand op left r.operand) r.after)) f
resumes-fail (ops ∷ ls) (suc k) operand whole left t ts op e p f r =
    r.4 ∙ ap (option_and_then (then_more r.0 ops (binary_read ls operand))) (resumes-fail ls k operand r.1 left t ts op e p f r.3)

-- ---- the same from a level on, by the operator's own level

at-own : (level k : ℕ) → level ≤ k → get_or (levels_from level) (k - level) [] ≡ get_or levels k []
at-own level k h = get_or-drop level levels (k - level) [] ∙ ap (λ (n : ℕ). get_or levels n []) {x = level + (k - level)} {y = k} (omega arith)

past-own : (level k : ℕ) → level ≤ k → drop (suc (k - level)) (levels_from level) ≡ levels_from (k + 1)
past-own level k h = drop-drop (suc (k - level)) level levels ∙ ap (λ (n : ℕ). drop n levels) {x = level + suc (k - level)} {y = k + 1} (omega arith)

pub climbs-on : (level : ℕ) (operand : Reader) (whole : Option Read) (left right : Operand) (t : Tok) (ts after : List Tok) (op : Binary)
    → at_levels t ≡ only_at_its_level (Some op) → level_of op < 10 → level ≤ level_of op → binary_read (levels_from (level_of op + 1)) operand ts ≡ Some (reading after right) → IsPast (levels_from (level_of op + 1)) after → length after ≤ length ts
    → Resumes (levels_from level) operand whole left (t ∷ ts) → Resumes (levels_from level) operand whole (infix_operand op left right) after
climbs-on level operand whole left right t ts after op e small h f q s r =
    let same = past-own level (level_of op) h in
    resumes-step (levels_from level) (level_of op - level) operand whole left right t ts after op
    (ap (λ (ops : List (Spelt Binary)). operator_of ops t) (at-own level (level_of op) h) ∙ own-level t op e small)
    (subst (λ ls. IsPast ls (t ∷ ts)) (sym same) (past-looser (level_of op + 1) t ts op e (omega arith)))
    (ap (λ (ls : List (List (Spelt Binary))). binary_read ls operand ts) same ∙ f) (subst (λ ls. IsPast ls after) (sym same) q) s r

pub climbs-off : (level : ℕ) (operand : Reader) (whole : Option Read) (left : Operand) (t : Tok) (ts : List Tok) (op : Binary)
    → at_levels t ≡ only_at_its_level (Some op) → level_of op < 10 → level ≤ level_of op → binary_read (levels_from (level_of op + 1)) operand ts ≡ None → Resumes (levels_from level) operand whole left (t ∷ ts) → whole ≡ None
climbs-off level operand whole left t ts op e small h f r =
    let same = past-own level (level_of op) h in
    resumes-fail (levels_from level) (level_of op - level) operand whole left t ts op
    (ap (λ (ops : List (Spelt Binary)). operator_of ops t) (at-own level (level_of op) h) ∙ own-level t op e small)
    (subst (λ ls. IsPast ls (t ∷ ts)) (sym same) (past-looser (level_of op + 1) t ts op e (omega arith)))
    (ap (λ (ls : List (List (Spelt Binary))). binary_read ls operand ts) same ∙ f) r
