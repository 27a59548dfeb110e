-- Tokens that are settled in their places.
use Rattle.std.proofs.Common.{◌≡◌, sym, ◌∙◌, ap, subst, refl, ℕ, ◌+◌, ◌*◌, ◌≤◌, Bool, true, false, not, ◌&&◌, if◌then◌else◌, List, [], ◌∷◌, ◌++◌, map, length, get_or, append_assoc, append-nil, add-zero, arith}
use Rattle.std.specs.Prelude.{IfOk, IfSome, Result, Ok, Err, Option, Some, None, is_some}
use Rattle.std.specs.Option.{option_map}
use Rattle.std.specs.List.{IsFirstAndRest}
use Rattle.std.proofs.lemmas.Bool.{false≢true}
use Rattle.scan_model.specs.declared.memory.NoMemory.{NoMemory}
use Rattle.scan_model.specs.declared.macros.Def.{Def}
use Rattle.scan_model.specs.declared.token.Kind.TheVariants.{Ident, Number}
use Rattle.scan_model.specs.declared.token.Tok.{Tok}
use Rattle.scan_model.specs.declared.expansion.Expanded.{Expanded}
use Rattle.scan_model.specs.declared.expansion.Expanded.TheVariants as Gives
use Rattle.scan_model.specs.Spelling.{spells}
use Rattle.scan_model.specs.TokenTests.{is_of, is_paste, is_open_paren, is_close_paren}
use Rattle.scan_model.specs.Substitution as spec
use Rattle.scan_model.specs.Substitution.{Marked, no_name, own, spaced}
use Rattle.scan_model.specs.Expansion.{Scope, Ran, Went, Failed, cost_limit, out, paid, also, hidden_by, instead, rescanned, by_def, defined_name, defined_out, in_condition, first_and_rest, first_counter, answer_of, expand}
use Rattle.substitution.specs.Calls.{object_call}
use Rattle.expansion_laws.specs.Turns.{expands}
use Rattle.expansion_laws.proofs.TurnLemmas.{expands_first, expands_none, expands_list}
use Rattle.expansion.specs.declared.straight.Step.{Step}
use Rattle.expansion.specs.Lists.{digit_of}
use Rattle.expansion.specs.Straight.{Settles, Settled, answer_after, mark, marks, stays, name_after}
use Rattle.expansion.proofs.RescanLemmas.{paid-within}

-- ## One token

pub answer_after-out : (before : List Tok) (m : Marked) (ran : Ran) → answer_after before (out m ran) ≡ answer_after (before ++ m.tok ∷ []) ran
answer_after-out before m (Went ms cost counter) =
    let done : List Tok → Expanded = λ (toks : List Tok). Gives.Done toks counter in
    ap done (sym (append_assoc before (m.tok ∷ []) (map (λ (m : Marked). m.tok) ms)))
answer_after-out before m (Failed answer) = refl

-- one that goes out at a further cost, with these tokens left
pub settles-as : (e : Scope) (m : Marked) (further : ℕ) (ran : ℕ → ℕ → Ran) (rest left : List Tok) (step : Step) →
    further ≤ 2 → length left ≤ length rest → step.tok ≡ m.tok → step.left.now ≡ left →
    ((cost counter : ℕ) → cost + 2 ≤ cost_limit → ran cost counter ≡ out m (expands e (marks left) (cost + further) counter)) → Settles e ran rest step
settles-as e m further ran rest left step little fewer t l h =
    let same_length : length step.left.now ≡ length left = ap length l in
    record {
      cost = further;
      little = little;
      fewer = omega (arith, same_length, fewer);
      same = λ cost counter before le.
          ap (answer_after before) (h cost counter le)
          ∙ answer_after-out before m (expands e (marks left) (cost + further) counter)
          ∙ ap (λ (t : Tok). answer_after (before ++ t ∷ []) (expands e (marks left) (cost + further) counter)) (sym t)
          ∙ ap (λ (l : List Tok). answer_after (before ++ step.tok ∷ []) (expands e (marks l) (cost + further) counter)) (sym l);
    }

-- as it is
pub settles-out : (e : Scope) (t : Tok) (rest : List Tok) (step : Step) → step.tok ≡ t → step.left.now ≡ rest →
    Settles e (λ cost counter. out (mark t) (expands e (marks rest) cost counter)) rest step
settles-out e t rest step h l = settles-as e (mark t) 0 _ rest rest step (omega arith) (omega arith) h l
    (λ cost counter le. ap (λ (c : ℕ). out (mark t) (expands e (marks rest) c counter)) (sym (add-zero cost)))

-- the same, seen as what comes of something else
pub settles-along : (e : Scope) (ran ran' : ℕ → ℕ → Ran) (rest : List Tok) (step : Step) → ((cost counter : ℕ) → cost ≤ cost_limit → ran' cost counter ≡ ran cost counter) →
    Settles e ran rest step → Settles e ran' rest step
settles-along e ran ran' rest step same h = record {
  cost = h.cost;
  little = h.little;
  fewer = h.fewer;
  same = λ cost counter before le. ap (answer_after before) (same cost counter (omega (arith, le))) ∙ h.same cost counter before le;
}

pub some-along : (e : Scope) (ran ran' : ℕ → ℕ → Ran) (rest : List Tok) (step : Option Step) → ((cost counter : ℕ) → cost ≤ cost_limit → ran' cost counter ≡ ran cost counter) →
    IfSome step (Settles e ran rest) → IfSome step (Settles e ran' rest)
some-along e ran ran' rest None same h = tt
some-along e ran ran' rest (Some step) same h = settles-along e ran ran' rest step same h

pub ok-along : (e : Scope) (ran ran' : ℕ → ℕ → Ran) (rest : List Tok) (result : Result (Option Step) NoMemory) → ((cost counter : ℕ) → cost ≤ cost_limit → ran' cost counter ≡ ran cost counter) →
    IfOk result (λ step. IfSome step (Settles e ran rest)) → IfOk result (λ step. IfSome step (Settles e ran' rest))
ok-along e ran ran' rest (Ok step) same h = some-along e ran ran' rest step same h
ok-along e ran ran' rest (Err error) same h = tt

-- a clause for each scope, at one of them
pub ok-at : (e : Scope) (ran : Scope → ℕ → ℕ → Ran) (ran' : ℕ → ℕ → Ran) (rest : List Tok) (result : Result (Option Step) NoMemory) → ((cost counter : ℕ) → cost ≤ cost_limit → ran' cost counter ≡ ran e cost counter) →
    IfOk result (λ step. (e : Scope) → IfSome step (Settles e (ran e) rest)) → IfOk result (λ step. IfSome step (Settles e ran' rest))
ok-at e ran ran' rest (Ok step) same h = some-along e (ran e) ran' rest step same (h e)
ok-at e ran ran' rest (Err error) same h = tt

-- ## A replacement by one token

same-if : (b : Bool) (a : Option spec.Arg) → (if b then a else a) ≡ a
same-if true a = refl
same-if false a = refl

subst-one : (line : ℕ) (space : Bool) (t : Tok) → is_paste t ≡ false → spec.subst (object_call line) space (t ∷ []) ≡ Some (spaced space (own (object_call line) t) ∷ [])
unfolding spec.subst
subst-one line space t h = rw (h, same-if (is_of Ident t) None) refl

module _ (e : Scope) (m : Marked) (ms : List Marked) (cost counter : ℕ) where
  stays-by : (pastes named hides is_defined : Bool) (def : Option Def) →
      (not pastes && (if named then (not is_defined && not (is_some def)) else true)) ≡ true →
      (if not named then out m (expands e ms cost counter) else if is_defined then defined_out (expands e) e m ms cost counter (defined_name (expands e) e ms) else if hides then out m (expands e ms cost counter) else by_def (expands e) e m ms cost counter def) ≡ out m (expands e ms cost counter)
  stays-by true named hides is_defined def h = absurd (false≢true h)
  stays-by false false hides is_defined def h = refl
  stays-by false true hides true def h = absurd (false≢true h)
  stays-by false true true false def h = refl
  stays-by false true false false None h = refl
  stays-by false true false false (Some def) h = absurd (false≢true h)

  stays-out : stays e m.tok ≡ true → first_and_rest (expands e) e m ms cost counter ≡ out m (expands e ms cost counter)
  stays-out h = stays-by (is_paste m.tok) (is_of Ident m.tok) (m.hides m.tok.text) (in_condition e.mode && spells "defined" m.tok.text) (e.defs m.tok.text) h

stays-no_paste : (e : Scope) (t : Tok) → stays e t ≡ true → is_paste t ≡ false
stays-no_paste e t h = by (is_paste t) _ h where
  by : (pastes other : Bool) → (not pastes && other) ≡ true → pastes ≡ false
  by true other h = absurd (false≢true h)
  by false other h = refl

-- an object-like macro whose replacement list is one token that stays
pub settles-object : (e : Scope) (name t : Tok) (rest body : List Tok) (step : Step) → body ≡ t ∷ [] → stays e t ≡ true →
    step.tok ≡ record name { kind = t.kind; text = t.text } → step.left.now ≡ rest →
    Settles e (λ cost counter. rescanned (expands e) e (also name.text no_name) (marks rest) cost counter (spec.subst (object_call name.line) name.space body)) rest step
settles-object e name t rest body step b s h l =
    let put : Marked = spaced name.space (own (object_call name.line) t) in
    let m : Marked = hidden_by (also name.text no_name) put in
    settles-as e m 2 _ rest rest step (omega arith) (omega arith) h l
    (λ cost counter le.
    let two : cost + 1 + 1 ≡ cost + 2 = omega arith in
    ap (λ (body : List Tok). rescanned (expands e) e (also name.text no_name) (marks rest) cost counter (spec.subst (object_call name.line) name.space body)) b
    ∙ ap (rescanned (expands e) e (also name.text no_name) (marks rest) cost counter) (subst-one name.line name.space t (stays-no_paste e t s))
    ∙ paid-within (cost + 1 + 1) (expands e (m ∷ marks rest) (cost + 1 + 1) counter) (omega (arith, le))
    ∙ ap (λ (c : ℕ). expands e (m ∷ marks rest) c counter) two
    ∙ expands_first e m (marks rest) (cost + 2) counter le
    ∙ stays-out e m (marks rest) (cost + 2) counter s)

-- a list of one token
pub one-of : (body : List Tok) (t : Tok) → length body ≡ 1 → t ≡ get_or body 0 t → body ≡ t ∷ []
one-of [] t h k = absurd (omega (arith, h))
one-of (u ∷ []) t h k = ap (λ (t : Tok). t ∷ []) (sym k)
one-of (u ∷ v ∷ body) t h k = absurd (omega (arith, h))

-- a built-in name whose value is one token
pub settles-built_in : (e : Scope) (name : Tok) (rest : List Tok) (text : List ℕ) (step : Step) →
    step.tok ≡ record name { kind = Number; text = text } → step.left.now ≡ rest →
    Settles e (λ cost counter. paid (cost + 2) (out (instead Number text (mark name)) (expands e (marks rest) (cost + 2) counter))) rest step
settles-built_in e name rest text step h l =
    settles-as e (instead Number text (mark name)) 2 _ rest rest step (omega arith) (omega arith) h l
    (λ cost counter le. paid-within (cost + 2) (out (instead Number text (mark name)) (expands e (marks rest) (cost + 2) counter)) le)

-- ## `defined`

abbrev found_in : List ℕ × List Tok → List ℕ × List Marked
found_in found = (found.0, marks found.1)

map-if : (b : Bool) (x y : Option (List ℕ × List Tok)) → option_map found_in (if b then x else y) ≡ (if b then option_map found_in x else option_map found_in y)
map-if true x y = refl
map-if false x y = refl

defined-marks : (e : Scope) (toks : List Tok) → defined_name (expands e) e (marks toks) ≡ option_map found_in (name_after toks)
defined-marks e [] = refl
defined-marks e (p ∷ []) = sym (map-if (is_of Ident p) (Some (p.text, [])) None)
defined-marks e (p ∷ x ∷ []) = sym (map-if (is_of Ident p) (Some (p.text, x ∷ [])) None)
defined-marks e (p ∷ x ∷ q ∷ rest) =
    let in_parens : Bool = is_open_paren p && is_of Ident x && is_close_paren q in
    sym (map-if (is_of Ident p) (Some (p.text, x ∷ q ∷ rest)) (if in_parens then Some (x.text, rest) else None)
    ∙ ap (λ (o : Option (List ℕ × List Marked)). if is_of Ident p then Some (p.text, marks (x ∷ q ∷ rest)) else o) (map-if in_parens (Some (x.text, rest)) None))

abbrev IsFewer : List Tok → Option (List ℕ × List Tok) → Type 0
IsFewer toks o = IfSome o (λ found. length found.1 ≤ length toks)

fewer-if : (toks : List Tok) (b : Bool) (x y : Option (List ℕ × List Tok)) → IsFewer toks x → IsFewer toks y → IsFewer toks (if b then x else y)
fewer-if toks true x y h k = h
fewer-if toks false x y h k = k

name_after-fewer : (toks : List Tok) → IsFewer toks (name_after toks)
name_after-fewer [] = tt
name_after-fewer (p ∷ []) = fewer-if (p ∷ []) (is_of Ident p) (Some (p.text, [])) None (omega arith) tt
name_after-fewer (p ∷ x ∷ []) = fewer-if (p ∷ x ∷ []) (is_of Ident p) (Some (p.text, x ∷ [])) None (omega arith) tt
name_after-fewer (p ∷ x ∷ q ∷ rest) =
    let toks : List Tok = p ∷ x ∷ q ∷ rest in
    let in_parens : Bool = is_open_paren p && is_of Ident x && is_close_paren q in
    fewer-if toks (is_of Ident p) (Some (p.text, x ∷ q ∷ rest)) (if in_parens then Some (x.text, rest) else None) (omega arith)
    (fewer-if toks in_parens (Some (x.text, rest)) None (omega arith) tt)

pub settles-defined : (e : Scope) (word : Tok) (rest left : List Tok) (name : List ℕ) (step : Step) → Some (name, left) ≡ name_after rest →
    step.tok ≡ record word { kind = Number; text = digit_of (is_some (e.defs name)) } → step.left.now ≡ left →
    Settles e (λ cost counter. defined_out (expands e) e (mark word) (marks rest) cost counter (defined_name (expands e) e (marks rest))) rest step
settles-defined e word rest left name step f h l =
    let m : Marked = instead Number (digit_of (is_some (e.defs name))) (mark word) in
    settles-as e m 0 _ rest left step (omega arith) (subst (IsFewer rest) (sym f) (name_after-fewer rest)) h l
    (λ cost counter le.
    ap (defined_out (expands e) e (mark word) (marks rest) cost counter) (defined-marks e rest ∙ ap (option_map found_in) (sym f))
    ∙ ap (λ (c : ℕ). out m (expands e (marks left) c counter)) (sym (add-zero cost)))

-- ## All tokens

after-none : (ran : Ran) → answer_of ran ≡ answer_after [] ran
after-none (Went ms cost counter) = refl
after-none (Failed answer) = refl

pub settled-none : (e : Scope) (toks before : List Tok) → before ≡ [] → Settled e toks before toks
settled-none e toks before none = record {
  cost = 0;
  little = omega arith;
  same = expands_list e.defs e.site e.mode toks ∙ after-none (expands e (marks toks) 0 (first_counter e.mode))
      ∙ ap (λ (b : List Tok). answer_after b (expands e (marks toks) 0 (first_counter e.mode))) (sym none);
}

pub settled-more : (e : Scope) (toks before left rest : List Tok) (first : Tok) (step : Step) → 2 * length toks ≤ cost_limit → Settled e toks before left → IsFirstAndRest left first rest →
    Settles e (λ cost counter. expands e (marks (first ∷ rest)) cost counter) rest step → Settled e toks (before ++ step.tok ∷ []) step.left.now
settled-more e toks before left rest first step within h f s = record {
  cost = h.cost + s.cost;
  little = omega (arith, h.little, s.little, s.fewer, f.1);
  same = h.same
      ∙ ap (λ (l : List Tok). answer_after before (expands e (marks l) h.cost (first_counter e.mode))) f.0
      ∙ s.same h.cost (first_counter e.mode) before (omega (arith, h.little, within, f.1));
}

pub settled-all : (e : Scope) (toks before left : List Tok) → Settled e toks before left → length left ≡ 0 → expand e.defs e.site e.mode toks ≡ Gives.Done before (first_counter e.mode)
settled-all e toks before [] h none =
    let done : List Tok → Expanded = λ (toks : List Tok). Gives.Done toks (first_counter e.mode) in
    h.same ∙ ap (answer_after before) (expands_none e h.cost (first_counter e.mode)) ∙ ap done (append-nil before)
settled-all e toks before (t ∷ left) h none = absurd (omega (arith, none))
