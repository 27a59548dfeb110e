-- Two sets merged by walking through the names of one, the latest first.
use Rattle.std.proofs.Common.{◌≡◌, sym, ◌∙◌, ap, refl, ℕ, Bool, true, false, ◌||◌, ◌&&◌, List, ◌⊎◌, ⊎_elim}
use Rattle.std.proofs.lemmas.Bool.{false≢true, or_left, or_right, and_from, or_cases}
use std.Path.{fun_ext}
use Rattle.scan_model.specs.TokenTests.{same}
use Rattle.scan_model.specs.Expansion.{also}
use Rattle.scan_model.proofs.LongestLemmas.{pointwise_same}

abbrev pub Names : Type 0
Names = List ℕ → Bool

or_true : (b : Bool) → (b || true) ≡ true
or_true true = refl
or_true false = refl

and_second : (b c : Bool) → (b && c) ≡ true → c ≡ true
and_second true c h = h
and_second false c h = cc

at_same : (names : Names) (s name : List ℕ) → same s name ≡ true → names name ≡ true → names s ≡ true
at_same names s name e h = ap names (pointwise_same s name e) ∙ h

to_same : (names : Names) (s name : List ℕ) → same s name ≡ true → names s ≡ true → names name ≡ true
to_same names s name e h = ap names (sym (pointwise_same s name e)) ∙ h

-- a set that is one name more
also_has : (whole rest : Names) (s name : List ℕ) → whole ≡ also s rest → whole name ≡ true → (rest name ≡ true) ⊎ (same s name ≡ true)
also_has whole rest s name e h = or_cases (rest name) (same s name) (sym (ap (λ (f : Names). f name) e) ∙ h)

also_keeps : (whole rest : Names) (s name : List ℕ) → whole ≡ also s rest → rest name ≡ true → whole name ≡ true
also_keeps whole rest s name e h = ap (λ (f : Names). f name) e ∙ or_left (rest name) (same s name) h

also_adds : (whole rest : Names) (s name : List ℕ) → whole ≡ also s rest → same s name ≡ true → whole name ≡ true
also_adds whole rest s name e h = ap (λ (f : Names). f name) e ∙ or_right (rest name) (same s name) h

-- ## Both together

-- Of the union of a and b there is made so far all but what right has; left is what both may share.
pub record Uniting (a b made left right : Names) : Type 0 where
  pub left_in : (name : List ℕ) → left name ≡ true → a name ≡ true
  pub first_in : (name : List ℕ) → a name ≡ true → made name ≡ true
  pub right_in : (name : List ℕ) → right name ≡ true → b name ≡ true
  pub within : (name : List ℕ) → made name ≡ true → (a name || b name) ≡ true
  pub rest : (name : List ℕ) → b name ≡ true → (made name || right name) ≡ true

pub uniting-added : (a b made made' left right right' : Names) (s : List ℕ) → right ≡ also s right' → made' ≡ also s made → Uniting a b made left right → Uniting a b made' left right'
uniting-added a b made made' left right right' s e m u =
    record {
      left_in = u.left_in;
      first_in = λ name h. also_keeps made' made s name m (u.first_in name h);
      right_in = λ name h. u.right_in name (also_keeps right right' s name e h);
      within = λ name h. ⊎_elim (u.within name) (λ k. or_right (a name) (b name) (u.right_in name (also_adds right right' s name e k))) (also_has made' made s name m h);
      rest = λ name h. ⊎_elim
          (λ k. or_left (made' name) (right' name) (also_keeps made' made s name m k))
          (λ k. ⊎_elim (or_right (made' name) (right' name)) (λ l. or_left (made' name) (right' name) (also_adds made' made s name m l)) (also_has right right' s name e k))
          (or_cases (made name) (right name) (u.rest name h));
    }

pub uniting-skipped : (a b made left right right' : Names) (s : List ℕ) → right ≡ also s right' → true ≡ a s → Uniting a b made left right → Uniting a b made left right'
uniting-skipped a b made left right right' s e p u =
    record {
      left_in = u.left_in;
      first_in = u.first_in;
      right_in = λ name h. u.right_in name (also_keeps right right' s name e h);
      within = u.within;
      rest = λ name h. ⊎_elim
          (or_left (made name) (right' name))
          (λ k. ⊎_elim (or_right (made name) (right' name)) (λ l. or_left (made name) (right' name) (u.first_in name (to_same a s name l (sym p)))) (also_has right right' s name e k))
          (or_cases (made name) (right name) (u.rest name h));
    }

-- ## The common part

-- Of the common part of a and b there is made so far all but what `at` has, and what they share for certain.
pub record Meeting (a b made shared at : Names) : Type 0 where
  pub at_in : (name : List ℕ) → at name ≡ true → a name ≡ true
  pub shared_in : (name : List ℕ) → shared name ≡ true → made name ≡ true
  pub within : (name : List ℕ) → made name ≡ true → (a name && b name) ≡ true
  pub rest : (name : List ℕ) → (a name && b name) ≡ true → (made name || at name) ≡ true

-- each name of the first is one of the second's
pub record Within (part whole : Names) : Type 0 where
  pub has : (name : List ℕ) → part name ≡ true → whole name ≡ true

pub meeting-added : (a b made made' shared at at' : Names) (s : List ℕ) → at ≡ also s at' → made' ≡ also s made → true ≡ b s → Meeting a b made shared at → Meeting a b made' shared at'
meeting-added a b made made' shared at at' s e m p u =
    record {
      at_in = λ name h. u.at_in name (also_keeps at at' s name e h);
      shared_in = λ name h. also_keeps made' made s name m (u.shared_in name h);
      within = λ name h. ⊎_elim (u.within name) (λ k. and_from (a name) (b name) (u.at_in name (also_adds at at' s name e k)) (to_same b s name k (sym p))) (also_has made' made s name m h);
      rest = λ name h. ⊎_elim
          (λ k. or_left (made' name) (at' name) (also_keeps made' made s name m k))
          (λ k. ⊎_elim (or_right (made' name) (at' name)) (λ l. or_left (made' name) (at' name) (also_adds made' made s name m l)) (also_has at at' s name e k))
          (or_cases (made name) (at name) (u.rest name h));
    }

pub meeting-skipped : (a b made shared at at' : Names) (s : List ℕ) → at ≡ also s at' → false ≡ b s → Meeting a b made shared at → Meeting a b made shared at'
meeting-skipped a b made shared at at' s e p u =
    record {
      at_in = λ name h. u.at_in name (also_keeps at at' s name e h);
      shared_in = u.shared_in;
      within = u.within;
      rest = λ name h. ⊎_elim
          (or_left (made name) (at' name))
          (λ k. ⊎_elim (or_right (made name) (at' name)) (λ l. absurd (false≢true (p ∙ at_same b s name l (and_second (a name) (b name) h)))) (also_has at at' s name e k))
          (or_cases (made name) (at name) (u.rest name h));
    }
