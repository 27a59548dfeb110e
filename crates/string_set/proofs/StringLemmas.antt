-- A set of byte strings, by the keys of the code's set.
use Rattle.std.proofs.Common.{◌≡◌, ℕ, Bool, true, false, List, [], ◌∷◌, map, refl, ap, sym, ◌∙◌, subst, inl, inr}
use Rattle.std.specs.Prelude.{not, ◌||◌}
use Rattle.std.specs.Bool.{MatchBool}
use Rattle.std.specs.List.{list_any}
use Rattle.std.specs.List.Sorted.{IsPermutation}
use Rattle.std.specs.Cmp.Lexicographic.{bytes_decides, nat_list_eq_equiv}
use Rattle.std.specs.declared.alloc.Global.{Global}
use Rattle.std.specs.declared.vec.Vec.{Vec}
use Rattle.std.proofs.lemmas.Bool.{cases_Bool}
use Rattle.std.proofs.lemmas.List.Sorted.{list_any-IsPermutation}
use Rattle.scan_model.specs.TokenTests.{same, is_among}

abbrev pub texts : List (Vec ℕ Global) → List (List ℕ)
texts keys = map (λ key. key.items) keys

-- the test by which the code looks a string up
abbrev pub is_at : List ℕ → Vec ℕ Global → Bool
is_at string key = same string key.items

pub keys_have : (string : List ℕ) (keys : List (Vec ℕ Global)) → list_any (is_at string) keys ≡ is_among (texts keys) string
keys_have string [] = refl
keys_have string (k ∷ ks) = ap (λ b. b || list_any (is_at string) ks) (nat_list_eq_equiv.symm string k.items) ∙ ap (λ b. same k.items string || b) (keys_have string ks)

swapped : (a b : Bool) → (a || b) ≡ (b || a)
swapped true true = refl
swapped true false = refl
swapped false true = refl
swapped false false = refl

or_false : (b : Bool) → b ≡ (b || false)
or_false true = refl
or_false false = refl

held : (b : Bool) → false ≡ not b → b ≡ true
held true e = refl
held false e = cc

module _ (string : List ℕ) (key : Vec ℕ Global) (old new : List (Vec ℕ Global)) (is : key.items ≡ string) where
  there : is_among (texts old) string ≡ true → (q : List ℕ) → is_among (texts old) q ≡ (is_among (texts old) q || same string q)
  there h q = elim (cases_Bool (same string q)) [
    | inl y ↦ let here : is_among (texts old) q ≡ true = subst (λ p. is_among (texts old) p ≡ true) ((bytes_decides string q).0 y) h in rw here refl
    | inr n ↦ rw n (or_false (is_among (texts old) q))
  ]

  -- what a put of the key leaves
  pub key_put : (added : Bool) → MatchBool added (IsPermutation (key ∷ old) new) (new ≡ old) → added ≡ not (list_any (is_at key.items) old) → (q : List ℕ) → is_among (texts new) q ≡ (is_among (texts old) q || same string q)
  key_put true moved was q =
      sym (keys_have q new) ∙ sym (list_any-IsPermutation (is_at q) (key ∷ old) new moved) ∙ ap (λ b. b || list_any (is_at q) old) (nat_list_eq_equiv.symm q key.items ∙ ap (λ p. same p q) is)
      ∙ ap (λ b. same string q || b) (keys_have q old) ∙ swapped (same string q) (is_among (texts old) q)
  key_put false unchanged was q = ap (λ ks. is_among (texts ks) q) unchanged ∙ there (sym (keys_have string old) ∙ ap (λ p. list_any (is_at p) old) (sym is) ∙ held _ was) q
