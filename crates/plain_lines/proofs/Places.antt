-- Lists by places, and the tokens of a line.
use Rattle.std.proofs.Common.{◌≡◌, ℕ, zero, suc, ◌+◌, ◌<◌, ◌≤◌, List, [], ◌∷◌, ◌++◌, length, drop, slice_get, add-one, Option, Some, None, refl, ap, sym, ◌∙◌, subst, arith, append_assoc}
use Rattle.std.proofs.lemmas.List.Elements.{All-nil}
use Rattle.std.proofs.lemmas.Option.{slice_get_within, get_or_from_slice_get}
use Rattle.scan_model.specs.declared.token.Line.{Line}
use Rattle.reducer.specs.ReducedLines.{toks_of, AreReduced}
use Rattle.scan_model.specs.Utf8Names.{HaveUtf8Names}

pub drop-slice_get : {A : Type 0} (xs : List A) (k : ℕ) (x : A) → slice_get xs k ≡ Some x → drop k xs ≡ x ∷ drop (k + 1) xs
drop-slice_get [] k x e = cc
drop-slice_get (y ∷ ys) zero x e = let same : y ≡ x = cc in ap (λ z. z ∷ ys) same
drop-slice_get (y ∷ ys) (suc k) x e = rw add-one (rw add-one at (drop-slice_get ys k x e))

pub drop-past : {A : Type 0} (xs : List A) (k : ℕ) → length xs ≤ k → drop k xs ≡ []
drop-past [] zero h = refl
drop-past [] (suc k) h = refl
drop-past (x ∷ xs) zero h = absurd (omega arith)
drop-past (x ∷ xs) (suc k) h = drop-past xs k (omega arith)

-- what is copied so far, and what is left
pub copied-one : {A : Type 0} (done done' xs rest : List A) (k : ℕ) (x y : A) → slice_get xs k ≡ Some x → y ≡ x → done' ≡ done ++ y ∷ [] → done ++ drop k xs ≡ rest → done' ++ drop (k + 1) xs ≡ rest
copied-one done done' xs rest k x y e is more h =
    ap (λ zs. zs ++ drop (k + 1) xs) (more ∙ ap (λ z. done ++ z ∷ []) is) ∙ append_assoc done (x ∷ []) (drop (k + 1) xs) ∙ ap (λ zs. done ++ zs) (sym (drop-slice_get xs k x e)) ∙ h

pub readable_toks : (ls : List Line) (k : ℕ) → AreReduced ls → HaveUtf8Names (toks_of ls k)
readable_toks ls k r = by (slice_get ls k) refl where
  by : (o : Option Line) → slice_get ls k ≡ o → HaveUtf8Names (toks_of ls k)
  by None e = rw e (All-nil _)
  by (Some l) e = rw e (subst (λ (m : Line). HaveUtf8Names m.toks) (get_or_from_slice_get ls k l l e) (r.utf8 k l (slice_get_within ls k l e)))
