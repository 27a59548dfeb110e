-- White space and comments are passed one after another.
use Rattle.std.proofs.Common.{◌≡◌, ℕ, zero, suc, ◌+◌, ◌<◌, ◌≤◌, Bool, true, false, cond, ◌==◌, List, [], ◌∷◌, refl, ap, sym, ◌∙◌, inl, inr, drop, length, length-drop, arith, codes, Some, None, ◌⊎◌}
use Rattle.std.proofs.lemmas.Bool.{eqb-true, and_parts, cases_Bool}
use Rattle.std.proofs.lemmas.List.{drop-drop}
use Rattle.std.specs.Option.{option_map_or}
use Rattle.scan_model.specs.Spliced.{Spot}
use Rattle.scan_model.specs.Tokens.{begins, from_newline, after_comment, first_is_blank, next_blank, after_blanks_up_to, after_blanks}

pub length-from_newline : (s : List Spot) → length (from_newline s) ≤ length s
length-from_newline [] = omega arith
length-from_newline (x ∷ s) = elim (cases_Bool (x.byte == 10)) [
  | inl e ↦ rw e (omega arith)
  | inr e ↦ rw e (let h : length (from_newline s) ≤ length s = length-from_newline s in omega arith)
]

pub length-after_comment : (s : List Spot) → length (after_comment s) ≤ length s
length-after_comment [] = omega arith
length-after_comment (x ∷ s) = elim (cases_Bool (begins (codes "*/") (x ∷ s))) [
  | inl e ↦ rw e (omega (arith, length-drop 1 s))
  | inr e ↦ rw e (let h : length (after_comment s) ≤ length s = length-after_comment s in omega arith)
]

chosen : {A : Type 0} (b c d : Bool) (x y z : A) (t : A) → cond b (Some x) (cond c (Some y) (cond d (Some z) None)) ≡ Some t
    → ((b ≡ true) × (x ≡ t)) ⊎ (((b ≡ false) × (c ≡ true) × (y ≡ t)) ⊎ ((b ≡ false) × (c ≡ false) × (d ≡ true) × (z ≡ t)))
chosen true c d x y z t e = inl (refl, cc)
chosen false true d x y z t e = inr (inl (refl, refl, cc))
chosen false false true x y z t e = inr (inr (refl, refl, refl, cc))
chosen false false false x y z t e = cc

-- `//` begins with no newline
line_comment : (s : List Spot) → begins (codes "//") s ≡ true → length (from_newline s) < length s
line_comment [] h = cc
line_comment (x ∷ s) h =
    let slash : x.byte ≡ 47 = eqb-true (x.byte) 47 (and_parts (x.byte == 47) (begins (codes "/") s) h).0 in
    rw slash (let k : length (from_newline s) ≤ length s = length-from_newline s in omega arith)

block_comment : (s : List Spot) → begins (codes "/*") s ≡ true → length (after_comment (drop 2 s)) < length s
block_comment [] h = cc
block_comment (x ∷ s) h = let k : length (after_comment (drop 1 s)) ≤ length (drop 1 s) = length-after_comment (drop 1 s) in omega (arith, k, length-drop 1 s)

blank : (s : List Spot) → first_is_blank s ≡ true → length (drop 1 s) < length s
blank [] h = cc
blank (x ∷ s) h = omega arith

pub length-next_blank : (s t : List Spot) → next_blank s ≡ Some t → length t < length s
unfolding next_blank
length-next_blank s t e = elim (chosen (first_is_blank s) (begins (codes "//") s) (begins (codes "/*") s) _ _ _ t e) [
  | inl h ↦ rw (← h.1) (blank s h.0)
  | inr (inl h) ↦ rw (← h.2) (line_comment s h.1)
  | inr (inr h) ↦ rw (← h.3) (block_comment s h.2)
]

enough_none : (m : ℕ) → after_blanks_up_to (suc m) [] ≡ []
unfolding next_blank
enough_none m = refl

enough : (n m : ℕ) (s : List Spot) → length s ≤ n → length s ≤ m → after_blanks_up_to n s ≡ after_blanks_up_to m s
enough zero zero s h k = refl
enough zero (suc m) [] h k = sym (enough_none m)
enough zero (suc m) (x ∷ s) h k = absurd (omega arith)
enough (suc n) zero [] h k = enough_none n
enough (suc n) zero (x ∷ s) h k = absurd (omega arith)
enough (suc n) (suc m) s h k =
    elim (next_blank s) as (λ o. next_blank s ≡ o → option_map_or (after_blanks_up_to n) o s ≡ option_map_or (after_blanks_up_to m) o s) [
      | Some t ↦ λ e. let z = length-next_blank s t e in enough n m t (omega arith) (omega arith)
      | None ↦ λ e. refl
    ] refl

-- one step, and the end
pub after_blanks-some : (s t : List Spot) → next_blank s ≡ Some t → after_blanks s ≡ after_blanks t
unfolding after_blanks
after_blanks-some [] t e = absurd (let z = length-next_blank [] t e in omega arith)
after_blanks-some (x ∷ s) t e = let z = length-next_blank (x ∷ s) t e in rw e (enough (length s) (length t) t (omega arith) (omega arith))

pub after_blanks-none : (s : List Spot) → next_blank s ≡ None → after_blanks s ≡ s
unfolding after_blanks
after_blanks-none [] e = refl
after_blanks-none (x ∷ s) e = rw e refl

length_up_to : (n : ℕ) (s : List Spot) → length (after_blanks_up_to n s) ≤ length s
length_up_to zero s = omega arith
length_up_to (suc n) s =
    elim (next_blank s) as (λ o. next_blank s ≡ o → length (option_map_or (after_blanks_up_to n) o s) ≤ length s) [
      | Some t ↦ λ e. let z = length-next_blank s t e in let k : length (after_blanks_up_to n t) ≤ length t = length_up_to n t in omega arith
      | None ↦ λ e. omega arith
    ] refl

pub length-after_blanks : (s : List Spot) → length (after_blanks s) ≤ length s
unfolding after_blanks
length-after_blanks s = length_up_to (length s) s

-- ## What is left is the end of what was there

abbrev pub EndOf : List Spot → List Spot → Type 0
EndOf s t = (n : ℕ) × (t ≡ drop n s)

end_from_newline : (s : List Spot) → EndOf s (from_newline s)
end_from_newline [] = (0, refl)
end_from_newline (x ∷ s) = let more = end_from_newline s in elim (cases_Bool (x.byte == 10)) [
  | inl e ↦ (0, rw e refl)
  | inr e ↦ (suc more.0, rw e more.1)
]

end_after_comment : (s : List Spot) → EndOf s (after_comment s)
end_after_comment [] = (0, refl)
end_after_comment (x ∷ s) = let more = end_after_comment s in elim (cases_Bool (begins (codes "*/") (x ∷ s))) [
  | inl e ↦ (2, rw e (drop_two s))
  | inr e ↦ (suc more.0, rw e more.1)
] where
  drop_two : (s : List Spot) → drop 1 s ≡ drop 2 (x ∷ s)
  drop_two s = refl

pub EndOf-drop : (s t : List Spot) (n : ℕ) → EndOf (drop n s) t → EndOf s t
EndOf-drop s t n h = (n + h.0, h.1 ∙ drop-drop h.0 n s)

end_next_blank : (s t : List Spot) → next_blank s ≡ Some t → EndOf s t
unfolding next_blank
end_next_blank s t e = elim (chosen (first_is_blank s) (begins (codes "//") s) (begins (codes "/*") s) _ _ _ t e) [
  | inl h ↦ (1, sym h.1)
  | inr (inl h) ↦ let more = end_from_newline s in (more.0, sym h.2 ∙ more.1)
  | inr (inr h) ↦ let more = EndOf-drop s (after_comment (drop 2 s)) 2 (end_after_comment (drop 2 s)) in (more.0, sym h.3 ∙ more.1)
]

end_up_to : (n : ℕ) (s : List Spot) → EndOf s (after_blanks_up_to n s)
end_up_to zero s = (0, refl)
end_up_to (suc n) s =
    elim (next_blank s) as (λ o. next_blank s ≡ o → EndOf s (option_map_or (after_blanks_up_to n) o s)) [
      | Some t ↦ λ e. let here = end_next_blank s t e in let more = end_up_to n t in (here.0 + more.0, more.1 ∙ ap (drop more.0) here.1 ∙ drop-drop more.0 here.0 s)
      | None ↦ λ e. (0, refl)
    ] refl

pub end_after_blanks : (s : List Spot) → EndOf s (after_blanks s)
unfolding after_blanks
end_after_blanks s = end_up_to (length s) s

-- and no blank stands there
next_none : next_blank [] ≡ None
unfolding next_blank
next_none = refl

stops_up_to : (n : ℕ) (s : List Spot) → length s ≤ n → next_blank (after_blanks_up_to n s) ≡ None
stops_up_to zero [] h = next_none
stops_up_to zero (x ∷ s) h = absurd (omega arith)
stops_up_to (suc n) s h =
    elim (next_blank s) as (λ o. next_blank s ≡ o → next_blank (option_map_or (after_blanks_up_to n) o s) ≡ None) [
      | Some t ↦ λ e. let z = length-next_blank s t e in stops_up_to n t (omega arith)
      | None ↦ λ e. e
    ] refl

pub after_blanks-stops : (s : List Spot) → next_blank (after_blanks s) ≡ None
unfolding after_blanks
after_blanks-stops s = stops_up_to (length s) s (omega arith)
