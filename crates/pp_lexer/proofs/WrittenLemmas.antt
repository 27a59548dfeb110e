-- Bytes that show as they are written.
use Rattle.std.proofs.Common.{◌≡◌, ℕ, zero, suc, ◌+◌, ◌-◌, ◌<◌, ◌≤◌, true, List, [], ◌∷◌, refl, ap, sym, subst, ◌∙◌, inl, inr, take, drop, length, length-drop, arith}
use Rattle.std.proofs.lemmas.Bool.{and_parts, cases_order}
use Rattle.std.specs.List.{list_all}
use Rattle.line_splice.specs.declared.cursor.Cursor.{Cursor}
use Rattle.line_splice.specs.Cursor.{text_of, rest}
use Rattle.line_splice.proofs.PlainLemmas.{plain, not_newline, not_hidden}
use Rattle.line_splice.proofs.ShownLemmas.{place_is}
use Rattle.scan_model.specs.Spliced.{Spot, shown, place_at}
use Rattle.scan_model.specs.Tokens.{bytes}
use Rattle.pp_lexer.specs.Reads.{passed, IsAhead, shows_itself}
use Rattle.pp_lexer.proofs.PlaceLemmas.{Rises, shown_rises, above, place_later}

-- the first n spots are these bytes, one by one
record Written (n place : ℕ) (t : List ℕ) (text : List ℕ) (s : List Spot) : Type 0 where
  same : bytes (take n s) ≡ take n t
  further : Rises (place + n) (drop n s)
  nearer : (i : ℕ) → i < n → place_at text (drop i s) < place + n

-- one more
more : (n place line : ℕ) (c : ℕ) (t text : List ℕ) (s : List Spot) → Written n (place + 1) t text s → Written (suc n) place (c ∷ t) text (record { byte = c; place = place; line = line } ∷ s)
more n place line c t text s w = record {
  same = ap (λ b. c ∷ b) w.same;
  further = let e : place + 1 + n ≡ place + suc n = omega arith in subst (λ k. Rises k (drop n s)) e w.further;
  nearer = near n place line c t text s w;
} where
  near : (n place line : ℕ) (c : ℕ) (t text : List ℕ) (s : List Spot) → Written n (place + 1) t text s → (i : ℕ) → i < suc n → place_at text (drop i (record { byte = c; place = place; line = line } ∷ s)) < place + suc n
  near n place line c t text s w zero lt = omega arith
  near n place line c t text s w (suc i) lt = let k = w.nearer i (omega arith) in omega (arith, k)

written : (n last before place line : ℕ) (t text : List ℕ) → n ≤ length t → list_all shows_itself (take n t) ≡ true → Written n place t text (shown last before place line t)
unfolding shown
written zero last before place line t text le h = record {
  same = refl;
  further = shown_rises (place + 0) last before place line t (omega arith);
  nearer = λ i lt. absurd (omega arith);
}
written (suc n) last before place line [] text le h = absurd (omega arith)
written (suc n) last before place line (c ∷ t) text le h =
    let both = and_parts (shows_itself c) (list_all shows_itself (take n t)) h in
    let p = plain c both.0 in
    rw (not_hidden before c t p, not_newline c t p, p.lf) (more n place line c t text (shown c c (place + 1) line t) (written n c c (place + 1) line t text (omega arith) both.1))

-- what a cursor shows of them
of_cursor : (at : Cursor) (n : ℕ) → n ≤ length (drop at.place at.text.now) → list_all shows_itself (take n (drop at.place at.text.now)) ≡ true → Written n at.place (drop at.place at.text.now) at.text.now (rest at)
unfolding rest
of_cursor at n le h = written n at.last 0 at.place at.line (drop at.place at.text.now) at.text.now le h

place_of : (at : Cursor) → at.place ≡ place_at at.text.now (rest at)
unfolding rest
place_of at = place_is at.text.now at.last at.place at.line at.shows at.within

-- there are as many spots as bytes
counted : (at : Cursor) (t : List Spot) (n : ℕ) → IsAhead (rest at) t → place_at at.text.now t ≡ at.place + n → Written n at.place (drop at.place at.text.now) at.text.now (rest at)
    → length (rest at) - length t ≡ n
counted at t n ahead end w =
    let s = rest at in
    let k = length s - length t in
    let text = at.text.now in
    let there : place_at text t ≡ place_at text (drop k s) = ap (place_at text) ahead.1 in
    elim (cases_order k n) [
      | inl same ↦ same
      | inr (inl less) ↦ let near = w.nearer k less in absurd (omega (arith, near, there, end))
      | inr (inr more) ↦
          let some : 0 < length t = not_empty t s ahead.0 (omega arith) in
          let t_len : length t ≡ length (drop k s) = ap length ahead.1 in
          let within : k < length s = omega (arith, t_len, some, length-drop k s) in
          let far = place_later at n k text more within in
          let low = above (at.place + n) (drop n s) 0 text w.further (omega (arith, within, more, length-drop n s)) in
          absurd (omega (arith, far, low, there, end))
    ]
  where
    not_empty : (t s : List Spot) → (t ≡ [] → s ≡ []) → 0 < length s → 0 < length t
    not_empty [] s h some = let z : length s ≡ 0 = ap length (h refl) in absurd (omega (arith, z, some))
    not_empty (x ∷ t) s h some = omega arith

pub written_between : (at : Cursor) (t : List Spot) (source : List ℕ) (start end : ℕ) → text_of at ≡ source → IsAhead (rest at) t → start ≡ place_at source (rest at) → end ≡ place_at source t
    → start ≤ end → end ≤ length source → list_all shows_itself (take (end - start) (drop start source)) ≡ true
    → bytes (passed (rest at) t) ≡ take (end - start) (drop start source)
written_between at t source start end whole ahead from to le within h =
    let place : at.place ≡ start = place_of at ∙ ap (λ x. place_at x (rest at)) whole ∙ sym from in
    let same_drop : drop at.place at.text.now ≡ drop start source = ap (λ k. drop k at.text.now) place ∙ ap (drop start) whole in
    let n = end - start in
    let len : length (drop at.place at.text.now) ≡ length (drop start source) = ap length same_drop in
    let w = of_cursor at n (omega (arith, len, length-drop start source)) (ap (λ u. list_all shows_itself (take n u)) same_drop ∙ h) in
    let there : place_at at.text.now t ≡ at.place + n = let e : place_at at.text.now t ≡ end = ap (λ x. place_at x t) whole ∙ sym to in omega (arith, e, place, le) in
    ap (λ k. bytes (take k (rest at))) (counted at t n ahead there w) ∙ w.same ∙ ap (take n) same_drop
