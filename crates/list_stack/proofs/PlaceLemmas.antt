-- What the places that entries know say of the lists between them.
use Rattle.std.proofs.Common.{◌≡◌, sym, ◌∙◌, ap, subst, refl, ℕ, zero, suc, ◌+◌, ◌-◌, ◌<◌, ◌≤◌, Bool, true, false, List, [], ◌∷◌, ◌++◌, length, get_or, append_assoc, length-append, arith}
use Rattle.std.specs.Prelude.{Option, Some, None}
use Rattle.std.specs.Option.{option_map}
use Rattle.scan_model.specs.declared.token.Tok.{Tok}
use Rattle.scan_model.specs.TokenTests.{is_comma, is_open_paren, is_close_paren}
use Rattle.scan_model.specs.Parentheses.{Enclosed, enclosed, in_parens}
use Rattle.substitution.specs.declared.marked.Marked.{Marked}
use Rattle.list_stack.specs.declared.entry.Entry.{Entry}
use Rattle.list_stack.specs.declared.entry.Places.{Places}
use Rattle.list_stack.specs.Places.{places_of, found_at, is_stop, part, Closes, ClosesAt, CommaAt, HasComma, CutsAt, AreEnds, parts_above, lowest}
use Rattle.list_stack.specs.Stacks.{cut_lists}
use Rattle.list_stack.proofs.PartLemmas.{enclosed-parts}
use Rattle.list_stack.proofs.FoundLemmas.{choose-then, found-past, found-never, found-less, found-in, found-behind, found-enclosed, prefix, prefix-nil, prefix-prefix, Stops, stops, whole-unstopped, whole-none, Same, same-split}
use Rattle.list_stack.proofs.EntryLemmas.{length-part, part-split, part-at, part-to, part-empty, part-head, parts_above-push, lowest-push, AreEnds-push}

-- ## Places between two

module _ (test : Tok → Bool) (from end : ℕ) (es : List Entry) (within : from ≤ end) (below : end ≤ length es) where
  pub found-below : (q : ℕ) → found_at test 0 (part 0 end es) ≡ Some q → q < end
  found-below q h = omega (arith, found-less test 0 (part 0 end es) q h, length-part 0 end es below)

  whole : found_at test 0 (part 0 end es) ≡ found_at test 0 (part from end es ++ part 0 from es)
  whole = ap (found_at test 0) (part-split 0 from end es (omega arith) within below)

  rest-length : length (part 0 from es) ≡ from
  rest-length = length-part 0 from es (omega arith) ∙ omega arith

  some-same : (n q : ℕ) → (let o : Option ℕ = Some n in o) ≡ Some q → n ≡ q
  some-same n q h = cc

  found-by : (q : ℕ) (o : Option ℕ) → found_at test 0 (part from end es) ≡ o → found_at test 0 (part 0 end es) ≡ Some q → from ≤ q → o ≡ Some (q - from)
  found-by q None e h l = absurd (omega (arith, found-behind test 0 (part from end es) (part 0 from es) q e (sym whole ∙ h), rest-length))
  found-by q (Some r) e h l =
      let sum : r + length (part 0 from es) ≡ q = some-same _ _ (sym (found-in test 0 (part from end es) (part 0 from es) r e) ∙ sym whole ∙ h) in
      ap (λ (x : ℕ). let o : Option ℕ = Some x in o) (omega (arith, sum, rest-length))

  -- what is found above the lower place is in the list between them
  pub found-part : (q : ℕ) → found_at test 0 (part 0 end es) ≡ Some q → from ≤ q → found_at test 0 (part from end es) ≡ Some (q - from)
  found-part q h l = found-by q (found_at test 0 (part from end es)) refl h l

  none-by : (o : Option ℕ) → found_at test 0 (part from end es) ≡ o → found_at test 0 (part 0 end es) ≡ None → o ≡ None
  none-by None e h = refl
  none-by (Some r) e h = let impossible = sym (found-in test 0 (part from end es) (part 0 from es) r e) ∙ sym whole ∙ h in absurd (cc)

  -- what isn't found down to the lowest entry isn't in the list between them
  pub found-none : found_at test 0 (part 0 end es) ≡ None → found_at test 0 (part from end es) ≡ None
  found-none h = none-by (found_at test 0 (part from end es)) refl h

  under-by : (q : ℕ) (o : Option ℕ) → found_at test 0 (part from end es) ≡ o → found_at test 0 (part 0 end es) ≡ Some q → q < from → o ≡ None
  under-by q None e h l = refl
  under-by q (Some r) e h l =
      let sum : r + length (part 0 from es) ≡ q = some-same _ _ (sym (found-in test 0 (part from end es) (part 0 from es) r e) ∙ sym whole ∙ h) in
      absurd (omega (arith, sum, rest-length))

  -- nor is what is found below the lower place
  pub found-under : (q : ℕ) → found_at test 0 (part 0 end es) ≡ Some q → q < from → found_at test 0 (part from end es) ≡ None
  found-under q h l = under-by q (found_at test 0 (part from end es)) refl h l

-- ## Past a `)`

same-places : (c c' s s' : Option ℕ) → c ≡ c' → s ≡ s' → ◌≡◌ {A = Places} (record { close = c; stop = s }) (record { close = c'; stop = s' })
same-places c c' s s' p q = rw (p, q)

pub places-past : (count close : ℕ) (es : List Entry) → count ≤ length es → found_at is_close_paren 0 (part 0 count es) ≡ Some close → places_of 1 (part 0 count es) ≡ places_of 0 (part 0 close es)
places-past count close es l h =
    let lower : close < count = found-below is_close_paren 0 count es (omega arith) l close h in
    let halves = part-split 0 close count es (omega arith) (omega arith) l in
    let closes : found_at is_close_paren 0 (part close count es ++ part 0 close es) ≡ Some (length (part 0 close es)) =
    sym (ap (found_at is_close_paren 0) halves) ∙ h ∙ ap (λ (n : ℕ). let o : Option ℕ = Some n in o) (omega (arith, length-part 0 close es (omega arith))) in
    ap (places_of 1) halves ∙ same-places _ _ _ _ (found-past is_close_paren 0 (part close count es) (part 0 close es) closes) (found-past is_stop 0 (part close count es) (part 0 close es) closes)

pub places-never : (ms : List Marked) → found_at is_close_paren 0 ms ≡ None → places_of 1 ms ≡ record { close = None; stop = None }
places-never ms h = same-places _ _ _ _ (found-never is_close_paren 0 ms h) (found-never is_stop 0 ms h)

-- ## Parentheses

same-enclosed : (i i' : List Marked) (c c' : Marked) (a a' : List Marked) → i ≡ i' → c ≡ c' → a ≡ a' →
    ◌≡◌ {A = Enclosed Marked} (record { inside = i; close = c; after = a }) (record { inside = i'; close = c'; after = a' })
same-enclosed i i' c c' a a' p q r = rw (p, q, r)

module _ (from top : ℕ) (es : List Entry) (within : from ≤ top) (below : top ≤ length es) where
  enclosed-by : (q : ℕ) (d : Entry) (o : Option (Enclosed Marked)) → enclosed (λ m. m.tok) 0 (part from top es) ≡ o → from ≤ q → q < top → option_map (λ e. length e.after) o ≡ Some (q - from) →
      o ≡ Some (record { inside = part (q + 1) top es; close = (get_or es q d).marked; after = part from q es })
  enclosed-by q d None e l m h = absurd (cc)
  enclosed-by q d (Some f) e l m h =
      let follow : length f.after ≡ q - from = cc in
      let s = same-split f.inside (part (q + 1) top es) f.close (get_or es q d).marked f.after (part from q es)
      (sym (enclosed-parts 0 (part from top es) f e) ∙ part-at from q top es d l m below) (follow ∙ sym (length-part from q es (omega arith))) in
      ap (λ (g : Enclosed Marked). let o : Option (Enclosed Marked) = Some g in o) (same-enclosed f.inside _ f.close _ f.after _ s.front s.middle s.rest)

  -- the `)` is in the list between the two places
  pub closed-at : (q : ℕ) (d : Entry) → found_at is_close_paren 0 (part 0 top es) ≡ Some q → from ≤ q →
      enclosed (λ m. m.tok) 0 (part from top es) ≡ Some (record { inside = part (q + 1) top es; close = (get_or es q d).marked; after = part from q es })
  closed-at q d h l =
      enclosed-by q d (enclosed (λ m. m.tok) 0 (part from top es)) refl l (found-below is_close_paren from top es within below q h)
      (sym (found-enclosed 0 (part from top es)) ∙ found-part is_close_paren from top es within below q h l)

  unclosed-by : (o : Option (Enclosed Marked)) → option_map (λ e. length e.after) o ≡ None → o ≡ None
  unclosed-by None h = refl
  unclosed-by (Some e) h = absurd (cc)

  pub unclosed : found_at is_close_paren 0 (part from top es) ≡ None → enclosed (λ m. m.tok) 0 (part from top es) ≡ None
  unclosed h = unclosed-by (enclosed (λ m. m.tok) 0 (part from top es)) (sym (found-enclosed 0 (part from top es)) ∙ h)

module _ (from top : ℕ) (es : List Entry) (d : Entry) (within : from ≤ top) (last : length es ≡ top + 1) where
  first-token : part from (length es) es ≡ (get_or es top d).marked ∷ part from top es
  first-token = ap (λ (n : ℕ). part from n es) last ∙ part-head from top es d within (omega arith)

  opened : is_open_paren (get_or es top d).marked.tok ≡ true → in_parens (λ m. m.tok) (part from (length es) es) ≡ enclosed (λ m. m.tok) 0 (part from top es)
  opened h = ap (in_parens (λ m. m.tok)) first-token ∙ choose-then (is_open_paren (get_or es top d).marked.tok) _ _ h

  pub closes-none : is_open_paren (get_or es top d).marked.tok ≡ true → found_at is_close_paren 0 (part 0 top es) ≡ None → Closes from es None
  closes-none h f = opened h ∙ unclosed from top es within (omega arith) (found-none is_close_paren from top es within (omega arith) f)

  pub closes-under : (q : ℕ) → is_open_paren (get_or es top d).marked.tok ≡ true → found_at is_close_paren 0 (part 0 top es) ≡ Some q → q < from → Closes from es None
  closes-under q h f l = opened h ∙ unclosed from top es within (omega arith) (found-under is_close_paren from top es within (omega arith) q f l)

  pub closes-at : (q : ℕ) → is_open_paren (get_or es top d).marked.tok ≡ true → found_at is_close_paren 0 (part 0 top es) ≡ Some q → from ≤ q → ClosesAt from es q
  closes-at q h f l =
      let lower : q < top = found-below is_close_paren from top es within (omega arith) q f in
      let top_is : top ≡ length es - 1 = omega arith in
      record {
        within = l;
        below_open = omega arith;
        parens = λ e. opened h ∙ closed-at from top es within (omega arith) q e f l
            ∙ ap (λ (n : ℕ). let o : Option (Enclosed Marked) = Some (record { inside = part (q + 1) n es; close = (get_or es q e).marked; after = part from q es }) in o) top_is;
      }

-- ## The first comma

-- no comma stands between these places where the list could be cut
pub record Searching (from end : ℕ) (es : List Entry) (at : ℕ) : Type 0 where
  pub within : from ≤ at
  pub below : at ≤ end
  pub same : (k : ℕ) → cut_lists (suc k) 0 (part from end es) ≡ prefix (part at end es) (cut_lists (suc k) 0 (part from at es))

module _ (from end : ℕ) (es : List Entry) (below : end ≤ length es) where
  pub searching-start : from ≤ end → Searching from end es end
  searching-start l = record {
    within = l;
    below = omega arith;
    same = λ k. sym (prefix-nil (suc k) 0 (part from end es)) ∙ ap (λ (xs : List Marked). prefix xs (cut_lists (suc k) 0 (part from end es))) (sym (part-empty end end es (omega arith) below));
  }

  -- the stop at q, as the lists between the places have it
  stop-at : (at q : ℕ) (d : Entry) → from ≤ at → at ≤ end → found_at is_stop 0 (part 0 at es) ≡ Some q → from ≤ q →
      (s : Stops 0 (part from at es) (q - from)) → Same s.front (part (q + 1) at es) s.stop (get_or es q d).marked s.rest (part from q es)
  stop-at at q d l m h n s =
      let lower : q < at = found-below is_stop from at es l (omega arith) q h in
      same-split s.front (part (q + 1) at es) s.stop (get_or es q d).marked s.rest (part from q es)
      (sym s.parts ∙ part-at from q at es d n lower (omega arith)) (s.follow ∙ sym (length-part from q es (omega arith)))

  pub searching-goes : (at q : ℕ) (d : Entry) → found_at is_stop 0 (part 0 at es) ≡ Some q → from ≤ q → is_comma (get_or es q d).marked.tok ≡ false → Searching from end es at → Searching from end es q
  searching-goes at q d h n other s =
      let lower : q < at = found-below is_stop from at es s.within (omega (arith, s.below)) q h in
      let t = stops 0 (part from at es) (q - from) (found-part is_stop from at es s.within (omega (arith, s.below)) q h n) in
      let same = stop-at at q d s.within s.below h n t in
      record {
        within = n;
        below = omega (arith, s.below);
        same = λ k. s.same k
            ∙ ap (prefix (part at end es)) (t.goes (ap (λ (m : Marked). is_comma m.tok) same.middle ∙ other) k
            ∙ ap (λ (xs : List Marked). prefix (xs ++ t.stop ∷ []) (cut_lists (suc k) 0 t.rest)) same.front
            ∙ ap (λ (m : Marked). prefix (part (q + 1) at es ++ m ∷ []) (cut_lists (suc k) 0 t.rest)) same.middle
            ∙ ap (λ (xs : List Marked). prefix (part (q + 1) at es ++ (get_or es q d).marked ∷ []) (cut_lists (suc k) 0 xs)) same.rest
            ∙ ap (λ (xs : List Marked). prefix xs (cut_lists (suc k) 0 (part from q es))) (sym (part-to q at es d lower (omega (arith, s.below)))))
            ∙ prefix-prefix (part at end es) (part q at es) (cut_lists (suc k) 0 (part from q es))
            ∙ ap (λ (xs : List Marked). prefix xs (cut_lists (suc k) 0 (part from q es))) (sym (part-split q at end es (omega arith) s.below below));
      }

  pub searching-found : (at q : ℕ) (d : Entry) → found_at is_stop 0 (part 0 at es) ≡ Some q → from ≤ q → is_comma (get_or es q d).marked.tok ≡ true → Searching from end es at → CommaAt from end es q
  searching-found at q d h n comma s =
      let lower : q < at = found-below is_stop from at es s.within (omega (arith, s.below)) q h in
      let t = stops 0 (part from at es) (q - from) (found-part is_stop from at es s.within (omega (arith, s.below)) q h n) in
      let same = stop-at at q d s.within s.below h n t in
      record {
        within = n;
        below = omega (arith, s.below);
        cuts = λ k. s.same k
            ∙ ap (prefix (part at end es)) (t.cuts (ap (λ (m : Marked). is_comma m.tok) same.middle ∙ comma) k
            ∙ ap (λ (xs : List Marked). xs ∷ cut_lists k 0 t.rest) same.front
            ∙ ap (λ (xs : List Marked). part (q + 1) at es ∷ cut_lists k 0 xs) same.rest)
            ∙ ap (λ (xs : List Marked). xs ∷ cut_lists k 0 (part from q es)) (sym (part-split (q + 1) at end es (omega arith) s.below below));
      }

  uncut : (at : ℕ) → Searching from end es at → found_at is_stop 0 (part from at es) ≡ None → HasComma from end es None
  uncut at s h zero = whole-none 0 (part from end es)
  uncut at s h (suc k) = s.same k ∙ ap (prefix (part at end es)) (whole-unstopped (suc k) 0 (part from at es) h)
      ∙ ap (λ (xs : List Marked). xs ∷ []) (sym (part-split from at end es s.within s.below below))

  pub searching-none : (at : ℕ) → found_at is_stop 0 (part 0 at es) ≡ None → Searching from end es at → HasComma from end es None
  searching-none at h s = uncut at s (found-none is_stop from at es s.within (omega (arith, s.below)) h)

  pub searching-under : (at q : ℕ) → found_at is_stop 0 (part 0 at es) ≡ Some q → q < from → Searching from end es at → HasComma from end es None
  searching-under at q h l s = uncut at s (found-under is_stop from at es s.within (omega (arith, s.below)) q h l)

-- ## All commas

pub record Cutting (most from : ℕ) (es : List Entry) (places : List ℕ) (at : ℕ) : Type 0 where
  pub few : length places ≤ most
  pub fall : AreEnds (length es) places
  pub at_is : at ≡ lowest (length es) places
  pub within : from ≤ at
  pub lists : cut_lists most 0 (part from (length es) es) ≡ parts_above es (length es) places ++ cut_lists (most - length places) 0 (part from at es)

module _ (most from : ℕ) (es : List Entry) where
  pub cutting-next : (places places' : List ℕ) (at comma : ℕ) → places' ≡ places ++ comma ∷ [] → length places < most → CommaAt from at es comma → Cutting most from es places at → Cutting most from es places' comma
  cutting-next places places' at comma p l c h = subst (λ (ps : List ℕ). Cutting most from es ps comma) (sym p) (
      let more = length-append places (comma ∷ []) in
      let one_less : most - length places ≡ suc (most - length (places ++ comma ∷ [])) = omega arith in
      record {
        few = omega arith;
        fall = AreEnds-push (length es) places comma h.fall (omega (arith, c.below, h.at_is));
        at_is = sym (lowest-push (length es) places comma);
        within = c.within;
        lists = h.lists
            ∙ ap (λ (k : ℕ). parts_above es (length es) places ++ cut_lists k 0 (part from at es)) one_less
            ∙ ap (λ (lists : List (List Marked)). parts_above es (length es) places ++ lists) (c.cuts (most - length (places ++ comma ∷ [])))
            ∙ sym (append_assoc (parts_above es (length es) places) (part (comma + 1) at es ∷ []) (cut_lists (most - length (places ++ comma ∷ [])) 0 (part from comma es)))
            ∙ ap (λ (lists : List (List Marked)). lists ++ cut_lists (most - length (places ++ comma ∷ [])) 0 (part from comma es))
            (ap (λ (n : ℕ). parts_above es (length es) places ++ part (comma + 1) n es ∷ []) h.at_is ∙ sym (parts_above-push es (length es) places comma));
      })

  ended : (places : List ℕ) (at : ℕ) → Cutting most from es places at → cut_lists (most - length places) 0 (part from at es) ≡ part from at es ∷ [] → CutsAt most from es places
  ended places at h e = record {
    fall = h.fall;
    within = omega (arith, h.within, h.at_is);
    lists = h.lists ∙ ap (λ (lists : List (List Marked)). parts_above es (length es) places ++ lists) e
        ∙ ap (λ (n : ℕ). parts_above es (length es) places ++ part from n es ∷ []) h.at_is;
  }

  pub cutting-full : (places : List ℕ) (at : ℕ) → most ≤ length places → Cutting most from es places at → CutsAt most from es places
  cutting-full places at l h =
      let none : most - length places ≡ 0 = omega arith in
      ended places at h (ap (λ (k : ℕ). cut_lists k 0 (part from at es)) none ∙ whole-none 0 (part from at es))
