-- Literals between quotes, byte by byte.
use Rattle.std.proofs.Common.{◌≡◌, ℕ, ◌+◌, ◌<◌, ◌≤◌, Bool, true, false, not, cond, ◌==◌, ◌&&◌, List, refl, ap, sym, ◌∙◌, drop, length, get_or, slice_index, Option, Some, None}
use Rattle.std.proofs.lemmas.Bool.{eq-eqb, ne_eqb}
use Rattle.std.proofs.lemmas.List.{at_drop_more, at_drop_all}
use Rattle.std.specs.Option.{option_map_or}
use Rattle.scan_model.specs.Spelling.{encoding_len, after_items, is_suffix, is_quoted}

items_step : (quote : ℕ) (escaped : Bool) (t : List ℕ) (i : ℕ) → i < length t
    → after_items quote escaped (drop i t)
    ≡ cond (get_or t i 0 == 10) None (cond (not escaped && get_or t i 0 == quote) (Some (drop (i + 1) t)) (after_items quote (not escaped && get_or t i 0 == 92) (drop (i + 1) t)))
unfolding after_items
items_step quote escaped t i lt = at_drop_more (after_items quote escaped) t i 0 lt

pub items_newline : (quote : ℕ) (escaped : Bool) (t : List ℕ) (i : ℕ) → i < length t → get_or t i 0 ≡ 10 → after_items quote escaped (drop i t) ≡ None
items_newline quote escaped t i lt e = let here : (get_or t i 0 == 10) ≡ true = eq-eqb (get_or t i 0) 10 e in
    items_step quote escaped t i lt ∙ rw here refl

pub items_close : (quote : ℕ) (escaped : Bool) (t : List ℕ) (i : ℕ) → i < length t → (get_or t i 0 ≡ 10 → ⊥) → (not escaped && get_or t i 0 == quote) ≡ true
    → after_items quote escaped (drop i t) ≡ Some (drop (i + 1) t)
items_close quote escaped t i lt ne closes = let other : (get_or t i 0 == 10) ≡ false = ne_eqb (get_or t i 0) 10 ne in
    items_step quote escaped t i lt ∙ rw (other, closes) refl

pub items_more : (quote : ℕ) (escaped : Bool) (t : List ℕ) (i : ℕ) → i < length t → (get_or t i 0 ≡ 10 → ⊥) → (not escaped && get_or t i 0 == quote) ≡ false
    → after_items quote escaped (drop i t) ≡ after_items quote (not escaped && get_or t i 0 == 92) (drop (i + 1) t)
items_more quote escaped t i lt ne goes_on = let other : (get_or t i 0 == 10) ≡ false = ne_eqb (get_or t i 0) 10 ne in
    items_step quote escaped t i lt ∙ rw (other, goes_on) refl

pub items_end : (quote : ℕ) (escaped : Bool) (t : List ℕ) (i : ℕ) → length t ≤ i → after_items quote escaped (drop i t) ≡ None
unfolding after_items
items_end quote escaped t i le = at_drop_all (after_items quote escaped) t i le

-- no opening quote stands behind the prefix
pub not_quoted : (quote n : ℕ) (s : List ℕ) → n ≡ encoding_len s → (slice_index s n == quote) ≡ false → is_quoted quote s ≡ false
unfolding is_quoted
not_quoted quote n s e none = let other : (slice_index s (encoding_len s) == quote) ≡ false = ap (λ k. slice_index s k == quote) (sym e) ∙ none in rw other refl

-- one does, and what follows its closing quote is this
pub quoted_by : (quote n : ℕ) (s : List ℕ) (after : Option (List ℕ)) → n ≡ encoding_len s → (slice_index s n == quote) ≡ true → after ≡ after_items quote false (drop (n + 1) s)
    → is_quoted quote s ≡ option_map_or is_suffix after false
unfolding is_quoted
quoted_by quote n s after e some f = rw (← e) (rw (some, f) refl)
