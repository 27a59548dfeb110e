-- Places of spots in the text.
use Rattle.std.proofs.Common.{◌≡◌, ◌≢◌, ℕ, ◌+◌, ◌<◌, ◌==◌, List, [], ◌∷◌, ap, sym, ◌∙◌, inl, inr, drop, length, arith, Some}
use Rattle.std.proofs.lemmas.Bool.{cases_lt, cond_both}
use Rattle.std.proofs.lemmas.List.{drop_all}
use Rattle.line_splice.specs.declared.cursor.Cursor.{Cursor}
use Rattle.line_splice.specs.Cursor.{text_of, rest}
use Rattle.line_splice.proofs.ShownLemmas.{place_is}
use Rattle.scan_model.specs.Spliced.{Spot, shown, byte_at, place_at}
use Rattle.scan_model.specs.Tokens.{written_after}

-- at the text's end only the newline shows that is added
added_byte : (last place line b : ℕ) → byte_at (shown last 0 place line []) ≡ Some b → b ≡ 10
unfolding shown
added_byte last place line b here =
    cond_both (last == 10) [] (record { byte = 10; place = place; line = line } ∷ []) (λ l. byte_at l ≡ Some b → b ≡ 10) (λ e h. cc) (λ e h. cc) here

pub place_inside : (c : Cursor) (b : ℕ) → byte_at (rest c) ≡ Some b → b ≢ 10 → place_at (text_of c) (rest c) < length (text_of c)
unfolding rest
place_inside c b here ne =
    let is = place_is c.text.now c.last c.place c.line c.shows c.within in
    elim (cases_lt c.place (length c.text.now)) [
      | inl lt ↦ omega (arith, is, lt)
      | inr le ↦ absurd (ne (added_byte c.last c.place c.line b (ap (λ t. byte_at (shown c.last 0 c.place c.line t)) (sym (drop_all c.place c.text.now le)) ∙ here)))
    ]

pub written_is : (text : List ℕ) (s : List Spot) (b place : ℕ) → byte_at s ≡ Some b → place ≡ place_at text s → written_after text s ≡ drop (place + 1) text
written_is text [] b place here e = cc
written_is text (x ∷ s) b place here e = ap (λ k. drop (k + 1) text) (sym e)
