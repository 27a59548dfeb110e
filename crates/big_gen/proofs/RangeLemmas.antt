-- A list with one entry for each number of a range, one number longer.
use Rattle.std.proofs.Common.{◌≡◌, ℕ, ◌+◌, ◌-◌, ◌≤◌, List, [], ◌∷◌, ◌++◌, map, ap, ◌∙◌, sym, append_assoc, append-nil, arith}
use Rattle.std.specs.List.{range_with_len, concat}
use Rattle.std.proofs.lemmas.List.FromFn.{map-range_with_len_more}

-- the number j is the next after those from a on
pub range_grows : {X : Type 0} (f : ℕ → X) (a j m : ℕ) → a ≤ j → m ≡ j + 1 - a →
    map f (range_with_len a m) ≡ map f (range_with_len a (j - a)) ++ f j ∷ []
range_grows f a j m low is =
    let next : a + (j - a) ≡ j = omega arith in
    let count : m ≡ j - a + 1 = omega arith in
    ap (λ n. map f (range_with_len a n)) count ∙ map-range_with_len_more f a (j - a) j next

-- a list that has gained the entry of the next number
pub one_more : {X : Type 0} (f : ℕ → X) (a j m : ℕ) (old before now : List X) → a ≤ j → m ≡ j + 1 - a →
    before ≡ old ++ map f (range_with_len a (j - a)) → now ≡ before ++ f j ∷ [] → now ≡ old ++ map f (range_with_len a m)
one_more f a j m old before now low is so_far pushed =
    pushed ∙ ap (◌++ f j ∷ []) so_far ∙ append_assoc old (map f (range_with_len a (j - a))) (f j ∷ [])
    ∙ ap (old ++◌) (sym (range_grows f a j m low is))

concat_one : (xs : List (List ℕ)) (x : List ℕ) → concat (xs ++ x ∷ []) ≡ concat xs ++ x
concat_one [] x = append-nil x
concat_one (y ∷ xs) x = ap (y ++◌) (concat_one xs x) ∙ sym (append_assoc y (concat xs) x)

-- the same for a text, to which each number adds a piece
pub one_piece_more : (f : ℕ → List ℕ) (a j m : ℕ) (old before now : List ℕ) → a ≤ j → m ≡ j + 1 - a →
    before ≡ old ++ concat (map f (range_with_len a (j - a))) → now ≡ before ++ f j → now ≡ old ++ concat (map f (range_with_len a m))
one_piece_more f a j m old before now low is so_far pushed =
    pushed ∙ ap (◌++ f j) so_far ∙ append_assoc old (concat (map f (range_with_len a (j - a)))) (f j)
    ∙ ap (old ++◌) (sym (ap concat (range_grows f a j m low is) ∙ concat_one (map f (range_with_len a (j - a))) (f j)))
