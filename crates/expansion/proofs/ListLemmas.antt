-- Lists that are put together and taken apart.
use Rattle.std.proofs.Common.{◌≡◌, ◌∙◌, ap, refl, suc, ◌+◌, List, [], ◌∷◌, ◌++◌, reverse, take, drop, length, get_or}
use Rattle.std.proofs.lemmas.List.{reverse-append}
use Rattle.std.proofs.lemmas.List.Sums.{sum_by-cons}
use Rattle.substitution.specs.declared.marked.Marked.{Marked}
use Rattle.expansion.specs.States.{weight_of_lists}

module _ {X : Type 0} where
  pub reverse-push : (xs ys : List X) (x : X) → ys ≡ xs ++ x ∷ [] → reverse ys ≡ x ∷ reverse xs
  reverse-push xs ys x h = ap reverse h ∙ reverse-append xs (x ∷ [])

  -- ## A list that stands before others

  pub take-front : (xs ys : List X) → take (length xs) (xs ++ ys) ≡ xs
  take-front [] ys = refl
  take-front (x ∷ xs) ys = ap (λ (zs : List X). x ∷ zs) (take-front xs ys)

  pub drop-beyond : (xs ys : List X) (y : X) → drop (suc (length xs)) (xs ++ y ∷ ys) ≡ ys
  drop-beyond [] ys y = refl
  drop-beyond (x ∷ xs) ys y = drop-beyond xs ys y

  pub get_or-beyond : (xs ys : List X) (y d : X) → get_or (xs ++ y ∷ ys) (length xs) d ≡ y
  get_or-beyond [] ys y d = refl
  get_or-beyond (x ∷ xs) ys y d = get_or-beyond xs ys y d

pub weight_of_lists-cons : (list : List Marked) (lists : List (List Marked)) → weight_of_lists (list ∷ lists) ≡ suc (length list) + weight_of_lists lists
weight_of_lists-cons list lists = sum_by-cons (λ (l : List Marked). suc (length l)) list lists
