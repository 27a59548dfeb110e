-- Lists of ends, of which each place has one.
use Rattle.std.proofs.Common.{◌≡◌, List, [], ◌∷◌, ◌++◌, map, reverse, ap, sym, ◌∙◌, subst, Option, Some, None}
use Rattle.std.specs.Prelude.{All, IsSome}
use Rattle.std.proofs.lemmas.List.{reverse-append}
use Rattle.std.proofs.lemmas.List.Elements.{All-head}
use Rattle.shard_cache.proofs.RowLemmas.{All-parts}

module _ {A : Type 0} where
  -- there is no place without one
  pub none_left : (made : List A) (left rest ends : List (Option A)) → left ≡ rest ++ None ∷ [] → map Some made ++ reverse left ≡ ends → All (λ end. IsSome end) ends → ⊥
  none_left made left rest ends e h some =
      let P : Option A → Type 0 = λ end. IsSome end in
      let is : ends ≡ map Some made ++ None ∷ reverse rest = sym h ∙ ap (λ z. map Some made ++ reverse z) e ∙ ap (λ z. map Some made ++ z) (reverse-append rest (None ∷ [])) in
      let parts = All-parts P (map Some made) (None ∷ reverse rest) (subst (λ z. All P z) is some) in
      let no : IsSome {T = A} None = All-head P None (reverse rest) parts.1 in cc
