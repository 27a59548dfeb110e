-- Folders, part by part.
use Rattle.std.proofs.Common.{◌≡◌, ℕ, Bool, true, false, if◌then◌else◌, List, [], ◌∷◌, ◌++◌, map, refl, ap}
use Rattle.std.specs.Borrow.{Bor}
use Rattle.scan_model.specs.Paths.{normal}
use Rattle.program_words.specs.Words.{folders_in, is_named, with_part}

-- the folders of these parts
abbrev pub after_parts : List (Bor (List ℕ)) → List (List ℕ)
after_parts parts = folders_in (map (λ s. s.now) parts)

one_part : (b : Bool) (part : List ℕ) → map (λ p. normal p) (if b then part ∷ [] else []) ≡ (if b then [] ++ normal part ∷ [] else [])
one_part true part = refl
one_part false part = refl

behind : (b c : Bool) (first last : List ℕ) (rest more : List (List ℕ)) → map (λ p. normal p) more ≡ (if c then map (λ p. normal p) rest ++ normal last ∷ [] else map (λ p. normal p) rest)
    → map (λ p. normal p) (if b then first ∷ more else more) ≡ (if c then map (λ p. normal p) (if b then first ∷ rest else rest) ++ normal last ∷ [] else map (λ p. normal p) (if b then first ∷ rest else rest))
behind true true first last rest more e = ap (λ ps. normal first ∷ ps) e
behind true false first last rest more e = ap (λ ps. normal first ∷ ps) e
behind false true first last rest more e = e
behind false false first last rest more e = e

pub parts_push : (parts : List (Bor (List ℕ))) (part : Bor (List ℕ)) → after_parts (parts ++ part ∷ []) ≡ with_part (after_parts parts) part.now
parts_push [] part = one_part (is_named part.now) part.now
parts_push (first ∷ parts) part = behind (is_named first.now) (is_named part.now) first.now part.now _ _ (parts_push parts part)
