-- The stack, whose last file is at the top.
use Rattle.std.proofs.Common.{◌≡◌, ℕ, ◌-◌, ◌<◌, List, [], ◌∷◌, ◌++◌, map, reverse, length, refl, ap, sym, ◌∙◌, append_assoc}
use mathlib.Core.List.{reverse_aux}
use Rattle.std.specs.List.{AllByRecursion}
use Rattle.std.proofs.lemmas.List.{reverse-append, length-map, length-reverse}
use Rattle.unit_laws.specs.Reduction.{Given}
use Rattle.unit_steps.proofs.Reaching.{all_parts, all_one}
use Rattle.unit_scan.specs.declared.parts.OpenFile.{OpenFile}
use Rattle.unit_scan.specs.Parts.{IsFile, frame_of, frames_of}

pub top_first : (below : List OpenFile) (f : OpenFile) → reverse (below ++ f ∷ []) ≡ f ∷ reverse below
top_first below f = reverse-append below (f ∷ [])

module _ (answers : List (List ℕ × Given)) where
  pub frames_with : (below : List OpenFile) (f : OpenFile) → frames_of answers (below ++ f ∷ []) ≡ frame_of answers f ∷ frames_of answers below
  frames_with below f = ap (map (frame_of answers)) (top_first below f)

  pub frames_count : (files : List OpenFile) → length (frames_of answers files) ≡ length files
  frames_count files = length-map (reverse files) (frame_of answers) ∙ length-reverse files

  pub last_file : (below : List OpenFile) (f : OpenFile) → AllByRecursion (IsFile answers) (below ++ f ∷ []) → AllByRecursion (IsFile answers) below × IsFile answers f
  last_file below f h = let parts = all_parts (IsFile answers) below (f ∷ []) h in (parts.0, parts.1.0)

  pub with_file : (below : List OpenFile) (f : OpenFile) → AllByRecursion (IsFile answers) below → IsFile answers f → AllByRecursion (IsFile answers) (below ++ f ∷ [])
  with_file below f h k = all_one (IsFile answers) below f h k

-- ## The last element of a list

-- the stack as the files below and the one at the top
pub below_top : (files : List OpenFile) (f : OpenFile) (fs : List OpenFile) → reverse files ≡ f ∷ fs → files ≡ reverse fs ++ f ∷ []
below_top files f fs is = sym (twice files []) ∙ ap reverse is ∙ onto fs (f ∷ []) where
  twice : (xs ys : List OpenFile) → reverse_aux (reverse_aux xs ys) [] ≡ reverse_aux ys xs
  twice [] ys = refl
  twice (x ∷ xs) ys = twice xs (x ∷ ys)

  onto : (xs ys : List OpenFile) → reverse_aux xs ys ≡ reverse xs ++ ys
  onto [] ys = refl
  onto (x ∷ xs) ys = onto xs (x ∷ ys) ∙ sym (append_assoc (reverse xs) (x ∷ []) ys) ∙ ap (λ z. z ++ ys) (sym (onto xs (x ∷ [])))
