-- What callers take from the clauses of a unit.
use Rattle.std.proofs.Common.{◌≡◌, ℕ, suc, List, [], ◌∷◌, ◌++◌, length, slice_get, refl, ap, sym, ◌∙◌, subst}
use Rattle.std.specs.Prelude.{Some}
use Rattle.scan_model.specs.declared.command.Job.TheVariants as JobIs
use Rattle.scan_model.specs.declared.unit_end.UnitEnd.{UnitEnd}
use Rattle.scan_model.specs.Files.{FileMap}
use Rattle.scan_model.specs.Answer.{Known, answer, looked}
use Rattle.unit_laws.specs.Reduction.{Given, reduced}
use Rattle.unit_laws.specs.KnownAnswers.{Agrees, asked}
use Rattle.unit_laws.proofs.GrowingAnswers.{begins_longer}
use Rattle.unit_steps.specs.UnitView.{UnitView, Asks, Over, Fits, FitsPhase, told}
use Rattle.unit_steps.proofs.Reaching.{all_one}

next_one : (xs : List (List ℕ)) (p : List ℕ) (rest : List (List ℕ)) → slice_get ((xs ++ p ∷ []) ++ rest) (length xs) ≡ Some p
next_one [] p rest = refl
next_one (x ∷ xs) p rest = next_one xs p rest

pub length_asked : (answers : List (List ℕ × Given)) → length (asked answers) ≡ length answers
length_asked [] = refl
length_asked (a ∷ answers) = ap (λ n. suc n) (length_asked answers)

-- with k answers the path that is waiting is the k-th, from 0, that any agreeing map looks at
pub kth_looked : (u : UnitView) (path : List ℕ) (files : FileMap (List ℕ)) → u.phase ≡ Asks path → Fits u → Agrees files u.answers →
    slice_get (looked files u.settings (JobIs.Run u.command)) (length u.answers) ≡ Some path
kth_looked u path files asks fits agree =
    let h = (subst (λ z. FitsPhase u.settings u.command u.answers z) asks fits).0 files agree in
    let k = begins_longer (asked u.answers ++ path ∷ []) (looked files u.settings (JobIs.Run u.command)) h in
    ap (λ n. slice_get (looked files u.settings (JobIs.Run u.command)) n) (sym (length_asked u.answers))
    ∙ ap (λ z. slice_get z (length (asked u.answers))) k.1 ∙ next_one (asked u.answers) path k.0

-- at the end: the answer, and no further look
pub end_is_answer : (u : UnitView) (end : UnitEnd) (files : FileMap (List ℕ)) → u.phase ≡ Over end → Fits u → Agrees files u.answers →
    (answer files u.settings (JobIs.Run u.command) ≡ Known end) × (looked files u.settings (JobIs.Run u.command) ≡ asked u.answers)
end_is_answer u end files over fits agree = subst (λ z. FitsPhase u.settings u.command u.answers z) over fits files agree

-- an answer that is the map's row keeps the agreement
pub agrees_given : (files : FileMap (List ℕ)) (answers : List (List ℕ × Given)) (path : List ℕ) (content : Given) → Agrees files answers → reduced files path ≡ Some content →
    Agrees files (answers ++ told (Asks path) content)
agrees_given files answers path content agree row = all_one (λ a. reduced files a.0 ≡ Some a.1) answers (path, content) agree row
