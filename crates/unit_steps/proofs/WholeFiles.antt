-- What stands over kept lines stands over whole files.
use Rattle.std.proofs.Common.{◌≡◌, ℕ, Bool, true, false, ◌&&◌, if◌then◌else◌, List, [], ◌∷◌, ◌++◌, refl, ap, sym, ◌∙◌, subst}
use Rattle.std.specs.Prelude.{Option, Some, None}
use Rattle.std.specs.Option.{option_map}
use Rattle.std.specs.List.{filter, list_all}
use Rattle.scan_model.specs.declared.token.Line.{Line}
use Rattle.scan_model.specs.declared.command.Job.TheVariants as JobIs
use Rattle.scan_model.specs.declared.unit_end.UnitEnd.{UnitEnd}
use Rattle.scan_model.specs.Lines.{lines, kept, is_directive}
use Rattle.scan_model.specs.Files.{FileMap, Content, Present, Absent, Failed, Big, NoMemory}
use Rattle.scan_model.specs.State.{Setup}
use Rattle.scan_model.specs.Answer.{Answer, Known, answer, looked}
use Rattle.unit_laws.specs.Reduction.{Given, reduced, reduced_content}
use Rattle.unit_laws.specs.Growth.{Begins}
use Rattle.unit_laws.specs.KnownAnswers.{Agrees, asked}
use Rattle.unit_laws.proofs.KeptAnswers.{reduced_answers}
use Rattle.unit_laws.proofs.GrowingAnswers.{longer_begins}
use Rattle.unit_steps.specs.Searches.{Search}
use Rattle.unit_steps.specs.Moments.{Moment}
use Rattle.unit_steps.specs.Stands.{AreKept, Stands, StandsAtEnd}
use Rattle.unit_steps.proofs.Asking.{asks_next, asks_needed}

one_kept : {X : Type 0} (p : X → Bool) (x : X) (xs : List X) → list_all p xs ≡ true → (b : Bool) → p x ≡ b → list_all p (if b then x ∷ xs else xs) ≡ true
one_kept p x xs h true e = ap (λ z. z && list_all p xs) e ∙ h
one_kept p x xs h false e = h

all_kept : {X : Type 0} (p : X → Bool) (xs : List X) → list_all p (filter p xs) ≡ true
all_kept p [] = refl
all_kept p (x ∷ xs) = one_kept p x (filter p xs) (all_kept p xs) (p x) refl

bytes_kept : (bytes : List ℕ) → list_all is_directive (kept bytes) ≡ true
unfolding kept
bytes_kept bytes = all_kept is_directive (lines bytes)

content_kept : (o : Option (Content (List ℕ))) (ls : List Line) → option_map reduced_content o ≡ Some (Present ls) → list_all is_directive ls ≡ true
content_kept None ls h = cc
content_kept (Some (Present bytes)) ls h = let same : kept bytes ≡ ls = cc in subst (λ z. list_all is_directive z ≡ true) same (bytes_kept bytes)
content_kept (Some Absent) ls h = cc
content_kept (Some Failed) ls h = cc
content_kept (Some Big) ls h = cc
content_kept (Some NoMemory) ls h = cc

pub reduced_are_kept : (files : FileMap (List ℕ)) → AreKept (reduced files)
reduced_are_kept files path ls h = content_kept (files path) ls h

-- while a path is sought, it and those that were asked for begin what every agreeing map of whole files looks at
pub asks_of_whole_files : (setup : Setup) (m : Moment) (answers : List (List ℕ × Given)) (sought : Search) (p : List ℕ) (ps : List (List ℕ)) →
    m.search ≡ Some sought → sought.paths ≡ p ∷ ps → Stands setup m answers →
    (files : FileMap (List ℕ)) → Agrees files answers → Begins (asked answers ++ p ∷ []) (looked files setup.settings (JobIs.Run setup.command))
asks_of_whole_files setup m answers sought p ps looking paths h files agree =
    subst (λ z. Begins (asked answers ++ p ∷ []) z) (reduced_answers files setup.settings (JobIs.Run setup.command)).1
    (longer_begins (asked answers ++ p ∷ []) _ (asks_next setup m answers sought p ps looking paths h (reduced files) (reduced_are_kept files) agree))

-- an end is that of every such map, and the paths that were asked for are all that it looks at
pub end_of_whole_files : (setup : Setup) (end : UnitEnd) (answers : List (List ℕ × Given)) → StandsAtEnd setup end answers →
    (files : FileMap (List ℕ)) → Agrees files answers →
    (answer files setup.settings (JobIs.Run setup.command) ≡ Known end) × (looked files setup.settings (JobIs.Run setup.command) ≡ asked answers)
end_of_whole_files setup end answers h files agree =
    let here = h (reduced files) (reduced_are_kept files) agree in
    let same = reduced_answers files setup.settings (JobIs.Run setup.command) in
    (sym same.0 ∙ here.0, sym same.1 ∙ here.1)

-- where the map of whole files lacks the path that is sought, it is the one that the answer needs
pub needs_of_whole_files : (setup : Setup) (m : Moment) (answers : List (List ℕ × Given)) (sought : Search) (p : List ℕ) (ps : List (List ℕ)) →
    m.search ≡ Some sought → sought.paths ≡ p ∷ ps → Stands setup m answers →
    (files : FileMap (List ℕ)) → Agrees files answers → files p ≡ None → answer files setup.settings (JobIs.Run setup.command) ≡ Answer.Unread p
needs_of_whole_files setup m answers sought p ps looking paths h files agree none =
    sym (reduced_answers files setup.settings (JobIs.Run setup.command)).0
    ∙ asks_needed setup m answers sought p ps looking paths h (reduced files) (reduced_are_kept files) agree (ap (option_map reduced_content) none)
