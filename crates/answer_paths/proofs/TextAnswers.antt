-- An end that isn't want of memory is that of what was read.
use Rattle.std.proofs.Common.{◌≡◌, ◌≢◌, ℕ, List, [], ◌∷◌, ◌++◌, refl, sym, ◌∙◌, subst, lit<}
use Rattle.std.specs.Prelude.{Option, Some, None, Contains, IsSome}
use Rattle.std.proofs.lemmas.List.Elements.{Contains-append_left, Contains-append_right}
use Rattle.scan_model.specs.declared.command.Settings.{Settings}
use Rattle.scan_model.specs.declared.command.Job.{Job}
use Rattle.scan_model.specs.declared.unit_end.UnitEnd.{UnitEnd}
use Rattle.scan_model.specs.declared.unit_end.UnitEnd.TheVariants as Ends
use Rattle.scan_model.specs.Files.{Content, Present, Absent, Failed, Big, NoMemory, FileMap}
use Rattle.scan_model.specs.WholeFile.{View}
use Rattle.scan_model.specs.Answer.{Answer, Known, Unread, answer_by, looked_by}
use Rattle.unit_laws.proofs.GrowthLemmas.{Longer}
use Rattle.unit_laws.proofs.GrowingAnswers.{answer_stays, looked_grows, needs_last, begins_longer}
use Rattle.answer_paths.specs.LookedPaths.{EndIsOfTexts}
use Rattle.answer_paths.proofs.LookedRuns.{end_has_paths, end_has_texts}

-- what was read, but where memory was wanting for it
abbrev read_of : {X : Type 0} → Option (Content X) → Option (Content X)
read_of None = None
read_of (Some NoMemory) = None
read_of (Some content) = Some content

read_is : {X : Type 0} (o : Option (Content X)) (content : Content X) → read_of o ≡ Some content → o ≡ Some content
read_is None content h = cc
read_is (Some NoMemory) content h = cc
read_is (Some (Present x)) content h = h
read_is (Some Absent) content h = h
read_is (Some Failed) content h = h
read_is (Some Big) content h = h

read_has_memory : {X : Type 0} (o : Option (Content X)) (content : Content X) → read_of o ≡ Some content → content ≢ NoMemory
read_has_memory None content h e = cc
read_has_memory (Some NoMemory) content h e = cc
read_has_memory (Some (Present x)) content h e = cc
read_has_memory (Some Absent) content h e = cc
read_has_memory (Some Failed) content h e = cc
read_has_memory (Some Big) content h e = cc

-- what the map has, and not for want of memory, was read
read_of_some : {X : Type 0} (o : Option (Content X)) → IsSome o → o ≢ Some NoMemory → read_of o ≢ None
read_of_some None some memory e = cc
read_of_some (Some NoMemory) some memory e = memory refl
read_of_some (Some (Present x)) some memory e = cc
read_of_some (Some Absent) some memory e = cc
read_of_some (Some Failed) some memory e = cc
read_of_some (Some Big) some memory e = cc

module _ (X : Type 0) (view : View X) (files : FileMap X) (settings : Settings) (job : Job) where
  abbrev texts : FileMap X
  texts path = read_of (files path)

  abbrev IsEnd : UnitEnd → FileMap X → Type 0
  IsEnd end other = (answer_by view other settings job ≡ Known end) × (looked_by view other settings job ≡ looked_by view files settings job)

  -- no path is needed beyond what was read
  read_enough : (end : UnitEnd) (path : List ℕ) → answer_by view files settings job ≡ Known end → end ≢ Ends.NoMemory → answer_by view texts settings job ≡ Unread path → ⊥
  read_enough end path known memory needs =
      let last = needs_last X view texts settings job path needs in
      let longer : Longer (looked_by view texts settings job) (looked_by view files settings job) = begins_longer _ _ (looked_grows X view texts files settings job (λ path content h. read_is (files path) content h)) in
      let here : Contains (last.1.0 ++ path ∷ []) path = Contains-append_right last.1.0 (path ∷ []) path (0, lit< tt, refl) in
      let there : Contains (looked_by view texts settings job) path = subst (λ z. Contains z path) (sym last.1.1) here in
      let contained : Contains (looked_by view files settings job) path = subst (λ z. Contains z path) (sym longer.1) (Contains-append_left (looked_by view texts settings job) longer.0 path there) in
      read_of_some (files path) (end_has_paths X view files settings job end known path contained) (end_has_texts X view files settings job end known memory path contained) last.0

  read_end : (end : UnitEnd) → answer_by view files settings job ≡ Known end → end ≢ Ends.NoMemory → (answer : Answer) → answer_by view texts settings job ≡ answer → IsEnd end texts
  read_end end known memory (Known other) is =
      let stays = answer_stays X view texts files settings job other (λ path content h. read_is (files path) content h) is in
      (is ∙ sym stays.0 ∙ known, sym stays.1)
  read_end end known memory (Unread path) is = absurd (read_enough end path known memory is)

pub end_is_of_texts : (X : Type 0) (view : View X) → EndIsOfTexts X view
end_is_of_texts X view files other settings job end has known memory =
    let read = read_end X view files settings job end known memory (answer_by view (texts X view files settings job) settings job) refl in
    let stays = answer_stays X view (texts X view files settings job) other settings job end
    (λ path content h. has path content (read_is (files path) content h) (read_has_memory (files path) content h)) read.0 in
    (stays.0, stays.1 ∙ read.1)
