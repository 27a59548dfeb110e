-- An answer that is given, and what it makes of the search.
use Rattle.std.proofs.Common.{◌≡◌, ℕ, Bool, true, false, if◌then◌else◌, List, [], ◌∷◌, ◌++◌, refl, ap, sym, ◌∙◌, subst, append_assoc, append-nil}
use Rattle.std.specs.Prelude.{Option, Some, None}
use Rattle.scan_model.specs.declared.token.Line.{Line}
use Rattle.scan_model.specs.declared.unit_end.Place.{Place}
use Rattle.scan_model.specs.declared.unit_end.UnitEnd.TheVariants as Ends
use Rattle.scan_model.specs.declared.unit_end.FaultKind.{FaultKind}
use Rattle.scan_model.specs.declared.unit_end.FaultKind.TheVariants as FaultIs
use Rattle.scan_model.specs.Files.{FileMap, Content, Present, Absent, Failed, Big, NoMemory, found_at, and_later, find, looked_at}
use Rattle.scan_model.specs.State.{Setup, Core, Needs, OutOfMemory}
use Rattle.scan_model.specs.Effect.{Effect, Now, Enters, Halts, fault}
use Rattle.scan_model.specs.Search.{with_found, on_found}
use Rattle.unit_laws.specs.Reduction.{Given}
use Rattle.unit_laws.specs.KnownAnswers.{asked}
use Rattle.unit_steps.specs.Searches.{Aim, First_file, Included, Search, searching, on_absent, on_present, on_given}
use Rattle.unit_steps.specs.Moments.{Moment, core_at}
use Rattle.unit_steps.specs.Stands.{Agree, AreLines, ActsOver, Acts, Stands, StandsAtEnd}
use Rattle.unit_steps.proofs.Reaching.{all_parts}
use Rattle.unit_steps.proofs.Steps.{same_effect, search_acts, search_begins, effect_stops, effect_faulty, effect_done}

-- the path was looked at
abbrev pub after_look : List ℕ → Core → Core
after_look path c = record c { looked = c.looked ++ path ∷ [] }

-- ## Files found

module _ (files : FileMap (List Line)) (place : Place) (p : List ℕ) (ps : List (List ℕ)) (c : Core) (a : Core → Effect (List Line)) (b : List ℕ → List Line → Core → Effect (List Line)) where
  abbrev by_content : Option (Content (List Line)) → Effect (List Line)
  by_content o = on_found place (record c { looked = c.looked ++ p ∷ and_later o (looked_at files ps) }) a b (found_at p o (find files ps))

  found_by : with_found files place (p ∷ ps) c a b ≡ by_content (files p)
  unfolding find looked_at
  found_by = refl

  absent_found : files p ≡ Some Absent → with_found files place (p ∷ ps) c a b ≡ with_found files place ps (after_look p c) a b
  absent_found h = found_by ∙ ap by_content h
      ∙ ap (λ z. on_found place (record c { looked = z }) a b (find files ps)) (sym (append_assoc c.looked (p ∷ []) (looked_at files ps)))

  present_found : (text : List Line) → files p ≡ Some (Present text) → with_found files place (p ∷ ps) c a b ≡ b p text (after_look p c)
  present_found text h = found_by ∙ ap by_content h

  failed_found : files p ≡ Some Failed → with_found files place (p ∷ ps) c a b ≡ Halts (fault FaultIs.ReadFault place) (after_look p c)
  failed_found h = found_by ∙ ap by_content h

  big_found : files p ≡ Some Big → with_found files place (p ∷ ps) c a b ≡ Halts (fault FaultIs.FileTooLarge place) (after_look p c)
  big_found h = found_by ∙ ap by_content h

  no_memory_found : files p ≡ Some NoMemory → with_found files place (p ∷ ps) c a b ≡ Halts OutOfMemory (after_look p c)
  no_memory_found h = found_by ∙ ap by_content h

  pub unread_found : files p ≡ None → with_found files place (p ∷ ps) c a b ≡ Halts (Needs p) (after_look p c)
  unread_found h = found_by ∙ ap by_content h

found_given : (files : FileMap (List Line)) (setup : Setup) (aim : Aim) (place : Place) (p : List ℕ) (ps : List (List ℕ)) (c : Core) (content : Given) → files p ≡ Some content →
    searching files setup aim place (p ∷ ps) c ≡ on_given files setup aim place p ps content (after_look p c)
found_given files setup aim place p ps c Absent h = absent_found files place p ps c (on_absent files setup aim place) (on_present files setup aim place) h
found_given files setup aim place p ps c (Present text) h = present_found files place p ps c (on_absent files setup aim place) (on_present files setup aim place) text h
found_given files setup aim place p ps c Failed h = failed_found files place p ps c (on_absent files setup aim place) (on_present files setup aim place) h
found_given files setup aim place p ps c Big h = big_found files place p ps c (on_absent files setup aim place) (on_present files setup aim place) h
found_given files setup aim place p ps c NoMemory h = no_memory_found files place p ps c (on_absent files setup aim place) (on_present files setup aim place) h

-- ## The answers

pub asked_one : (answers : List (List ℕ × Given)) (p : List ℕ) (content : Given) → asked (answers ++ (p, content) ∷ []) ≡ asked answers ++ p ∷ []
asked_one [] p content = refl
asked_one (a ∷ answers) p content = ap (a.0 ∷◌) (asked_one answers p content)

-- what was given last is there
last_given : (files : FileMap (List Line)) (answers : List (List ℕ × Given)) (p : List ℕ) (content : Given) → Agree files (answers ++ (p, content) ∷ []) →
    Agree files answers × (files p ≡ Some content)
last_given files answers p content agree = let parts = all_parts (λ a. files a.0 ≡ Some a.1) answers ((p, content) ∷ []) agree in (parts.0, parts.1.0)

-- a text that was given has directives alone
pub given_lines : (before after : List (List ℕ × Given)) (p : List ℕ) (text : List Line) → AreLines (before ++ (p, Present text) ∷ after) text
given_lines before after p text files kept agree = kept p text (all_parts (λ a. files a.0 ≡ Some a.1) before ((p, Present text) ∷ after) agree).1.0

-- ## The answer for the path that is sought

pub answer_acts : (setup : Setup) (m : Moment) (answers : List (List ℕ × Given)) (sought : Search) (p : List ℕ) (ps : List (List ℕ)) (content : Given) →
    m.search ≡ Some sought → sought.paths ≡ p ∷ ps → Stands setup m answers →
    Acts setup m (answers ++ (p, content) ∷ []) (λ files c. on_given files setup sought.aim sought.place p ps content c)
answer_acts setup m answers sought p ps content looking paths stands files kept agree =
    let before = last_given files answers p content agree in
    let c = core_at m (asked answers) in
    let acts = search_acts setup m answers sought looking stands files kept before.0 in
    subst (λ z. ActsOver files setup m.top m.frames m.builder z)
    (ap (λ z. searching files setup sought.aim sought.place z c) paths
    ∙ found_given files setup sought.aim sought.place p ps c content before.1
    ∙ ap (λ z. on_given files setup sought.aim sought.place p ps content (core_at m z)) (sym (asked_one answers p content)))
    acts

-- no path is left
pub search_over : (setup : Setup) (m : Moment) (answers : List (List ℕ × Given)) (sought : Search) → m.search ≡ Some sought → sought.paths ≡ [] → Stands setup m answers →
    Acts setup m answers (λ files c. on_absent files setup sought.aim sought.place c)
unfolding find looked_at
search_over setup m answers sought looking paths stands files kept agree =
    let c = core_at m (asked answers) in
    subst (λ z. ActsOver files setup m.top m.frames m.builder z)
    (ap (λ z. searching files setup sought.aim sought.place z c) paths
    ∙ ap (λ z. on_absent files setup sought.aim sought.place (record c { looked = z })) (append-nil c.looked))
    (search_acts setup m answers sought looking stands files kept agree)

-- ## What the answer makes of the search

module _ (setup : Setup) (m : Moment) (answers : List (List ℕ × Given)) where
  -- the next path is sought
  pub absent_goes_on : (aim : Aim) (place : Place) (p : List ℕ) (ps : List (List ℕ)) → Acts setup m answers (λ files c. on_given files setup aim place p ps Absent c) →
      Stands setup (record m { search = Some (record { aim = aim; place = place; paths = ps }) }) answers
  absent_goes_on aim place p ps acts = search_begins setup m answers (record { aim = aim; place = place; paths = ps }) acts

  pub failed_ends : (aim : Aim) (place : Place) (p : List ℕ) (ps : List (List ℕ)) → Acts setup m answers (λ files c. on_given files setup aim place p ps Failed c) →
      StandsAtEnd setup (Ends.Stopped (record { kind = FaultIs.ReadFault; place = place })) answers
  failed_ends aim place p ps acts = effect_faulty setup m answers FaultIs.ReadFault place acts

  pub big_ends : (aim : Aim) (place : Place) (p : List ℕ) (ps : List (List ℕ)) → Acts setup m answers (λ files c. on_given files setup aim place p ps Big c) →
      StandsAtEnd setup (Ends.Stopped (record { kind = FaultIs.FileTooLarge; place = place })) answers
  big_ends aim place p ps acts = effect_faulty setup m answers FaultIs.FileTooLarge place acts

  pub no_memory_ends : (aim : Aim) (place : Place) (p : List ℕ) (ps : List (List ℕ)) → Acts setup m answers (λ files c. on_given files setup aim place p ps NoMemory c) →
      StandsAtEnd setup Ends.NoMemory answers
  no_memory_ends aim place p ps acts = effect_stops setup m.top m.frames m.builder answers OutOfMemory (core_at m (asked answers)) Ends.NoMemory refl refl acts

  -- a first file, or an include, isn't there
  pub first_missing : (missing : FaultKind) (place : Place) → Acts setup m answers (λ files c. on_absent files setup (First_file missing) place c) →
      StandsAtEnd setup (Ends.Stopped (record { kind = missing; place = place })) answers
  first_missing missing place acts = effect_faulty setup m answers missing place acts

  pub include_missing : (places : List ℕ → Option ℕ) (place : Place) → Acts setup m answers (λ files c. on_absent files setup (Included places) place c) →
      StandsAtEnd setup (Ends.Stopped (record { kind = FaultIs.IncludeNotFound; place = place })) answers
  include_missing places place acts = effect_faulty setup m answers FaultIs.IncludeNotFound place acts

  -- a first file is there
  pub first_enters : (missing : FaultKind) (place : Place) (path : List ℕ) (text : List Line) → Acts setup m answers (λ files c. on_present files setup (First_file missing) place path text c) →
      Acts setup m answers (λ files c. Enters place path None text c)
  first_enters missing place path text acts = acts

  -- an include is there: it is in the once set, or it is entered
  module _ (places : List ℕ → Option ℕ) (place : Place) (path : List ℕ) (text : List Line) (acts : Acts setup m answers (λ files c. on_present files setup (Included places) place path text c)) where
    by_once : (b : Bool) → m.once path ≡ b → Acts setup m answers (λ files c. if b then Now c else Enters place path (places path) text c)
    by_once b once = same_effect setup m.top m.frames m.builder answers
        (λ files. on_present files setup (Included places) place path text (core_at m (asked answers)))
        (λ files. let c = core_at m (asked answers) in if b then Now c else Enters place path (places path) text c)
        (λ files kept agree. let c = core_at m (asked answers) in ap (λ z. if z then Now c else Enters place path (places path) text c) once) acts

    pub once_passed : m.once path ≡ true → Stands setup (record m { search = None }) answers
    once_passed once = effect_done setup m answers (by_once true once)

    pub include_enters : m.once path ≡ false → Acts setup m answers (λ files c. Enters place path (places path) text c)
    include_enters once = by_once false once
