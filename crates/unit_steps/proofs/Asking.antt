-- A path that is asked for is looked at next.
use Rattle.std.proofs.Common.{◌≡◌, ℕ, Bool, true, false, List, [], ◌∷◌, ◌++◌, ap, sym, ◌∙◌, subst, append_assoc}
use Rattle.std.specs.Prelude.{Some, None}
use Rattle.scan_model.specs.declared.token.Tok.{Tok}
use Rattle.scan_model.specs.declared.token.Line.{Line}
use Rattle.scan_model.specs.declared.command.Job.TheVariants as JobIs
use Rattle.scan_model.specs.declared.unit_end.Place.{Place}
use Rattle.scan_model.specs.declared.unit_end.FaultKind.TheVariants as FaultIs
use Rattle.scan_model.specs.HeaderName.{Term}
use Rattle.scan_model.specs.Condition.{value}
use Rattle.scan_model.specs.Files.{FileMap, find, looked_at, and_later}
use Rattle.scan_model.specs.State.{Setup, Core, then_go}
use Rattle.scan_model.specs.Effect.{Now, Enters, done, stop_at}
use Rattle.scan_model.specs.Conditionals.{on_value, opened, with_group, OfElif, OfIf, Opening, on_chosen}
use Rattle.scan_model.specs.Answer.{Answer, answer_by, end_of, fault_or, looked_by, looks_of}
use Rattle.unit_laws.specs.Reduction.{Given}
use Rattle.unit_laws.specs.KnownAnswers.{asked}
use Rattle.unit_laws.proofs.GrowthLemmas.{Longer, longer_trans, core_of, Fit, Grows, grow, grow_if, grow_with_found, grow_has_values, grow_on_value, AbsentGrows, PresentGrows, FurtherGrows, on_found_longer, done_onward, enter_grows, onward_trans, then_onward}
use Rattle.unit_steps.specs.Stack.{as_they_are, rest_of_all, entering}
use Rattle.unit_steps.specs.Searches.{Aim, First_file, Included, Tested, Search, searching, on_absent, on_present, put_before, with_terms}
use Rattle.unit_steps.specs.Moments.{Moment, core_at}
use Rattle.unit_steps.specs.Stands.{AreKept, Agree, Stands}
use Rattle.unit_steps.proofs.Growing.{same_map, rest_onward, looks_onward}
use Rattle.unit_steps.proofs.Answers.{unread_found}
use Rattle.unit_steps.proofs.Steps.{search_acts}

module _ (files : FileMap (List Line)) (setup : Setup) where
  chosen_grows : (l : Line) (opening : Opening) → FurtherGrows (List Line) files files (same_map files) setup (on_chosen l opening) (on_chosen l opening)
  chosen_grows l OfIf b c = grow (List Line) files (opened l b c) tt
  chosen_grows l (OfElif g gs) b c = grow (List Line) files (with_group (record g { live = b; taken = b }) gs c) tt

  terms_grow : (l : Line) (opening : Opening) (so_far : List Bool) (ts : List Term) (toks : List Tok) (c : Core) →
      Grows (List Line) files c.looked (with_terms files setup l opening so_far ts toks c) (with_terms files setup l opening so_far ts toks c)
  terms_grow l opening so_far ts toks c =
      grow_has_values (List Line) files files (same_map files) setup l ts c (λ has. on_value l (on_chosen l opening) (value toks (put_before so_far has)))
      (λ has. on_value l (on_chosen l opening) (value toks (put_before so_far has)))
      (λ has c. grow_on_value (List Line) files files (same_map files) setup l (on_chosen l opening) (on_chosen l opening) (chosen_grows l opening) (value toks (put_before so_far has)) c)

  pub absent_grows : (aim : Aim) (place : Place) → AbsentGrows (List Line) files files (same_map files) (on_absent files setup aim place) (on_absent files setup aim place)
  absent_grows (First_file missing) place c = grow (List Line) files (stop_at missing place c) tt
  absent_grows (Included places) place c = grow (List Line) files (stop_at FaultIs.IncludeNotFound place c) tt
  absent_grows (Tested l opening so_far ts toks) place c = terms_grow l opening (false ∷ so_far) ts toks c

  pub present_grows : (aim : Aim) (place : Place) → PresentGrows (List Line) files files (same_map files) (on_present files setup aim place) (on_present files setup aim place)
  present_grows (First_file missing) place path text c = grow (List Line) files (Enters place path None text c) tt
  present_grows (Included places) place path text c = grow_if (List Line) files c.looked (c.once path) (Now c) (Enters place path (places path) text c) (Now c) (Enters place path (places path) text c)
      (grow (List Line) files (Now c) tt) (grow (List Line) files (Enters place path (places path) text c) tt)
  present_grows (Tested l opening so_far ts toks) place path text c = terms_grow l opening (true ∷ so_far) ts toks c

  -- the search looks at its first path
  looks_first : (aim : Aim) (place : Place) (p : List ℕ) (ps : List (List ℕ)) (c : Core) →
      Longer (c.looked ++ p ∷ []) (core_of (searching files setup aim place (p ∷ ps) c)).looked × Fit (List Line) files (searching files setup aim place (p ∷ ps) c)
  unfolding looked_at
  looks_first aim place p ps c =
      let a = on_absent files setup aim place in
      let b = on_present files setup aim place in
      let more = and_later (files p) (looked_at files ps) in
      let all = on_found_longer (List Line) files files (same_map files) place (record c { looked = c.looked ++ p ∷ more }) a a b b (absent_grows aim place) (present_grows aim place) (find files (p ∷ ps)) in (
        longer_trans (c.looked ++ p ∷ []) (c.looked ++ p ∷ more) (core_of (searching files setup aim place (p ∷ ps) c)).looked
            (more, sym (append_assoc c.looked (p ∷ []) more)) all,
        (grow_with_found (List Line) files files (same_map files) place (p ∷ ps) c a a b b (absent_grows aim place) (present_grows aim place)).2,
      )

-- the paths that were asked for, and the one that is sought next, begin what is looked at
pub asks_next : (setup : Setup) (m : Moment) (answers : List (List ℕ × Given)) (sought : Search) (p : List ℕ) (ps : List (List ℕ)) →
    m.search ≡ Some sought → sought.paths ≡ p ∷ ps → Stands setup m answers →
    (files : FileMap (List Line)) → AreKept files → Agree files answers →
    Longer (asked answers ++ p ∷ []) (looked_by as_they_are files setup.settings (JobIs.Run setup.command))
asks_next setup m answers sought p ps looking paths h files kept agree =
    let acts = search_acts setup m answers sought looking h files kept agree in
    let here = acts.reached in
    let E = entering files setup m.top m.frames in
    let R = rest_of_all files setup m.top m.frames in
    let c = core_at m (asked answers) in
    let e = searching files setup sought.aim sought.place (p ∷ ps) c in
    let first = looks_first files setup sought.aim sought.place p ps c in
    let on = done_onward (List Line) files E E (enter_grows (List Line) files as_they_are files (same_map files) setup _) acts.state e first.1 in
    let all = onward_trans (core_of e).looked acts.state.stream (done E acts.state e) (then_go R (done E acts.state e)) on
    (then_onward R (rest_onward files setup m.top m.frames) (done E acts.state e)) in
    let looks = looks_onward setup.command (core_of e).looked acts.state.stream m.builder (then_go R (done E acts.state e)) acts.reads all in
    subst (λ z. Longer (asked answers ++ p ∷ []) z)
    (sym (here.1 ∙ ap (λ z. looks_of setup.command (then_go R (done E acts.state (searching files setup sought.aim sought.place z c)))) paths))
    (longer_trans (asked answers ++ p ∷ []) (core_of e).looked (looks_of setup.command (then_go R (done E acts.state e))) first.0 looks)

-- where the map lacks the path that is sought next, it is the one that the answer needs
pub asks_needed : (setup : Setup) (m : Moment) (answers : List (List ℕ × Given)) (sought : Search) (p : List ℕ) (ps : List (List ℕ)) →
    m.search ≡ Some sought → sought.paths ≡ p ∷ ps → Stands setup m answers →
    (files : FileMap (List Line)) → AreKept files → Agree files answers → files p ≡ None →
    answer_by as_they_are files setup.settings (JobIs.Run setup.command) ≡ Answer.Unread p
asks_needed setup m answers sought p ps looking paths h files kept agree none =
    let acts = search_acts setup m answers sought looking h files kept agree in
    let here = acts.reached in
    let E = entering files setup m.top m.frames in
    let R = rest_of_all files setup m.top m.frames in
    let c = core_at m (asked answers) in
    here.0 ∙ ap (λ z. end_of setup.command (then_go R (done E acts.state (searching files setup sought.aim sought.place z c)))) paths
    ∙ ap (λ z. end_of setup.command (then_go R (done E acts.state z)))
    (unread_found files sought.place p ps c (on_absent files setup sought.aim sought.place) (on_present files setup sought.aim sought.place) none)
    ∙ ap (fault_or (Answer.Unread p)) acts.reads
