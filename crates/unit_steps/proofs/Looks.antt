-- What a unit may say of all whole files at each moment.
use Rattle.std.proofs.Common.{◌≡◌, ℕ, List, [], ◌∷◌, ◌++◌, refl, ap, sym, ◌∙◌, subst, append-nil}
use Rattle.std.specs.Prelude.{Some, None}
use Rattle.scan_model.specs.declared.token.Line.{Line}
use Rattle.scan_model.specs.declared.command.Job.TheVariants as JobIs
use Rattle.scan_model.specs.declared.command.Command.{Command}
use Rattle.scan_model.specs.declared.command.Settings.{Settings}
use Rattle.scan_model.specs.declared.unit_end.Place.{Place}
use Rattle.scan_model.specs.declared.unit_end.UnitEnd.{UnitEnd}
use Rattle.scan_model.specs.Files.{FileMap, Present, Absent, Failed, Big, NoMemory}
use Rattle.scan_model.specs.State.{Setup, Core, then_go}
use Rattle.scan_model.specs.Effect.{Effect, done}
use Rattle.scan_model.specs.Answer.{looked_by, looks_of, looked}
use Rattle.unit_laws.specs.Reduction.{Given, reduced}
use Rattle.unit_laws.specs.Growth.{Begins}
use Rattle.unit_laws.specs.KnownAnswers.{asked}
use Rattle.unit_laws.proofs.KeptAnswers.{reduced_answers}
use Rattle.unit_laws.proofs.GrowthLemmas.{Longer, longer_refl, longer_trans, core_of, Fit, grow_with_found, done_onward, enter_grows, onward_trans, then_onward}
use Rattle.unit_laws.proofs.GrowingAnswers.{longer_begins, begins_longer}
use Rattle.unit_steps.specs.Stack.{as_they_are, rest_of_all, entering}
use Rattle.unit_steps.specs.Searches.{Aim, Search, on_absent, on_present, on_given}
use Rattle.unit_steps.specs.Moments.{Moment, core_at, goes_on}
use Rattle.unit_steps.specs.Stands.{AreKept, Agree, Acts, Stands, StandsAtEnd}
use Rattle.unit_steps.specs.UnitView.{Phase, Runs, Asks, Over, Spent, FitsPhase, BeginsLooks}
use Rattle.unit_steps.proofs.Growing.{same_map, rest_onward, looks_onward}
use Rattle.unit_steps.proofs.Asking.{absent_grows, present_grows}
use Rattle.unit_steps.proofs.WholeFiles.{asks_of_whole_files, needs_of_whole_files, end_of_whole_files, reduced_are_kept}

begins_less : (paths further others : List (List ℕ)) → Begins (paths ++ further) others → Begins (paths ++ []) others
begins_less paths further others h =
    let k = begins_longer (paths ++ further) others h in
    subst (λ z. Begins z others) (sym (append-nil paths))
    (longer_begins paths others (longer_trans paths (paths ++ further) others (further, refl) k))

-- over kept lines and over whole files
looks_of_whole_files : (setup : Setup) (answers : List (List ℕ × Given)) →
    ((files : FileMap (List Line)) → AreKept files → Agree files answers → Longer (asked answers) (looked_by as_they_are files setup.settings (JobIs.Run setup.command))) →
    BeginsLooks setup.settings setup.command answers []
looks_of_whole_files setup answers h files agree =
    subst (λ z. Begins z (looked files setup.settings (JobIs.Run setup.command))) (sym (append-nil (asked answers)))
    (subst (λ z. Begins (asked answers) z) (reduced_answers files setup.settings (JobIs.Run setup.command)).1
    (longer_begins (asked answers) _ (h (reduced files) (reduced_are_kept files) agree)))

given_grows : (files : FileMap (List Line)) (setup : Setup) (aim : Aim) (place : Place) (p : List ℕ) (ps : List (List ℕ)) (content : Given) (c : Core) →
    Longer c.looked (core_of (on_given files setup aim place p ps content c)).looked × Fit (List Line) files (on_given files setup aim place p ps content c)
given_grows files setup aim place p ps Absent c =
    let h = grow_with_found (List Line) files files (same_map files) place ps c (on_absent files setup aim place) (on_absent files setup aim place)
    (on_present files setup aim place) (on_present files setup aim place) (absent_grows files setup aim place) (present_grows files setup aim place) in (h.0, h.2)
given_grows files setup aim place p ps (Present text) c = let h = present_grows files setup aim place p text c in (h.0, h.2)
given_grows files setup aim place p ps Failed c = (longer_refl c.looked, tt)
given_grows files setup aim place p ps Big c = (longer_refl c.looked, tt)
given_grows files setup aim place p ps NoMemory c = (longer_refl c.looked, tt)

-- what takes place now, and looks at no less than before
effect_looks : (setup : Setup) (m : Moment) (answers : List (List ℕ × Given)) (e : FileMap (List Line) → Core → Effect (List Line)) →
    ((files : FileMap (List Line)) (c : Core) → Longer c.looked (core_of (e files c)).looked × Fit (List Line) files (e files c)) →
    Acts setup m answers e → BeginsLooks setup.settings setup.command answers []
effect_looks setup m answers e grows acts = looks_of_whole_files setup answers (λ files kept agree.
    let h = acts files kept agree in
    let c = core_at m (asked answers) in
    let E = entering files setup m.top m.frames in
    let R = rest_of_all files setup m.top m.frames in
    let a = e files c in
    let on = done_onward (List Line) files E E (enter_grows (List Line) files as_they_are files (same_map files) setup _) h.state a (grows files c).1 in
    let all = onward_trans (core_of a).looked h.state.stream (done E h.state a) (then_go R (done E h.state a)) on
    (then_onward R (rest_onward files setup m.top m.frames) (done E h.state a)) in
    let looks = looks_onward setup.command (core_of a).looked h.state.stream m.builder (then_go R (done E h.state a)) h.reads all in
    subst (λ z. Longer (asked answers) z) (sym h.reached.1)
    (longer_trans (asked answers) (core_of a).looked (looks_of setup.command (then_go R (done E h.state a))) (grows files c).0 looks))

-- ## By what the unit does next

-- the unit runs
pub runs_fits : (setup : Setup) (m : Moment) (answers : List (List ℕ × Given)) → m.search ≡ None → Stands setup m answers → BeginsLooks setup.settings setup.command answers []
runs_fits setup m answers looking stands = looks_of_whole_files setup answers (λ files kept agree.
    let h = stands files kept agree in
    let to = ap (λ z. goes_on files setup m.top m.frames z h.state) looking in
    let on = rest_onward files setup m.top m.frames h.state in
    let looks = looks_onward setup.command h.state.core.looked h.state.stream m.builder (rest_of_all files setup m.top m.frames h.state) h.reads on in
    subst (λ z. Longer z (looked_by as_they_are files setup.settings (JobIs.Run setup.command))) (ap (λ z. z.looked) h.core)
    (subst (λ z. Longer h.state.core.looked z) (sym (h.reached.1 ∙ ap (looks_of setup.command) to)) looks))

-- it has an answer
pub answered_fits : (setup : Setup) (m : Moment) (answers : List (List ℕ × Given)) (aim : Aim) (place : Place) (p : List ℕ) (ps : List (List ℕ)) (content : Given) →
    Acts setup m answers (λ files c. on_given files setup aim place p ps content c) → BeginsLooks setup.settings setup.command answers []
answered_fits setup m answers aim place p ps content acts =
    effect_looks setup m answers (λ files c. on_given files setup aim place p ps content c) (λ files c. given_grows files setup aim place p ps content c) acts

-- a path is waiting
pub asks_fits : (setup : Setup) (m : Moment) (answers : List (List ℕ × Given)) (sought : Search) (p : List ℕ) (ps : List (List ℕ)) →
    m.search ≡ Some sought → sought.paths ≡ p ∷ ps → Stands setup m answers → FitsPhase setup.settings setup.command answers (Asks p)
asks_fits setup m answers sought p ps looking paths stands =
    (asks_of_whole_files setup m answers sought p ps looking paths stands, needs_of_whole_files setup m answers sought p ps looking paths stands)

-- it is over
pub over_fits : (setup : Setup) (end : UnitEnd) (answers : List (List ℕ × Given)) → StandsAtEnd setup end answers → FitsPhase setup.settings setup.command answers (Over end)
over_fits setup end answers h = end_of_whole_files setup end answers h

-- whatever it does next, its answers begin what is looked at
pub fits_begin : (settings : Settings) (command : Command) (answers : List (List ℕ × Given)) (phase : Phase) → FitsPhase settings command answers phase → BeginsLooks settings command answers []
fits_begin settings command answers Runs h = h
fits_begin settings command answers Spent h = h
fits_begin settings command answers (Asks path) h = λ files agree. begins_less (asked answers) (path ∷ []) (looked files settings (JobIs.Run command)) (h.0 files agree)
fits_begin settings command answers (Over end) h = λ files agree.
    let same = (h files agree).1 in
    longer_begins (asked answers ++ []) (looked files settings (JobIs.Run command)) ([], same ∙ sym (append-nil (asked answers)) ∙ sym (append-nil (asked answers ++ [])))
