-- The steps of a unit over kept lines: a line acts, a search begins and goes on, an effect takes place.
use Rattle.std.proofs.Common.{◌≡◌, ℕ, true, List, ◌∷◌, refl, ap, sym, ◌∙◌, subst}
use Rattle.std.specs.Prelude.{Some, None}
use Rattle.std.specs.List.{list_all}
use Rattle.std.specs.declared.result.Result.TheVariants.{Ok}
use Rattle.std.proofs.lemmas.Bool.{and_parts}
use Rattle.scan_model.specs.declared.token.Line.{Line}
use Rattle.scan_model.specs.declared.unit_end.Place.{Place}
use Rattle.scan_model.specs.declared.unit_end.FaultKind.{FaultKind}
use Rattle.scan_model.specs.declared.unit_end.UnitEnd.{UnitEnd}
use Rattle.scan_model.specs.declared.unit_end.UnitEnd.TheVariants as Ends
use Rattle.scan_model.specs.Lines.{is_directive}
use Rattle.scan_model.specs.ModuleLines.{Builder, new}
use Rattle.scan_model.specs.Files.{FileMap}
use Rattle.scan_model.specs.State.{Setup, Core, State, Cause, Reached, then_go}
use Rattle.scan_model.specs.Stream.{read_stream, take_lines}
use Rattle.scan_model.specs.Effect.{Effect, Enter, Now, Enters, Sends, Halts, done, fault, halted, stop_at}
use Rattle.scan_model.specs.DirectiveLines.{effect}
use Rattle.scan_model.specs.WholeFile.{end_run, full_lines}
use Rattle.scan_model.specs.Answer.{Answer, Known, answer_of, end_of, looks_of, fault_or, looked_of}
use Rattle.unit_laws.specs.Reduction.{Given}
use Rattle.unit_laws.specs.KnownAnswers.{asked}
use Rattle.unit_laws.proofs.ReductionLemmas.{run_keeps, line_of_directive}
use Rattle.unit_steps.specs.Stack.{Frame, Top, rest_of_all, entering, closing}
use Rattle.unit_steps.specs.Searches.{Search, searching}
use Rattle.unit_steps.specs.Moments.{Moment, core_at, goes_on, with_rest}
use Rattle.unit_steps.specs.Stands.{EndsOver, AreKept, Agree, IsReached, AreDirectives, StandsOver, ActsOver, ByEffect, Acts, Stands, StandsAtEnd}
use Rattle.unit_steps.proofs.Reaching.{three_within}

-- ## The same effect

pub same_effect : (setup : Setup) (top : Top) (fs : List Frame) (b : Builder) (answers : List (List ℕ × Given)) (e f : FileMap (List Line) → Effect (List Line)) →
    ((files : FileMap (List Line)) → AreKept files → Agree files answers → e files ≡ f files) →
    ByEffect setup top fs b answers e → ByEffect setup top fs b answers f
same_effect setup top fs b answers e f same h files kept agree = subst (λ z. ActsOver files setup top fs b z) (same files kept agree) (h files kept agree)

-- ## Lines

pub run_reads : (setup : Setup) (s : State) (b : Builder) → read_stream setup.command s.stream ≡ Ok b → read_stream setup.command (end_run s).stream ≡ Ok b
unfolding read_stream
run_reads setup s b h = ap (λ z. take_lines z (new setup.command.output setup.command.source)) (run_keeps s).1 ∙ h

-- what is reached from a state in the file at the top
pub reached_in_file : (files : FileMap (List Line)) (setup : Setup) (m : Moment) (looked : List (List ℕ)) (f : Frame) (fs : List Frame) →
    m.frames ≡ f ∷ fs → m.search ≡ None → (h : StandsOver files setup m looked) →
    IsReached files setup (then_go (rest_of_all files setup m.top fs) (then_go (closing files setup fs) (full_lines (entering files setup m.top (f ∷ fs)) files setup f.rest h.state)))
reached_in_file files setup m looked f fs frames looking h =
    subst (λ z. IsReached files setup z) (ap (λ z. goes_on files setup m.top z m.search h.state) frames ∙ ap (λ z. goes_on files setup m.top (f ∷ fs) z h.state) looking) h.reached

-- what directives see, by the file at the top
pub core_in_file : (m : Moment) (looked : List (List ℕ)) (f : Frame) (fs : List Frame) (ls : List Line) → m.frames ≡ f ∷ fs → core_at m looked ≡ core_at (with_rest m f fs ls) looked
core_in_file m looked f fs ls frames = ap (λ z. core_at (record m { frames = z }) looked) frames

-- the next line of the file at the top of the stack acts
pub line_acts : (setup : Setup) (m : Moment) (answers : List (List ℕ × Given)) (f : Frame) (fs : List Frame) (l : Line) (ls : List Line) →
    m.frames ≡ f ∷ fs → f.rest ≡ l ∷ ls → m.search ≡ None → Stands setup m answers → Acts setup (with_rest m f fs ls) answers (λ files c. effect files setup c l)
line_acts setup m answers f fs l ls frames rest looking stands files kept agree =
    let h = stands files kept agree in
    let dirs = subst AreDirectives frames h.directives in
    let first = and_parts (is_directive l) (list_all is_directive ls) (subst (λ z. list_all is_directive z ≡ true) rest dirs.0) in
    let E = entering files setup m.top (f ∷ fs) in
    let R = rest_of_all files setup m.top fs in
    let C = closing files setup fs in
    let core = h.core ∙ core_in_file m (asked answers) f fs ls frames in
    let acts = line_of_directive (List Line) E files setup h.state l first.0 ∙ ap (λ z. done E (end_run h.state) (effect files setup z l)) core in
    let from = ap (λ z. then_go R (then_go C (full_lines E files setup z h.state))) rest
    ∙ ap (λ z. then_go R (then_go C (then_go (full_lines E files setup ls) z))) acts
    ∙ three_within R C (full_lines E files setup ls) (done E (end_run h.state) (effect files setup (core_at (with_rest m f fs ls) (asked answers)) l)) in
    record {
      state = end_run h.state;
      reads = run_reads setup h.state m.builder h.reads;
      directives = (first.1, dirs.1);
      reached = subst (λ z. IsReached files setup z) from (reached_in_file files setup m (asked answers) f fs frames looking h);
    }

-- ## Searches

pub done_core : (e : Enter (List Line)) (s : State) (c : Core) (a : Effect (List Line)) → done e (record s { core = c }) a ≡ done e s a
done_core e s c (Now d) = refl
done_core e s c (Enters place path chain_place text d) = refl
done_core e s c (Sends l d) = refl
done_core e s c (Halts cause d) = refl

-- a search begins
pub search_begins : (setup : Setup) (m : Moment) (answers : List (List ℕ × Given)) (sought : Search) →
    Acts setup m answers (λ files c. searching files setup sought.aim sought.place sought.paths c) → Stands setup (record m { search = Some sought }) answers
search_begins setup m answers sought acts files kept agree =
    let h = acts files kept agree in
    let c = core_at m (asked answers) in
    let E = entering files setup m.top m.frames in
    let to = ap (λ z. then_go (rest_of_all files setup m.top m.frames) z) (done_core E h.state c (searching files setup sought.aim sought.place sought.paths c)) in
    record {
      state = record h.state { core = c };
      core = refl;
      reads = h.reads;
      directives = h.directives;
      reached = subst (λ z. IsReached files setup z) (sym to) h.reached;
    }

-- a search goes on
pub search_acts : (setup : Setup) (m : Moment) (answers : List (List ℕ × Given)) (sought : Search) → m.search ≡ Some sought → Stands setup m answers →
    Acts setup m answers (λ files c. searching files setup sought.aim sought.place sought.paths c)
search_acts setup m answers sought looking stands files kept agree =
    let h = stands files kept agree in
    let E = entering files setup m.top m.frames in
    let to = ap (λ z. goes_on files setup m.top m.frames z h.state) looking
    ∙ ap (λ z. then_go (rest_of_all files setup m.top m.frames) (done E h.state (searching files setup sought.aim sought.place sought.paths z))) h.core in
    record {
      state = h.state;
      reads = h.reads;
      directives = h.directives;
      reached = subst (λ z. IsReached files setup z) to h.reached;
    }

-- ## Effects

-- the file at the top of the stack may have other parts of its own
pub own_over : (files : FileMap (List Line)) (setup : Setup) (top : Top) (f g : Frame) (fs : List Frame) (b : Builder) (e : Effect (List Line)) →
    f.rest ≡ g.rest → ActsOver files setup top (f ∷ fs) b e → ActsOver files setup top (g ∷ fs) b e
own_over files setup top f g fs b e same h =
    let E = entering files setup top (f ∷ fs) in
    let R : List Line → State → Reached = λ ls s. then_go (rest_of_all files setup top fs) (then_go (closing files setup fs) (full_lines E files setup ls s)) in
    record {
      state = h.state;
      reads = h.reads;
      directives = (subst (λ z. list_all is_directive z ≡ true) same h.directives.0, h.directives.1);
      reached = subst (λ z. IsReached files setup (then_go (R z) (done E h.state e))) same h.reached;
    }

-- a directive is done
pub done_over : (files : FileMap (List Line)) (setup : Setup) (m : Moment) (looked : List (List ℕ)) → ActsOver files setup m.top m.frames m.builder (Now (core_at m looked)) →
    StandsOver files setup (record m { search = None }) looked
done_over files setup m looked h = record {
  state = record h.state { core = core_at m looked };
  core = refl;
  reads = h.reads;
  directives = h.directives;
  reached = h.reached;
}

pub effect_done : (setup : Setup) (m : Moment) (answers : List (List ℕ × Given)) → Acts setup m answers (λ files c. Now c) → Stands setup (record m { search = None }) answers
effect_done setup m answers acts files kept agree = done_over files setup m (asked answers) (acts files kept agree)

-- a stop is the end
pub end_by_cause : (setup : Setup) (b : Builder) (s : State) (a : Answer) (looked : List (List ℕ)) (cause : Cause) → answer_of cause ≡ a →
    read_stream setup.command s.stream ≡ Ok b →
    (end_of setup.command (halted cause looked s) ≡ a) × (looks_of setup.command (halted cause looked s) ≡ looked)
end_by_cause setup b s a looked cause is reads = (ap (λ z. fault_or (answer_of cause) z) reads ∙ is, ap (λ z. looked_of looked z) reads)

pub stop_over : (files : FileMap (List Line)) (setup : Setup) (top : Top) (fs : List Frame) (b : Builder) (looked : List (List ℕ)) (cause : Cause) (c : Core) (end : UnitEnd) →
    c.looked ≡ looked → answer_of cause ≡ Known end → ActsOver files setup top fs b (Halts cause c) → EndsOver files setup end looked
stop_over files setup top fs b looked cause c end looks is h =
    let there = end_by_cause setup b h.state (Known end) c.looked cause is h.reads in
    (h.reached.0 ∙ there.0, h.reached.1 ∙ there.1 ∙ looks)

pub effect_stops : (setup : Setup) (top : Top) (fs : List Frame) (b : Builder) (answers : List (List ℕ × Given)) (cause : Cause) (c : Core) (end : UnitEnd) →
    c.looked ≡ asked answers → answer_of cause ≡ Known end → ByEffect setup top fs b answers (λ files. Halts cause c) → StandsAtEnd setup end answers
effect_stops setup top fs b answers cause c end looks is acts files kept agree = stop_over files setup top fs b (asked answers) cause c end looks is (acts files kept agree)

-- the same at a moment
pub stop_ends : (setup : Setup) (m : Moment) (answers : List (List ℕ × Given)) (cause : Cause) (end : UnitEnd) → answer_of cause ≡ Known end →
    Acts setup m answers (λ files c. Halts cause c) → StandsAtEnd setup end answers
stop_ends setup m answers cause end is acts = effect_stops setup m.top m.frames m.builder answers cause (core_at m (asked answers)) end refl is acts

-- a fault
pub effect_faulty : (setup : Setup) (m : Moment) (answers : List (List ℕ × Given)) (kind : FaultKind) (place : Place) →
    Acts setup m answers (λ files c. stop_at kind place c) → StandsAtEnd setup (Ends.Stopped (record { kind = kind; place = place })) answers
effect_faulty setup m answers kind place acts =
    stop_ends setup m answers (fault kind place) (Ends.Stopped (record { kind = kind; place = place })) refl acts
