-- A line of the file at the top is taken.
use Rattle.std.proofs.Common.{◌≡◌, ℕ, ◌+◌, ◌-◌, ◌<◌, ◌≤◌, Bool, true, List, [], ◌∷◌, ◌++◌, reverse, drop, length, slice_get, refl, ap, sym, ◌∙◌, subst, arith, length-append}
use Rattle.std.specs.Prelude.{Option, Some, None, IsSome, IfOk}
use Rattle.std.specs.declared.result.Result.{Result}
use Rattle.unit_scan.specs.Taking.{ActsAt}
use Rattle.std.specs.declared.result.Result.TheVariants.{Ok, Err}
use Rattle.std.specs.Option.{option_map_or}
use Rattle.std.specs.Global.{Vec}
use Rattle.std.specs.List.{AllByRecursion}
use Rattle.std.proofs.lemmas.Option.{slice_get_within}
use Rattle.scan_model.specs.declared.token.Tok.{Tok}
use Rattle.scan_model.specs.declared.token.Line.{Line}
use Rattle.scan_model.specs.declared.unit_end.Place.{Place}
use Rattle.scan_model.specs.HeaderName.{Term, Named}
use Rattle.scan_model.specs.Condition.{value}
use Rattle.scan_model.specs.Conditionals.{is_skipped, with_has_values, on_value, opening_of, on_chosen}
use Rattle.scan_model.specs.DirectiveLines.{effect}
use Rattle.scan_model.specs.Files.{FileMap}
use Rattle.scan_model.specs.ModuleLines.{Builder}
use Rattle.scan_model.specs.Stream.{fault_kind}
use Rattle.scan_model.specs.Paths.{folder}
use Rattle.scan_model.specs.State.{Group, Setup, Core}
use Rattle.scan_model.specs.Effect.{Effect}
use Rattle.unit_laws.specs.Reduction.{Given}
use Rattle.unit_laws.specs.KnownAnswers.{asked}
use Rattle.plain_lines.specs.declared.action.Action.{Action}
use Rattle.plain_lines.specs.declared.action.Action.TheVariants as ActionIs
use Rattle.plain_lines.specs.declared.kept_line.KeptLine.{KeptLine}
use Rattle.plain_lines.specs.declared.state.FileState.{FileState}
use Rattle.plain_lines.specs.declared.state.UnitState.{UnitState}
use Rattle.plain_lines.specs.Conditions.{test_count}
use Rattle.plain_lines.specs.Lines.{line_of}
use Rattle.plain_lines.specs.Actions.{Does}
use Rattle.plain_lines.specs.States.{core_of}
use Rattle.unit_steps.specs.Logs.{lines_at, path_at}
use Rattle.unit_steps.specs.Stack.{Frame, current}
use Rattle.unit_steps.specs.Searches.{Search, include_search, with_terms}
use Rattle.unit_steps.specs.Moments.{Moment, with_rest}
use Rattle.unit_steps.specs.Stands.{Acts, Stands, StandsAtEnd}
use Rattle.unit_steps.specs.Work.{IsMeasured, lines_left}
use Rattle.unit_steps.proofs.Ranks.{lines_fall}
use Rattle.scan_model.specs.WholeFile.{entered_limit}
use Rattle.unit_steps.proofs.Reaching.{drop_at}
use Rattle.unit_steps.proofs.Steps.{line_acts}
use Rattle.unit_steps.proofs.Effects.{effect_goes, effect_sends, effect_refused, effect_faulty_here, effect_includes, effect_tests}
use Rattle.unit_scan.specs.declared.parts.OpenFile.{OpenFile}
use Rattle.unit_scan.specs.declared.parts.Run.{Run}
use Rattle.unit_scan.specs.declared.stage.Stage.{Stage}
use Rattle.unit_scan.specs.Parts.{IsFile, Sound, frame_of, frames_of, taken_last, present, no_line, told, moment_of, work_of}
use Rattle.unit_scan.specs.Lookups.{HasTaken, place_at}
use Rattle.unit_scan.specs.Standing.{Running, Acted, After, Follows, FollowsLine, stopped, stage_order}
use Rattle.unit_scan.proofs.Falling.{measured, rank_falls}
use Rattle.unit_scan.proofs.Testing.{terms_are}
use Rattle.unit_scan.proofs.Stacks.{frames_with, top_first, last_file, with_file}

-- the tests of a condition, with what its value chooses, as both sides say it
tests_same : (files : FileMap (List Line)) (setup : Setup) (l : Line) (ts : List Term) (toks : List Tok) (c : Core) (is_elif : Bool) (gs : List Group) →
    with_has_values {X = List Line} files setup l ts c (λ has. on_value l (on_chosen l (opening_of is_elif gs)) (value toks has))
    ≡ with_terms files setup l (opening_of is_elif gs) [] ts toks c
tests_same files setup l ts toks c is_elif gs = refl

module _ (setup : Setup) (run : Run) (h : Running setup run) (below : List OpenFile) (file : OpenFile) (on_stack : run.stack.items ≡ below ++ file ∷ []) (at : KeptLine) (there : slice_get (lines_at (told run) file.answer) file.next ≡ Some (line_of at)) (own : FileState) (state : UnitState) (stack : Vec OpenFile) where
  abbrev file' : OpenFile
  file' = record { answer = file.answer; next = file.next + 1; state = own }

  abbrev run' : Run
  run' = record run { stack = stack; state = state }

  abbrev answers : List (List ℕ × Given)
  answers = told run

  abbrev path : List ℕ
  path = path_at answers file.answer

  abbrev l : Line
  l = line_of at

  abbrev left : List Line
  left = drop (file.next + 1) (lines_at answers file.answer)

  abbrev f : Frame
  f = frame_of answers file

  abbrev fs : List Frame
  fs = frames_of answers below

  abbrev before : Core
  before = core_of path run.entered (asked answers) file.state run.state

  abbrev after : Core
  after = core_of path run.entered (asked answers) own state

  -- the moment with what directives see there
  abbrev at_core : Core → Builder → Option Search → Moment
  at_core c b search = record (moment_of setup run None) {
    frames = record { path = c.path; site = c.site; chain_place = c.chain_place; groups = c.stack; rest = left } ∷ fs;
    macros = c.macros;
    once = c.once;
    entered = c.entered;
    builder = b;
    search = search;
  }

  frames_now : (moment_of setup run None).frames ≡ f ∷ fs
  frames_now = ap (frames_of answers) on_stack ∙ frames_with answers below file

  acts : Acts setup (with_rest (moment_of setup run None) f fs left) answers (λ files c. effect files setup c l)
  acts = line_acts setup (moment_of setup run None) answers f fs l left frames_now (drop_at (lines_at answers file.answer) file.next l there) refl h.stands

  module _ (pushed : stack.items ≡ below ++ file' ∷ []) where
    frames_after : frames_of answers stack.items ≡ frame_of answers file' ∷ fs
    frames_after = ap (frames_of answers) pushed ∙ frames_with answers below file'

    pub taken : HasTaken stack.items
    taken = (file', (reverse below, (ap reverse pushed ∙ top_first below file', omega arith)))

    present_now : present answers stack.items ≡ l
    present_now =
        let one : file.next + 1 - 1 ≡ file.next = omega arith in
        ap (taken_last answers) (ap reverse pushed ∙ top_first below file')
        ∙ ap (λ k. option_map_or (λ l. l) (slice_get (lines_at answers file.answer) k) no_line) one
        ∙ ap (λ o. option_map_or (λ l. l) o no_line) there

    -- the moment is the one with what directives see now
    moment_now : (search : Option Search) → moment_of setup run' search ≡ at_core after state.builder search
    moment_now search = ap (λ z. let m : Moment = record (moment_of setup run' search) { frames = z } in m) frames_after

    place_now : place_at (frames_of answers stack.items) (present answers stack.items).line ≡ record { path = path; line = l.line }
    place_now =
        let p : (current (frames_of answers stack.items)).path ≡ path = ap (λ z. (current z).path) frames_after in
        let n = ap (λ z. z.line) present_now in
        λ i. record { path = p i; line = n i }

    path_now : (current (frames_of answers stack.items)).path ≡ path
    path_now = ap (λ z. (current z).path) frames_after

    abbrev Now_stands : Core → Builder → Type 0
    Now_stands c b = Stands setup (at_core c b None) answers

    pub after_acted : (action : Action) → ((files : FileMap (List Line)) → Does files setup at before run.state.builder after state.builder (effect files setup before l) action) → After setup run' action
    after_acted ActionIs.Goes does =
        let same = (does (λ path. None)).1 in
        subst (λ m. Stands setup m answers) (sym (moment_now None))
        (subst (λ b. Now_stands after b) (sym same)
        (effect_goes setup (with_rest (moment_of setup run None) f fs left) answers (record f { rest = left }) fs (λ files c. effect files setup c l) refl acts after refl (λ files. (does files).0)))
    after_acted ActionIs.Skips does =
        let same = (does (λ path. None)).1 in (
          subst (λ m. Stands setup m answers) (sym (moment_now None))
              (subst (λ b. Now_stands after b) (sym same)
              (effect_goes setup (with_rest (moment_of setup run None) f fs left) answers (record f { rest = left }) fs (λ files c. effect files setup c l) refl acts after refl (λ files. (does files).0))),
          subst (λ z. is_skipped (current z).groups ≡ true) (sym frames_after) (does (λ path. None)).2,
        )
    after_acted ActionIs.Sent does =
        subst (λ m. Stands setup m answers) (sym (moment_now None))
        (effect_sends setup (with_rest (moment_of setup run None) f fs left) answers (record f { rest = left }) fs (λ files c. effect files setup c l) refl acts after refl state.builder
        (λ files. let d = does files in (d.0, (d.1.0, d.1.1))))
    after_acted (ActionIs.Refused x) does =
        subst (λ p. StandsAtEnd setup (stopped (fault_kind x) p) answers) (sym place_now)
        (effect_refused setup (with_rest (moment_of setup run None) f fs left) answers (record f { rest = left }) fs (λ files c. effect files setup c l) refl acts (record { path = path; line = l.line }) x
        (λ files. let d = does files in (d.0, (before, (d.1.0, d.1.1, d.1.2.0, d.1.2.1, d.1.2.2)))))
    after_acted (ActionIs.Stops kind) does =
        subst (λ p. StandsAtEnd setup (stopped kind p) answers) (sym place_now)
        (effect_faulty_here setup (with_rest (moment_of setup run None) f fs left) answers (record f { rest = left }) fs (λ files c. effect files setup c l) refl acts kind (record { path = path; line = l.line })
        (λ files. (does files).0))
    after_acted (ActionIs.Includes form name) does =
        let same = (does (λ path. None)).1 in
        let n : Named = record { form = form; name = name; after = [] } in
        let S : Place → List ℕ → Option Search = λ p from. Some (include_search setup p n from 0) in
        let p : Place = record { path = path; line = l.line } in
        let first = effect_includes setup (with_rest (moment_of setup run None) f fs left) answers (record f { rest = left }) fs (λ files c. effect files setup c l) refl acts p n (folder path)
        (λ files. (does files).0) in
        let core = subst (λ c. Stands setup (at_core c run.state.builder (S p (folder path))) answers) (sym same.0) first in
        let built = subst (λ b. Stands setup (at_core after b (S p (folder path))) answers) (sym same.1) core in
        let now = subst (λ m. Stands setup m answers) (sym (moment_now (S p (folder path)))) built in
        let placed = subst (λ q. Stands setup (moment_of setup run' (S q (folder path))) answers) (sym place_now) now in
        subst (λ q. Stands setup (moment_of setup run' (S (place_at (frames_of answers stack.items) (present answers stack.items).line) (folder q))) answers) (sym path_now) placed
    after_acted (ActionIs.Tests condition) does =
        let d0 = does (λ path. None) in
        let ts = d0.0 in
        let same = d0.1.1 in
        let toks = condition.toks in
        let W : Line → List Group → List Term → FileMap (List Line) → Core → Effect (List Line) = λ l gs us files c. with_terms files setup l (opening_of condition.is_elif gs) [] us toks c in
        let first = effect_tests setup (with_rest (moment_of setup run None) f fs left) answers (record f { rest = left }) fs (λ files c. effect files setup c l) refl acts l (opening_of condition.is_elif before.stack) toks ts d0.1.0.terms
        (λ files. let d = does files in (d.0, (d.1.0.terms, d.1.0.effect ∙ tests_same files setup l d.0 toks before condition.is_elif before.stack))) in
        let core = subst (λ c. Acts setup (at_core c run.state.builder None) answers (W l c.stack ts)) (sym same.0) first in
        let built = subst (λ b. Acts setup (at_core after b None) answers (W l after.stack ts)) (sym same.1) core in
        let now = subst (λ m. Acts setup m answers (W l (current m.frames).groups ts)) (sym (moment_now None)) built in
        let lined = subst (λ z. Acts setup (moment_of setup run' None) answers (W z (current (frames_of answers stack.items)).groups ts)) (sym present_now) now in
        let from = terms_are toks 0 ts d0.1.0.terms in (
          subst IsSome (sym d0.1.0.terms) refl,
          d0.1.0.tests ∙ ap test_count (sym from),
          subst (λ us. Acts setup (moment_of setup run' None) answers (W (present answers stack.items) (current (frames_of answers stack.items)).groups us)) (sym from) lined,
        )

    pub sound_taken : Sound setup run'
    sound_taken =
        let parts = last_file answers below file (subst (λ z. AllByRecursion (IsFile answers) z) on_stack h.sound.files) in
        let within = slice_get_within (lines_at answers file.answer) file.next l there in
        let again : IsFile answers file' = record { there = parts.1.there; next = omega (arith, within); few = parts.1.few } in
        record {
          command = h.sound.command;
          settings = h.sound.settings;
          files = subst (λ z. AllByRecursion (IsFile answers) z) (sym pushed) (with_file answers below file' parts.0 again);
          depth =
              let count = ap length pushed ∙ length-append below (file' ∷ []) in
              let was = ap length on_stack ∙ length-append below (file ∷ []) in
              let d = h.sound.depth in
              omega (arith, count, was, d);
          entered = h.sound.entered;
          left = h.sound.left;
          tests = h.sound.tests;
          candidates = h.sound.candidates;
        }

    pub lines_taken : (work_of setup run').lines < (work_of setup run).lines
    lines_taken =
        let now = ap lines_left frames_after in
        let was = ap lines_left frames_now in
        let one = ap length (drop_at (lines_at answers file.answer) file.next l there) in
        omega (arith, now, was, one)

    pub line_acted : (action : Action) → ((files : FileMap (List Line)) → Does files setup at before run.state.builder after state.builder (effect files setup before l) action) → Acted setup run' action
    line_acted action does = record { sound = sound_taken; taken = taken; after = after_acted action does }

no_more : (a b c : ℕ) → a ≤ b → b < c → a < c
no_more a b c few less = omega (arith, few, less)

not_deeper : (a b : ℕ) → a ≤ b → b ≤ 201 → a ≤ 201
not_deeper a b few deep = omega (arith, few, deep)

-- what follows the line is a step
pub line_follows : (setup : Setup) (run run' run'' : Run) (stage : Stage) → Sound setup run' → (work_of setup run').lines < (work_of setup run).lines → run'.entered ≡ run.entered → run''.log.items ≡ run'.log.items →
    FollowsLine setup run' run'' stage → Follows setup run 2 run'' stage
line_follows setup run run' run'' stage sound less entered same h =
    let was = measured setup run' sound in
    let measure : IsMeasured (work_of setup run'') = record { lines = no_more _ _ _ h.lines was.lines; tests = h.tests; candidates = h.candidates } in
    let files : (work_of setup run'').files ≡ (work_of setup run).files = ap (λ n. entered_limit - n) (h.entered ∙ entered) in
    let falls = lines_fall (work_of setup run'') (work_of setup run) measure files (no_more _ _ _ h.lines less) in
    record {
      holds = h.holds;
      less = rank_falls setup run run'' 2 (stage_order stage) falls (not_deeper _ _ h.depth sound.depth) h.order;
      proceeds = h.proceeds (work_of setup run) (work_of setup run'');
    }

-- the line as the code takes it
module _ (setup : Setup) (run : Run) (h : Running setup run) (below : List OpenFile) (file file' : OpenFile) (on_stack : run.stack.items ≡ below ++ file ∷ []) (answer : file'.answer ≡ file.answer) (next : file'.next ≡ file.next + 1) (state : UnitState) (stack : Vec OpenFile) (pushed : stack.items ≡ below ++ file' ∷ []) (action : Action) (acts : ActsAt (told run) setup.command.dialect file run.state file' state action) where
  abbrev now : Run
  now = record run { stack = stack; state = state }

  again : file' ≡ record { answer = file.answer; next = file.next + 1; state = file'.state }
  again = λ i. record { answer = answer i; next = next i; state = file'.state }

  put : stack.items ≡ below ++ record { answer = file.answer; next = file.next + 1; state = file'.state } ∷ []
  put = pushed ∙ ap (λ z. below ++ z ∷ []) again

  does_there : (files : FileMap (List Line)) →
      Does files setup acts.0 (core_of (path_at (told run) file.answer) run.entered (asked (told run)) file.state run.state) run.state.builder
      (core_of (path_at (told run) file.answer) run.entered (asked (told run)) file'.state state) state.builder
      (effect files setup (core_of (path_at (told run) file.answer) run.entered (asked (told run)) file.state run.state) (line_of acts.0)) action
  does_there files =
      subst (λ p. Does files setup acts.0 (core_of p run.entered (asked (told run)) file.state run.state) run.state.builder (core_of p run.entered (asked (told run)) file'.state state) state.builder
      (effect files setup (core_of p run.entered (asked (told run)) file.state run.state) (line_of acts.0)) action) acts.1.0.path
      (acts.1.1 files setup (sym acts.1.0.edition) run.entered (asked (told run)))

  pub taken_acted : Acted setup now action
  taken_acted = line_acted setup run h below file on_stack acts.0 acts.1.0.line file'.state state stack put action does_there

  pub taken_follows : (run'' : Run) (stage : Stage) → run''.log.items ≡ run.log.items → FollowsLine setup now run'' stage → Follows setup run 2 run'' stage
  taken_follows run'' stage same follows =
      line_follows setup run now run'' stage (sound_taken setup run h below file on_stack acts.0 acts.1.0.line file'.state state stack put)
      (lines_taken setup run h below file on_stack acts.0 acts.1.0.line file'.state state stack put) refl same follows

pub ok_map : {X E : Type 0} (P Q : X → Type 0) (r : Result X E) → ((x : X) → P x → Q x) → IfOk r P → IfOk r Q
ok_map P Q (Ok x) f h = f x h
ok_map P Q (Err e) f h = h
