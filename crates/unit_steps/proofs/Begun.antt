-- What isn't begun yet begins: a setting, a forced file, the main file.
use Rattle.std.proofs.Common.{◌≡◌, ℕ, ◌+◌, ◌==◌, Bool, true, false, if◌then◌else◌, List, [], ◌∷◌, drop, length, refl, ap, sym, ◌∙◌, subst}
use Rattle.std.specs.Prelude.{⊤, Some, None}
use Rattle.scan_model.specs.declared.token.Line.{Line}
use Rattle.scan_model.specs.declared.command.Setting.{Setting}
use Rattle.scan_model.specs.declared.unit_end.UnitEnd.TheVariants as Ends
use Rattle.scan_model.specs.declared.unit_end.FaultKind.TheVariants as FaultIs
use Rattle.scan_model.specs.Lines.{lines, is_directive}
use Rattle.scan_model.specs.Files.{FileMap}
use Rattle.scan_model.specs.State.{Setup, Core, State, Reached, Going, then_go}
use Rattle.scan_model.specs.Search.{searched, place_searched}
use Rattle.scan_model.specs.Stream.{read_stream}
use Rattle.scan_model.specs.declared.unit_end.Place.{Place}
use Rattle.scan_model.specs.declared.unit_end.FaultKind.{FaultKind}
use Rattle.unit_steps.specs.Settings.{numbered_line, directive_of_setting}
use Rattle.unit_steps.proofs.SettingLines.{begins_directive_line, setting_line, setting_line_acts, only_macros}
use Rattle.scan_model.specs.Effect.{Effect, Now, stop, Enters, Sends, Halts, Enter, done, fault, halted}
use Rattle.scan_model.specs.DirectiveLines.{effect}
use Rattle.scan_model.specs.WholeFile.{end_run}
use Rattle.scan_model.specs.WholeUnit.{command_place, set_all, set_first, setting_text}
use Rattle.scan_model.specs.Answer.{Known}
use Rattle.unit_laws.specs.Reduction.{Given}
use Rattle.unit_laws.specs.KnownAnswers.{asked}
use Rattle.unit_laws.proofs.ReductionLemmas.{line_of_directive}
use Rattle.unit_steps.specs.Stack.{Top, Setting_from, Forced_from, Nothing_more, rest_of_all, entering, main_file, forced_files}
use Rattle.unit_steps.specs.Searches.{Included, searching, first_search, include_search, forced_name}
use Rattle.unit_steps.specs.Moments.{Moment, core_at, goes_on}
use Rattle.unit_steps.specs.Stands.{IsReached, StandsOver, Acts, Stands, StandsAtEnd}
use Rattle.unit_steps.proofs.Reaching.{nothing_follows, two_within, three_within}
use Rattle.unit_steps.proofs.Steps.{run_reads, end_by_cause, effect_stops, effect_done, search_begins}

-- ## In front of the first files

module _ (setup : Setup) (m : Moment) (answers : List (List ℕ × Given)) (top : Top) (is : m.top ≡ top) (frames : m.frames ≡ []) (looking : m.search ≡ None) where
  -- what is reached from there
  reached_outside : (files : FileMap (List Line)) → (h : StandsOver files setup m (asked answers)) → IsReached files setup (rest_of_all files setup top [] h.state)
  reached_outside files h =
      subst (λ z. IsReached files setup z)
      (ap (λ z. goes_on files setup z m.frames m.search h.state) is ∙ ap (λ z. goes_on files setup top z m.search h.state) frames ∙ ap (λ z. goes_on files setup top [] z h.state) looking)
      h.reached

  -- another top, and a state with the same core and the same pieces
  with_top : (files : FileMap (List Line)) (h : StandsOver files setup m (asked answers)) (next : Top) (r : State) → r.core ≡ h.state.core → r.stream ≡ h.state.stream →
      rest_of_all files setup top [] h.state ≡ rest_of_all files setup next [] r → StandsOver files setup (record m { top = next }) (asked answers)
  with_top files h next r core stream same = record {
    state = r;
    core = core ∙ h.core;
    reads = ap (read_stream setup.command) stream ∙ h.reads;
    directives = h.directives;
    reached = subst (λ z. IsReached files setup z)
        (same ∙ sym (ap (λ z. goes_on files setup next z m.search r) frames ∙ ap (λ z. goes_on files setup next [] z r) looking)) (reached_outside files h);
  }

-- ## Settings

-- the forced files come after the settings
pub settings_over : (setup : Setup) (m : Moment) (answers : List (List ℕ × Given)) (number : ℕ) → m.top ≡ Setting_from number [] → m.frames ≡ [] → m.search ≡ None →
    Stands setup m answers → Stands setup (record m { top = Forced_from (length setup.command.settings + 1) setup.command.forced }) answers
settings_over setup m answers number top frames looking stands files kept agree =
    let h = stands files kept agree in
    with_top setup m answers (Setting_from number []) top frames looking files h (Forced_from (length setup.command.settings + 1) setup.command.forced) h.state refl refl refl

-- the effect enters no file
abbrev pub Enterless : Effect (List Line) → Type 0
Enterless (Enters place path chain_place text c) = ⊥
Enterless other = ⊤

done_enterless : (e f : Enter (List Line)) (s : State) (a : Effect (List Line)) → Enterless a → done e s a ≡ done f s a
done_enterless e f s (Now c) h = refl
done_enterless e f s (Enters place path chain_place text c) h = absurd h
done_enterless e f s (Sends l c) h = refl
done_enterless e f s (Halts cause c) h = refl

module _ (setup : Setup) (m : Moment) (answers : List (List ℕ × Given)) (number : ℕ) (setting : Setting) (rest : List Setting) (top : m.top ≡ Setting_from number (setting ∷ rest)) (frames : m.frames ≡ []) (looking : m.search ≡ None) (stands : Stands setup m answers) where
  abbrev first_of : FileMap (List Line) → List Line → State → Reached
  first_of files ls s =
      then_go (main_file files setup) (then_go (forced_files files setup (length setup.command.settings + 1) setup.command.forced)
      (then_go (set_all files setup (number + 1) rest) (set_first files setup number ls s)))

  -- what directives see
  abbrev pub outer : Core
  outer = core_at (record m { frames = [] }) (asked answers)

  outer_is : core_at m (asked answers) ≡ outer
  outer_is = ap (λ z. core_at (record m { frames = z }) (asked answers)) frames

  module _ (l : Line) (ls : List Line) (text : lines (setting_text setting) ≡ l ∷ ls) where
    abbrev n : Line
    n = numbered_line number l

    directive : is_directive n ≡ true
    directive = begins_directive_line (directive_of_setting setting) l number (setting_line setting l ls text)

    -- its line acts
    pub setting_acts : (a : Effect (List Line)) → ((files : FileMap (List Line)) → effect files setup outer n ≡ a) → Enterless a →
        Acts setup (record m { top = Setting_from (number + 1) rest }) answers (λ files c. a)
    setting_acts a acts enterless files kept agree =
        let h = stands files kept agree in
        let stay : Enter (List Line) = λ place path chain_place text s. Going s in
        let E = entering files setup (Setting_from (number + 1) rest) [] in
        let M = main_file files setup in
        let F = forced_files files setup (length setup.command.settings + 1) setup.command.forced in
        let S = set_all files setup (number + 1) rest in
        let from = ap (λ z. first_of files z h.state) text
        ∙ ap (λ z. then_go M (then_go F (then_go S z))) (line_of_directive (List Line) stay files setup h.state n directive
        ∙ ap (λ z. done stay (end_run h.state) (effect files setup z n)) (h.core ∙ outer_is) ∙ ap (done stay (end_run h.state)) (acts files) ∙ done_enterless stay E (end_run h.state) a enterless)
        ∙ three_within M F S (done E (end_run h.state) a)
        ∙ ap (λ z. then_go (rest_of_all files setup (Setting_from (number + 1) rest) z) (done (entering files setup (Setting_from (number + 1) rest) z) (end_run h.state) a)) (sym frames) in
        record {
          state = end_run h.state;
          reads = run_reads setup h.state m.builder h.reads;
          directives = h.directives;
          reached = subst (λ z. IsReached files setup z) from (reached_outside setup m answers (Setting_from number (setting ∷ rest)) top frames looking files h);
        }

    -- which changes the macros
    pub setting_goes : (c : Core) → ((files : FileMap (List Line)) → effect files setup outer n ≡ Now c) →
        Stands setup (record m { top = Setting_from (number + 1) rest; search = None; macros = c.macros }) answers
    setting_goes c does =
        let acts = setting_line_acts (λ path. None) setup outer setting l number (setting_line setting l ls text) refl in
        let same = only_macros setting outer n (drop 2 l.toks) c (sym acts ∙ does (λ path. None)) in
        let back : outer ≡ core_at m (asked answers) = sym outer_is in
        let core : c ≡ core_at (record m { macros = c.macros }) (asked answers) = same ∙ ap (λ (z : Core). record z { macros = c.macros }) back in
        effect_done setup (record m { top = Setting_from (number + 1) rest; macros = c.macros }) answers
        (setting_acts (Now (core_at (record m { macros = c.macros }) (asked answers))) (λ files. does files ∙ ap (λ z. Now z) core) tt)

    -- or is a fault
    pub setting_faulty : (kind : FaultKind) → ((files : FileMap (List Line)) → effect files setup outer n ≡ stop kind outer n) →
        StandsAtEnd setup (Ends.Stopped (record { kind = kind; place = command_place number })) answers
    setting_faulty kind does =
        effect_stops setup (Setting_from (number + 1) rest) m.frames m.builder answers (fault kind (command_place number)) outer (Ends.Stopped (record { kind = kind; place = command_place number })) refl refl
        (setting_acts (stop kind outer n) does tt)

-- ## Forced files

module _ (setup : Setup) (m : Moment) (answers : List (List ℕ × Given)) (number : ℕ) (name : List ℕ) (names : List (List ℕ)) (top : m.top ≡ Forced_from number (name ∷ names)) (frames : m.frames ≡ []) (looking : m.search ≡ None) (stands : Stands setup m answers) where
  abbrev place : Place
  place = command_place number

  abbrev found : FileMap (List Line) → State → Core → Reached
  found files s c = done (entering files setup (Forced_from (number + 1) names) []) s
      (searching files setup (Included (place_searched setup (forced_name name) setup.command.directory)) place (searched setup (forced_name name) setup.command.directory) c)

  abbrev forced_if : FileMap (List Line) → State → Bool → Reached
  forced_if files s b =
      then_go (main_file files setup) (then_go (forced_files files setup (number + 1) names) (if b then halted (fault FaultIs.IncludeSyntax place) s.core.looked s else found files s s.core))

  -- one without a name
  pub forced_unnamed : (length name == 0) ≡ true → StandsAtEnd setup (Ends.Stopped (record { kind = FaultIs.IncludeSyntax; place = place })) answers
  forced_unnamed empty files kept agree =
      let h = stands files kept agree in
      let from = ap (forced_if files h.state) empty ∙ ap (λ z. halted (fault FaultIs.IncludeSyntax place) z.looked h.state) h.core in
      let reached = subst (λ z. IsReached files setup z) from (reached_outside setup m answers (Forced_from number (name ∷ names)) top frames looking files h) in
      let there = end_by_cause setup m.builder h.state (Known (Ends.Stopped (record { kind = FaultIs.IncludeSyntax; place = place }))) (asked answers) (fault FaultIs.IncludeSyntax place) refl h.reads in
      (reached.0 ∙ there.0, reached.1 ∙ there.1)

  -- one with a name is looked for
  pub forced_begins : (length name == 0) ≡ false →
      Stands setup (record m { top = Forced_from (number + 1) names; search = Some (include_search setup place (forced_name name) setup.command.directory 0) }) answers
  forced_begins named = search_begins setup (record m { top = Forced_from (number + 1) names }) answers (include_search setup place (forced_name name) setup.command.directory 0) (λ files kept agree.
      let h = stands files kept agree in
      let from = ap (forced_if files h.state) named
      ∙ two_within (main_file files setup) (forced_files files setup (number + 1) names) (found files h.state h.state.core)
      ∙ ap (λ z. then_go (rest_of_all files setup (Forced_from (number + 1) names) []) (found files h.state z)) h.core
      ∙ ap (λ z. then_go (rest_of_all files setup (Forced_from (number + 1) names) z) (done (entering files setup (Forced_from (number + 1) names) z) h.state
      (searching files setup (Included (place_searched setup (forced_name name) setup.command.directory)) place (searched setup (forced_name name) setup.command.directory) (core_at m (asked answers)))))
      (sym frames) in
      record {
        state = h.state;
        reads = h.reads;
        directives = h.directives;
        reached = subst (λ z. IsReached files setup z) from (reached_outside setup m answers (Forced_from number (name ∷ names)) top frames looking files h);
      })

-- ## The main file

-- it is looked for after the forced files
pub main_begins : (setup : Setup) (m : Moment) (answers : List (List ℕ × Given)) (number : ℕ) → m.top ≡ Forced_from number [] → m.frames ≡ [] → m.search ≡ None →
    Stands setup m answers → Stands setup (record m { top = Nothing_more; search = Some (first_search FaultIs.MainMissing setup.command.main) }) answers
main_begins setup m answers number top frames looking stands =
    let sought = first_search FaultIs.MainMissing setup.command.main in
    search_begins setup (record m { top = Nothing_more }) answers sought (λ files kept agree.
    let h = stands files kept agree in
    let acts : Core → Effect (List Line) = λ c. searching files setup sought.aim sought.place sought.paths c in
    let from = nothing_follows (done (entering files setup Nothing_more []) h.state (acts h.state.core))
    ∙ ap (λ z. then_go (rest_of_all files setup Nothing_more []) (done (entering files setup Nothing_more []) h.state (acts z))) h.core
    ∙ ap (λ z. then_go (rest_of_all files setup Nothing_more z) (done (entering files setup Nothing_more z) h.state (acts (core_at m (asked answers))))) (sym frames) in
    record {
      state = h.state;
      reads = h.reads;
      directives = h.directives;
      reached = subst (λ z. IsReached files setup z) from (reached_outside setup m answers (Forced_from number []) top frames looking files h);
    })
