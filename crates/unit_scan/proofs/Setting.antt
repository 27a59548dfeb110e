-- A setting of the command line acts.
use Rattle.std.proofs.Common.{◌≡◌, ℕ, ◌+◌, ◌<◌, Bool, true, false, if◌then◌else◌, List, [], ◌∷◌, ◌++◌, drop, slice_get, refl, ap, sym, ◌∙◌, subst, inl, inr, arith}
use Rattle.std.specs.Prelude.{Some, None}
use Rattle.std.proofs.lemmas.Option.{slice_get_within}
use Rattle.scan_model.specs.declared.token.Line.{Line}
use Rattle.scan_model.specs.declared.command.Dialect.{Dialect}
use Rattle.scan_model.specs.declared.command.Setting.{Setting}
use Rattle.scan_model.specs.declared.command.Setting.TheVariants as SettingIs
use Rattle.scan_model.specs.declared.directive.Directive.TheVariants.{Nothing}
use Rattle.scan_model.specs.declared.unit_end.FaultKind.{FaultKind}
use Rattle.scan_model.specs.declared.unit_end.FaultKind.TheVariants as FaultIs
use Rattle.scan_model.specs.Skips.{directive_in, begins_group}
use Rattle.scan_model.specs.Directives.{directive_of}
use Rattle.scan_model.specs.DirectiveLines.{effect}
use Rattle.scan_model.specs.Files.{FileMap, Absent, Nowhere, find, looked_at}
use Rattle.scan_model.specs.Lines.{lines, kept}
use Rattle.reducer.specs.ReducedLines.{toks_of}
use Rattle.scan_model.specs.declared.unit_end.Place.{Place}
use Rattle.scan_model.specs.HeaderName.{Named}
use Rattle.scan_model.specs.ModuleLines.{Builder}
use Rattle.scan_model.specs.Paths.{folder}
use Rattle.scan_model.specs.Search.{on_found, searched, place_searched}
use Rattle.scan_model.specs.Includes.{unless_once}
use Rattle.scan_model.specs.Conditionals.{is_skipped}
use Rattle.scan_model.specs.State.{Setup, Core, Faulty}
use Rattle.scan_model.specs.Stream.{ModuleLine}
use Rattle.scan_model.specs.Effect.{Effect, Now, Sends, Halts, place_of, stop, stop_at}
use Rattle.scan_model.specs.WholeUnit.{command_line, setting_text}
use Rattle.unit_laws.specs.Reduction.{Given}
use Rattle.unit_laws.specs.KnownAnswers.{asked}
use Rattle.plain_lines.specs.declared.action.Action.{Action}
use Rattle.plain_lines.specs.declared.action.Action.TheVariants as ActionIs
use Rattle.plain_lines.specs.declared.kept_line.KeptLine.{KeptLine}
use Rattle.plain_lines.specs.declared.state.FileState.{FileState}
use Rattle.plain_lines.specs.declared.state.UnitState.{UnitState}
use Rattle.plain_lines.specs.Lines.{line_of, toks_at}
use Rattle.plain_lines.specs.Actions.{Does}
use Rattle.plain_lines.specs.States.{core_of, groups_of, site_of}
use Rattle.unit_steps.specs.Stack.{current, Setting_from}
use Rattle.unit_steps.specs.Settings.{BeginsWithDirective, numbered_line, directive_of_setting}
use Rattle.unit_steps.specs.Moments.{Moment, core_at}
use Rattle.unit_steps.specs.Stands.{Stands, StandsAtEnd}
use Rattle.unit_steps.specs.Work.{not_begun}
use Rattle.unit_steps.proofs.Begun.{setting_goes, setting_faulty}
use Rattle.unit_steps.proofs.SettingLines.{setting_keeps, setting_line, setting_line_acts, setting_changes, only_macros, Changes}
use Rattle.unit_steps.proofs.Reaching.{drop_at}
use Rattle.unit_steps.proofs.Ranks.{lines_fall}
use Rattle.unit_scan.specs.declared.parts.Left.TheVariants as LeftIs
use Rattle.unit_scan.specs.declared.parts.Run.{Run}
use Rattle.unit_scan.specs.declared.stage.Blame.TheVariants as BlameIs
use Rattle.unit_scan.specs.declared.stage.Stage.TheVariants as StageIs
use Rattle.unit_scan.specs.Parts.{Sound, frames_of, told, top_of, moment_of, work_of}
use Rattle.unit_scan.specs.Standing.{Running, Follows, IsPlain, plain_fault, blamed, stopped}
use Rattle.unit_scan.specs.Taking.{ActsOutside, SettingActs}
use Rattle.scan_model.specs.declared.unit_end.UnitEnd.{UnitEnd}
use Rattle.std.specs.Option.{option_map_or}
use Rattle.unit_scan.proofs.Falling.{order_falls, rank_falls, measured}

-- ## What the line of a setting doesn't do

-- where no file is there
nowhere : (paths : List (List ℕ)) → find {X = List Line} (λ path. Some Absent) paths ≡ Nowhere
unfolding find
nowhere [] = refl
nowhere (p ∷ ps) = nowhere ps

no_group : (setting : Setting) (dialect : Dialect) (l : Line) → BeginsWithDirective (directive_of_setting setting) l → begins_group (directive_in dialect l.toks) ≡ false
no_group setting dialect l h =
    ap (λ ts. begins_group (directive_in dialect ts)) h.toks
    ∙ ap (λ b. begins_group (if b then directive_of dialect (h.word ∷ h.more) else Nothing)) h.is_hash
    ∙ ap begins_group (h.directive dialect) ∙ by_setting setting where
      by_setting : (setting : Setting) → begins_group (directive_of_setting setting) ≡ false
      by_setting (SettingIs.Define text) = refl
      by_setting (SettingIs.Undef text) = refl

no_send : (c : Core) (n : Line) (e : Effect (List Line)) → Changes c n e → (m : ModuleLine) (d : Core) → e ≡ Sends m d → ⊥
no_send c n e (inl found) m d is = let no = sym found.1 ∙ is in cc
no_send c n e (inr faulty) m d is = let no = sym faulty ∙ is in cc

abbrev kind_of : Effect (List Line) → FaultKind
kind_of (Halts (Faulty f) c) = f.kind
kind_of e = FaultIs.BadDefine

no_include : (c : Core) (n : Line) (e : Effect (List Line)) → Changes c n e → (p : Place) (d : Core) → e ≡ stop_at FaultIs.IncludeNotFound p d → ⊥
no_include c n e (inl found) p d is = let no = sym found.1 ∙ is in cc
no_include c n e (inr faulty) p d is = let no : FaultIs.BadDefine ≡ FaultIs.IncludeNotFound = ap kind_of (sym faulty ∙ is) in cc

module _ (setup : Setup) (run : Run) (h : Running setup run) (empty : run.stack.items ≡ []) (k : ℕ) (is : run.left ≡ LeftIs.Settings k) (setting : Setting) (there : slice_get setup.command.settings k ≡ Some setting) (l : Line) (ls : List Line) (text : lines (setting_text setting) ≡ l ∷ ls) (file file' : FileState) (state : UnitState) (at : KeptLine) (line_is : line_of at ≡ numbered_line (k + 1) l) (begins : core_of command_line run.entered (asked (told run)) file run.state ≡ core_at (record (moment_of setup run None) { frames = [] }) (asked (told run))) where
  abbrev m : Moment
  m = moment_of setup run None

  abbrev answers : List (List ℕ × Given)
  answers = told run

  abbrev n : Line
  n = numbered_line (k + 1) l

  abbrev before : Core
  before = core_of command_line run.entered (asked answers) file run.state

  abbrev after : Core
  after = core_of command_line run.entered (asked answers) file' state

  abbrev outside_core : Core
  outside_core = core_at (record m { frames = [] }) (asked answers)

  abbrev rest : List Setting
  rest = drop (k + 1) setup.command.settings

  no_frames : m.frames ≡ []
  no_frames = ap (frames_of answers) empty

  top_is : m.top ≡ Setting_from (k + 1) (setting ∷ rest)
  top_is = ap (top_of setup.command) is ∙ ap (Setting_from (k + 1)) (drop_at setup.command.settings k setting there)

  first : BeginsWithDirective (directive_of_setting setting) l
  first = setting_line setting l ls text

  -- what it may do
  changes : (files : FileMap (List Line)) → Changes before n (effect files setup before (line_of at))
  changes files =
      subst (λ z. Changes before n (effect files setup before z)) (sym line_is)
      (subst (λ e. Changes before n e) (sym (setting_line_acts files setup before setting l (k + 1) first (ap (λ c. is_skipped c.stack) begins))) (setting_changes setting before n (drop 2 l.toks)))

  abbrev Line_does : Action → Type 0
  Line_does action = (files : FileMap (List Line)) → Does files setup at before run.state.builder after state.builder (effect files setup before (line_of at)) action

  all_absent : FileMap (List Line)
  all_absent path = Some Absent

  pub plain_action : at.dialect ≡ setup.command.dialect → (action : Action) → Line_does action → IsPlain action
  unfolding all_absent find
  plain_action dialect ActionIs.Goes does = tt
  plain_action dialect ActionIs.Skips does = tt
  plain_action dialect (ActionIs.Stops kind) does = tt
  plain_action dialect ActionIs.Sent does = let d = does (λ path. None) in no_send before n _ (changes (λ path. None)) d.0 after d.1.0
  plain_action dialect (ActionIs.Refused x) does = let d = does (λ path. None) in no_send before n _ (changes (λ path. None)) d.0 before d.1.0
  plain_action dialect (ActionIs.Includes form name) does =
      let sought : Named = record { form = form; name = name; after = [] } in
      let p = place_of before (line_of at) in
      let paths = searched setup sought (folder before.path) in
      let c' : Core = record before { looked = before.looked ++ looked_at all_absent paths } in
      let none = ap (λ z. on_found {X = List Line} p c' (stop_at FaultIs.IncludeNotFound p) (unless_once p (place_searched setup sought (folder before.path))) z) (nowhere paths) in
      no_include before n _ (changes all_absent) p c' ((does all_absent).0 ∙ none)
  plain_action dialect (ActionIs.Tests condition) does =
      let group = (does (λ path. None)).1.2 in
      let toks : toks_at at ≡ l.toks = ap (λ z. z.toks) line_is in
      let no : true ≡ false = sym group ∙ ap (λ ts. begins_group (directive_in at.dialect ts)) toks ∙ no_group setting at.dialect l first in
      cc

  -- what directives see outside all files
  acts_outside : (files : FileMap (List Line)) → effect files setup outside_core n ≡ effect files setup before (line_of at)
  acts_outside files = ap (λ c. effect files setup c n) (sym begins) ∙ ap (λ z. effect files setup before z) (sym line_is)

  -- it goes on
  pub setting_goes_on : ((files : FileMap (List Line)) → effect files setup before (line_of at) ≡ Now after) → state.builder ≡ run.state.builder →
      Follows setup run 2 (record run { state = state; left = LeftIs.Settings (k + 1) }) StageIs.Runs
  setting_goes_on does built =
      let run' : Run = record run { state = state; left = LeftIs.Settings (k + 1) } in
      let within = slice_get_within setup.command.settings k setting there in
      let acts = setting_line_acts (λ path. None) setup before setting l (k + 1) first (ap (λ c. is_skipped c.stack) begins) in
      let e = does (λ path. None) in
      let same : after ≡ record before { macros = after.macros } = only_macros setting before n (drop 2 l.toks) after (sym acts ∙ ap (λ z. effect (λ path. None) setup before z) (sym line_is) ∙ e) in
      let once : after.once ≡ m.once = ap (λ (c : Core). c.once) same in
      let goes = setting_goes setup m answers (k + 1) setting rest top_is no_frames refl h.stands l ls text after (λ files. acts_outside files ∙ does files) in
      let S : (List ℕ → Bool) → Builder → Type 0 = λ o b. Stands setup (record m { top = Setting_from (k + 1 + 1) rest; search = None; macros = after.macros; once = o; builder = b }) answers in
      let one = subst (λ o. S o run.state.builder) (sym once) goes in
      let two = subst (λ b. S after.once b) (sym built) one in
      let sound : Sound setup run' = record {
        command = h.sound.command;
        settings = h.sound.settings;
        files = h.sound.files;
        depth = h.sound.depth;
        entered = h.sound.entered;
        left = omega (arith, within);
        tests = h.sound.tests;
        candidates = h.sound.candidates;
      } in
      let less : not_begun setup (top_of setup.command (LeftIs.Settings (k + 1))) < not_begun setup (top_of setup.command run.left) = let was = ap (not_begun setup) top_is in omega (arith, was) in
      record {
        holds = record { sound = sound; stands = two };
        less = rank_falls setup run run' 2 2 (lines_fall (work_of setup run') (work_of setup run) (measured setup run' sound) refl (omega (arith, less))) h.sound.depth (omega arith);
        proceeds = tt;
      }

  -- or it is at fault
  pub setting_stops : (kind : FaultKind) → ((files : FileMap (List Line)) → effect files setup before (line_of at) ≡ stop kind before (line_of at)) →
      Follows setup run 2 (record run { state = state }) (StageIs.Over (stopped kind (blamed setup (record run { state = state }) (BlameIs.Here (k + 1)))))
  setting_stops kind does =
      let same : stop {X = List Line} kind before (line_of at) ≡ stop kind outside_core n = ap (λ z. stop kind before z) line_is ∙ ap (λ c. stop kind c n) begins in
      let ends = setting_faulty setup m answers (k + 1) setting rest top_is no_frames refl h.stands l ls text kind (λ files. acts_outside files ∙ does files ∙ same) in
      record {
        holds = subst (λ z. StandsAtEnd setup (stopped kind (record { path = (current z).path; line = k + 1 })) answers) (sym no_frames) ends;
        less = order_falls setup run 0 2 (omega arith);
        proceeds = tt;
      }

-- the setting of this number acts, as the code has it
module _ (setup : Setup) (run : Run) (h : Running setup run) (empty : run.stack.items ≡ []) (k : ℕ) (is : run.left ≡ LeftIs.Settings k) (state : UnitState) (action : Action) (acts : SettingActs setup.command k run.state state action) where
  abbrev a : ActsOutside (kept (setting_text acts.0)) (k + 1) setup.command.dialect run.state state action
  a = acts.1.1

  keeps : (l : Line) × ((rest : List Line) × ((ls : List Line) × ((kept (setting_text acts.0) ≡ l ∷ rest) × (lines (setting_text acts.0) ≡ l ∷ ls))))
  keeps = setting_keeps acts.0

  first_line : line_of a.at ≡ numbered_line (k + 1) keeps.0
  first_line = a.line ∙ ap (λ ls. let n : Line = record { toks = toks_of ls 0; line = k + 1; next = k + 1 + 1 } in n) keeps.1.1.1.0

  core_begins : core_of command_line run.entered (asked (told run)) a.before run.state ≡ core_at (record (moment_of setup run None) { frames = [] }) (asked (told run))
  core_begins = λ i. record (core_at (record (moment_of setup run None) { frames = [] }) (asked (told run))) { site = site_of command_line (a.site i); chain_place = a.chain_place i; stack = groups_of (a.groups i) }

  does_here : (files : FileMap (List Line)) →
      Does files setup a.at (core_of command_line run.entered (asked (told run)) a.before run.state) run.state.builder (core_of command_line run.entered (asked (told run)) a.after state) state.builder
      (effect files setup (core_of command_line run.entered (asked (told run)) a.before run.state) (line_of a.at)) action
  does_here files =
      subst (λ p. Does files setup a.at (core_of p run.entered (asked (told run)) a.before run.state) run.state.builder (core_of p run.entered (asked (told run)) a.after state) state.builder
      (effect files setup (core_of p run.entered (asked (told run)) a.before run.state) (line_of a.at)) action) a.path
      (a.acts files setup (sym a.edition) run.entered (asked (told run)))

  pub set_plain : IsPlain action
  set_plain = plain_action setup run h empty k is acts.0 acts.1.0 keeps.0 keeps.1.1.0 keeps.1.1.1.1 a.before a.after state a.at first_line core_begins a.edition action does_here

-- then it goes on
pub set_goes : (setup : Setup) (run : Run) (h : Running setup run) (empty : run.stack.items ≡ []) (k : ℕ) (is : run.left ≡ LeftIs.Settings k) (state : UnitState) (action : Action) (acts : SettingActs setup.command k run.state state action) →
    plain_fault action ≡ None → Follows setup run 2 (record run { state = state; left = LeftIs.Settings (k + 1) }) StageIs.Runs
set_goes setup run h empty k is state ActionIs.Goes acts none =
    let q = keeps setup run h empty k is state ActionIs.Goes acts in
    let a = acts.1.1 in
    let d = does_here setup run h empty k is state ActionIs.Goes acts in
    setting_goes_on setup run h empty k is acts.0 acts.1.0 q.0 q.1.1.0 q.1.1.1.1 a.before a.after state a.at (first_line setup run h empty k is state ActionIs.Goes acts) (core_begins setup run h empty k is state ActionIs.Goes acts)
    (λ files. (d files).0) (d (λ path. None)).1
set_goes setup run h empty k is state ActionIs.Skips acts none =
    let q = keeps setup run h empty k is state ActionIs.Skips acts in
    let a = acts.1.1 in
    let d = does_here setup run h empty k is state ActionIs.Skips acts in
    setting_goes_on setup run h empty k is acts.0 acts.1.0 q.0 q.1.1.0 q.1.1.1.1 a.before a.after state a.at (first_line setup run h empty k is state ActionIs.Skips acts) (core_begins setup run h empty k is state ActionIs.Skips acts)
    (λ files. (d files).0) (d (λ path. None)).1
set_goes setup run h empty k is state (ActionIs.Stops kind) acts none = cc
set_goes setup run h empty k is state ActionIs.Sent acts none = absurd (set_plain setup run h empty k is state ActionIs.Sent acts)
set_goes setup run h empty k is state (ActionIs.Refused x) acts none = absurd (set_plain setup run h empty k is state (ActionIs.Refused x) acts)
set_goes setup run h empty k is state (ActionIs.Includes form name) acts none = absurd (set_plain setup run h empty k is state (ActionIs.Includes form name) acts)
set_goes setup run h empty k is state (ActionIs.Tests condition) acts none = absurd (set_plain setup run h empty k is state (ActionIs.Tests condition) acts)

-- or it is at fault
pub set_stops : (setup : Setup) (run : Run) (h : Running setup run) (empty : run.stack.items ≡ []) (k : ℕ) (is : run.left ≡ LeftIs.Settings k) (state : UnitState) (action : Action) (acts : SettingActs setup.command k run.state state action) →
    (kind : FaultKind) → plain_fault action ≡ Some kind → (end : UnitEnd) → end ≡ stopped kind (blamed setup (record run { state = state }) (BlameIs.Here (k + 1))) → Follows setup run 2 (record run { state = state }) (StageIs.Over end)
set_stops setup run h empty k is state (ActionIs.Stops fault) acts kind some end is_end =
    let q = keeps setup run h empty k is state (ActionIs.Stops fault) acts in
    let a = acts.1.1 in
    let d = does_here setup run h empty k is state (ActionIs.Stops fault) acts in
    let same : fault ≡ kind = ap (λ o. option_map_or (λ x. x) o fault) some in
    let ends = setting_stops setup run h empty k is acts.0 acts.1.0 q.0 q.1.1.0 q.1.1.1.1 a.before a.after state a.at (first_line setup run h empty k is state (ActionIs.Stops fault) acts)
    (core_begins setup run h empty k is state (ActionIs.Stops fault) acts) fault (λ files. (d files).0) in
    subst (λ e. Follows setup run 2 (record run { state = state }) (StageIs.Over e))
    (ap (λ f. stopped f (blamed setup (record run { state = state }) (BlameIs.Here (k + 1)))) same ∙ sym is_end) ends
set_stops setup run h empty k is state ActionIs.Goes acts kind some end is_end = cc
set_stops setup run h empty k is state ActionIs.Skips acts kind some end is_end = cc
set_stops setup run h empty k is state ActionIs.Sent acts kind some end is_end = absurd (set_plain setup run h empty k is state ActionIs.Sent acts)
set_stops setup run h empty k is state (ActionIs.Refused x) acts kind some end is_end = absurd (set_plain setup run h empty k is state (ActionIs.Refused x) acts)
set_stops setup run h empty k is state (ActionIs.Includes form name) acts kind some end is_end = absurd (set_plain setup run h empty k is state (ActionIs.Includes form name) acts)
set_stops setup run h empty k is state (ActionIs.Tests condition) acts kind some end is_end = absurd (set_plain setup run h empty k is state (ActionIs.Tests condition) acts)
