-- An answer that is given keeps what the unit stands for.
use Rattle.std.proofs.Common.{◌≡◌, ℕ, ◌-◌, ◌<◌, ◌≤◌, ◌^◌, List, [], ◌∷◌, ◌++◌, map, reverse, drop, length, slice_get, refl, ap, sym, ◌∙◌, subst, arith, length-append}
use Rattle.std.specs.Prelude.{Option, Some, None}
use Rattle.std.specs.Option.{option_map_or}
use Rattle.std.specs.List.{AllByRecursion}
use Rattle.std.specs.Global.{Vec}
use mathlib.Core.List.{reverse_aux}
use Rattle.scan_model.specs.Files.{Present, Absent, Failed, Big, NoMemory}
use Rattle.scan_model.specs.State.{Setup}
use Rattle.unit_laws.specs.Reduction.{Given}
use Rattle.plain_lines.specs.States.{groups_of, site_of}
use Rattle.reducer.specs.Answers.{content_of}
use Rattle.unit_steps.specs.Logs.{lines_in}
use Rattle.unit_steps.specs.Stack.{Frame}
use Rattle.unit_steps.specs.Searches.{Search, on_given}
use Rattle.unit_steps.specs.Moments.{Moment}
use Rattle.unit_steps.specs.Stands.{Acts}
use Rattle.unit_steps.specs.UnitView.{phase_after, given}
use Rattle.unit_steps.specs.UnitView.{told as waiting}
use Rattle.unit_scan.specs.declared.unit.Unit.TheInside.{Inside}
use Rattle.unit_scan.specs.UnitInside as inside
use Rattle.unit_steps.specs.Work.{work_at}
use Rattle.unit_steps.proofs.Logs.{get_first}
use Rattle.unit_steps.proofs.Answers.{answer_acts, no_memory_ends}
use Rattle.unit_scan.specs.declared.parts.Answered.{Answered}
use Rattle.unit_scan.specs.declared.parts.OpenFile.{OpenFile}
use Rattle.unit_scan.specs.declared.parts.Run.{Run}
use Rattle.unit_scan.specs.declared.stage.Testing.{Testing}
use Rattle.unit_scan.specs.declared.stage.Purpose.{Purpose}
use Rattle.unit_scan.specs.declared.stage.Purpose.TheVariants as PurposeIs
use Rattle.unit_scan.specs.declared.stage.Name.{Name}
use Rattle.unit_scan.specs.declared.stage.Lookup.{Lookup}
use Rattle.unit_scan.specs.declared.stage.Lookup.TheVariants.{First, Named as ByName}
use Rattle.unit_scan.specs.declared.stage.Stage.TheVariants as StageIs
use Rattle.unit_scan.specs.Parts.{IsFile, Sound, answers_of, frame_of, frames_of, taken_last, present, no_line, told, moment_of, work_of}
use Rattle.unit_scan.specs.Lookups.{IsTesting, IsFor, IsLookup, search_of, paths_after}
use Rattle.unit_scan.specs.Standing.{Asking, Told, Standing, search_now, phase_of}
use Rattle.unit_scan.specs.Told.{stage_after}

pub answers-append : (log : List Answered) (a : Answered) → answers_of (log ++ a ∷ []) ≡ answers_of log ++ (a.path, content_of a.answer) ∷ []
answers-append [] a = refl
answers-append (b ∷ log) a = ap ((b.path, content_of b.answer) ∷◌) (answers-append log a)

pub all_reversed_onto : {X : Type 0} (P : X → Type 0) (xs ys : List X) → AllByRecursion P xs → AllByRecursion P ys → AllByRecursion P (reverse_aux xs ys)
all_reversed_onto P [] ys h k = k
all_reversed_onto P (x ∷ xs) ys h k = all_reversed_onto P xs (x ∷ ys) h.1 (h.0, k)

pub all_reversed : {X : Type 0} (P : X → Type 0) (xs : List X) → AllByRecursion P xs → AllByRecursion P (reverse xs)
all_reversed P xs h = all_reversed_onto P xs [] h tt

-- ## Files on the stack, when the log is longer

module _ (answers : List (List ℕ × Given)) (a : List ℕ × Given) where
  abbrev longer : List (List ℕ × Given)
  longer = answers ++ a ∷ []

  frame_same : (f : OpenFile) → IsFile answers f → frame_of longer f ≡ frame_of answers f
  frame_same f h =
      ap (λ o. let g : Frame = record {
        path = option_map_or (λ b. b.0) o [];
        site = site_of (option_map_or (λ b. b.0) o []) f.state.site;
        chain_place = f.state.chain_place;
        groups = groups_of f.state.groups.items;
        rest = drop f.next (option_map_or lines_in o []);
      } in g) (get_first answers (a ∷ []) f.answer h.there)

  all_frames_same : (files : List OpenFile) → AllByRecursion (IsFile answers) files → map (frame_of longer) files ≡ map (frame_of answers) files
  all_frames_same [] h = refl
  all_frames_same (f ∷ files) h = ap (λ z. z ∷ map (frame_of longer) files) (frame_same f h.0) ∙ ap (frame_of answers f ∷◌) (all_frames_same files h.1)

  pub frames_same : (files : List OpenFile) → AllByRecursion (IsFile answers) files → frames_of longer files ≡ frames_of answers files
  frames_same files h = all_frames_same (reverse files) (all_reversed (IsFile answers) files h)

  still_file : (f : OpenFile) → IsFile answers f → IsFile longer f
  still_file f h = record {
    there = let more = length-append answers (a ∷ []) in omega (arith, h.there, more);
    next = subst (λ o. f.next ≤ length (option_map_or lines_in o [])) (sym (get_first answers (a ∷ []) f.answer h.there)) h.next;
    few = subst (λ o. length (option_map_or lines_in o []) < 2 ^ 32) (sym (get_first answers (a ∷ []) f.answer h.there)) h.few;
  }

  pub still_files : (files : List OpenFile) → AllByRecursion (IsFile answers) files → AllByRecursion (IsFile longer) files
  still_files [] h = tt
  still_files (f ∷ files) h = (still_file f h.0, still_files files h.1)

  taken_same : (files : List OpenFile) → AllByRecursion (IsFile answers) files → taken_last longer files ≡ taken_last answers files
  taken_same [] h = refl
  taken_same (f ∷ files) h = ap (λ o. option_map_or (λ l. l) (slice_get (option_map_or lines_in o []) (f.next - 1)) no_line) (get_first answers (a ∷ []) f.answer h.0.there)

pub present_same : (answers : List (List ℕ × Given)) (a : List ℕ × Given) (files : List OpenFile) → AllByRecursion (IsFile answers) files → present (answers ++ a ∷ []) files ≡ present answers files
present_same answers a files h = taken_same answers a (reverse files) (all_reversed (IsFile answers) files h)

-- ## The unit

-- the log has one answer more
module _ (setup : Setup) (run : Run) (log : Vec Answered) (path : List ℕ) (content : Given) (longer_log : answers_of log.items ≡ told run ++ (path, content) ∷ []) (sound : Sound setup run) where
  abbrev after : Run
  after = record run { log = log }

  files_there : AllByRecursion (IsFile (told run)) run.stack.items
  files_there = sound.files

  pub frames_kept : frames_of (told after) run.stack.items ≡ frames_of (told run) run.stack.items
  frames_kept = ap (λ z. frames_of z run.stack.items) longer_log ∙ frames_same (told run) (path, content) run.stack.items files_there

  pub present_kept : present (told after) run.stack.items ≡ present (told run) run.stack.items
  present_kept = ap (λ z. present z run.stack.items) longer_log ∙ present_same (told run) (path, content) run.stack.items files_there

  pub sound_kept : Sound setup after
  sound_kept = record {
    command = sound.command;
    settings = sound.settings;
    files = subst (λ z. AllByRecursion (IsFile z) run.stack.items) (sym longer_log) (still_files (told run) (path, content) run.stack.items files_there);
    depth = sound.depth;
    entered = sound.entered;
    left = sound.left;
    tests = sound.tests;
    candidates = sound.candidates;
  }

  pub moment_kept : (search : Option Search) → moment_of setup after search ≡ moment_of setup run search
  moment_kept search = ap (λ z. let m : Moment = record (moment_of setup run search) { frames = z } in m) frames_kept

  pub work_kept : work_of setup after ≡ work_of setup run
  work_kept = ap (λ m. work_at setup m run.tests run.candidates) (moment_kept None)

  pub search_kept : (lookup : Lookup) → search_now setup after lookup ≡ search_now setup run lookup
  search_kept lookup =
      ap (λ z. search_of setup z (present (told after) run.stack.items) lookup) frames_kept
      ∙ ap (λ z. search_of setup (frames_of (told run) run.stack.items) z lookup) present_kept

  testing_kept : (t : Testing) (n : ℕ) → IsTesting run t n → IsTesting after t n
  testing_kept t n h = record { taken = h.taken; within = h.within; formed = h.formed; entries = h.entries; tests = h.tests }

  for_kept : (n : Name) (purpose : Purpose) → IsFor setup run n purpose → IsFor setup after n purpose
  for_kept n PurposeIs.Included h = tt
  for_kept n (PurposeIs.Tested t) h = (testing_kept t 1 h.0, h.1 ∙ ap (λ l. l.line) (sym present_kept))

  pub lookup_kept : (lookup : Lookup) → IsLookup setup run lookup → IsLookup setup after lookup
  lookup_kept (First first) h = h
  lookup_kept (ByName n purpose) h = for_kept n purpose h

  -- the path that waits has its answer
  module _ (lookup : Lookup) (asking : Asking setup run lookup path) where
    given_acts : Acts setup (moment_of setup after None) (told after)
        (λ files c. on_given files setup (search_now setup after lookup).aim (search_now setup after lookup).place path (paths_after setup lookup) content c)
    given_acts =
        let sought = search_now setup run lookup in
        let one = answer_acts setup (moment_of setup run (Some sought)) (told run) sought path (paths_after setup lookup) content refl asking.paths asking.stands in
        let two = subst (λ z. Acts setup (moment_of setup run None) z (λ files c. on_given files setup sought.aim sought.place path (paths_after setup lookup) content c)) (sym longer_log) one in
        let three = subst (λ m. Acts setup m (told after) (λ files c. on_given files setup sought.aim sought.place path (paths_after setup lookup) content c)) (sym (moment_kept None)) two in
        subst (λ s. Acts setup (moment_of setup after None) (told after) (λ files c. on_given files setup s.aim s.place path (paths_after setup lookup) content c)) (sym (search_kept lookup)) three

    pub given_told : Told setup after lookup (told run) path content
    given_told = record {
      sound = sound_kept;
      sought = lookup_kept lookup asking.sought;
      last = longer_log;
      asked = asking.asked;
      candidates = asking.candidates;
      acts = given_acts;
    }

-- by the answer
module _ (setup : Setup) (run : Run) (log : Vec Answered) (path : List ℕ) (lookup : Lookup) (asking : Asking setup run lookup path) where
  abbrev then_after : Run
  then_after = record run { log = log }

  pub given_stands : (content : Given) → answers_of log.items ≡ told run ++ (path, content) ∷ [] → Standing setup then_after (stage_after lookup content)
  given_stands (Present text) longer_log = (told run, (path, (Present text, given_told setup run log path (Present text) longer_log asking.sound lookup asking)))
  given_stands Absent longer_log = (told run, (path, (Absent, given_told setup run log path Absent longer_log asking.sound lookup asking)))
  given_stands Failed longer_log = (told run, (path, (Failed, given_told setup run log path Failed longer_log asking.sound lookup asking)))
  given_stands Big longer_log = (told run, (path, (Big, given_told setup run log path Big longer_log asking.sound lookup asking)))
  given_stands NoMemory longer_log =
      let now = given_told setup run log path NoMemory longer_log asking.sound lookup asking in
      no_memory_ends setup (moment_of setup then_after None) (told then_after) (search_now setup then_after lookup).aim (search_now setup then_after lookup).place path (paths_after setup lookup) now.acts

  pub phase_given : (content : Given) → phase_of setup then_after (stage_after lookup content) ≡ phase_after content
  phase_given (Present text) = refl
  phase_given Absent = refl
  phase_given Failed = refl
  phase_given Big = refl
  phase_given NoMemory = refl

-- what callers see
pub given_view : (u : Inside) (log : Vec Answered) (path : List ℕ) (lookup : Lookup) (content : Given) → u.stage ≡ StageIs.Asks lookup path → Asking (inside.setup_of u) u.run lookup path →
    answers_of log.items ≡ told u.run ++ (path, content) ∷ [] →
    inside.view_of (record u { run = record u.run { log = log }; stage = stage_after lookup content }) ≡ given (inside.view_of u) content
given_view u log path lookup content is asking longer_log =
    let setup = inside.setup_of u in
    let answers = longer_log ∙ sym (ap (λ z. told u.run ++ waiting (phase_of setup u.run z) content) is) in
    let phase = phase_given setup u.run log path lookup asking content in
    let work = work_kept setup u.run log path content longer_log asking.sound in
    λ i. record { command = u.command.now; settings = u.settings.now; answers = answers i; phase = phase i; work = work i }
