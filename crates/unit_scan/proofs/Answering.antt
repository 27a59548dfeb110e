-- The path that was asked has its answer.
use Rattle.std.proofs.Common.{◌≡◌, ℕ, ◌+◌, ◌-◌, ◌<◌, ◌^◌, true, false, List, [], ◌∷◌, ◌++◌, take, length, refl, ap, sym, ◌∙◌, subst, arith, length-append}
use Rattle.std.specs.Prelude.{Some, None}
use Rattle.std.proofs.lemmas.List.{length-map}
use Rattle.scan_model.specs.declared.token.Line.{Line}
use Rattle.scan_model.specs.declared.outcome.Outcome.TheVariants as OutcomeIs
use Rattle.scan_model.specs.declared.unit_end.FaultKind.{FaultKind}
use Rattle.scan_model.specs.declared.unit_end.FaultKind.TheVariants as FaultIs
use Rattle.scan_model.specs.declared.unit_end.UnitEnd.TheVariants as Ends
use Rattle.scan_model.specs.Files.{Present, Absent, Failed, Big, NoMemory}
use Rattle.scan_model.specs.Candidates.{candidates, place}
use Rattle.scan_model.specs.Search.{searched, place_searched}
use Rattle.scan_model.specs.State.{Setup}
use Rattle.scan_model.specs.Effect.{Enters}
use Rattle.unit_laws.specs.Reduction.{Given}
use Rattle.reducer.specs.Answers.{content_of}
use Rattle.unit_steps.specs.Logs.{path_at}
use Rattle.unit_steps.specs.Searches.{Search, Included, on_present}
use Rattle.unit_steps.specs.Stands.{Acts, StandsAtEnd, AreAbsent}
use Rattle.unit_steps.proofs.Logs.{path_of_last}
use Rattle.unit_steps.proofs.Answers.{absent_goes_on, search_over, first_missing, failed_ends, big_ends, no_memory_ends}
use Rattle.unit_steps.proofs.Places.{absent_next, candidate_absent, candidate_there, few_candidates, few_folders, include_enters_at}
use Rattle.unit_scan.specs.declared.parts.Answered.{Answered}
use Rattle.unit_scan.specs.declared.parts.Run.{Run}
use Rattle.unit_scan.specs.declared.stage.FirstFile.{FirstFile}
use Rattle.unit_scan.specs.declared.stage.Testing.{Testing}
use Rattle.unit_scan.specs.declared.stage.Name.{Name}
use Rattle.unit_scan.specs.declared.stage.Purpose.{Purpose}
use Rattle.unit_scan.specs.declared.stage.Purpose.TheVariants as PurposeIs
use Rattle.unit_scan.specs.declared.stage.Lookup.{Lookup}
use Rattle.unit_scan.specs.declared.stage.Lookup.TheVariants.{First, Named as ByName}
use Rattle.unit_scan.specs.declared.stage.Blame.TheVariants as BlameIs
use Rattle.unit_scan.specs.declared.stage.Stage.TheVariants as StageIs
use Rattle.unit_scan.specs.Parts.{answers_of, told, moment_of}
use Rattle.unit_scan.specs.Told.{outcome_of}
use Rattle.unit_scan.specs.Lookups.{named, missing_of, first_path, paths_after}
use Rattle.unit_scan.specs.Standing.{Told, Follows, Entering, IsFaulty, IsAnswered, CanBlame, blame_of, blamed, stopped, search_now}
use Rattle.unit_scan.proofs.Falling.{order_falls}
use Rattle.unit_scan.proofs.Seeking.{test_goes_on}

pub answers_count : (log : List Answered) → length (answers_of log) ≡ length log
answers_count log = length-map log (λ a. (a.path, content_of a.answer))

-- the last answer
last_place : (before : List (List ℕ × Given)) (path : List ℕ) (content : Given) → path_at (before ++ (path, content) ∷ []) (length (before ++ (path, content) ∷ []) - 1) ≡ path
last_place before path content =
    let count = length-append before ((path, content) ∷ []) in
    let at : length (before ++ (path, content) ∷ []) - 1 ≡ length before = omega (arith, count) in
    ap (path_at (before ++ (path, content) ∷ [])) at ∙ path_of_last before path content

module _ (setup : Setup) (run : Run) (before : List (List ℕ × Given)) (path : List ℕ) (content : Given) (last : told run ≡ before ++ (path, content) ∷ []) where
  pub last_path : path_at (told run) (length (told run) - 1) ≡ path
  last_path = ap (λ z. path_at z (length z - 1)) last ∙ last_place before path content

  pub log_there : 0 < length run.log.items
  log_there =
      let all = ap length last in
      let one = length-append before ((path, content) ∷ []) in
      let count = answers_count run.log.items in
      omega (arith, all, one, count)

-- ## By what it tells

module _ (setup : Setup) (run : Run) (lookup : Lookup) (before : List (List ℕ × Given)) (path : List ℕ) where
  pub present_told : (content : Given) → OutcomeIs.Present ≡ outcome_of content → Told setup run lookup before path content → (text : List Line) × Told setup run lookup before path (Present text)
  present_told (Present text) is h = (text, h)
  present_told Absent is h = cc
  present_told Failed is h = cc
  present_told Big is h = cc
  present_told NoMemory is h = cc

  pub absent_told : (content : Given) → OutcomeIs.Absent ≡ outcome_of content → Told setup run lookup before path content → Told setup run lookup before path Absent
  absent_told Absent is h = h
  absent_told (Present text) is h = cc
  absent_told Failed is h = cc
  absent_told Big is h = cc
  absent_told NoMemory is h = cc

  pub failed_told : (content : Given) → OutcomeIs.Failed ≡ outcome_of content → Told setup run lookup before path content → Told setup run lookup before path Failed
  failed_told Failed is h = h
  failed_told (Present text) is h = cc
  failed_told Absent is h = cc
  failed_told Big is h = cc
  failed_told NoMemory is h = cc

  pub big_told : (content : Given) → OutcomeIs.Big ≡ outcome_of content → Told setup run lookup before path content → Told setup run lookup before path Big
  big_told Big is h = h
  big_told (Present text) is h = cc
  big_told Absent is h = cc
  big_told Failed is h = cc
  big_told NoMemory is h = cc

  pub no_memory_told : (content : Given) → OutcomeIs.NoMemory ≡ outcome_of content → Told setup run lookup before path content → Told setup run lookup before path NoMemory
  no_memory_told NoMemory is h = h
  no_memory_told (Present text) is h = cc
  no_memory_told Absent is h = cc
  no_memory_told Failed is h = cc
  no_memory_told Big is h = cc

-- ## Where its fault stands

pub place_is : (setup : Setup) (run : Run) (lookup : Lookup) (before : List (List ℕ × Given)) (path : List ℕ) (content : Given) → Told setup run lookup before path content →
    (search_now setup run lookup).place ≡ blamed setup run (blame_of lookup)
place_is setup run (First first) before path content h =
    let at : path_at (told run) (length (told run) - 1) ≡ first_path setup first = last_path setup run before path content h.last ∙ h.asked in
    λ i. record { path = sym at i; line = 0 }
place_is setup run (ByName n purpose) before path content h = refl

pub can_blame : (setup : Setup) (run : Run) (lookup : Lookup) (before : List (List ℕ × Given)) (path : List ℕ) (content : Given) → Told setup run lookup before path content →
    CanBlame run (blame_of lookup)
can_blame setup run (First first) before path content h = log_there setup run before path content h.last
can_blame setup run (ByName n purpose) before path content h = tt

-- ## The answers that end the unit

module _ (setup : Setup) (run : Run) (lookup : Lookup) (before : List (List ℕ × Given)) (path : List ℕ) where
  pub failed_faulty : Told setup run lookup before path Failed → IsFaulty setup run lookup FaultIs.ReadFault
  failed_faulty h = record {
    sound = h.sound;
    some = can_blame setup run lookup before path Failed h;
    ends = subst (λ p. StandsAtEnd setup (stopped FaultIs.ReadFault p) (told run)) (place_is setup run lookup before path Failed h)
        (failed_ends setup (moment_of setup run None) (told run) (search_now setup run lookup).aim (search_now setup run lookup).place path (paths_after setup lookup) h.acts);
  }

  pub big_faulty : Told setup run lookup before path Big → IsFaulty setup run lookup FaultIs.FileTooLarge
  big_faulty h = record {
    sound = h.sound;
    some = can_blame setup run lookup before path Big h;
    ends = subst (λ p. StandsAtEnd setup (stopped FaultIs.FileTooLarge p) (told run)) (place_is setup run lookup before path Big h)
        (big_ends setup (moment_of setup run None) (told run) (search_now setup run lookup).aim (search_now setup run lookup).place path (paths_after setup lookup) h.acts);
  }

  pub no_memory_follows : Told setup run lookup before path NoMemory → Follows setup run 5 run (StageIs.Over Ends.NoMemory)
  no_memory_follows h = record {
    holds = no_memory_ends setup (moment_of setup run None) (told run) (search_now setup run lookup).aim (search_now setup run lookup).place path (paths_after setup lookup) h.acts;
    less = order_falls setup run 0 5 (omega arith);
    proceeds = tt;
  }

pub faulty_follows : (setup : Setup) (run : Run) (lookup : Lookup) (kind : FaultKind) → IsFaulty setup run lookup kind →
    Follows setup run 5 run (StageIs.Over (stopped kind (blamed setup run (blame_of lookup))))
faulty_follows setup run lookup kind h = record { holds = h.ends; less = order_falls setup run 0 5 (omega arith); proceeds = tt }

-- ## No file is there

pub first_absent : (setup : Setup) (run : Run) (first : FirstFile) (before : List (List ℕ × Given)) (path : List ℕ) → Told setup run (First first) before path Absent →
    Follows setup run 5 run (StageIs.Over (stopped (missing_of first) (blamed setup run BlameIs.Alone)))
first_absent setup run first before path h =
    let sought = search_now setup run (First first) in
    let m = moment_of setup run None in
    let further = absent_goes_on setup m (told run) sought.aim sought.place path [] h.acts in
    let none : Search = record { aim = sought.aim; place = sought.place; paths = [] } in
    let over = search_over setup (record m { search = Some none }) (told run) none refl refl further in
    record {
      holds = subst (λ p. StandsAtEnd setup (stopped (missing_of first) p) (told run)) (place_is setup run (First first) before path Absent h)
          (first_missing setup m (told run) (missing_of first) sought.place over);
      less = order_falls setup run 0 5 (omega arith);
      proceeds = tt;
    }

-- the next candidate of a name
abbrev pub next_name : Name → Name
next_name n = record n { next = n.next + 1 }

module _ (setup : Setup) (run : Run) (n : Name) (before : List (List ℕ × Given)) (path : List ℕ) where
  abbrev all_paths : List (List ℕ)
  all_paths = searched setup (named n) n.from

  absent_before : (purpose : Purpose) → Told setup run (ByName n purpose) before path Absent → AreAbsent (told run) (take (n.next + 1) all_paths)
  absent_before purpose h = subst (λ z. AreAbsent z (take (n.next + 1) all_paths)) (sym h.last) (absent_next before all_paths n.next path h.asked.there h.asked.absent)

  pub name_absent : (purpose : Purpose) → Told setup run (ByName n purpose) before path Absent → Follows setup run 5 run (StageIs.Seeks (ByName (next_name n) purpose))
  name_absent PurposeIs.Included h =
      let sought = search_now setup run (ByName n PurposeIs.Included) in
      record {
        holds = record {
          sound = h.sound;
          sought = tt;
          absent = absent_before PurposeIs.Included h;
          candidates = h.candidates;
          stands = candidate_absent setup (named n) n.from (moment_of setup run None) (told run) sought.aim sought.place n.next path h.acts;
        };
        less = order_falls setup run 4 5 (omega arith);
        proceeds = tt;
      }
  name_absent (PurposeIs.Tested t) h =
      let sought = search_now setup run (ByName n (PurposeIs.Tested t)) in
      record {
        holds = record {
          sound = h.sound;
          sought = h.sought;
          absent = absent_before (PurposeIs.Tested t) h;
          candidates = h.candidates;
          stands = candidate_absent setup (named n) n.from (moment_of setup run None) (told run) sought.aim sought.place n.next path h.acts;
        };
        less = order_falls setup run 4 5 (omega arith);
        proceeds = tt;
      }

-- it has a number
pub next_small : (setup : Setup) (run : Run) (n : Name) (purpose : Purpose) (before : List (List ℕ × Given)) (path : List ℕ) (content : Given) → Told setup run (ByName n purpose) before path content →
    (from : List ℕ) → n.next < length (candidates setup.command.search setup.settings.program n.form from n.text)
next_small setup run n purpose before path content h from =
    candidate_there setup.command.search setup.settings.program n.form n.from n.text n.next path h.asked.there from

-- ## A file is there

pub test_present : (setup : Setup) (run : Run) (n : Name) (t t' : Testing) (before : List (List ℕ × Given)) (path : List ℕ) (text : List Line) →
    Told setup run (ByName n (PurposeIs.Tested t)) before path (Present text) → IsAnswered t true t' → Follows setup run 5 run (StageIs.Tests t')
test_present setup run n t t' before path text h after = record {
  holds = test_goes_on setup run t t' true after h.sound h.sought.0 h.acts;
  less = order_falls setup run 3 5 (omega arith);
  proceeds = tt;
}

pub first_present : (setup : Setup) (run : Run) (first : FirstFile) (before : List (List ℕ × Given)) (path : List ℕ) (text : List Line) → Told setup run (First first) before path (Present text) →
    Entering setup run BlameIs.Alone None
first_present setup run first before path text h = record {
  sound = h.sound;
  before = before;
  path = path;
  text = text;
  last = h.last;
  acts = subst (λ p. Acts setup (moment_of setup run None) (told run) (λ files c. Enters p path None text c)) (place_is setup run (First first) before path (Present text) h) h.acts;
}

module _ (setup : Setup) (run : Run) (n : Name) (before : List (List ℕ × Given)) (path : List ℕ) (text : List Line) (h : Told setup run (ByName n PurposeIs.Included) before path (Present text)) where
  pub include_present : (moment_of setup run None).once path ≡ false → Entering setup run (BlameIs.Here n.line) (place setup.command.search n.form n.text n.next)
  include_present once =
      let m = moment_of setup run None in
      let fault_place = (search_now setup run (ByName n PurposeIs.Included)).place in
      let given : Acts setup m (before ++ (path, Present text) ∷ []) (λ files c. on_present files setup (Included (place_searched setup (named n) n.from)) fault_place path text c) =
      subst (λ z. Acts setup m z (λ files c. on_present files setup (Included (place_searched setup (named n) n.from)) fault_place path text c)) h.last h.acts in
      let enters = include_enters_at setup m before fault_place (named n) n.from n.next path text h.asked once given in
      record {
        sound = h.sound;
        before = before;
        path = path;
        text = text;
        last = h.last;
        acts = subst (λ z. Acts setup m z (λ files c. Enters fault_place path (place setup.command.search n.form n.text n.next) text c)) (sym h.last) enters;
      }

pub next_fits : (setup : Setup) (run : Run) (n : Name) (purpose : Purpose) (before : List (List ℕ × Given)) (path : List ℕ) (content : Given) → Told setup run (ByName n purpose) before path content →
    n.next + 1 < 2 ^ 32
next_fits setup run n purpose before path content h =
    let there = next_small setup run n purpose before path content h n.from in
    let few = few_candidates setup.command.search setup.settings.program n.form n.from n.text in
    let folders = few_folders setup.command setup.settings h.sound.command h.sound.settings in
    omega (arith, there, few, folders)
