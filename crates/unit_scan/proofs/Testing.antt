-- The tests of a condition, one after another, and its value.
use Rattle.std.proofs.Common.{◌≡◌, ℕ, ◌+◌, ◌-◌, ◌<◌, ◌≤◌, ◌^◌, Bool, true, false, List, [], ◌∷◌, ◌++◌, reverse, map, drop, length, refl, ap, sym, ◌∙◌, subst, arith, length-append}
use Rattle.std.specs.Prelude.{IfOk, Some, None, IsTrue, is_some}
use Rattle.std.specs.declared.result.Result.{Result}
use Rattle.std.specs.declared.result.Result.TheVariants.{Ok, Err}
use Rattle.std.specs.Option.{option_map_or}
use Rattle.std.specs.Global.{Vec}
use Rattle.std.specs.List.{AllByRecursion}
use mathlib.Core.List.{reverse_aux}
use Rattle.scan_model.specs.declared.memory.NoMemory.{NoMemory}
use Rattle.scan_model.specs.declared.token.Tok.{Tok}
use Rattle.scan_model.specs.declared.token.Line.{Line}
use Rattle.scan_model.specs.declared.command.Form.{Form}
use Rattle.scan_model.specs.declared.condition.CondValue.{CondValue}
use Rattle.scan_model.specs.declared.condition.CondFault.{CondFault}
use Rattle.scan_model.specs.HeaderName.{Term, Plain, Has, terms}
use Rattle.scan_model.specs.Condition.{value}
use Rattle.scan_model.specs.ConditionValue.{is_nonzero}
use Rattle.scan_model.specs.Conditionals.{fault_of, is_skipped, opening_of}
use Rattle.scan_model.specs.Paths.{folder}
use Rattle.scan_model.specs.Search.{searched, search_form}
use Rattle.scan_model.specs.State.{Group, Setup}
use Rattle.unit_laws.specs.Reduction.{Given}
use Rattle.if_values.specs.Known.{has_count, HasEntries}
use Rattle.plain_lines.specs.Conditions.{from_first_test, test_count, chosen}
use Rattle.plain_lines.specs.States.{groups_of}
use Rattle.unit_steps.specs.Stack.{Frame, current}
use Rattle.unit_steps.specs.Searches.{Tested, name_search, with_terms, put_before, chosen_groups}
use Rattle.unit_steps.specs.Moments.{Moment}
use Rattle.unit_steps.specs.Stands.{Acts, Stands, StandsAtEnd}
use Rattle.unit_steps.specs.Work.{not_begun, lines_left}
use Rattle.unit_steps.proofs.Conditions.{test_first, term_sought, condition_faulty, condition_chosen}
use Rattle.unit_steps.proofs.Places.{absent_first}
use Rattle.unit_steps.proofs.Ranks.{tests_fall}
use Rattle.plain_lines.specs.declared.action.Action.TheVariants as ActionIs
use Rattle.plain_lines.specs.declared.state.OpenGroup.{OpenGroup}
use Rattle.unit_scan.specs.declared.parts.OpenFile.{OpenFile}
use Rattle.unit_scan.specs.declared.parts.Run.{Run}
use Rattle.unit_scan.specs.declared.stage.Testing.{Testing}
use Rattle.unit_scan.specs.declared.stage.Name.{Name}
use Rattle.unit_scan.specs.declared.stage.Purpose.TheVariants as PurposeIs
use Rattle.unit_scan.specs.declared.stage.Lookup.TheVariants.{Named as ByName}
use Rattle.unit_scan.specs.declared.stage.Blame.TheVariants as BlameIs
use Rattle.unit_scan.specs.declared.stage.Stage.{Stage}
use Rattle.unit_scan.specs.declared.stage.Stage.TheVariants as StageIs
use Rattle.unit_scan.specs.Parts.{IsFile, Sound, frame_of, frames_of, present, told, top_of, moment_of, work_of}
use Rattle.unit_scan.specs.Lookups.{HasTaken, IsTesting, named, place_at, opening, so_far, terms_from}
use Rattle.unit_scan.specs.Standing.{Running, Conditional, Acted, Follows, FollowsJump, blamed, stopped}
use Rattle.unit_scan.proofs.Falling.{order_falls, rank_falls, same_falls, measured}
use Rattle.unit_scan.proofs.Leaping.{condition_jumped}
use Rattle.unit_scan.proofs.Stacks.{frames_with, last_file, with_file, top_first}
use Rattle.unit_scan.proofs.Tops.{next_of}

-- ## Counts

same_counts : (ts : List Term) → test_count ts ≡ has_count ts
same_counts [] = refl
same_counts (Plain t ∷ ts) = same_counts ts
same_counts (Has next form name ∷ ts) = ap (λ n. 1 + n) (same_counts ts)

count_first : (ts : List Term) → has_count ts ≡ has_count (from_first_test ts)
count_first [] = refl
count_first (Plain t ∷ ts) = count_first ts
count_first (Has next form name ∷ ts) = refl

pub terms_are : (toks : List Tok) (k : ℕ) (ts : List Term) → terms (drop k toks) ≡ Some ts → terms_from toks k ≡ ts
terms_are toks k ts is = ap (λ o. option_map_or (λ us. us) o []) is

pub chosen_same : (l : Line) (line : ℕ) (is_elif yields : Bool) (gs : List Group) → line ≡ l.line → chosen line is_elif yields gs ≡ chosen_groups l (opening_of is_elif gs) yields gs
chosen_same l line true yields (g ∷ gs) is = refl
chosen_same l line true yields [] is = ap (λ n. let g : Group = record { line = n; live = yields; taken = yields; past_else = false } in g ∷ []) is
chosen_same l line false yields (h ∷ gs) is = ap (λ n. let g : Group = record { line = n; live = yields; taken = yields; past_else = false } in g ∷ h ∷ gs) is
chosen_same l line false yields [] is = ap (λ n. let g : Group = record { line = n; live = yields; taken = yields; past_else = false } in g ∷ []) is

chosen_skipped : (line : ℕ) (is_elif : Bool) (gs : List Group) → is_skipped (chosen line is_elif false gs) ≡ true
chosen_skipped line true (g ∷ gs) = refl
chosen_skipped line true [] = refl
chosen_skipped line false (g ∷ gs) = refl
chosen_skipped line false [] = refl

-- the answers so far, in order
all_before : (xs ys : List Bool) → put_before xs ys ≡ reverse_aux xs ys
all_before [] ys = refl
all_before (x ∷ xs) ys = all_before xs (x ∷ ys)

twice : {X : Type 0} (xs ys : List X) → reverse_aux (reverse_aux xs ys) [] ≡ reverse_aux ys xs
twice [] ys = refl
twice (x ∷ xs) ys = twice xs (x ∷ ys)

pub in_order : (items : List Bool) → put_before (reverse items) [] ≡ items
in_order items = all_before (reverse items) [] ∙ twice items []

-- ## The file at the top

pub taken_frames : (answers : List (List ℕ × Given)) (files : List OpenFile) (f : OpenFile) (fs : List OpenFile) → reverse files ≡ f ∷ fs →
    frames_of answers files ≡ frame_of answers f ∷ map (frame_of answers) fs
taken_frames answers files f fs is = ap (map (frame_of answers)) is

-- ## The next test

module _ (setup : Setup) (run : Run) (t : Testing) (h : Conditional setup run t) (ts : List Term) (some : terms (drop t.next t.toks) ≡ Some ts) where
  abbrev fs : List Frame
  fs = frames_of (told run) run.stack.items

  abbrev l : Line
  l = present (told run) run.stack.items

  abbrev m : Moment
  m = moment_of setup run None

  -- from the first test on
  from_test : Acts setup m (told run) (λ files c. with_terms files setup l (opening fs t) (so_far t) (from_first_test ts) t.toks c)
  from_test =
      test_first from_first_test refl (λ t ts. refl) (λ next form name ts. refl) setup m (told run) l (opening fs t) (so_far t) t.toks ts
      (subst (λ us. Acts setup m (told run) (λ files c. with_terms files setup l (opening fs t) (so_far t) us t.toks c)) (terms_are t.toks t.next ts some) h.acts)

  -- there is one
  module _ (next : Bool) (form : Form) (name : List ℕ) (rest : List Term) (first : from_first_test ts ≡ Has next form name ∷ rest) (past : ℕ) (further : terms (drop past t.toks) ≡ Some rest) (within : past ≤ length t.toks) where
    module _ (form' : Form) (from' : List ℕ) (line' : ℕ) (k : ℕ) (form_is : form' ≡ search_form next (current fs).chain_place form) (from_is : from' ≡ folder (current fs).path) (line_is : line' ≡ l.line) where
      abbrev n : Name
      n = record { form = form'; from = from'; text = name; next = 0; line = line' }

      abbrev t' : Testing
      t' = record t { next = past }

      abbrev run' : Run
      run' = record run { tests = run.tests - 1; candidates = k }

      abbrev Sought : List Frame → Form → List ℕ → ℕ → List Term → Type 0
      Sought z form from line us =
          Stands setup (record m {
            frames = z;
            search = Some (name_search (Tested l (opening z t) (so_far t) us t.toks) setup (place_at z line)
                (record { form = form; name = name; after = [] }) from 0);
          }) (told run)

      sought : Sought fs form' from' line' (terms_from t.toks past)
      sought =
          let taken = h.testing.taken in
          let f = taken.0 in
          let below = taken.1.0 in
          let frames = taken_frames (told run) run.stack.items f below taken.1.1.0 in
          let acts = subst (λ us. Acts setup m (told run) (λ files c. with_terms files setup l (opening fs t) (so_far t) us t.toks c)) first from_test in
          let there = term_sought setup m (told run) l (opening fs t) t.toks (frame_of (told run) f) (map (frame_of (told run)) below) frames (so_far t) next form name rest acts in
          let one : Sought fs (search_form next (current fs).chain_place form) (folder (current fs).path) l.line rest =
          subst (λ z. Stands setup (record m {
            frames = z;
            search = Some (name_search (Tested l (opening fs t) (so_far t) rest t.toks) setup (place_at z l.line)
                (record { form = search_form next (current z).chain_place form; name = name; after = [] }) (folder (current z).path) 0);
          }) (told run)) (sym frames) there in
          let two = subst (λ z. Sought fs z (folder (current fs).path) l.line rest) (sym form_is) one in
          let three = subst (λ z. Sought fs form' z l.line rest) (sym from_is) two in
          let four = subst (λ z. Sought fs form' from' z rest) (sym line_is) three in
          subst (λ z. Sought fs form' from' line' z) (sym (terms_are t.toks past rest further)) four

      left_count : has_count (terms_from t.toks t.next) ≡ 1 + has_count (terms_from t.toks past)
      left_count = ap has_count (terms_are t.toks t.next ts some) ∙ count_first ts ∙ ap has_count first ∙ ap (λ us. 1 + has_count us) (sym (terms_are t.toks past rest further))

      testing' : IsTesting run' t' 1
      testing' = record {
        taken = h.testing.taken;
        within = within;
        formed = subst (λ o. IsTrue (is_some o)) (sym further) refl;
        entries =
            let count = left_count in
            let sum : length t.so_far.items + 0 + has_count (terms_from t.toks t.next) ≡ length t.so_far.items + 1 + has_count (terms_from t.toks past) = omega (arith, count) in
            h.testing.entries ∙ ap (λ n. Some n) sum;
        tests =
            let count = left_count in
            let now = h.testing.tests ∙ same_counts (terms_from t.toks t.next) in
            let left = same_counts (terms_from t.toks past) in
            omega (arith, count, now, left);
      }

      -- so one test less is left
      pub tests_there : 0 < run.tests
      tests_there =
          let count = left_count in
          let now = h.testing.tests ∙ same_counts (terms_from t.toks t.next) in
          omega (arith, count, now)

      pub look_up_follows : k ≡ length (searched setup (named n) n.from) → k < 2 ^ 64 → Follows setup run 3 run' (StageIs.Seeks (ByName n (PurposeIs.Tested t')))
      look_up_follows count small =
          let few = h.sound.tests in
          let sound' : Sound setup run' = record {
            command = h.sound.command;
            settings = h.sound.settings;
            files = h.sound.files;
            depth = h.sound.depth;
            entered = h.sound.entered;
            left = h.sound.left;
            tests = omega (arith, few);
            candidates = small;
          } in
          let some_left = tests_there in
          record {
            holds = record {
              sound = sound';
              sought = (testing', line_is);
              absent = absent_first (told run) (searched setup (named n) n.from);
              candidates = count;
              stands = sought;
            };
            less = rank_falls setup run run' 3 4 (tests_fall (work_of setup run') (work_of setup run) (measured setup run' sound') refl refl (omega (arith, some_left))) h.sound.depth (omega arith);
            proceeds = tt;
          }

  -- there is none
  module _ (none : from_first_test ts ≡ []) where
    over : Acts setup m (told run) (λ files c. with_terms files setup l (opening fs t) (so_far t) [] t.toks c)
    over = subst (λ us. Acts setup m (told run) (λ files c. with_terms files setup l (opening fs t) (so_far t) us t.toks c)) none from_test

    pub all_answered : HasEntries t.toks t.so_far.items
    all_answered =
        let count : has_count (terms_from t.toks t.next) ≡ 0 = ap has_count (terms_are t.toks t.next ts some) ∙ count_first ts ∙ ap has_count none in
        let sum : length t.so_far.items + 0 + has_count (terms_from t.toks t.next) ≡ length t.so_far.items = omega (arith, count) in
        h.testing.entries ∙ ap (λ n. Some n) sum

    pub value_faulty : (x : CondFault) → value t.toks t.so_far.items ≡ Err x → Follows setup run 3 run (StageIs.Over (stopped (fault_of x) (blamed setup run (BlameIs.Here l.line))))
    value_faulty x is =
        let taken = h.testing.taken in
        let frames = taken_frames (told run) run.stack.items taken.0 taken.1.0 taken.1.1.0 in
        record {
          holds = subst (λ z. StandsAtEnd setup (stopped (fault_of x) (place_at z l.line)) (told run)) (sym frames)
              (condition_faulty setup m (told run) l (opening fs t) t.toks (frame_of (told run) taken.0) (map (frame_of (told run)) taken.1.0) frames (so_far t) over x
              (ap (value t.toks) (in_order t.so_far.items) ∙ is));
          less = order_falls setup run 0 3 (omega arith);
          proceeds = tt;
        }

    -- the condition has this value; the file at the top goes on with these open conditionals
    module _ (v : CondValue) (is : value t.toks t.so_far.items ≡ Ok v) (below : List OpenFile) (file : OpenFile) (on_stack : run.stack.items ≡ below ++ file ∷ []) (groups : Vec OpenGroup) (line : ℕ) (line_is : line ≡ l.line) (chose : groups_of groups.items ≡ chosen line t.is_elif (is_nonzero v) (groups_of file.state.groups.items)) (stack : Vec OpenFile) where
      abbrev file' : OpenFile
      file' = record file { state = record file.state { groups = groups } }

      abbrev chosen_run : Run
      chosen_run = record run { stack = stack }

      now_frames : fs ≡ frame_of (told run) file ∷ frames_of (told run) below
      now_frames = ap (frames_of (told run)) on_stack ∙ frames_with (told run) below file

      groups_are : chosen_groups l (opening fs t) (is_nonzero v) (groups_of file.state.groups.items) ≡ groups_of groups.items
      groups_are =
          ap (λ z. chosen_groups l (opening z t) (is_nonzero v) (groups_of file.state.groups.items)) now_frames
          ∙ sym (chose ∙ chosen_same l line t.is_elif (is_nonzero v) (groups_of file.state.groups.items) line_is)

      module _ (pushed : stack.items ≡ below ++ file' ∷ []) where
        frames_after : frames_of (told run) stack.items ≡ frame_of (told run) file' ∷ frames_of (told run) below
        frames_after = ap (frames_of (told run)) pushed ∙ frames_with (told run) below file'

        as_many : length stack.items ≡ length run.stack.items
        as_many = ap length pushed ∙ length-append below (file' ∷ []) ∙ sym (ap length on_stack ∙ length-append below (file ∷ []))

        as_much_left : (work_of setup chosen_run).lines ≡ (work_of setup run).lines
        as_much_left = ap (λ z. lines_left z + not_begun setup (top_of setup.command run.left)) frames_after ∙ sym (ap (λ z. lines_left z + not_begun setup (top_of setup.command run.left)) now_frames)

        runs : Running setup chosen_run
        runs =
            let parts = last_file (told run) below file (subst (λ z. AllByRecursion (IsFile (told run)) z) on_stack h.sound.files) in
            let again : IsFile (told run) file' = record { there = parts.1.there; next = parts.1.next; few = parts.1.few } in
            let chose_frames = condition_chosen setup m (told run) l (opening fs t) t.toks (frame_of (told run) file) (frames_of (told run) below) now_frames (so_far t) over v
            (ap (value t.toks) (in_order t.so_far.items) ∙ is) in
            record {
              sound = record {
                command = h.sound.command;
                settings = h.sound.settings;
                files = subst (λ z. AllByRecursion (IsFile (told run)) z) (sym pushed) (with_file (told run) below file' parts.0 again);
                depth = subst (λ n. n ≤ 201) (sym as_many) h.sound.depth;
                entered = h.sound.entered;
                left = h.sound.left;
                tests = h.sound.tests;
                candidates = h.sound.candidates;
              };
              stands = subst (λ z. Stands setup (record m { frames = z; search = None }) (told run)) (sym frames_after)
                  (subst (λ g. Stands setup (record m { frames = record (frame_of (told run) file) { groups = g } ∷ frames_of (told run) below; search = None }) (told run)) groups_are chose_frames);
            }

        pub value_follows : Follows setup run 3 chosen_run StageIs.Runs
        value_follows = record {
          holds = runs;
          less = same_falls setup run chosen_run 3 2 as_much_left as_many (omega arith) refl refl refl refl;
          proceeds = tt;
        }

        still_taken : HasTaken stack.items
        still_taken = (
          file',
          (reverse below, (ap reverse pushed ∙ top_first below file', subst (λ n. 0 < n) (ap next_of (sym h.testing.taken.1.1.0 ∙ ap reverse on_stack ∙ top_first below file)) h.testing.taken.1.1.1)),
        )

        -- its group isn't taken
        pub value_skips : is_nonzero v ≡ false → Acted setup chosen_run ActionIs.Skips
        value_skips dead = record {
          sound = runs.sound;
          taken = still_taken;
          after = (
            runs.stands,
            ap (λ z. is_skipped (current z).groups) frames_after
                ∙ ap is_skipped (chose ∙ ap (λ b. chosen line t.is_elif b (groups_of file.state.groups.items)) dead)
                ∙ chosen_skipped line t.is_elif (groups_of file.state.groups.items),
          );
        }

        pub jump_after_value : (run'' : Run) (r : Result Stage NoMemory) → IfOk r (λ stage. FollowsJump setup chosen_run run'' stage) → IfOk r (λ stage. Follows setup run 3 run'' stage)
        jump_after_value run'' = condition_jumped setup chosen_run run'' run as_much_left as_many refl refl refl refl
