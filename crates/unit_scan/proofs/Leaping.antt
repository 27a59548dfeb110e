-- A jump over the lines of a group that isn't taken.
use Rattle.std.proofs.Common.{◌≡◌, ℕ, zero, suc, ◌+◌, ◌-◌, ◌*◌, ◌^◌, ◌<◌, ◌≤◌, true, List, [], ◌∷◌, ◌++◌, reverse, map, drop, length, slice_get, refl, ap, sym, ◌∙◌, subst, arith, length-append}
use Rattle.std.specs.Prelude.{IfOk, Some, None}
use Rattle.std.specs.declared.result.Result.{Result}
use Rattle.std.specs.declared.result.Result.TheVariants.{Ok, Err}
use Rattle.std.specs.Option.{option_map}
use Rattle.std.specs.Global.{Vec}
use Rattle.std.specs.List.{AllByRecursion}
use Rattle.scan_model.specs.declared.memory.NoMemory.{NoMemory}
use Rattle.scan_model.specs.declared.token.Line.{Line}
use Rattle.scan_model.specs.declared.skip.Skip.{Skip}
use Rattle.scan_model.specs.declared.skip.Skip.TheVariants.{Partner, Broken, Open}
use Rattle.scan_model.specs.declared.unit_end.FaultKind.TheVariants as FaultIs
use Rattle.scan_model.specs.Conditionals.{is_skipped}
use Rattle.scan_model.specs.Skips.{skip}
use Rattle.scan_model.specs.State.{Group, Setup}
use Rattle.scan_model.specs.WholeFile.{entered_limit}
use Rattle.reducer.specs.declared.LineHead.{LineHead}
use Rattle.reducer.specs.Views.{head}
use Rattle.unit_laws.specs.Reduction.{Given}
use Rattle.unit_laws.specs.Skipping.{line_at}
use Rattle.plain_lines.specs.declared.action.Action.TheVariants as ActionIs
use Rattle.unit_steps.specs.Logs.{lines_at}
use Rattle.unit_steps.specs.Stack.{Frame, current}
use Rattle.unit_steps.specs.Moments.{Moment, with_rest}
use Rattle.unit_steps.specs.Jumps.{IsBehind, unbalanced_at, left_open}
use Rattle.unit_steps.specs.Laws.{SkipLeaves}
use Rattle.unit_steps.specs.Stands.{Stands, StandsAtEnd}
use Rattle.unit_steps.specs.Work.{Work, rank, lines_left, not_begun}
use Rattle.unit_steps.proofs.Jumps.{jumps_stand}
use Rattle.unit_steps.proofs.Ranks.{jump_falls}
use Rattle.unit_steps.proofs.SkipRanges.{skip_behind}
use Rattle.unit_scan.specs.declared.parts.OpenFile.{OpenFile}
use Rattle.unit_scan.specs.declared.parts.Run.{Run}
use Rattle.unit_scan.specs.declared.stage.Blame.TheVariants as BlameIs
use Rattle.unit_scan.specs.declared.stage.Stage.{Stage}
use Rattle.unit_scan.specs.declared.stage.Stage.TheVariants as StageIs
use Rattle.unit_scan.specs.Parts.{IsFile, Sound, frame_of, frames_of, told, top_of, moment_of, work_of}
use Rattle.unit_scan.specs.Jumps.{landing, top_landing}
use Rattle.unit_scan.specs.Standing.{Acted, Follows, FollowsJump, FollowsLine, blamed, stopped, stage_order, left_order}
use Rattle.unit_scan.proofs.Stacks.{frames_with, last_file, with_file, top_first}
use Rattle.unit_scan.proofs.Tops.{next_of, top_file}

-- ## Lines

-- a reader shows the number of each line
pub number_is : (ls : List Line) (k : ℕ) (h : LineHead) → option_map head (slice_get ls k) ≡ Some h → h.line ≡ line_at ls k
number_is [] k h e = cc
number_is (l ∷ ls) zero h e = let same : head l ≡ h = cc in ap (λ z. z.line) (sym same)
number_is (l ∷ ls) (suc k) h e = number_is ls k h e

-- ## By what the skip tells

partner_of : (ls : List Line) (k : ℕ) (gs : List Group) (j : ℕ) (s : Skip) → Ok j ≡ landing ls k gs s → s ≡ Partner j
partner_of ls k gs j (Partner i) e = let same : i ≡ j = cc in ap (λ n. Partner n) same
partner_of ls k gs j (Broken i) e = cc
partner_of ls k gs j (Open i) e = cc

stops_at : (setup : Setup) (m : Moment) (answers : List (List ℕ × Given)) (f : Frame) (fs : List Frame) (ls : List Line) (k line : ℕ) (s : Skip) → SkipLeaves setup m answers f fs ls k s →
    Err line ≡ landing ls k f.groups s → StandsAtEnd setup (unbalanced_at f.path line) answers
stops_at setup m answers f fs ls k line (Partner i) h e = cc
stops_at setup m answers f fs ls k line (Broken i) h e =
    let same : line_at ls i ≡ line = cc in
    subst (λ n. StandsAtEnd setup (unbalanced_at f.path n) answers) same h
stops_at setup m answers f fs ls k line (Open i) h e =
    let same : left_open ls k i f.groups ≡ line = cc in
    subst (λ n. StandsAtEnd setup (unbalanced_at f.path n) answers) same h

-- ## From the line that was taken last

module _ (setup : Setup) (run : Run) (h : Acted setup run ActionIs.Skips) (file : OpenFile) (under : List OpenFile) (is : reverse run.stack.items ≡ file ∷ under) where
  abbrev answers : List (List ℕ × Given)
  answers = told run

  abbrev ls : List Line
  ls = lines_at answers file.answer

  abbrev k : ℕ
  k = file.next - 1

  abbrev f : Frame
  f = frame_of answers file

  abbrev fs : List Frame
  fs = map (frame_of answers) under

  abbrev m : Moment
  m = moment_of setup run None

  frames_now : frames_of answers run.stack.items ≡ f ∷ fs
  frames_now = ap (map (frame_of answers)) is

  some : 0 < file.next
  some = subst (λ n. 0 < n) (ap next_of (sym h.taken.1.1.0 ∙ is)) h.taken.1.1.1

  rest : f.rest ≡ drop (k + 1) ls
  rest = let there = some in let same : file.next ≡ k + 1 = omega (arith, there) in ap (λ n. drop n ls) same

  within : k < length ls
  within =
      let there = some in
      let all = (top_file answers run.stack.items file under is h.sound.files).next in
      omega (arith, there, all)

  skipped : is_skipped f.groups ≡ true
  skipped = subst (λ z. is_skipped (current z).groups ≡ true) frames_now h.after.1

  leaves : SkipLeaves setup m answers f fs ls k (skip ls k setup.command.dialect)
  leaves = jumps_stand setup m answers f fs ls k frames_now rest skipped refl within h.after.0

  -- the conditionals are unbalanced
  pub unbalanced_follows : (line : ℕ) → Err line ≡ top_landing setup.command.dialect answers (reverse run.stack.items) →
      FollowsJump setup run run (StageIs.Over (stopped FaultIs.Unbalanced (blamed setup run (BlameIs.Here line))))
  unbalanced_follows line lands = record {
    holds = subst (λ z. StandsAtEnd setup (unbalanced_at (current z).path line) answers) (sym frames_now)
        (stops_at setup m answers f fs ls k line (skip ls k setup.command.dialect) leaves (lands ∙ ap (top_landing setup.command.dialect answers) is));
    depth = omega arith;
    lines = omega arith;
    left = refl;
    entered = refl;
    tests = refl;
    candidates = refl;
    proceeds = λ before after. tt;
    order = omega arith;
  }

  -- the file goes on at this place
  module _ (j : ℕ) (lands : Ok j ≡ top_landing setup.command.dialect answers (reverse run.stack.items)) (below : List OpenFile) (on_stack : run.stack.items ≡ below ++ file ∷ []) (stack : Vec OpenFile) where
    abbrev file' : OpenFile
    file' = record file { next = j }

    abbrev run' : Run
    run' = record run { stack = stack }

    tells : skip ls k setup.command.dialect ≡ Partner j
    tells = partner_of ls k f.groups j (skip ls k setup.command.dialect) (lands ∙ ap (top_landing setup.command.dialect answers) is)

    behind : IsBehind k (length ls) (Partner j)
    behind = subst (λ z. IsBehind k (length ls) z) tells (skip_behind ls k setup.command.dialect within)

    stands : Stands setup (with_rest m f fs (drop j ls)) answers
    stands = subst (λ z. SkipLeaves setup m answers f fs ls k z) tells leaves

    under_is : frames_of answers below ≡ fs
    under_is = ap (λ z. map (frame_of answers) (drop 1 z)) (sym (top_first below file) ∙ ap reverse (sym on_stack) ∙ is)

    pub jump_follows : stack.items ≡ below ++ file' ∷ [] → FollowsJump setup run run' StageIs.Runs
    jump_follows pushed =
        let parts = last_file answers below file (subst (λ z. AllByRecursion (IsFile answers) z) on_stack h.sound.files) in
        let far = behind in
        let again : IsFile answers file' = record { there = parts.1.there; next = omega (arith, far.1); few = parts.1.few } in
        let count : length stack.items ≡ length run.stack.items = ap length pushed ∙ length-append below (file' ∷ []) ∙ sym (ap length on_stack ∙ length-append below (file ∷ [])) in
        let after : frames_of answers stack.items ≡ frame_of answers file' ∷ fs = ap (frames_of answers) pushed ∙ frames_with answers below file' ∙ ap (λ z. frame_of answers file' ∷ z) under_is in
        let fewer = jump_falls f fs ls k j (not_begun setup (top_of setup.command run.left)) rest far.0 in
        let now = ap lines_left after in
        let was = ap lines_left frames_now in
        record {
          holds = record {
            sound = record {
              command = h.sound.command;
              settings = h.sound.settings;
              files = subst (λ z. AllByRecursion (IsFile answers) z) (sym pushed) (with_file answers below file' parts.0 again);
              depth = subst (λ n. n ≤ 201) (sym count) h.sound.depth;
              entered = h.sound.entered;
              left = h.sound.left;
              tests = h.sound.tests;
              candidates = h.sound.candidates;
            };
            stands = subst (λ z. Stands setup (record m { frames = z; search = None }) answers) (sym after) stands;
          };
          depth = omega (arith, count);
          lines = omega (arith, fewer, now, was);
          left = refl;
          entered = refl;
          tests = refl;
          candidates = refl;
          proceeds = λ before after. tt;
          order = omega arith;
        }

-- ## As what follows a line or a condition

no_more : (f g l k : ℕ) → f ≡ g → l ≤ k → f * 2 ^ 64 + l ≤ g * 2 ^ 64 + k
no_more f g l k same few = omega (arith, same, few)

as_much : (x y b d : ℕ) → x ≤ y → b ≡ d → x * 2 ^ 64 + b ≤ y * 2 ^ 64 + d
as_much x y b d few same = omega (arith, few, same)

rank_no_more : (w v : Work) → w.files ≡ v.files → w.lines ≤ v.lines → w.tests ≡ v.tests → w.candidates ≡ v.candidates → rank w ≤ rank v
rank_no_more w v files lines tests candidates =
    as_much _ _ _ _ (as_much _ _ _ _ (no_more w.files v.files w.lines v.lines files lines) tests) candidates

below_three : (a b s t l o n : ℕ) → a ≤ b → s ≤ t → l ≡ o → n < 3 → a * 4096 + (s * 16 + l * 8 + n) < b * 4096 + (t * 16 + o * 8 + 3)
below_three a b s t l o n less deep same small = omega (arith, less, deep, same, small)

module _ (setup : Setup) (run run' : Run) where
  -- after a line
  pub line_jumped : Sound setup run → (r : Result Stage NoMemory) → IfOk r (λ stage. FollowsJump setup run run' stage) → IfOk r (λ stage. FollowsLine setup run run' stage)
  line_jumped sound (Ok stage) h = record {
    holds = h.holds;
    depth = h.depth;
    lines = h.lines;
    entered = h.entered;
    tests = subst (λ n. n < 2 ^ 64) (sym h.tests) sound.tests;
    candidates = subst (λ n. n < 2 ^ 64) (sym h.candidates) sound.candidates;
    proceeds = h.proceeds;
    order = let small = h.order in omega (arith, small);
  }
  line_jumped sound (Err e) h = tt

  -- after a condition, which left as much
  pub condition_jumped : (first : Run) → (work_of setup run).lines ≡ (work_of setup first).lines → length run.stack.items ≡ length first.stack.items → run.left ≡ first.left → run.entered ≡ first.entered →
      run.tests ≡ first.tests → run.candidates ≡ first.candidates → (r : Result Stage NoMemory) → IfOk r (λ stage. FollowsJump setup run run' stage) → IfOk r (λ stage. Follows setup first 3 run' stage)
  condition_jumped first lines count left entered tests candidates (Ok stage) h =
      let fewer : (work_of setup run').lines ≤ (work_of setup first).lines = subst (λ n. (work_of setup run').lines ≤ n) lines h.lines in
      let deep : length run'.stack.items ≤ length first.stack.items = subst (λ n. length run'.stack.items ≤ n) count h.depth in
      record {
        holds = h.holds;
        less = below_three (rank (work_of setup run')) (rank (work_of setup first)) (length run'.stack.items) (length first.stack.items) (left_order run'.left) (left_order first.left) (stage_order stage)
            (rank_no_more (work_of setup run') (work_of setup first) (ap (λ n. entered_limit - n) (h.entered ∙ entered)) fewer (h.tests ∙ tests) (h.candidates ∙ candidates))
            deep (ap left_order (h.left ∙ left)) h.order;
        proceeds = h.proceeds (work_of setup first) (work_of setup run');
      }
  condition_jumped first lines count left entered tests candidates (Err e) h = tt
