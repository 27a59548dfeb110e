-- What isn't begun begins.
use Rattle.std.proofs.Common.{◌≡◌, ℕ, zero, suc, ◌+◌, ◌*◌, ◌^◌, ◌<◌, ◌≤◌, ◌==◌, true, false, List, [], ◌∷◌, drop, length, slice_get, refl, ap, sym, ◌∙◌, subst, arith}
use Rattle.std.specs.Prelude.{Some, None}
use Rattle.scan_model.specs.declared.unit_end.UnitEnd.{UnitEnd}
use Rattle.scan_model.specs.declared.unit_end.FaultKind.TheVariants as FaultIs
use Rattle.scan_model.specs.declared.command.Form.TheVariants.{Quoted}
use Rattle.scan_model.specs.Search.{searched}
use Rattle.scan_model.specs.State.{Setup}
use Rattle.scan_model.specs.WholeUnit.{command_line}
use Rattle.unit_steps.specs.Stack.{current, Setting_from, Forced_from}
use Rattle.unit_steps.specs.Searches.{include_search}
use Rattle.unit_steps.specs.Moments.{Moment}
use Rattle.unit_steps.specs.Stands.{Stands, StandsAtEnd}
use Rattle.unit_steps.specs.Work.{rank, lines_left, not_begun}
use Rattle.unit_steps.proofs.Begun.{settings_over, forced_unnamed, forced_begins, main_begins}
use Rattle.unit_steps.proofs.Endings.{unit_ends}
use Rattle.unit_steps.proofs.Places.{absent_first}
use Rattle.unit_steps.proofs.Ranks.{lines_fall}
use Rattle.unit_steps.proofs.Reaching.{drop_at}
use Rattle.unit_scan.specs.declared.parts.Left.{Left}
use Rattle.unit_scan.specs.declared.parts.Left.TheVariants as LeftIs
use Rattle.unit_scan.specs.declared.parts.Run.{Run}
use Rattle.unit_scan.specs.declared.stage.FirstFile.TheVariants as FirstIs
use Rattle.unit_scan.specs.declared.stage.Name.{Name}
use Rattle.unit_scan.specs.declared.stage.Purpose.TheVariants as PurposeIs
use Rattle.unit_scan.specs.declared.stage.Lookup.TheVariants.{First, Named as ByName}
use Rattle.unit_scan.specs.declared.stage.Blame.TheVariants as BlameIs
use Rattle.unit_scan.specs.declared.stage.Stage.TheVariants as StageIs
use Rattle.unit_scan.specs.Parts.{Sound, IsLeft, frames_of, told, top_of, moment_of, work_of}
use Rattle.unit_scan.specs.Lookups.{named}
use Rattle.unit_scan.specs.Standing.{Running, Follows, blamed, stopped, left_order, steps_from}
use Rattle.unit_scan.proofs.Falling.{order_falls, rank_falls, measured}

-- the whole is left at 0, and none past the end
drop_all : {X : Type 0} (xs : List X) (k : ℕ) → length xs ≤ k → drop k xs ≡ []
drop_all [] zero h = refl
drop_all [] (suc k) h = refl
drop_all (x ∷ xs) zero h = absurd (omega (arith, h))
drop_all (x ∷ xs) (suc k) h = drop_all xs k (omega (arith, h))

module _ (setup : Setup) (run : Run) (h : Running setup run) (empty : run.stack.items ≡ []) where
  abbrev m : Moment
  m = moment_of setup run None

  no_frames : m.frames ≡ []
  no_frames = ap (frames_of (told run)) empty

  sound_with : (left : Left) (k : ℕ) → IsLeft setup.command left → k < 2 ^ 64 → Sound setup (record run { left = left; candidates = k })
  sound_with left k there small = record {
    command = h.sound.command;
    settings = h.sound.settings;
    files = h.sound.files;
    depth = h.sound.depth;
    entered = h.sound.entered;
    left = there;
    tests = h.sound.tests;
    candidates = small;
  }

  -- less isn't begun
  left_falls : (left : Left) (k n : ℕ) → IsLeft setup.command left → k < 2 ^ 64 → n < 8 → not_begun setup (top_of setup.command left) < not_begun setup (top_of setup.command run.left) →
      steps_from setup (record run { left = left; candidates = k }) n < steps_from setup run 2
  left_falls left k n there small order less =
      let run' : Run = record run { left = left; candidates = k } in
      rank_falls setup run run' 2 n (lines_fall (work_of setup run') (work_of setup run) (measured setup run' (sound_with left k there small)) refl (omega (arith, less))) h.sound.depth order

  -- ## All settings have acted

  pub settings_end : (k : ℕ) → run.left ≡ LeftIs.Settings k → length setup.command.settings ≤ k → Follows setup run 2 (record run { left = LeftIs.Forced 0 }) StageIs.Runs
  settings_end k is over =
      let run' : Run = record run { left = LeftIs.Forced 0 } in
      let top : m.top ≡ Setting_from (k + 1) [] = ap (top_of setup.command) is ∙ ap (Setting_from (k + 1)) (drop_all setup.command.settings k over) in
      let was = ap (not_begun setup) top in
      let none : not_begun setup (top_of setup.command run.left) ≡ length setup.command.forced + 1 = omega (arith, was) in
      let zero_more : length setup.command.settings + 1 + 0 ≡ length setup.command.settings + 1 = omega arith in
      record {
        holds = record {
          sound = sound_with (LeftIs.Forced 0) run.candidates (omega arith) h.sound.candidates;
          stands = subst (λ n. Stands setup (record m { top = Forced_from n setup.command.forced }) (told run)) (sym zero_more)
              (settings_over setup m (told run) (k + 1) top no_frames refl h.stands);
        };
        less =
            let order : left_order run.left ≡ 1 = ap left_order is in
            let lines : (work_of setup run').lines ≡ (work_of setup run).lines = ap (λ n. lines_left m.frames + n) (sym none) in
            let same : rank (work_of setup run') ≡ rank (work_of setup run) =
            λ i. rank (record { files = (work_of setup run).files; lines = lines i; tests = run.tests; candidates = run.candidates }) in
            lower (rank (work_of setup run')) (rank (work_of setup run)) (length run.stack.items) (left_order run.left) same order;
        proceeds = tt;
      } where
        lower : (a b s l : ℕ) → a ≡ b → l ≡ 1 → a * 4096 + (s * 16 + 0 * 8 + 2) < b * 4096 + (s * 16 + l * 8 + 2)
        lower a b s l same order = omega (arith, same, order)

  -- ## The forced files

  module _ (k : ℕ) (is : run.left ≡ LeftIs.Forced k) where
    abbrev number : ℕ
    number = length setup.command.settings + 1 + k

    -- one of them
    module _ (text : List ℕ) (there : slice_get setup.command.forced k ≡ Some text) (within : k < length setup.command.forced) where
      top : m.top ≡ Forced_from number (text ∷ drop (k + 1) setup.command.forced)
      top = ap (top_of setup.command) is ∙ ap (Forced_from number) (drop_at setup.command.forced k text there)

      pub forced_ends : (length text == 0) ≡ true → Follows setup run 2 run (StageIs.Over (stopped FaultIs.IncludeSyntax (blamed setup run (BlameIs.Here number))))
      forced_ends none = record {
        holds = subst (λ z. StandsAtEnd setup (stopped FaultIs.IncludeSyntax (record { path = (current z).path; line = number })) (told run)) (sym no_frames)
            (forced_unnamed setup m (told run) number text (drop (k + 1) setup.command.forced) top no_frames refl h.stands none);
        less = order_falls setup run 0 2 (omega arith);
        proceeds = tt;
      }

      -- the same, as the code has its end
      pub forced_over : (length text == 0) ≡ true → (line : ℕ) → line ≡ number → (end : UnitEnd) → end ≡ stopped FaultIs.IncludeSyntax (blamed setup run (BlameIs.Here line)) → Follows setup run 2 run (StageIs.Over end)
      forced_over none line is_line end is_end =
          subst (λ z. Follows setup run 2 run (StageIs.Over z)) (sym (is_end ∙ ap (λ n. stopped FaultIs.IncludeSyntax (blamed setup run (BlameIs.Here n))) is_line)) (forced_ends none)

      abbrev sought : Name
      sought = record { form = Quoted; from = setup.command.directory; text = text; next = 0; line = number }

      pub forced_seeks : (length text == 0) ≡ false → (count : ℕ) → count ≡ length (searched setup (named sought) setup.command.directory) → count < 2 ^ 64 →
          Follows setup run 2 (record run { left = LeftIs.Forced (k + 1); candidates = count }) (StageIs.Seeks (ByName sought PurposeIs.Included))
      forced_seeks some count is_count small =
          let next : number + 1 ≡ length setup.command.settings + 1 + (k + 1) = omega arith in
          let begins = forced_begins setup m (told run) number text (drop (k + 1) setup.command.forced) top no_frames refl h.stands some in
          let later = subst (λ n. Stands setup (record m {
            top = Forced_from n (drop (k + 1) setup.command.forced);
            search = Some (include_search setup (record { path = command_line; line = number }) (named sought) setup.command.directory 0);
          }) (told run)) next begins in
          let placed = subst (λ z. Stands setup (record m {
            top = Forced_from (length setup.command.settings + 1 + (k + 1)) (drop (k + 1) setup.command.forced);
            search = Some (include_search setup (record { path = (current z).path; line = number }) (named sought) setup.command.directory 0);
          }) (told run)) (sym no_frames) later in
          let less : not_begun setup (top_of setup.command (LeftIs.Forced (k + 1))) < not_begun setup (top_of setup.command run.left) =
          let was = ap (not_begun setup) top in omega (arith, was) in
          record {
            holds = record {
              sound = sound_with (LeftIs.Forced (k + 1)) count (omega (arith, within)) small;
              sought = tt;
              absent = absent_first (told run) (searched setup (named sought) setup.command.directory);
              candidates = is_count;
              stands = placed;
            };
            less = left_falls (LeftIs.Forced (k + 1)) count 4 (omega (arith, within)) small (omega arith) less;
            proceeds = tt;
          }

      -- the same, as the code has its name
      pub forced_sought : (length text == 0) ≡ false → (from name : List ℕ) (line count : ℕ) → from ≡ setup.command.directory → name ≡ text → line ≡ number →
          count ≡ length (searched setup (named sought) setup.command.directory) → count < 2 ^ 64 →
          Follows setup run 2 (record run { left = LeftIs.Forced (k + 1); candidates = count }) (StageIs.Seeks (ByName (record { form = Quoted; from = from; text = name; next = 0; line = line }) PurposeIs.Included))
      forced_sought some from name line count is_from is_name is_line is_count small =
          let same : sought ≡ record { form = Quoted; from = from; text = name; next = 0; line = line } =
          λ i. record { form = Quoted; from = sym is_from i; text = sym is_name i; next = 0; line = sym is_line i } in
          subst (λ n. Follows setup run 2 (record run { left = LeftIs.Forced (k + 1); candidates = count }) (StageIs.Seeks (ByName n PurposeIs.Included))) same (forced_seeks some count is_count small)

    -- all are done: the main file is looked for
    pub main_seeks : length setup.command.forced ≤ k → Follows setup run 2 (record run { left = LeftIs.Nothing; candidates = 1 }) (StageIs.Seeks (First FirstIs.Main))
    main_seeks over =
        let top : m.top ≡ Forced_from number [] = ap (top_of setup.command) is ∙ ap (Forced_from number) (drop_all setup.command.forced k over) in
        let less : not_begun setup (top_of setup.command LeftIs.Nothing) < not_begun setup (top_of setup.command run.left) = let was = ap (not_begun setup) top in omega (arith, was) in
        record {
          holds = record {
            sound = sound_with LeftIs.Nothing 1 tt (omega arith);
            sought = tt;
            absent = tt;
            candidates = refl;
            stands = main_begins setup m (told run) number top no_frames refl h.stands;
          };
          less = left_falls LeftIs.Nothing 1 4 tt (omega arith) (omega arith) less;
          proceeds = tt;
        }

  -- ## Nothing is left

  pub record_follows : run.left ≡ LeftIs.Nothing → Follows setup run 2 run StageIs.Recorded
  record_follows is = record {
    holds = unit_ends setup m (told run) (ap (top_of setup.command) is) no_frames refl h.stands;
    less = order_falls setup run 0 2 (omega arith);
    proceeds = tt;
  }
