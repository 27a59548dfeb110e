-- A unit that begins.
use Rattle.std.proofs.Common.{◌≡◌, ℕ, ◌+◌, ◌^◌, ◌<◌, ◌≤◌, true, false, List, [], length, refl, ap, sym, ◌∙◌, subst, arith}
use Rattle.std.specs.Prelude.{Option, Some, None, IsTrue, is_some}
use Rattle.std.specs.Option.{option_map_or}
use Rattle.std.specs.List.{AllByRecursion}
use Rattle.scan_model.specs.declared.unit_end.FaultKind.TheVariants as FaultIs
use Rattle.scan_model.specs.State.{Setup}
use Rattle.scan_model.specs.TokenTests.{is_among}
use Rattle.unit_steps.specs.Searches.{Search, first_search}
use Rattle.unit_steps.specs.Moments.{first_moment}
use Rattle.unit_steps.specs.Stands.{Stands}
use Rattle.unit_steps.specs.Work.{Work, rank, lines_left, not_begun}
use Rattle.scan_model.specs.Fits.{CommandFits, SettingsFit}
use Rattle.unit_steps.proofs.Same.{same_moment}
use Rattle.unit_steps.proofs.Starting.{starts_alone, starts_with_predefines}
use Rattle.unit_scan.specs.declared.parts.Left.TheVariants as LeftIs
use Rattle.unit_scan.specs.declared.parts.Run.{Run}
use Rattle.plain_lines.specs.declared.state.UnitState.{UnitState}
use Rattle.unit_scan.specs.declared.stage.FirstFile.TheVariants as FirstIs
use Rattle.unit_scan.specs.declared.stage.Stage.TheVariants as StageIs
use Rattle.macro_table.specs.Table.{macros_of}
use Rattle.unit_scan.specs.Told.{rank_limit}
use Rattle.unit_scan.specs.Parts.{IsFile, IsLeft, Sound, answers_of, frames_of, told, top_of, moment_of, work_of}
use Rattle.unit_scan.specs.Lookups.{first_path}
use Rattle.unit_scan.specs.Standing.{IsFirstRun, IsFirstState, Starts}

module _ (setup : Setup) (command : CommandFits setup.command) (settings : SettingsFit setup.settings) (state : UnitState) (fresh : IsFirstState setup state) (n : ℕ) (run : Run) (first : IsFirstRun state n run) (small : n < 2 ^ 64) where
  no_answers : told run ≡ []
  no_answers = ap answers_of first.log

  no_frames : frames_of (told run) run.stack.items ≡ []
  no_frames = ap (frames_of (told run)) first.stack

  top : top_of setup.command run.left ≡ top_of setup.command (LeftIs.Settings 0)
  top = ap (top_of setup.command) first.left

  moment_is : (search : Option Search) → moment_of setup run search ≡ first_moment setup search
  moment_is search =
      same_moment (moment_of setup run search) (first_moment setup search) top no_frames refl
      (ap (λ (s : UnitState). macros_of s.macros) first.shared ∙ fresh.macros)
      (λ path. ap (λ (s : UnitState). is_among s.once path) first.shared ∙ ap (λ paths. is_among paths path) fresh.once)
      first.entered (ap (λ (s : UnitState). s.builder) first.shared ∙ fresh.builder)

  stands : (search : Option Search) → Stands setup (first_moment setup search) [] → Stands setup (moment_of setup run search) (told run)
  stands search h = subst (λ z. Stands setup (moment_of setup run search) z) (sym no_answers) (subst (λ m. Stands setup m []) (sym (moment_is search)) h)

  sound : Sound setup run
  sound = record {
    command = command;
    settings = settings;
    files = subst (λ z. AllByRecursion (IsFile (told run)) z) (sym first.stack) tt;
    depth = let none = ap length first.stack in omega (arith, none);
    entered = let none = first.entered in omega (arith, none);
    left = subst (λ z. IsLeft setup.command z) (sym first.left) (omega arith);
    tests = let none = first.tests in omega (arith, none);
    candidates = let count = first.count in omega (arith, count, small);
  }

  few : rank (work_of setup run) < rank_limit
  few =
      let none = ap lines_left no_frames in
      let left = ap (not_begun setup) top in
      let lines : (work_of setup run).lines ≡ length setup.command.settings + length setup.command.forced + 1 = omega (arith, none, left) in
      let all = command.number in
      let tests = first.tests in
      let count = first.count in
      let entered = first.entered in
      limited (work_of setup run) (omega arith) (omega (arith, lines, all)) (omega (arith, tests)) (omega (arith, count, small)) where
        limited : (w : Work) → w.files ≤ 65536 → w.lines < 2 ^ 64 → w.tests < 2 ^ 64 → w.candidates < 2 ^ 64 → rank w < 2 ^ 280
        limited w files lines tests candidates = omega (arith, files, lines, tests, candidates)

  -- no predefines are looked for
  pub alone : setup.settings.predefines ≡ None → Starts setup (run, StageIs.Runs)
  alone none = record {
    stands = record { sound = sound; stands = stands None (starts_alone setup none) };
    answers = no_answers;
    phase = refl;
    work = few;
  }

  -- or they are
  pub with_predefines : (path : List ℕ) → setup.settings.predefines ≡ Some path → n ≡ 1 → Starts setup (run, StageIs.Begins)
  with_predefines path some one =
      let first_is : first_path setup FirstIs.Predefines ≡ path = ap (λ o. option_map_or (λ p. p) o []) some in
      record {
        stands = record {
          sound = sound;
          sought = subst (λ o. IsTrue (is_some o)) (sym some) refl;
          absent = tt;
          candidates = first.count ∙ one;
          stands = subst (λ p. Stands setup (moment_of setup run (Some (first_search FaultIs.IncludeNotFound p))) (told run)) (sym first_is)
              (stands (Some (first_search FaultIs.IncludeNotFound path)) (starts_with_predefines setup path some));
        };
        answers = no_answers;
        phase = refl;
        work = few;
      }

-- ## Whether there are predefines

pub none_there : {X : Type 0} (o : Option X) → is_some o ≡ false → o ≡ None
none_there None h = refl
none_there (Some x) h = cc

pub one_there : {X : Type 0} (o : Option X) → is_some o ≡ true → (x : X) × (o ≡ Some x)
one_there None h = cc
one_there (Some x) h = (x, refl)
