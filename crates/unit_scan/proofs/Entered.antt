-- A file is entered, or can't be.
use Rattle.std.proofs.Common.{◌≡◌, ℕ, ◌+◌, ◌-◌, ◌<◌, ◌≤◌, ◌^◌, [], ◌∷◌, ◌++◌, drop, length, ap, sym, ◌∙◌, subst, arith, length-append}
use Rattle.std.specs.Prelude.{Option, None}
use Rattle.std.specs.Global.{Vec}
use Rattle.std.specs.List.{AllByRecursion}
use Rattle.scan_model.specs.declared.unit_end.FaultKind.TheVariants as FaultIs
use Rattle.scan_model.specs.Files.{Present}
use Rattle.scan_model.specs.Site.{first_site}
use Rattle.plain_lines.specs.States.{groups_of, site_of}
use Rattle.scan_model.specs.State.{Setup}
use Rattle.unit_steps.specs.Logs.{path_at, lines_at}
use Rattle.unit_steps.specs.Stack.{first_depth, next_depth}
use Rattle.unit_steps.specs.Moments.{Moment, file_frame}
use Rattle.unit_steps.specs.Stands.{AreLines, Stands}
use Rattle.unit_steps.proofs.Answers.{given_lines}
use Rattle.unit_steps.proofs.Entering.{too_deep, too_many, file_entered}
use Rattle.unit_steps.proofs.Logs.{lines_of_last, path_of_last}
use Rattle.unit_steps.proofs.Ranks.{files_fall, entering_falls}
use Rattle.unit_scan.specs.declared.parts.OpenFile.{OpenFile}
use Rattle.unit_scan.specs.declared.parts.Run.{Run}
use Rattle.unit_scan.specs.declared.stage.Blame.{Blame}
use Rattle.unit_scan.specs.declared.stage.Stage.TheVariants as StageIs
use Rattle.unit_scan.specs.Parts.{IsFile, Sound, frame_of, frames_of, told, top_of, moment_of, work_of}
use Rattle.unit_scan.specs.Standing.{Entering, Follows, blamed, stopped}
use Rattle.unit_scan.proofs.Answering.{answers_count}
use Rattle.unit_scan.proofs.Falling.{order_falls, rank_falls, measured}
use Rattle.unit_scan.proofs.Stacks.{frames_with, frames_count, with_file}

-- a file that is entered has nothing of its own yet
pub record IsFresh (run : Run) (of_chain : Option ℕ) (file : OpenFile) : Type 0 where
  pub answer : file.answer ≡ length run.log.items - 1
  pub next : file.next ≡ 0
  pub site : file.state.site ≡ None
  pub groups : file.state.groups.items ≡ []
  pub chain_place : file.state.chain_place ≡ of_chain

module _ (setup : Setup) (run : Run) (blame : Blame) (chain_place : Option ℕ) (h : Entering setup run blame chain_place) where
  abbrev m : Moment
  m = moment_of setup run None

  abbrev depth : ℕ
  depth = first_depth (top_of setup.command run.left) + length run.stack.items

  depth_is : next_depth m.top m.frames ≡ depth
  depth_is = ap (λ n. first_depth (top_of setup.command run.left) + n) (frames_count (told run) run.stack.items)

  pub deep_follows : 200 < depth → Follows setup run 5 run (StageIs.Over (stopped FaultIs.TooDeep (blamed setup run blame)))
  deep_follows deep = record {
    holds = too_deep setup m (told run) (blamed setup run blame) h.path chain_place h.text h.acts (subst (λ n. 200 < n) (sym depth_is) deep);
    less = order_falls setup run 0 5 (omega arith);
    proceeds = tt;
  }

  pub many_follows : depth ≤ 200 → 65536 ≤ run.entered → Follows setup run 5 run (StageIs.Over (stopped FaultIs.TooManyEntered (blamed setup run blame)))
  many_follows deep many = record {
    holds = too_many setup m (told run) (blamed setup run blame) h.path chain_place h.text h.acts (subst (λ n. n ≤ 200) (sym depth_is) deep) many;
    less = order_falls setup run 0 5 (omega arith);
    proceeds = tt;
  }

  -- the file that was given last
  module _ (file : OpenFile) (fresh : IsFresh run chain_place file) where
    place : file.answer ≡ length h.before
    place =
        let count = answers_count run.log.items in
        let all = ap length h.last in
        let one = length-append h.before ((h.path, Present h.text) ∷ []) in
        let at = fresh.answer in
        omega (arith, count, all, one, at)

    lines_are : lines_at (told run) file.answer ≡ h.text
    lines_are = ap (λ z. lines_at z file.answer) h.last ∙ ap (lines_at (h.before ++ (h.path, Present h.text) ∷ [])) place ∙ lines_of_last h.before h.path h.text

    path_is : path_at (told run) file.answer ≡ h.path
    path_is = ap (λ z. path_at z file.answer) h.last ∙ ap (path_at (h.before ++ (h.path, Present h.text) ∷ [])) place ∙ path_of_last h.before h.path (Present h.text)

    frame_is : frame_of (told run) file ≡ file_frame h.path chain_place h.text
    frame_is =
        let path = path_is in
        let own = ap (λ o. site_of (path_at (told run) file.answer) o) fresh.site in
        let site : site_of (path_at (told run) file.answer) file.state.site ≡ first_site h.path = own ∙ ap first_site path in
        let rest : drop file.next (lines_at (told run) file.answer) ≡ h.text = ap (λ n. drop n (lines_at (told run) file.answer)) fresh.next ∙ lines_are in
        λ i. record { path = path i; site = site i; chain_place = fresh.chain_place i; groups = groups_of (fresh.groups i); rest = rest i }

    lines_kept : AreLines (told run) h.text
    lines_kept = subst (λ z. AreLines z h.text) (sym h.last) (given_lines h.before [] h.path h.text)

    module _ (stack : Vec OpenFile) (pushed : stack.items ≡ run.stack.items ++ file ∷ []) (few : length (lines_at (told run) file.answer) < 2 ^ 32) (deep : depth ≤ 200) (room : run.entered < 65536) where
      abbrev run' : Run
      run' = record run { stack = stack; entered = run.entered + 1 }

      frames_are : frames_of (told run) stack.items ≡ file_frame h.path chain_place h.text ∷ frames_of (told run) run.stack.items
      frames_are = ap (frames_of (told run)) pushed ∙ frames_with (told run) run.stack.items file ∙ ap (λ z. z ∷ frames_of (told run) run.stack.items) frame_is

      there : IsFile (told run) file
      there = record {
        there =
            let at = place in
            let all = ap length h.last in
            let one = length-append h.before ((h.path, Present h.text) ∷ []) in
            omega (arith, at, all, one);
        next = let zero = fresh.next in omega (arith, zero);
        few = few;
      }

      sound' : Sound setup run'
      sound' = record {
        command = h.sound.command;
        settings = h.sound.settings;
        files = subst (λ z. AllByRecursion (IsFile (told run)) z) (sym pushed) (with_file (told run) run.stack.items file h.sound.files there);
        depth =
            let count = ap length pushed ∙ length-append run.stack.items (file ∷ []) in
            let d : depth ≤ 200 = deep in
            omega (arith, count, d);
        entered = omega (arith, room);
        left = h.sound.left;
        tests = h.sound.tests;
        candidates = h.sound.candidates;
      }

      pub enter_follows : Follows setup run 5 run' StageIs.Runs
      enter_follows = record {
        holds = record {
          sound = sound';
          stands = subst (λ z. Stands setup (record m { frames = z; search = None; entered = run.entered + 1 }) (told run)) (sym frames_are)
              (file_entered setup m (told run) (blamed setup run blame) h.path chain_place h.text h.acts (subst (λ n. n ≤ 200) (sym depth_is) deep) room lines_kept);
        };
        less = rank_falls setup run run' 5 2 (files_fall (work_of setup run') (work_of setup run) (measured setup run' sound') (entering_falls run.entered room)) sound'.depth (omega arith);
        proceeds = tt;
      }
