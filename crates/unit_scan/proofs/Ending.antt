-- A file ends.
use Rattle.std.proofs.Common.{◌≡◌, ℕ, zero, suc, ◌+◌, ◌-◌, ◌*◌, ◌<◌, ◌≤◌, List, [], ◌∷◌, ◌++◌, reverse, drop, take, get_or, length, refl, ap, sym, ◌∙◌, subst, arith, length-append}
use Rattle.std.specs.Prelude.{None}
use Rattle.std.proofs.Math.Seq.{take-append_seam}
use Rattle.std.specs.Global.{Vec}
use Rattle.std.specs.List.{AllByRecursion}
use Rattle.scan_model.specs.declared.unit_end.FaultKind.TheVariants as FaultIs
use Rattle.scan_model.specs.declared.unit_end.UnitEnd.{UnitEnd}
use Rattle.scan_model.specs.WholeFile.{entered_limit}
use Rattle.scan_model.specs.State.{Group, Setup}
use Rattle.plain_lines.specs.declared.state.OpenGroup.{OpenGroup}
use Rattle.plain_lines.specs.States.{group_of, groups_of}
use Rattle.unit_steps.specs.Logs.{lines_at}
use Rattle.unit_steps.specs.Stands.{Stands, StandsAtEnd}
use Rattle.unit_steps.specs.Work.{rank, not_begun, lines_left}
use Rattle.unit_steps.proofs.Endings.{file_ends_well, file_ends_open}
use Rattle.unit_scan.specs.declared.parts.OpenFile.{OpenFile}
use Rattle.unit_scan.specs.declared.parts.Run.{Run}
use Rattle.unit_scan.specs.declared.stage.Blame.TheVariants as BlameIs
use Rattle.unit_scan.specs.declared.stage.Stage.TheVariants as StageIs
use Rattle.unit_scan.specs.Parts.{IsFile, frame_of, frames_of, told, top_of, moment_of, work_of}
use Rattle.unit_scan.specs.Lookups.{place_at}
use Rattle.unit_scan.specs.Standing.{Running, Follows, blamed, stopped, left_order, steps_from}
use Rattle.unit_scan.proofs.Falling.{order_falls}
use Rattle.unit_scan.proofs.Stacks.{frames_with, last_file, top_first}

none_left : {X : Type 0} (xs : List X) (k : ℕ) → length xs ≤ k → drop k xs ≡ []
none_left [] zero h = refl
none_left [] (suc k) h = refl
none_left (x ∷ xs) zero h = absurd (omega (arith, h))
none_left (x ∷ xs) (suc k) h = none_left xs k (omega (arith, h))

pops : (a s t l n : ℕ) → t ≡ s + 1 → a * 4096 + (s * 16 + l * 8 + 2) < a * 4096 + (t * 16 + l * 8 + 2)
pops a s t l n count = omega (arith, count)

-- the file that the code sees at the top is the last one
pub top_same : (files below : List OpenFile) (file : OpenFile) → files ≡ below ++ file ∷ [] → (top : OpenFile) (rest : List OpenFile) → reverse files ≡ top ∷ rest → top ≡ file
top_same files below file on_stack top rest is = ap (λ zs. get_or zs 0 top) (sym is ∙ ap reverse on_stack ∙ top_first below file)

module _ (setup : Setup) (run : Run) (h : Running setup run) (below : List OpenFile) (file : OpenFile) (on_stack : run.stack.items ≡ below ++ file ∷ []) (over : length (lines_at (told run) file.answer) ≤ file.next) where
  frames_now : frames_of (told run) run.stack.items ≡ frame_of (told run) file ∷ frames_of (told run) below
  frames_now = ap (frames_of (told run)) on_stack ∙ frames_with (told run) below file

  -- a conditional is open
  pub open_follows : (g : OpenGroup) (gs : List Group) → groups_of file.state.groups.items ≡ group_of g ∷ gs →
      Follows setup run 2 run (StageIs.Over (stopped FaultIs.Unbalanced (blamed setup run (BlameIs.Here g.line))))
  open_follows g gs opened = record {
    holds = subst (λ z. StandsAtEnd setup (stopped FaultIs.Unbalanced (place_at z g.line)) (told run)) (sym frames_now)
        (file_ends_open setup (moment_of setup run None) (told run) (frame_of (told run) file) (frames_of (told run) below) frames_now
        (none_left (lines_at (told run) file.answer) file.next over) refl h.stands (group_of g) gs opened);
    less = order_falls setup run 0 2 (omega arith);
    proceeds = tt;
  }

  -- the same, as the code has its end
  pub open_over : (top : OpenFile) → top ≡ file → (groups : List OpenGroup) → groups ≡ top.state.groups.items → (g : OpenGroup) → groups_of groups ≡ group_of g ∷ drop 1 (groups_of groups) →
      (end : UnitEnd) → end ≡ stopped FaultIs.Unbalanced (blamed setup run (BlameIs.Here g.line)) → Follows setup run 2 run (StageIs.Over end)
  open_over top same groups is g opened end is_end =
      let there : groups ≡ file.state.groups.items = is ∙ ap (λ (z : OpenFile). z.state.groups.items) same in
      subst (λ z. Follows setup run 2 run (StageIs.Over z)) (sym is_end) (open_follows g (drop 1 (groups_of groups)) (ap groups_of (sym there) ∙ opened))

  -- none is: the file below goes on
  pub end_follows : groups_of file.state.groups.items ≡ [] → (stack : Vec OpenFile) → stack.items ≡ below → Follows setup run 2 (record run { stack = stack }) StageIs.Runs
  end_follows closed stack popped =
      let run' : Run = record run { stack = stack } in
      let rest = none_left (lines_at (told run) file.answer) file.next over in
      let stands = file_ends_well setup (moment_of setup run None) (told run) (frame_of (told run) file) (frames_of (told run) below) frames_now rest refl h.stands closed in
      let parts = last_file (told run) below file (subst (λ z. AllByRecursion (IsFile (told run)) z) on_stack h.sound.files) in
      let after : frames_of (told run) stack.items ≡ frames_of (told run) below = ap (frames_of (told run)) popped in
      let count : length run.stack.items ≡ length stack.items + 1 = ap length on_stack ∙ length-append below (file ∷ []) ∙ ap (λ z. length z + 1) (sym popped) in
      let none : length (frame_of (told run) file).rest ≡ 0 = ap length rest in
      let lines : lines_left (frames_of (told run) stack.items) ≡ lines_left (frames_of (told run) run.stack.items) =
      let now = ap lines_left after in
      let was = ap lines_left frames_now in
      omega (arith, now, was, none) in
      let same : rank (work_of setup run) ≡ rank (work_of setup run') =
      λ i. rank (record { files = entered_limit - run.entered; lines = sym lines i + not_begun setup (top_of setup.command run.left); tests = run.tests; candidates = run.candidates }) in
      record {
        holds = record {
          sound = record {
            command = h.sound.command;
            settings = h.sound.settings;
            files = subst (λ z. AllByRecursion (IsFile (told run)) z) (sym popped) parts.0;
            depth = let d = h.sound.depth in omega (arith, count, d);
            entered = h.sound.entered;
            left = h.sound.left;
            tests = h.sound.tests;
            candidates = h.sound.candidates;
          };
          stands = subst (λ z. Stands setup (record (moment_of setup run None) { frames = z; search = None }) (told run)) (sym after) stands;
        };
        less = subst (λ r. steps_from setup run' 2 < r * 4096 + (length run.stack.items * 16 + left_order run.left * 8 + 2)) (sym same)
            (pops (rank (work_of setup run')) (length stack.items) (length run.stack.items) (left_order run.left) 2 count);
        proceeds = tt;
      }

-- what is left of the stack without the file at the top
pub popped_below : (files below rest : List OpenFile) (file : OpenFile) (n : ℕ) → files ≡ below ++ file ∷ [] → length files ≡ n → rest ≡ take (n - 1) files → rest ≡ below
popped_below files below rest file n on_stack count is =
    let all = ap length on_stack ∙ length-append below (file ∷ []) in
    let place : n - 1 ≡ length below = omega (arith, all, count) in
    is ∙ ap (λ k. take k files) place ∙ ap (take (length below)) on_stack ∙ take-append_seam below (file ∷ [])
