-- Each step lowers what is left.
use Rattle.std.proofs.Common.{◌≡◌, ℕ, ◌+◌, ◌-◌, ◌*◌, ◌^◌, ◌<◌, ◌≤◌, List, [], ◌∷◌, map, reverse, length, refl, ap, ◌∙◌, arith, length-drop}
use Rattle.std.specs.List.{AllByRecursion}
use Rattle.std.proofs.lemmas.List.{length-map, length-reverse}
use Rattle.scan_model.specs.State.{Setup}
use Rattle.scan_model.specs.WholeFile.{entered_limit}
use Rattle.unit_laws.specs.Reduction.{Given}
use Rattle.unit_steps.specs.Logs.{lines_at}
use Rattle.scan_model.specs.Fits.{CommandFits}
use Rattle.unit_steps.specs.Work.{rank, IsMeasured, not_begun}
use Rattle.unit_steps.proofs.Ranks.{is_measured}
use Rattle.unit_scan.specs.declared.parts.OpenFile.{OpenFile}
use Rattle.unit_scan.specs.declared.parts.Left.{Left}
use Rattle.unit_scan.specs.declared.parts.Left.TheVariants as LeftIs
use Rattle.unit_scan.specs.declared.parts.Run.{Run}
use Rattle.unit_scan.specs.Parts.{IsFile, IsLeft, Sound, told, frame_of, frames_of, top_of, work_of}
use Rattle.unit_scan.specs.Standing.{left_order, steps_from}
use Rattle.unit_scan.proofs.Giving.{all_reversed}

-- ## By numbers alone

by_rank : (a b c d : ℕ) → a < b → c < 4096 → a * 4096 + c < b * 4096 + d
by_rank a b c d less small = omega (arith, less, small)

pub left_small : (left : Left) → left_order left ≤ 1
left_small (LeftIs.Settings k) = omega arith
left_small (LeftIs.Forced k) = omega arith
left_small LeftIs.Nothing = omega arith

-- where the rank falls, whatever comes next
pub rank_falls : (setup : Setup) (run run' : Run) (n n' : ℕ) → rank (work_of setup run') < rank (work_of setup run) → length run'.stack.items ≤ 201 → n' < 8 →
    steps_from setup run' n' < steps_from setup run n
rank_falls setup run run' n n' less deep small =
    by_rank (rank (work_of setup run')) (rank (work_of setup run)) _ _ less (let left = left_small run'.left in omega (arith, deep, small, left))

-- the same work, and a lower order
pub order_falls : (setup : Setup) (run : Run) (n' n : ℕ) → n' < n → steps_from setup run n' < steps_from setup run n
order_falls setup run n' n less = below_more (rank (work_of setup run) * 4096) (length run.stack.items * 16 + left_order run.left * 8) n' n less where
  below_more : (a b n' n : ℕ) → n' < n → a + (b + n') < a + (b + n)
  below_more a b n' n less = omega (arith, less)

-- the same number of lines and files
pub same_falls : (setup : Setup) (run run' : Run) (n n' : ℕ) → (work_of setup run').lines ≡ (work_of setup run).lines → length run'.stack.items ≡ length run.stack.items → n' < n →
    run'.entered ≡ run.entered → run'.tests ≡ run.tests → run'.candidates ≡ run.candidates → run'.left ≡ run.left → steps_from setup run' n' < steps_from setup run n
same_falls setup run run' n n' lines count less entered tests candidates left =
    let same : rank (work_of setup run') ≡ rank (work_of setup run) =
    λ i. rank (record { files = entered_limit - entered i; lines = lines i; tests = tests i; candidates = candidates i }) in
    let order = ap left_order left in
    equal_falls (rank (work_of setup run')) (rank (work_of setup run)) (length run'.stack.items) (length run.stack.items) (left_order run'.left) (left_order run.left) n' n same count order less where
      equal_falls : (a b s t l o n' n : ℕ) → a ≡ b → s ≡ t → l ≡ o → n' < n → a * 4096 + (s * 16 + l * 8 + n') < b * 4096 + (t * 16 + o * 8 + n)
      equal_falls a b s t l o n' n same count order less = omega (arith, same, count, order, less)

-- ## How much there is

frames_few : (answers : List (List ℕ × Given)) (files : List OpenFile) → AllByRecursion (IsFile answers) files → AllByRecursion (λ f. length f.rest < 2 ^ 32) (map (frame_of answers) files)
frames_few answers [] h = tt
frames_few answers (f ∷ files) h = (
  (let less = length-drop f.next (lines_at answers f.answer) in let few = h.0.few in omega (arith, less, few)),
  frames_few answers files h.1,
)

left_few : (setup : Setup) (left : Left) → CommandFits setup.command → IsLeft setup.command left → not_begun setup (top_of setup.command left) ≤ 33554433
left_few setup (LeftIs.Settings k) fits h =
    let less = length-drop k setup.command.settings in let all = fits.number in omega (arith, less, all, h)
left_few setup (LeftIs.Forced k) fits h =
    let less = length-drop k setup.command.forced in let all = fits.number in omega (arith, less, all, h)
left_few setup LeftIs.Nothing fits h = omega arith

pub measured : (setup : Setup) (run : Run) → Sound setup run → IsMeasured (work_of setup run)
measured setup run h =
    let frames = frames_of (told run) run.stack.items in
    let deep : length frames ≡ length run.stack.items = length-map (reverse run.stack.items) (frame_of (told run)) ∙ length-reverse run.stack.items in
    is_measured (work_of setup run) frames (not_begun setup (top_of setup.command run.left)) refl
    (frames_few (told run) (reverse run.stack.items) (all_reversed (IsFile (told run)) run.stack.items h.files))
    (let d = h.depth in omega (arith, deep, d)) (left_few setup run.left h.command h.left) h.tests h.candidates
