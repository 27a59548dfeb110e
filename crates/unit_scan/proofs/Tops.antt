-- The file at the top of the stack.
use Rattle.std.proofs.Common.{◌≡◌, ℕ, ◌-◌, ◌<◌, List, [], ◌∷◌, reverse, map, drop, length, ap, sym, ◌∙◌, subst, arith}
use Rattle.std.specs.List.{AllByRecursion}
use Rattle.std.proofs.lemmas.List.{length-map}
use Rattle.reducer.specs.Answers.{content_of}
use Rattle.unit_laws.specs.Reduction.{Given}
use Rattle.unit_steps.specs.Logs.{lines_at, path_at}
use Rattle.unit_steps.specs.Stack.{Frame, current}
use Rattle.unit_scan.specs.declared.parts.Answered.{Answered}
use Rattle.unit_scan.specs.declared.parts.OpenFile.{OpenFile}
use Rattle.unit_scan.specs.declared.parts.Run.{Run}
use Rattle.unit_scan.specs.Parts.{IsFile, answers_of, frame_of, frames_of, told}
use Rattle.unit_scan.specs.Lookups.{HasTaken}
use Rattle.unit_scan.proofs.Stacks.{below_top, last_file}

-- it is one that was given
pub top_file : (answers : List (List ℕ × Given)) (files : List OpenFile) (f : OpenFile) (fs : List OpenFile) → reverse files ≡ f ∷ fs → AllByRecursion (IsFile answers) files → IsFile answers f
top_file answers files f fs is all = (last_file answers (reverse fs) f (subst (λ z. AllByRecursion (IsFile answers) z) (below_top files f fs is) all)).1

-- so it has its place in the log
pub top_there : (log : List Answered) (files : List OpenFile) (f : OpenFile) (fs : List OpenFile) → reverse files ≡ f ∷ fs → AllByRecursion (IsFile (answers_of log)) files → f.answer < length log
top_there log files f fs is all = subst (λ n. f.answer < n) (length-map log (λ a. (a.path, content_of a.answer))) (top_file (answers_of log) files f fs is all).there

abbrev pub next_of : List OpenFile → ℕ
next_of [] = 0
next_of (f ∷ fs) = f.next

-- the file that the code sees there
module _ (run : Run) (seen : List OpenFile) (f : OpenFile) (is : seen ≡ run.stack.items) (top : reverse seen ≡ f ∷ drop 1 (reverse seen)) where
  abbrev below : List OpenFile
  below = drop 1 (reverse run.stack.items)

  pub top_reversed : reverse run.stack.items ≡ f ∷ below
  top_reversed = subst (λ z. reverse z ≡ f ∷ drop 1 (reverse z)) is top

  top_current : current (frames_of (told run) run.stack.items) ≡ frame_of (told run) f
  top_current = ap (λ z. current (map (frame_of (told run)) z)) top_reversed

  pub top_path : path_at (told run) f.answer ≡ (current (frames_of (told run) run.stack.items)).path
  top_path = ap (λ (z : Frame). z.path) (sym top_current)

  pub top_chain_place : f.state.chain_place ≡ (current (frames_of (told run) run.stack.items)).chain_place
  top_chain_place = ap (λ (z : Frame). z.chain_place) (sym top_current)

  pub top_answer : AllByRecursion (IsFile (told run)) run.stack.items → f.answer < length run.log.items
  top_answer = top_there run.log.items run.stack.items f below top_reversed

  -- a line of it was taken
  pub top_taken : HasTaken run.stack.items → 0 < f.next
  top_taken h = subst (λ n. 0 < n) (ap next_of (sym h.1.1.0 ∙ top_reversed)) h.1.1.1

  pub top_line : AllByRecursion (IsFile (told run)) run.stack.items → HasTaken run.stack.items → f.next - 1 < length (lines_at (told run) f.answer)
  top_line files h =
      let some = top_taken h in
      let within = (top_file (told run) run.stack.items f below top_reversed files).next in
      omega (arith, some, within)
