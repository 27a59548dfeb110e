use Rattle.std.proofs.Common.{◌≡◌, ◌∷◌, ◌≤◌, ◌<◌, reverse, drop, length, subst, sym, ◌∙◌}
use Rattle.std.proofs.lemmas.Bool.{leb-true, leb-false}
use Rattle.unit_steps.specs.Logs.{lines_at}
use Rattle.unit_scan.specs.Parts.{IsFile, answers_of, told}
use Rattle.unit_scan.proofs.Stacks.{below_top}
use Rattle.unit_scan.proofs.Tops.{top_file, top_reversed}
use Rattle.unit_scan.proofs.lines.in_file.Goals.{After-top}
use Rattle.unit_scan.proofs.lines.in_file.Goals as goal

reversed : (c : After-top) → reverse c.args.run.now.stack.items ≡ c.top.result.now ∷ drop 1 (reverse c.args.run.now.stack.items)
reversed c = top_reversed c.args.run.now c.deref-2.result.now c.top.result.now c.deref-2.ensures.value c.top.ensures

pub is_at_end-requires : goal.is_at_end-requires
is_at_end-requires c =
    subst (λ z. IsFile (answers_of z) c.top.result.now) (sym c.deref.ensures.value)
    (top_file (told c.args.run.now) c.args.run.now.stack.items c.top.result.now (drop 1 (reverse c.args.run.now.stack.items)) (reversed (goal.at.is_at_end-requires c).After-top) c.requires.running.sound.files)

pub end_file-requires-clause-over : goal.end_file-requires-clause-over
end_file-requires-clause-over c =
    let items = c.args.run.now.stack.items in
    let over : length (lines_at (answers_of c.deref.result.now) c.top.result.now.answer) ≤ c.top.result.now.next = leb-true _ _ (sym c.is_at_end.ensures ∙ c.if-is_at_end.true) in
    record {
      below = reverse (drop 1 (reverse items));
      file = c.top.result.now;
      stack = below_top items c.top.result.now (drop 1 (reverse items)) (reversed (goal.at.end_file-requires-clause-over c).After-top);
      over = subst (λ z. length (lines_at (answers_of z) c.top.result.now.answer) ≤ c.top.result.now.next) c.deref.ensures.value over;
    }

pub take_line-requires-clause-further : goal.take_line-requires-clause-further
take_line-requires-clause-further c =
    let items = c.args.run.now.stack.items in
    let further : c.top.result.now.next < length (lines_at (answers_of c.deref.result.now) c.top.result.now.answer) = leb-false _ _ (sym c.is_at_end.ensures ∙ c.if-is_at_end.false) in
    record {
      below = reverse (drop 1 (reverse items));
      file = c.top.result.now;
      stack = below_top items c.top.result.now (drop 1 (reverse items)) (reversed (goal.at.take_line-requires-clause-further c).After-top);
      further = subst (λ z. c.top.result.now.next < length (lines_at (answers_of z) c.top.result.now.answer)) c.deref.ensures.value further;
    }
