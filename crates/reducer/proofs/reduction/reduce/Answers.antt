use Rattle.std.proofs.Common.{◌≡◌, ◌∙◌, sym, ap, subst, Some, IfOk}
use Rattle.line_splice.specs.Cursor.{rest}
use Rattle.reducer.specs.Building.{kept_lines}
use Rattle.reducer.proofs.RoomLemmas.{room_later, further_one}
use Rattle.reducer.proofs.TurnLemmas.{whole_start, empty_turn, at_end, whole_end, whole_reduced}
use Rattle.reducer.proofs.reduction.reduce.Goals as goal

pub lines-init : goal.lines-init
lines-init c = record {
  same = c.new-at.ensures.text;
  sound = c.new-lines.ensures.sound;
  room = c.new-lines.ensures.room c.args.text.now (rest c.new-at.result);
  whole = whole_start c.args.text.now (kept_lines c.new-lines.result) (rest c.new-at.result) c.new-lines.ensures.kept c.new-at.ensures.rest;
}

pub lines-preserved-then-byte-eq10 : goal.lines-preserved-then-byte-eq10
lines-preserved-then-byte-eq10 c = record {
  same = c.advance.ensures.text ∙ c.lines.invariant.same;
  sound = c.lines.invariant.sound;
  room = room_later c.lines.lines c.args.text.now (rest c.lines.at) (rest c.advance.new.self) c.lines.invariant.room
      (further_one c.args.text.now c.lines.at (rest c.advance.new.self) c.lines.invariant.same c.advance.ensures.rest);
  whole = empty_turn c.args.text.now (kept_lines c.lines.lines) (rest c.lines.at) (rest c.advance.new.self)
      (sym c.peek.ensures.value ∙ c.in-Some.is ∙ ap Some c.if-byte-eq10.true) c.advance.ensures.rest ∙ c.lines.invariant.whole;
}

pub into_reduced-requires-clause-reduced : goal.into_reduced-requires-clause-reduced
into_reduced-requires-clause-reduced c =
    whole_reduced c.args.text.now (kept_lines c.lines.lines) c.requires
    (whole_end c.args.text.now (kept_lines c.lines.lines) (rest c.lines.at) c.lines.invariant.whole (at_end (rest c.lines.at) (sym c.peek.ensures.value ∙ c.in_default.is)))

pub returns : goal.returns
returns c =
    subst (λ ls. IfOk c.into_reduced.result (λ reduced. reduced ≡ ls))
    (whole_end c.args.text.now (kept_lines c.lines.lines) (rest c.lines.at) c.lines.invariant.whole (at_end (rest c.lines.at) (sym c.peek.ensures.value ∙ c.in_default.is)))
    c.into_reduced.ensures
