use Rattle.std.proofs.Common.{◌∙◌, sym, arith}
use Rattle.line_splice.specs.Cursor.{text_of, rest}
use Rattle.reducer.specs.Building.{kept_lines}
use Rattle.reducer.proofs.PassLemmas.{blanks_kept, blanks_less, on_ok, front_passed, blanks_stop}
use Rattle.reducer.proofs.RoomLemmas.{room_later, room_along, further_blanks}
use Rattle.reducer.proofs.reduction.reduce_line.Goals as goal

pub returns-then-begins_text-clause-kept : goal.returns-then-begins_text-clause-kept
returns-then-begins_text-clause-kept c =
    let at = rest c.pass_blanks.new.at in
    let text = c.args.text.now in
    blanks_kept text (kept_lines c.args.lines.now) _ (rest c.args.at.now) at c.pass_blanks.ensures.rest
    (front_passed text c.pass_blanks.new.at.text.now (kept_lines c.args.lines.now) at (rest c.pass_line.new.at) (c.pass_blanks.ensures.text ∙ c.requires.text)
    (blanks_stop (rest c.args.at.now) at c.pass_blanks.ensures.rest) (sym c.begins_text.ensures ∙ c.if-begins_text.true) c.pass_line.ensures.kept)

pub returns-then-begins_text-clause-less : goal.returns-then-begins_text-clause-less
returns-then-begins_text-clause-less c =
    let blanks = blanks_less (rest c.args.at.now) (rest c.pass_blanks.new.at) c.pass_blanks.ensures.rest in
    omega (arith, blanks, c.pass_line.ensures.less)

pub returns-clause-kept : goal.returns-clause-kept
returns-clause-kept c =
    on_ok c.read_line.result _ _ (blanks_kept c.args.text.now (kept_lines c.args.lines.now) _ (rest c.args.at.now) (rest c.pass_blanks.new.at) c.pass_blanks.ensures.rest) c.read_line.ensures.kept

pub returns-clause-less : goal.returns-clause-less
returns-clause-less c =
    let blanks = blanks_less (rest c.args.at.now) (rest c.pass_blanks.new.at) c.pass_blanks.ensures.rest in
    on_ok c.read_line.result _ _ (λ less. omega (arith, less, blanks)) c.read_line.ensures.less

pub returns-then-begins_text-clause-room : goal.returns-then-begins_text-clause-room
returns-then-begins_text-clause-room c =
    let text = c.args.text.now in
    let b = c.args.lines.now in
    let at = rest c.pass_blanks.new.at in
    let whole = c.pass_blanks.ensures.text ∙ c.requires.text in
    let here = room_later b text (rest c.args.at.now) at c.requires.room (further_blanks text c.args.at.now at c.requires.text c.pass_blanks.ensures.rest) in
    room_along b text (text_of c.pass_blanks.new.at) at (rest c.pass_line.new.at) whole here c.pass_line.ensures.further

pub read_line-requires-clause-room : goal.read_line-requires-clause-room
read_line-requires-clause-room c =
    let at = rest c.pass_blanks.new.at in
    room_later c.args.lines.now c.args.text.now (rest c.args.at.now) at c.requires.room (further_blanks c.args.text.now c.args.at.now at c.requires.text c.pass_blanks.ensures.rest)
