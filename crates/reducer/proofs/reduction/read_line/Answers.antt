use Rattle.std.proofs.Common.{◌++◌, [], true, false, ◌∙◌, ap, sym, length, arith}
use Rattle.std.specs.List.{filter}
use Rattle.line_splice.specs.Cursor.{text_of, rest}
use Rattle.scan_model.specs.Spliced.{line_at}
use Rattle.scan_model.specs.Lines.{closed, is_directive}
use Rattle.reducer.specs.Building.{kept_lines, open_toks}
use Rattle.reducer.specs.Directives.{kept_from}
use Rattle.reducer.proofs.PassLemmas.{line_less}
use Rattle.reducer.proofs.RoomLemmas.{room_along, room_later, room_stays, place_small, further_one}
use Rattle.reducer.proofs.TurnLemmas.{as_read, read_smaller, read_turn, line_turn, dropped_turn}
use Rattle.reducer.proofs.reduction.read_line.Goals as goal

pub returns-then-is_text-clause-kept : goal.returns-then-is_text-clause-kept
returns-then-is_text-clause-kept c =
    let text = c.args.text.now in
    let after = c.read_token.new.lines in
    let read = as_read text c.toks.lines after (rest c.toks.at) (rest c.read_token.new.at) _ true c.in_ok-read_token.ensures.read c.if-branch.true in
    ap (λ ls. ls ++ kept_from text [] (rest c.pass_line.new.at)) (read.2.kept ∙ c.toks.invariant.lines ∙ c.drop_line.ensures.kept)
    ∙ dropped_turn text c.read_token.new.at.text.now (kept_lines c.args.lines.now) (open_toks after) (rest c.args.at.now) (rest c.read_token.new.at) (rest c.pass_line.new.at)
    (c.read_token.ensures.text ∙ c.toks.invariant.same) (c.toks.invariant.kept ∙ read_turn text c.toks.lines after (rest c.toks.at) (rest c.read_token.new.at) read)
    c.pass_line.ensures.kept (sym c.is_text.ensures ∙ c.if-is_text.true)

pub returns-then-is_text-clause-less : goal.returns-then-is_text-clause-less
returns-then-is_text-clause-less c =
    let text = c.args.text.now in
    let after = c.read_token.new.lines in
    let read = as_read text c.toks.lines after (rest c.toks.at) (rest c.read_token.new.at) _ true c.in_ok-read_token.ensures.read c.if-branch.true in
    let less = read_smaller text c.toks.lines after (rest c.toks.at) (rest c.read_token.new.at) read in
    omega (arith, less, c.pass_line.ensures.less, c.toks.invariant.less)

pub returns-then-is_text-clause-room : goal.returns-then-is_text-clause-room
returns-then-is_text-clause-room c =
    room_along c.read_token.new.lines c.args.text.now (text_of c.read_token.new.at) (rest c.read_token.new.at) (rest c.pass_line.new.at) (c.read_token.ensures.text ∙ c.toks.invariant.same)
    c.in_ok-read_token.ensures.room c.pass_line.ensures.further

pub end_line-requires-clause-few : goal.end_line-requires-clause-few
end_line-requires-clause-few c =
    omega (arith, c.in_ok-read_token.ensures.room.toks, place_small c.args.text.now c.read_token.new.at (c.read_token.ensures.text ∙ c.toks.invariant.same))

pub returns-clause-room : goal.returns-clause-room
returns-clause-room c =
    let text = c.args.text.now in
    let left = rest c.read_token.new.at in
    let stay = c.in_ok-end_line.ensures.stay in
    let room = room_stays c.read_token.new.lines c.end_line.new.lines text left c.in_ok-read_token.ensures.room (omega (arith, ap length stay.0)) (omega (arith, ap length stay.1)) in
    room_later c.end_line.new.lines text left (rest c.pass_newline.new.at) room
    (further_one text c.read_token.new.at (rest c.pass_newline.new.at) (c.read_token.ensures.text ∙ c.toks.invariant.same) c.pass_newline.ensures.rest)

pub toks-smaller : goal.toks-smaller
toks-smaller c =
    let text = c.args.text.now in
    let after = c.read_token.new.lines in
    read_smaller text c.toks.lines after (rest c.toks.at) (rest c.read_token.new.at)
    (as_read text c.toks.lines after (rest c.toks.at) (rest c.read_token.new.at) _ true c.in_ok-read_token.ensures.read c.if-branch.true)

pub toks-preserved : goal.toks-preserved
toks-preserved c =
    let text = c.args.text.now in
    let after = c.read_token.new.lines in
    let read = as_read text c.toks.lines after (rest c.toks.at) (rest c.read_token.new.at) _ true c.in_ok-read_token.ensures.read c.if-branch.true in
    let less = read_smaller text c.toks.lines after (rest c.toks.at) (rest c.read_token.new.at) read in
    record {
      same = c.read_token.ensures.text ∙ c.toks.invariant.same;
      sound = read.2.sound;
      room = c.in_ok-read_token.ensures.room;
      bare = c.in_ok-read_token.ensures.bare;
      lines = read.2.kept ∙ c.toks.invariant.lines;
      kept = c.toks.invariant.kept ∙ read_turn text c.toks.lines after (rest c.toks.at) (rest c.read_token.new.at) read;
      less = omega (arith, less, c.toks.invariant.less);
    }

pub returns-clause-kept : goal.returns-clause-kept
returns-clause-kept c =
    let text = c.args.text.now in
    let b = c.toks.lines in
    let left = rest c.read_token.new.at in
    let last = c.line.result in
    let line = filter is_directive (closed (open_toks b) last) in
    let read = as_read text b c.read_token.new.lines (rest c.toks.at) left _ false c.in_ok-read_token.ensures.read c.if-branch.false in
    line_turn text (kept_lines c.args.lines.now) (kept_lines c.end_line.new.lines) (open_toks b) (rest c.args.at.now) (rest c.toks.at) left (rest c.pass_newline.new.at) last
    c.toks.invariant.kept read.0 (c.line.ensures.value ∙ ap (λ t. line_at t left) (c.read_token.ensures.text ∙ c.toks.invariant.same))
    (c.in_ok-end_line.ensures.added ∙ ap (λ b. kept_lines b ++ filter is_directive (closed (open_toks b) last)) read.1
    ∙ ap (λ ls. ls ++ line) (c.toks.invariant.lines ∙ c.drop_line.ensures.kept)) c.pass_newline.ensures.rest

pub returns-clause-less : goal.returns-clause-less
returns-clause-less c =
    let text = c.args.text.now in
    let left = rest c.read_token.new.at in
    let read = as_read text c.toks.lines c.read_token.new.lines (rest c.toks.at) left _ false c.in_ok-read_token.ensures.read c.if-branch.false in
    let less = line_less (rest c.toks.at) left (rest c.pass_newline.new.at) read.0.1 c.pass_newline.ensures.rest in
    omega (arith, less, c.toks.invariant.less)
