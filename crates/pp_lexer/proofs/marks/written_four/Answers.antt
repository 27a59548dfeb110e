use Rattle.std.proofs.Common.{◌≤◌, length, arith}
use Rattle.pp_lexer.proofs.MarkLemmas.{four_show, line_ahead_written}
use Rattle.pp_lexer.proofs.marks.written_four.Goals as goal

pub returns-then-all : goal.returns-then-all
returns-then-all c = let w = c.ahead-written.result.now in let long : 4 ≤ length w = omega arith in
    line_ahead_written c.args.at.now 4 w c.ahead-written.ensures long
    (four_show w _ _ _ _ long c.shows_itself.ensures c.shows_itself-2.ensures c.shows_itself-3.ensures c.shows_itself-4.ensures c.if-all.true)
