use Rattle.std.proofs.Common.{◌≤◌, ◌∙◌, ap, sym, subst, take, length}
use Rattle.std.specs.List.{list_all}
use Rattle.line_splice.specs.Cursor.{rest}
use Rattle.line_splice.specs.Plain.{shows_itself}
use Rattle.lexeme_reader.proofs.RunLemmas.{list_all-weaker, run_of}
use Rattle.pp_lexer.specs.Reads.{is_space}
use Rattle.pp_lexer.proofs.CommentLemmas.{space_shows}
use Rattle.pp_lexer.proofs.blanks.pass_spaces.Goals as goal

pub pass_plain-requires : goal.pass_plain-requires
pass_plain-requires c = let n = c.spaces_len-count in record {
  within = subst (λ t. n.result ≤ length t) c.ahead.ensures n.ensures.within;
  plain = ap (λ t. list_all shows_itself (take n.result t)) (sym c.ahead.ensures)
      ∙ list_all-weaker is_space shows_itself (take n.result c.ahead.result.now) space_shows n.ensures.all;
}

pub returns-clause-run : goal.returns-clause-run
returns-clause-run c = let n = c.spaces_len-count in
    run_of is_space (rest c.args.at.now) (rest c.pass_plain.new.self) c.ahead.result.now n.result n.ensures.within n.ensures.all
    (c.pass_plain.ensures.written ∙ ap (take n.result) (sym c.ahead.ensures)) c.pass_plain.ensures.rest
