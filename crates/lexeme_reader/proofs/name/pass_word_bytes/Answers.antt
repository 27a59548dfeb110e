use Rattle.std.proofs.Common.{◌∙◌, ap, sym, subst, take, length, ◌≤◌}
use Rattle.std.specs.List.{list_all}
use Rattle.line_splice.specs.Cursor.{rest}
use Rattle.line_splice.specs.Plain.{shows_itself}
use Rattle.lexeme_reader.specs.Names.{is_word_byte}
use Rattle.lexeme_reader.proofs.RunLemmas.{list_all-weaker, word_shows, run_of}
use Rattle.lexeme_reader.proofs.name.pass_word_bytes.Goals as goal

pub pass_plain-requires : goal.pass_plain-requires
pass_plain-requires c = let n = c.word_len-count in record {
  within = subst (λ t. n.result ≤ length t) c.ahead.ensures n.ensures.within;
  plain = ap (λ t. list_all shows_itself (take n.result t)) (sym c.ahead.ensures)
      ∙ list_all-weaker (is_word_byte) shows_itself (take n.result c.ahead.result.now) (word_shows) n.ensures.all;
}

pub returns-clause-run : goal.returns-clause-run
returns-clause-run c = let n = c.word_len-count in
    run_of (is_word_byte) (rest c.args.at.now) (rest c.pass_plain.new.self) c.ahead.result.now n.result n.ensures.within n.ensures.all
    (c.pass_plain.ensures.written ∙ ap (take n.result) (sym c.ahead.ensures)) c.pass_plain.ensures.rest
