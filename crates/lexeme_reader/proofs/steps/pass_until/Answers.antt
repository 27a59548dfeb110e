use Rattle.std.proofs.Common.{◌∙◌, ap, sym, subst, take, length, ◌≤◌}
use Rattle.std.specs.List.{list_all}
use Rattle.line_splice.specs.Cursor.{rest}
use Rattle.line_splice.specs.Plain.{shows_itself}
use Rattle.lexeme_reader.specs.Passes.{goes_past}
use Rattle.lexeme_reader.proofs.RunLemmas.{list_all-weaker, past_shows, run_of}
use Rattle.lexeme_reader.proofs.steps.pass_until.Goals as goal

pub pass_plain-requires : goal.pass_plain-requires
pass_plain-requires c = let n = c.run_len-count in record {
  within = subst (λ t. n.result ≤ length t) c.ahead.ensures n.ensures.within;
  plain = ap (λ t. list_all shows_itself (take n.result t)) (sym c.ahead.ensures)
      ∙ list_all-weaker (goes_past c.args.stop) shows_itself (take n.result c.ahead.result.now) (past_shows c.args.stop) n.ensures.all;
}

pub returns-clause-run : goal.returns-clause-run
returns-clause-run c = let n = c.run_len-count in
    run_of (goes_past c.args.stop) (rest c.args.at.now) (rest c.pass_plain.new.self) c.ahead.result.now n.result n.ensures.within n.ensures.all
    (c.pass_plain.ensures.written ∙ ap (take n.result) (sym c.ahead.ensures)) c.pass_plain.ensures.rest
