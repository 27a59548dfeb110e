use Rattle.std.proofs.Common.{◌≡◌, ◌<◌, ◌≤◌, ◌∙◌, true, ap, sym, subst, take, length, slice_index, arith}
use Rattle.std.specs.List.{list_all}
use Rattle.line_splice.specs.Cursor.{rest}
use Rattle.line_splice.specs.Plain.{shows_or_ends}
use Rattle.lexeme_reader.specs.Passes.{goes_over}
use Rattle.lexeme_reader.proofs.OverLemmas.{over_shows, over_all, over_none}
use Rattle.lexeme_reader.proofs.RunLemmas.{list_all-weaker, run_of}
use Rattle.lexeme_reader.proofs.steps.pass_over.Goals as goal

pub pass_lines-requires : goal.pass_lines-requires
pass_lines-requires c =
    let n = c.lines_len-count in
    let written = c.ahead.result.now in
    let within = n.ensures.within c.if-count-eq0.false in
    let all : list_all (goes_over c.args.stop) (take n.result written) ≡ true = over_all (goes_over c.args.stop) n.result written (omega (arith, within)) n.ensures.all in
    record {
      within = subst (λ t. n.result < length t) c.ahead.ensures within;
      unspliced = ap (λ t. list_all shows_or_ends (take n.result t)) (sym c.ahead.ensures)
          ∙ list_all-weaker (goes_over c.args.stop) shows_or_ends (take n.result written) (over_shows c.args.stop) all;
      next = λ e. n.ensures.next c.if-count-eq0.false (ap (λ t. slice_index t n.result) c.ahead.ensures ∙ e);
    }

pub returns-then-count-eq0-clause-run : goal.returns-then-count-eq0-clause-run
returns-then-count-eq0-clause-run c = over_none (goes_over c.args.stop) (rest c.args.at.now)

pub returns-clause-run : goal.returns-clause-run
returns-clause-run c =
    let n = c.lines_len-count in
    let written = c.ahead.result.now in
    let within : n.result ≤ length written = omega (arith, n.ensures.within c.if-count-eq0.false) in
    run_of (goes_over c.args.stop) (rest c.args.at.now) (rest c.pass_lines.new.self) written n.result within
    (over_all (goes_over c.args.stop) n.result written within n.ensures.all) (c.pass_lines.ensures.written ∙ ap (take n.result) (sym c.ahead.ensures)) c.pass_lines.ensures.rest
