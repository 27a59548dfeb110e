use Rattle.std.proofs.Common.{◌∙◌, ◌<◌, ap, sym, length, nat_lt, arith}
use Rattle.std.proofs.lemmas.Bool.{lt-ltb}
use Rattle.line_splice.specs.Cursor.{rest}
use Rattle.pp_lexer.proofs.CommentLemmas.{blanks_more, blanks_stop, run_shorter, spaces_run}
use Rattle.pp_lexer.specs.Reads.{is_space}
use Rattle.pp_lexer.proofs.blanks.pass_blanks.Goals as goal

pub blanks-smaller : goal.blanks-smaller
blanks-smaller c =
    let more = blanks_more c.pass_blank.result (rest c.blanks.at) (rest c.pass_blank.new.at) c.pass_blank.ensures.blank c.blanks-test.true in
    omega (arith, more.1, run_shorter is_space (rest c.pass_blank.new.at) (rest c.pass_spaces.new.at) c.pass_spaces.ensures.run)

pub blanks-preserved : goal.blanks-preserved
blanks-preserved c =
    let more = blanks_more c.pass_blank.result (rest c.blanks.at) (rest c.pass_blank.new.at) c.pass_blank.ensures.blank c.blanks-test.true in
    let k = c.blanks.invariant.shorter in
    let spaces = run_shorter is_space (rest c.pass_blank.new.at) (rest c.pass_spaces.new.at) c.pass_spaces.ensures.run in
    let lt : length (rest c.pass_spaces.new.at) < length (rest c.args.at.now) = omega (arith, more.1, k, spaces) in
    record {
      text = c.pass_spaces.ensures.text ∙ c.pass_blank.ensures.text ∙ c.blanks.invariant.text;
      shorter = omega (arith, lt);
      passed = sym (lt-ltb _ _ lt);
      same = sym (spaces_run (rest c.pass_blank.new.at) (rest c.pass_spaces.new.at) c.pass_spaces.ensures.run) ∙ more.0 ∙ c.blanks.invariant.same;
    }

pub returns-clause-rest : goal.returns-clause-rest
returns-clause-rest c =
    c.pass_blank.ensures.none c.blanks-test.false
    ∙ sym (blanks_stop c.pass_blank.result (rest c.blanks.at) (rest c.pass_blank.new.at) c.pass_blank.ensures.blank c.blanks-test.false) ∙ c.blanks.invariant.same

pub returns-clause-passed : goal.returns-clause-passed
returns-clause-passed c = c.blanks.invariant.passed
    ∙ ap (λ t. nat_lt (length t) (length (rest c.args.at.now)))
    (sym (blanks_stop c.pass_blank.result (rest c.blanks.at) (rest c.pass_blank.new.at) c.pass_blank.ensures.blank c.blanks-test.false) ∙ c.blanks.invariant.same)
