use Rattle.std.proofs.Common.{◌∙◌, ap, refl}
use Rattle.std.proofs.lemmas.Bool.{both_ways}
use Rattle.line_splice.specs.Cursor.{rest}
use Rattle.scan_model.specs.Spliced.{line_at}
use Rattle.pp_lexer.proofs.BracketLemmas.{bare-end, bare_none}
use Rattle.pp_lexer.proofs.LinesLemmas.{as_given, lines_init, token_turn, token_smaller, newline_turn, newline_smaller, end_turn}
use Rattle.pp_lexer.proofs.logical_lines.lines.Goals as goal

pub lines-init : goal.lines-init
lines-init c = record {
  same = c.new-at.ensures.text;
  bare = bare_none c.args.text.now (rest c.new-at.result);
  whole = lines_init c.args.text.now c.new-out.result c.new-toks.result (rest c.new-at.result) c.new-out.ensures c.new-toks.ensures c.new-at.ensures.rest;
}

pub lines-smaller-in-Continue-branch-3 : goal.lines-smaller-in-Continue-branch-3
lines-smaller-in-Continue-branch-3 c =
    token_smaller c.args.text.now c.lines.toks (rest c.lines.at) (rest c.next_token.new.at) c.in-Some.tok
    (as_given _ _ _ _ _ _ _ _ c.in_ok-tok.ensures.token refl c.as_slice.ensures c.in-Some.is)

pub lines-preserved-in-Continue-branch-3 : goal.lines-preserved-in-Continue-branch-3
lines-preserved-in-Continue-branch-3 c = record {
  same = c.next_token.ensures.text ∙ c.lines.invariant.same;
  bare = c.in_ok-tok.ensures.bare;
  whole = token_turn c.args.text.now c.lines.out c.lines.toks c.push.new.items (rest c.lines.at) (rest c.next_token.new.at) c.in-Some.tok _
      (as_given _ _ _ _ _ _ _ _ c.in_ok-tok.ensures.token refl c.as_slice.ensures c.in-Some.is) c.in_ok-push-in-Some.ensures c.lines.invariant.whole;
}

pub lines-smaller : goal.lines-smaller
lines-smaller c =
    newline_smaller c.args.text.now c.lines.toks (rest c.lines.at) (rest c.next_token.new.at) (rest c.pass_newline.new.at)
    (as_given _ _ _ _ _ _ _ _ c.in_ok-tok.ensures.token refl c.as_slice.ensures c.in-None.is) c.pass_newline.ensures.rest (λ e. both_ways c.is_end.result c.lines-test.true (c.is_end.ensures.1 e))

pub lines-preserved : goal.lines-preserved
lines-preserved c = record {
  same = c.pass_newline.ensures.text ∙ c.next_token.ensures.text ∙ c.lines.invariant.same;
  bare = bare-end c.next_token.new.bare_to c.args.text.now (rest c.next_token.new.at) (rest c.pass_newline.new.at) (1, c.pass_newline.ensures.rest) c.in_ok-tok.ensures.bare;
  whole = newline_turn c.args.text.now c.lines.out c.end_line.new.out c.lines.toks c.new-toks-in-None.result (rest c.lines.at) (rest c.next_token.new.at) (rest c.pass_newline.new.at) c.line.result _
      (as_given _ _ _ _ _ _ _ _ c.in_ok-tok.ensures.token refl c.as_slice.ensures c.in-None.is)
      (c.line.ensures.value ∙ ap (λ t. line_at t (rest c.next_token.new.at)) (c.next_token.ensures.text ∙ c.lines.invariant.same))
      c.in_ok-end_line-in-None.ensures c.new-toks-in-None.ensures c.pass_newline.ensures.rest c.lines.invariant.whole;
}

pub returns : goal.returns
returns c = end_turn c.args.text.now c.lines.out c.end_line-2.new.out c.lines.toks (rest c.lines.at) c.line-2.result _ (c.is_end.ensures.0 c.lines-test.false)
    (c.line-2.ensures.value ∙ ap (λ t. line_at t (rest c.lines.at)) c.lines.invariant.same)
    c.in_ok-end_line.ensures c.lines.invariant.whole
