use Rattle.std.proofs.Common.{◌∙◌, ap, sym}
use Rattle.std.proofs.lemmas.Bool.{false≢true}
use Rattle.line_splice.specs.Cursor.{rest}
use Rattle.scan_model.specs.Tokens.{after_comment}
use Rattle.pp_lexer.proofs.CommentLemmas.{comment_run, comment_step}
use Rattle.pp_lexer.proofs.blanks.pass_comment.Goals as goal

pub comment-preserved : goal.comment-preserved
comment-preserved c = let s = rest c.comment.at in let b = rest c.advance-in-comment.new.self in record {
  text = c.pass_over.ensures.text ∙ c.advance-in-comment.ensures.text ∙ c.comment.invariant.text;
  same = sym (comment_run b (rest c.pass_over.new.at) c.pass_over.ensures.run) ∙ ap after_comment c.advance-in-comment.ensures.rest
      ∙ sym (comment_step s (λ e. false≢true (sym c.comment-test.true ∙ c.is_end.ensures.1 e)) (sym c.begins.ensures ∙ c.if-begins.false)) ∙ c.comment.invariant.same;
}
