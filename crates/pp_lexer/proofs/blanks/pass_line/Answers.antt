use Rattle.std.proofs.Common.{◌∙◌, ap, sym}
use Rattle.line_splice.specs.Cursor.{rest}
use Rattle.scan_model.specs.Tokens.{from_newline}
use Rattle.pp_lexer.proofs.CommentLemmas.{line_run, line_step}
use Rattle.pp_lexer.proofs.blanks.pass_line.Goals as goal

pub loop-byte-preserved : goal.loop-byte-preserved
loop-byte-preserved c = let s = rest c.loop-byte.at in let b = rest c.advance.new.self in record {
  text = c.pass_over.ensures.text ∙ c.advance.ensures.text ∙ c.loop-byte.invariant.text;
  same = sym (line_run b (rest c.pass_over.new.at) c.pass_over.ensures.run) ∙ ap from_newline c.advance.ensures.rest
      ∙ sym (line_step s c.in-Some.byte (sym c.peek.ensures.value ∙ c.in-Some.is) c.if-byte-eq10.false) ∙ c.loop-byte.invariant.same;
}
