use Rattle.std.proofs.Common.{◌∙◌, ap, sym, drop, arith}
use Rattle.std.proofs.lemmas.List.{drop-drop}
use Rattle.line_splice.specs.Cursor.{rest}
use Rattle.lexeme_reader.proofs.SpotLemmas.{drop_some}
use Rattle.lexeme_reader.proofs.steps.pass_bytes.Goals as goal

pub advance-requires : goal.advance-requires
advance-requires c e = drop_some (rest c.args.at.now) c.bytes.counter (omega arith) (sym c.bytes.invariant.left ∙ e)

pub bytes-preserved : goal.bytes-preserved
bytes-preserved c = record {
  same = c.advance.ensures.text ∙ c.bytes.invariant.same;
  left = c.advance.ensures.rest ∙ ap (drop 1) c.bytes.invariant.left ∙ drop-drop 1 c.bytes.counter (rest c.args.at.now);
}
