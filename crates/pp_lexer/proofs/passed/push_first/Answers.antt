use Rattle.std.proofs.Common.{◌∙◌, ◌++◌, ap, sym, take, drop, arith}
use Rattle.std.proofs.lemmas.List.{append_assoc, drop-drop}
use Rattle.line_splice.specs.Cursor.{rest}
use Rattle.lexeme_reader.proofs.SpotLemmas.{bytes-take_more, drop_some}
use Rattle.scan_model.specs.Tokens.{bytes}
use Rattle.pp_lexer.proofs.passed.push_first.Goals as goal

pub take_byte-requires : goal.take_byte-requires
take_byte-requires c e = drop_some (rest c.args.from.now) c.bytes.counter (omega arith) (sym c.bytes.invariant.left ∙ e)

pub bytes-preserved : goal.bytes-preserved
bytes-preserved c = let s = rest c.args.from.now in let k = c.bytes.counter in record {
  left = c.take_byte.ensures.left ∙ ap (drop 1) c.bytes.invariant.left ∙ drop-drop 1 k s;
  whole = c.in_ok-take_byte.ensures.bytes ∙ ap (λ t. t ++ bytes (take 1 (rest c.bytes.next))) c.bytes.invariant.whole
      ∙ append_assoc c.args.text.now.items (bytes (take k s)) (bytes (take 1 (rest c.bytes.next)))
      ∙ ap (λ t. c.args.text.now.items ++ (bytes (take k s) ++ bytes (take 1 t))) c.bytes.invariant.left
      ∙ ap (λ t. c.args.text.now.items ++ t) (sym (bytes-take_more s k));
}
