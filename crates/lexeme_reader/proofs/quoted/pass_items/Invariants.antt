use Rattle.std.proofs.Common.{◌≡◌, false, length}
use Rattle.line_splice.specs.Cursor.{rest}
use Rattle.scan_model.specs.Spelling.{after_items}
use Rattle.lexeme_reader.specs.Fronts.{line, Along}
use Rattle.lexeme_reader.proofs.quoted.pass_items.Given as goal

abbrev pub invariant-items : goal.invariant-items
invariant-items l = record {
  same : l.at.text.now ≡ l.fn.at.text.now;
  along : Along (rest l.fn.at) (rest l.at);
  items : after_items l.quote l.escaped (line (rest l.at)) ≡ after_items l.quote false (line (rest l.fn.at));
}

abbrev pub decreases-items : goal.decreases-items
decreases-items l = length (rest l.at)
