use Rattle.std.proofs.Common.{◌≡◌, ℕ, ◌+◌, ◌<◌, take, drop}
use Rattle.std.specs.Str.{IsUtf8}
use Rattle.line_splice.specs.Cursor.{rest}
use Rattle.scan_model.specs.Tokens.{bytes}
use Rattle.lexeme_reader.proofs.character.encoded_character.Given as goal

abbrev pub invariant-loop-len : goal.invariant-loop-len
invariant-loop-len l = record {
  left : rest l.next ≡ drop l.len (rest l.at);
  front : take l.len l.buffer ≡ bytes (take l.len (rest l.at));
  none : (k : ℕ) → k < l.len → IsUtf8 (bytes (take (k + 1) (rest l.at))) → ⊥;
}
