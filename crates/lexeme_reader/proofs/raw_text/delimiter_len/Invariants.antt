use Rattle.std.proofs.Common.{◌≡◌, ℕ, ◌<◌, true, get_or}
use Rattle.lexeme_reader.specs.Raws.{in_delimiter}
use Rattle.lexeme_reader.proofs.DelimiterLemmas.{is_before}
use Rattle.lexeme_reader.proofs.raw_text.delimiter_len.Given as goal

abbrev pub invariant-delimiter : goal.invariant-delimiter
invariant-delimiter l = record {
  good : (k : ℕ) → k < l.i → in_delimiter (get_or l.written k 0) ≡ true;
  before : (k : ℕ) → k < l.i → is_before (get_or l.written k 0) ≡ true;
}
