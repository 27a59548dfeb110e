use Rattle.std.proofs.Common.{◌≡◌, drop}
use Rattle.command_words.specs.Reading.{nothing_read, walk}
use Rattle.command_words.proofs.reading.read_words.Given as goal

abbrev pub invariant-words : goal.invariant-words
invariant-words l = walk l.directory (drop l.word-index l.words) l.reading ≡ walk l.directory l.words nothing_read
