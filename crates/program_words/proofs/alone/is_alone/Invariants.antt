use Rattle.std.proofs.Common.{◌≡◌, drop}
use Rattle.program_words.specs.Alone.{alone_from, is_alone}
use Rattle.program_words.specs.Words.{texts_of}
use Rattle.program_words.proofs.alone.is_alone.Given as goal

abbrev pub invariant-words : goal.invariant-words
invariant-words l = alone_from l.after_count (texts_of (drop l.word-index l.words.items)) ≡ is_alone (texts_of l.words.items)
