use Rattle.std.specs.String.{string_bytes}
use Rattle.std.proofs.lemmas.List.Elements.{All-map}
use Rattle.program_words.specs.Words.{texts_of}
use Rattle.program_words.proofs.FolderCount.{read_fits}
use Rattle.program_words.proofs.ShortRows.{IsShort}
use Rattle.program_words.proofs.RangeLemmas.{read_ranges}
use Rattle.program_words.proofs.reading.read.Goals as goal

pub returns-clause-ranges : goal.returns-clause-ranges
returns-clause-ranges c = read_ranges (texts_of c.args.words.now.items) c.read_words.result c.read_words.ensures

pub returns-clause-fits : goal.returns-clause-fits
returns-clause-fits c short =
    read_fits (texts_of c.args.words.now.items) c.read_words.result (All-map IsShort (λ word. string_bytes word) c.args.words.now.items short) c.read_words.ensures
