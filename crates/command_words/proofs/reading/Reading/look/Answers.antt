use Rattle.std.proofs.Common.{sym, ap, ◌∙◌}
use Rattle.command_words.specs.Options.{class_of}
use Rattle.command_words.proofs.OptionLemmas.{class_boundary}
use Rattle.command_words.proofs.reading.Reading.look.Goals as goal

pub range_from-requires : goal.range_from-requires
range_from-requires c =
    let is = ap class_of (sym c.as_bytes.ensures.value) ∙ sym c.class_of.ensures ∙ c.in-Joined.is in
    λ _. class_boundary c.args.word.now c.in-Joined.purpose c.in-Joined.at is c.utf8.word
