use Rattle.std.proofs.Common.{◌≡◌, IfOk, subst, ap, ◌∙◌}
use Rattle.program_words.specs.Words.{texts_of, words_of}
use Rattle.program_words.proofs.ParseLemmas.{parse_reads}
use Rattle.program_words.proofs.reading.read_words.Goals as goal

pub returns-in-Ok : goal.returns-in-Ok
returns-in-Ok c =
    let same = parse_reads _ c.in-Ok.parse c.in-Ok.ensures ∙ ap (λ ws. words_of (texts_of ws)) c.as_slice.ensures.value in
    subst (λ w. IfOk c.by_parse.result (λ read. read ≡ w)) same c.by_parse.ensures
