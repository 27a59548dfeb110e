use Rattle.std.proofs.Common.{ap, ◌∙◌, sym, rules, tests}
use Rattle.std.proofs.lemmas.Iterator.Consumers.{YieldsList-end}
use Rattle.std.proofs.lemmas.Iterator.Splits.{YieldsList-from_slice_split}
use Rattle.program_words.specs.Words.{folders_in, is_colon, with_part}
use Rattle.program_words.proofs.PartLemmas.{parts_push}
use Rattle.program_words.proofs.reading.folders_in.Goals as goal

pub parts-preserved : goal.parts-preserved
parts-preserved c =
    c.in_ok-put_part.ensures ∙ ap (λ done. with_part done c.in-Some.part.now) c.parts.invariant ∙ sym (parts_push c.parts.yielded c.in-Some.part)

pub returns : goal.returns
returns c =
    let all = YieldsList-end (YieldsList-from_slice_split _ is_colon c.args.text.now (search rules) (search rules) (search rules) (λ x r q k. search (rules, tests))) c.parts.yielded _ c.parts.yielded_by _ _ c.in-None.is c.next.ensures.steps in
    c.of_vec.ensures ∙ c.parts.invariant ∙ ap folders_in all.0
