use Rattle.std.proofs.Common.{sym, ◌∙◌}
use Rattle.command_words.proofs.WalkLemmas.{walk_on, walk_stops, walk_end}
use Rattle.command_words.proofs.reading.read_words.Goals as goal

pub words-preserved : goal.words-preserved
words-preserved c =
    let on = walk_on c.args.directory.now c.args.words.now c.words.word-index c.words.reading c.in-Ok.next c.word-item.result c.as_str.result.now c.words-test.true c.word-item.is c.as_str.ensures.value (sym c.in_ok-next.ensures ∙ c.in-Ok.is) in
    sym on ∙ c.words.invariant

pub returns-in-Err : goal.returns-in-Err
returns-in-Err c =
    let stops = walk_stops c.args.directory.now c.args.words.now c.words.word-index c.words.reading c.in-Err.fault c.word-item.result c.as_str.result.now c.words-test.true c.word-item.is c.as_str.ensures.value (sym c.in_ok-next.ensures ∙ c.in-Err.is) in
    sym stops ∙ c.words.invariant

pub returns : goal.returns
returns c =
    c.ended.ensures ∙ sym (walk_end c.args.directory.now c.args.words.now c.words.word-index c.words.reading c.words-test.false) ∙ c.words.invariant
