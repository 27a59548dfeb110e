use Rattle.std.proofs.Common.{◌∙◌, ap, sym, ◌+◌, drop}
use Rattle.line_splice.specs.Cursor.{rest}
use Rattle.scan_model.specs.Tokens.{begins}
use Rattle.reducer.proofs.FrontLemmas.{begins_step, begins_none}
use Rattle.reducer.proofs.fronts.begins.Goals as goal

pub returns-in-None : goal.returns-in-None
returns-in-None c = sym (c.word.invariant ∙ begins_none c.args.word.now c.word.byte-index (rest c.word.next) c.word-test.true (sym c.peek.ensures.value ∙ c.in-None.is))

pub word-preserved : goal.word-preserved
word-preserved c =
    c.word.invariant ∙ begins_step c.args.word.now c.word.byte-index (rest c.word.next) c.in-Some.shown c.word-test.true (sym c.peek.ensures.value ∙ c.in-Some.is) c.if-shown-byte.false
    ∙ ap (begins (drop (c.word.byte-index + 1) c.args.word.now)) (sym c.advance.ensures.rest)
