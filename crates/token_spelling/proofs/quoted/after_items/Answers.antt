use Rattle.std.proofs.Common.{◌∙◌, ◌+◌, ap, sym, arith, Some}
use Rattle.std.proofs.lemmas.List.{take_rest}
use Rattle.token_spelling.proofs.QuotedLemmas.{items_newline, items_close, items_more, items_end}
use Rattle.token_spelling.proofs.quoted.after_items.Goals as goal

pub returns-then-byte-eq10 : goal.returns-then-byte-eq10
returns-then-byte-eq10 c = sym (items_newline c.args.quote c.loop-i.escaped c.args.text.now c.loop-i.i (omega arith) c.if-byte-eq10.true) ∙ c.loop-i.invariant

pub returns-then-escaped-byte : goal.returns-then-escaped-byte
returns-then-escaped-byte c = let t = c.args.text.now in let i = c.loop-i.i in
    ap Some (take_rest t (i + 1)) ∙ sym (items_close c.args.quote c.loop-i.escaped t i (omega arith) c.if-byte-eq10.false c.if-escaped-byte.true) ∙ c.loop-i.invariant

pub loop-i-preserved : goal.loop-i-preserved
loop-i-preserved c = sym (items_more c.args.quote c.loop-i.escaped c.args.text.now c.loop-i.i (omega arith) c.if-byte-eq10.false c.if-escaped-byte.false) ∙ c.loop-i.invariant

pub returns : goal.returns
returns c = sym (items_end c.args.quote c.loop-i.escaped c.args.text.now c.loop-i.i (omega arith)) ∙ c.loop-i.invariant
