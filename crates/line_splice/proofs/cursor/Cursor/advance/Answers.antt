use Rattle.std.proofs.Common.{subst}
use Rattle.std.proofs.lemmas.List.{take_rest}
use Rattle.line_splice.specs.Cursor.{rest}
use Rattle.line_splice.specs.Plain.{BeginsPlain}
use Rattle.line_splice.proofs.PlainLemmas.{passes_one, one_ends}
use Rattle.line_splice.proofs.cursor.Cursor.advance.Goals as goal

pub invariant_of-self-clause-shows : goal.invariant_of-self-clause-shows
invariant_of-self-clause-shows c = let s = c.args.self.now in
    (passes_one s.text.now s.last s.place s.line (subst BeginsPlain (take_rest s.text.now s.place) (c.begins_plain.ensures.0 c.if-begins_plain.true))).shows

pub invariant_of-self-clause-ends : goal.invariant_of-self-clause-ends
unfolding rest
invariant_of-self-clause-ends c = let s = c.args.self.now in
    one_ends s.text.now s.last s.place s.line
    (passes_one s.text.now s.last s.place s.line (subst BeginsPlain (take_rest s.text.now s.place) (c.begins_plain.ensures.0 c.if-begins_plain.true))) s.ends

pub returns-then-begins_plain-clause-rest : goal.returns-then-begins_plain-clause-rest
unfolding rest
returns-then-begins_plain-clause-rest c = let s = c.args.self.now in
    (passes_one s.text.now s.last s.place s.line (subst BeginsPlain (take_rest s.text.now s.place) (c.begins_plain.ensures.0 c.if-begins_plain.true))).rest
