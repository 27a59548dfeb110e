use Rattle.std.proofs.Common.{◌≡◌, ◌∙◌, ◌+◌, ◌-◌, ◌++◌, ◌∷◌, [], ap, sym, arith, take, drop, length, nat_eq, Some}
use Rattle.std.proofs.lemmas.List.{take_rest}
use Rattle.std.specs.List.{starts_with}
use Rattle.token_spelling.proofs.RawLemmas.{word_here, word_more, word_end, length-close}
use Rattle.token_spelling.proofs.raw_strings.after_close.Goals as goal

pub returns-then-closes : goal.returns-then-closes
returns-then-closes c = let t = c.args.text.now in let i = c.loop-i.i in let close = 41 ∷ c.args.delimiter.now ++ 34 ∷ [] in
    let left : take (length t - i) (drop i t) ≡ drop i t = take_rest t i in
    ap Some (take_rest (take (length t - i) (drop i t)) (length c.args.delimiter.now + 2) ∙ ap (drop (length c.args.delimiter.now + 2)) left
    ∙ ap (λ n. drop n (drop i t)) (sym (length-close c.args.delimiter.now)))
    ∙ sym (word_here close t i (omega arith) (ap (λ s. starts_with nat_eq s close) (sym left) ∙ sym c.closes.ensures.value ∙ c.if-closes.true))
    ∙ c.loop-i.invariant

pub loop-i-preserved : goal.loop-i-preserved
loop-i-preserved c = let t = c.args.text.now in let i = c.loop-i.i in let close = 41 ∷ c.args.delimiter.now ++ 34 ∷ [] in
    sym (word_more close t i (omega arith) (ap (λ s. starts_with nat_eq s close) (sym (take_rest t i)) ∙ sym c.closes.ensures.value ∙ c.if-closes.false)) ∙ c.loop-i.invariant

pub returns : goal.returns
returns c = sym (word_end (41 ∷ c.args.delimiter.now ++ 34 ∷ []) c.args.text.now c.loop-i.i (omega arith)) ∙ c.loop-i.invariant
