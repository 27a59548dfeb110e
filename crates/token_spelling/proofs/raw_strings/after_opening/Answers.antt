use Rattle.std.proofs.Common.{◌∙◌, ◌+◌, ◌==◌, ◌&&◌, ap, sym, slice_index}
use Rattle.std.proofs.lemmas.List.{take_rest}
use Rattle.token_spelling.proofs.RawLemmas.{not_opened, opened}
use Rattle.token_spelling.proofs.raw_strings.after_opening.Goals as goal

pub returns-then-not-opens : goal.returns-then-not-opens
returns-then-not-opens c = let s = c.args.spelling.now in let n = c.encoding_len-prefix.result in
    not_opened n s c.encoding_len-prefix.ensures (sym (ap (λ b. b && c.stands_at-2.result) c.stands_at.ensures.value ∙ ap (λ b. slice_index s n == 82 && b) c.stands_at-2.ensures.value) ∙ c.if-not-opens.true)

pub returns : goal.returns
returns c = let s = c.args.spelling.now in let n = c.encoding_len-prefix.result in
    opened n s _ c.encoding_len-prefix.ensures (sym (ap (λ b. b && c.stands_at-2.result) c.stands_at.ensures.value ∙ ap (λ b. slice_index s n == 82 && b) c.stands_at-2.ensures.value) ∙ c.if-not-opens.false)
    (take_rest s (n + 2))
