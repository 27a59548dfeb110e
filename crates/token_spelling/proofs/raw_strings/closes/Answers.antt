use Rattle.std.proofs.Common.{◌∙◌, ◌+◌, ◌==◌, ◌&&◌, ap, sym, nat_eq, length, drop, slice_index}
use Rattle.std.proofs.lemmas.List.{take_rest}
use Rattle.std.specs.List.{starts_with}
use Rattle.token_spelling.proofs.RawLemmas.{closes_by}
use Rattle.token_spelling.proofs.raw_strings.closes.Goals as goal

pub returns-then-not-stands_at-clause-value : goal.returns-then-not-stands_at-clause-value
returns-then-not-stands_at-clause-value c = let t = c.args.text.now in let d = c.args.delimiter.now in
    sym (closes_by t d ∙ ap (λ b. b && (starts_with nat_eq (drop 1 t) d && slice_index t (length d + 1) == 34)) (sym c.stands_at.ensures.value ∙ c.if-not-stands_at.true))

pub returns-clause-value : goal.returns-clause-value
returns-clause-value c = let t = c.args.text.now in let d = c.args.delimiter.now in
    ap (λ b. b && c.stands_at-2.result) (c.starts_with.ensures.value ∙ ap (λ s. starts_with nat_eq s d) (take_rest t 1))
    ∙ ap (λ b. starts_with nat_eq (drop 1 t) d && b) c.stands_at-2.ensures.value
    ∙ sym (closes_by t d ∙ ap (λ b. b && (starts_with nat_eq (drop 1 t) d && slice_index t (length d + 1) == 34)) (sym c.stands_at.ensures.value ∙ c.if-not-stands_at.false))
