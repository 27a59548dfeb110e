use Rattle.std.proofs.Common.{◌+◌, ◌∙◌, ap, sym, false, Some, None}
use Rattle.std.proofs.lemmas.List.{take_rest}
use Rattle.std.specs.Option.{option_copied}
use Rattle.scan_model.specs.Spelling.{after_items}
use Rattle.token_spelling.proofs.QuotedLemmas.{not_quoted, quoted_by}
use Rattle.token_spelling.proofs.quoted.is_quoted.Goals as goal

pub returns-then-not-stands_at : goal.returns-then-not-stands_at
returns-then-not-stands_at c =
    sym (not_quoted c.args.quote c.encoding_len-prefix.result c.args.spelling.now c.encoding_len-prefix.ensures (sym c.stands_at.ensures.value ∙ c.if-not-stands_at.true))

pub returns-in-Some : goal.returns-in-Some
returns-in-Some c = let q = c.args.quote in let s = c.args.spelling.now in let n = c.encoding_len-prefix.result in
    c.is_suffix.ensures
    ∙ sym (quoted_by q n s (Some c.in-Some.suffix.now) c.encoding_len-prefix.ensures (sym c.stands_at.ensures.value ∙ c.if-not-stands_at.false)
    (ap option_copied (sym c.in-Some.is) ∙ c.after_items.ensures ∙ ap (after_items q false) (take_rest s (n + 1))))

pub returns-in-None : goal.returns-in-None
returns-in-None c = let q = c.args.quote in let s = c.args.spelling.now in let n = c.encoding_len-prefix.result in
    sym (quoted_by q n s None c.encoding_len-prefix.ensures (sym c.stands_at.ensures.value ∙ c.if-not-stands_at.false)
    (ap option_copied (sym c.in-None.is) ∙ c.after_items.ensures ∙ ap (after_items q false) (take_rest s (n + 1))))
