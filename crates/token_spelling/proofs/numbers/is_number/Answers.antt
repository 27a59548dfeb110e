use Rattle.std.proofs.Common.{◌∙◌, ap, sym}
use Rattle.std.specs.Str.{chars}
use Rattle.scan_model.specs.Spelling.{is_number, are_number}
use Rattle.token_spelling.proofs.Utf8Lemmas.{text_test, other_test}
use Rattle.token_spelling.proofs.numbers.is_number.Goals as goal

pub returns-in-Ok : goal.returns-in-Ok
unfolding is_number
returns-in-Ok c = let s = c.args.spelling.now in
    c.are_number.ensures ∙ ap (λ t. are_number (chars t)) c.in-Ok.ensures.cases.0 ∙ text_test s (are_number (chars s)) c.in-Ok.ensures.cases.1

pub returns-in-Err : goal.returns-in-Err
unfolding is_number
returns-in-Err c = let s = c.args.spelling.now in sym (other_test s (are_number (chars s)) c.in-Err.ensures.cases.0)
