use Rattle.std.proofs.Common.{◌∙◌, ap, sym}
use Rattle.std.specs.Str.{chars}
use Rattle.scan_model.specs.Spelling.{is_name, are_name}
use Rattle.token_spelling.proofs.Utf8Lemmas.{text_test, other_test}
use Rattle.token_spelling.proofs.names.is_name.Goals as goal

pub returns-in-Ok : goal.returns-in-Ok
unfolding is_name
returns-in-Ok c = let s = c.args.spelling.now in
    c.are_name.ensures ∙ ap (λ t. are_name (chars t)) c.in-Ok.ensures.cases.0 ∙ text_test s (are_name (chars s)) c.in-Ok.ensures.cases.1

pub returns-in-Err : goal.returns-in-Err
unfolding is_name
returns-in-Err c = let s = c.args.spelling.now in sym (other_test s (are_name (chars s)) c.in-Err.ensures.cases.0)
