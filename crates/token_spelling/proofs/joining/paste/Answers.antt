use Rattle.std.proofs.Common.{◌∙◌, ◌++◌, ap, sym, cond, Some, None}
use Rattle.scan_model.specs.Tokens.{kind_of}
use Rattle.scan_model.specs.Paste.{is_one_token}
use Rattle.token_spelling.proofs.JoiningLemmas.{paste_some, paste_none}
use Rattle.token_spelling.proofs.joining.paste.Goals as goal

pub returns-in-Some : goal.returns-in-Some
returns-in-Some c = let l = c.args.left.now in let r = c.args.right.now in let s = c.in_ok-text.text.items in
    ap (λ text. Some (record l { kind = c.in-Some.kind; text = text })) c.of_vec.ensures
    ∙ sym (paste_some l r s c.in-Some.kind (c.in_ok-text.ensures ∙ ap (λ t. t ++ c.as_slice-2.result.now) c.as_slice.ensures ∙ ap (λ t. l.text ++ t) c.as_slice-2.ensures)
    (ap (λ t. cond (is_one_token t) (Some (kind_of t)) None) (sym c.deref.ensures.value) ∙ sym c.kind_of.ensures ∙ c.in-Some.is))

pub returns-in-None : goal.returns-in-None
returns-in-None c = let l = c.args.left.now in let r = c.args.right.now in let s = c.in_ok-text.text.items in
    sym (paste_none l r s (c.in_ok-text.ensures ∙ ap (λ t. t ++ c.as_slice-2.result.now) c.as_slice.ensures ∙ ap (λ t. l.text ++ t) c.as_slice-2.ensures)
    (ap (λ t. cond (is_one_token t) (Some (kind_of t)) None) (sym c.deref.ensures.value) ∙ sym c.kind_of.ensures ∙ c.in-None.is))
