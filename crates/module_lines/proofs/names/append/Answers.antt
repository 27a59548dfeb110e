use Rattle.std.proofs.Common.{List, ℕ, ◌++◌, ◌∙◌, ap}
use Rattle.module_lines.proofs.Texts.{IsUtf8-joined}
use Rattle.module_lines.proofs.names.append.Goals as goal

pub returns-clause-utf8 : goal.returns-clause-utf8
returns-clause-utf8 c =
    let whole = c.in_ok-extend_from_slice.ensures.items ∙ ap (λ (s : List ℕ). s ++ c.args.more.now) c.in_ok-push.ensures.items in
    IsUtf8-joined _ _ _ _ whole c.requires.sign c.requires.text c.requires.more
