use Rattle.std.proofs.Common.{◌≡◌, length, ◌∙◌, sym, arith}
use Rattle.if_values.proofs.KnownLemmas.{known-nothing}
use Rattle.if_values.proofs.known_tokens.KnownTokens.next.Goals as goal

pub returns-then-is_empty : goal.returns-then-is_empty
returns-then-is_empty c =
    let none : length c.self.inside.toks.now ≡ 0 = grind (arith, c.if-is_empty.ensures) in
    sym c.self.view_is ∙ known-nothing c.self.inside.toks.now c.self.inside.has.now none
