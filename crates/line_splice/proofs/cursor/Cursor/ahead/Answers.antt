use Rattle.std.proofs.Common.{ap, ◌∙◌, drop}
use Rattle.std.proofs.lemmas.List.{take_rest}
use Rattle.line_splice.specs.Cursor.{rest}
use Rattle.line_splice.proofs.ShownLemmas.{place_is}
use Rattle.line_splice.proofs.cursor.Cursor.ahead.Goals as goal

pub returns : goal.returns
unfolding rest
returns c = let s = c.args.self.now in
    take_rest s.text.now s.place ∙ ap (λ p. drop p s.text.now) (place_is s.text.now s.last s.place s.line s.shows s.within)
