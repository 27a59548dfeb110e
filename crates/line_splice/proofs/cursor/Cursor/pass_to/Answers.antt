use Rattle.std.proofs.Common.{◌≤◌, ◌-◌, ◌∙◌, ℕ, ap, arith, length-take}
use Rattle.line_splice.specs.Cursor.{text_of, rest}
use Rattle.scan_model.specs.Spliced.{place_at}
use Rattle.scan_model.specs.Tokens.{from_place}
use Rattle.line_splice.proofs.PlaceLemmas.{went_on}
use Rattle.line_splice.proofs.cursor.Cursor.pass_to.Goals as goal

pub returns-clause-rest : goal.returns-clause-rest
returns-clause-rest c = let s = c.args.self.now in
    let few : c.plain_end-count.result ≤ c.args.place - place_at (text_of s) (rest s) =
    omega (arith, c.plain_end-count.ensures.within, c.min-most.ensures, c.saturating_sub.ensures, c.raw_from.ensures, length-take {A = ℕ}) in
    c.walk_to.ensures.rest ∙ ap (from_place c.args.place) c.pass_written.ensures.rest ∙ went_on s c.args.place c.plain_end-count.result few
