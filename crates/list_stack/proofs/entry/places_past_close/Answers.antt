use Rattle.std.proofs.Common.{sym, ◌∙◌, ap, length, arith}
use Rattle.scan_model.specs.TokenTests.{is_close_paren}
use Rattle.list_stack.specs.declared.entry.Places.{Places}
use Rattle.list_stack.specs.Places.{part}
use Rattle.list_stack.proofs.PlaceLemmas.{found-below, places-past, places-never}
use Rattle.list_stack.proofs.entry.places_past_close.Goals as goal

pub places_below-requires-in-Some-clause-within : goal.places_below-requires-in-Some-clause-within
places_below-requires-in-Some-clause-within c =
    let entries = c.args.entries.now in
    omega (arith, found-below is_close_paren 0 (length entries) entries (omega arith) (omega arith) c.in-Some.close (ap (λ (p : Places). p.close) (sym c.places_below.ensures) ∙ c.in-Some.is))

pub returns-in-Some : goal.returns-in-Some
returns-in-Some c =
    let entries = c.args.entries.now in
    c.places_below-in-Some.ensures ∙ sym (places-past (length entries) c.in-Some.close entries (omega arith) (ap (λ (p : Places). p.close) (sym c.places_below.ensures) ∙ c.in-Some.is))

pub returns-in-None : goal.returns-in-None
returns-in-None c = sym (places-never (part 0 (length c.args.entries.now) c.args.entries.now) (ap (λ (p : Places). p.close) (sym c.places_below.ensures) ∙ c.in-None.is))
