use Rattle.std.proofs.Common.{sym, ◌∙◌, ap, arith}
use Rattle.list_stack.specs.declared.entry.Places.{Places}
use Rattle.list_stack.specs.Places.{is_stop}
use Rattle.list_stack.proofs.EntryLemmas.{no_entry}
use Rattle.list_stack.proofs.PlaceLemmas.{found-below, searching-start, searching-goes, searching-found, searching-none, searching-under}
use Rattle.list_stack.proofs.cuts.next_comma.Goals as goal

pub at-init : goal.at-init
at-init c = searching-start c.args.floor c.args.end c.args.entries.now c.requires.within c.requires.above

pub returns-then-stop-floor : goal.returns-then-stop-floor
returns-then-stop-floor c =
    searching-under c.args.floor c.args.end c.args.entries.now c.requires.within c.at.at c.in-Some.stop (ap (λ (p : Places). p.stop) (sym c.places_below.ensures) ∙ c.in-Some.is) c.if-stop-floor.true c.at.invariant

pub is_comma_at-requires : goal.is_comma_at-requires
is_comma_at-requires c =
    omega (arith, c.requires.within, c.at.invariant.below, found-below is_stop 0 c.at.at c.args.entries.now (omega arith) (omega (arith, c.requires.within, c.at.invariant.below)) c.in-Some.stop (ap (λ (p : Places). p.stop) (sym c.places_below.ensures) ∙ c.in-Some.is))

pub returns-then-is_comma_at : goal.returns-then-is_comma_at
returns-then-is_comma_at c =
    searching-found c.args.floor c.args.end c.args.entries.now c.requires.within c.at.at c.in-Some.stop no_entry (ap (λ (p : Places). p.stop) (sym c.places_below.ensures) ∙ c.in-Some.is) c.if-stop-floor.false
    (sym (c.is_comma_at.ensures no_entry) ∙ c.if-is_comma_at.true) c.at.invariant

pub at-smaller : goal.at-smaller
at-smaller c =
    found-below is_stop 0 c.at.at c.args.entries.now (omega arith) (omega (arith, c.requires.within, c.at.invariant.below)) c.in-Some.stop (ap (λ (p : Places). p.stop) (sym c.places_below.ensures) ∙ c.in-Some.is)

pub at-preserved : goal.at-preserved
at-preserved c =
    searching-goes c.args.floor c.args.end c.args.entries.now c.requires.within c.at.at c.in-Some.stop no_entry (ap (λ (p : Places). p.stop) (sym c.places_below.ensures) ∙ c.in-Some.is) c.if-stop-floor.false
    (sym (c.is_comma_at.ensures no_entry) ∙ c.if-is_comma_at.false) c.at.invariant

pub returns : goal.returns
returns c = searching-none c.args.floor c.args.end c.args.entries.now c.requires.within c.at.at (ap (λ (p : Places). p.stop) (sym c.places_below.ensures) ∙ c.in_default.is) c.at.invariant
