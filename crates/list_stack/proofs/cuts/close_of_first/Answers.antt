use Rattle.std.proofs.Common.{sym, ◌∙◌, ap, ◌-◌, length, arith}
use Rattle.list_stack.specs.declared.entry.Places.{Places}
use Rattle.list_stack.proofs.PlaceLemmas.{closes-none, closes-under, closes-at}
use Rattle.list_stack.proofs.cuts.close_of_first.Goals as goal

pub returns-in_default : goal.returns-in_default
returns-in_default c =
    let entries = c.args.entries.now in
    let top = length entries - 1 in
    let first = c.index-entries-top.result in
    let is_open = sym c.is_open_paren.ensures ∙ c.if-not-is_open_paren.false in
    closes-none c.args.floor top entries first (omega arith) (omega arith) is_open (ap (λ (p : Places). p.close) (sym c.places_below.ensures) ∙ c.in_default.is)

pub returns-then-close-floor : goal.returns-then-close-floor
returns-then-close-floor c =
    let entries = c.args.entries.now in
    let top = length entries - 1 in
    let first = c.index-entries-top.result in
    let is_open = sym c.is_open_paren.ensures ∙ c.if-not-is_open_paren.false in
    closes-under c.args.floor top entries first (omega arith) (omega arith) c.in-Some.close is_open (ap (λ (p : Places). p.close) (sym c.places_below.ensures) ∙ c.in-Some.is) (omega arith)

pub returns : goal.returns
returns c =
    let entries = c.args.entries.now in
    let top = length entries - 1 in
    let first = c.index-entries-top.result in
    let is_open = sym c.is_open_paren.ensures ∙ c.if-not-is_open_paren.false in
    closes-at c.args.floor top entries first (omega arith) (omega arith) c.in-Some.close is_open (ap (λ (p : Places). p.close) (sym c.places_below.ensures) ∙ c.in-Some.is) (omega arith)
