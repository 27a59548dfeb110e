use Rattle.std.proofs.Common.{◌≡◌, subst, List, ◌∷◌, length, refl}
use Rattle.list_stack.specs.declared.entry.Entry.{Entry}
use Rattle.list_stack.specs.Places.{places_of, part}
use Rattle.list_stack.proofs.EntryLemmas.{AreLinked-same, AreLinked-push}
use Rattle.list_stack.proofs.entry.push_entry.Goals as goal

pub returns-clause-linked : goal.returns-clause-linked
returns-clause-linked c =
    let places = subst (λ (es : List Entry). c.places_from-places.result ≡ places_of 0 (c.args.marked ∷ part 0 (length es) es)) c.as_slice.ensures.value (c.places_from-places.ensures c.args.marked refl) in
    AreLinked-same _ _ c.in_ok-push.ensures.items (AreLinked-push c.args.entries.now.items (record { marked = c.args.marked; places = c.places_from-places.result }) c.requires places)
