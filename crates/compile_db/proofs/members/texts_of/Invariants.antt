use Rattle.std.proofs.Common.{◌≡◌, length}
use Rattle.std.specs.Vec.Iter.{into_iter_items, into_iter_len}
use Rattle.serde_json.specs.View.{items_view}
use Rattle.compile_db.specs.Database.{texts_of}
use Rattle.compile_db.proofs.ListLemmas.{done_texts}
use Rattle.compile_db.proofs.members.texts_of.Given as goal

abbrev pub invariant-values : goal.invariant-values
invariant-values l =
    (goal.iterator-values).can_next l.value-iterator
    × (goal.iterator-values).is_finite l.value-iterator
    × (into_iter_len l.value-iterator ≡ length (into_iter_items l.value-iterator))
    × (done_texts l.texts.items (texts_of (items_view (into_iter_items l.value-iterator))) ≡ texts_of (items_view l.fn.values.items))
