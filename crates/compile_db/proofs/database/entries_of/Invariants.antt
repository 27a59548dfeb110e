use Rattle.std.proofs.Common.{◌≡◌, suc, length}
use Rattle.std.specs.Vec.Iter.{into_iter_items, into_iter_len}
use Rattle.serde_json.specs.View.{items_view}
use Rattle.compile_db.specs.Database.{entries_from}
use Rattle.compile_db.proofs.ListLemmas.{done_entries}
use Rattle.compile_db.proofs.database.entries_of.Given as goal

abbrev pub invariant-values : goal.invariant-values
invariant-values l =
    (goal.iterator-values).can_next l.value-iterator
    × (goal.iterator-values).is_finite l.value-iterator
    × (into_iter_len l.value-iterator ≡ length (into_iter_items l.value-iterator))
    × (done_entries l.entries.items (entries_from (suc (length l.entries.items)) (items_view (into_iter_items l.value-iterator))) ≡ entries_from 1 (items_view l.fn.values.items))
