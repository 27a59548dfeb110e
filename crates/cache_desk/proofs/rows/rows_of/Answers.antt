use Rattle.std.proofs.Common.{rules, ◌≡◌, ◌+◌, ◌≤◌, ◌++◌, List, [], ◌∷◌, length, All, refl, sym, ap, subst, ◌∙◌, arith, append_assoc, append-nil, length-append}
use Rattle.std.specs.Prelude.{IsSome}
use Rattle.std.specs.Option.{ForSome}
use Rattle.std.specs.Vec.Iter.{into_iter_items}
use Rattle.std.proofs.lemmas.List.{nil_from_length}
use Rattle.std.proofs.lemmas.List.Elements.{All-head, All-tail, All-weaker}
use Rattle.shard_cache.specs.declared.KeptRow.{KeptRow}
use Rattle.shard_cache.specs.Places.{place_of, IsIndexOf}
use Rattle.shard_cache.proofs.PlaceLemmas.{index_empty}
use Rattle.cache_desk.specs.Desk.{path_of, row_in, row_and, rows_in}
use Rattle.cache_desk.proofs.IndexLemmas.{rows_step, row_known}
use Rattle.cache_desk.proofs.rows.rows_of.Goals as goal

pub events-init : goal.events-init
events-init g c =
    let items = c.into_iter-event-iterator.ensures.into_iter_gives.0 in
    record {
      count = (let n = c.into_iter-event-iterator.ensures.into_iter_gives in search rules);
      rows = ap (λ rs. rs ++ rows_in (into_iter_items c.into_iter-event-iterator.result)) c.requires.room.0 ∙ ap rows_in items;
      room = (let n = ap (λ rs. length rs) c.requires.room.0 in let m = ap (λ es. length (rows_in es)) items in let r = c.requires.room.1 in omega arith);
      known = subst (λ es. All (λ e. IsSome (place_of c.args.places (path_of e))) es) (sym items) c.requires.known;
      index = subst (λ rs. IsIndexOf (λ row. row.path) rs c.args.places) (sym c.requires.room.0) (index_empty (λ (r : KeptRow g.row.S.Denot g.row.S-Opener.Denot g.row.S-Given.Denot). r.path) c.args.places);
    }

pub add_published-requires-clause-room : goal.add_published-requires-clause-room
add_published-requires-clause-room g c κs within =
    let at = c.events in let e = c.in-Some.event in
    let steps : into_iter_items at.event-iterator ≡ e ∷ into_iter_items c.next.new.self = c.in-Some.ensures.steps.0 in
    let later = into_iter_items c.next.new.self in
    let whole = ap rows_in steps ∙ rows_step e later in
    let n = ap length whole ∙ length-append (row_and (row_in e) []) (rows_in later) in
    let k = ap (λ r. length (row_and r [])) c.into_row.ensures in
    let m = at.invariant.room in omega arith

pub add_published-requires-clause-known : goal.add_published-requires-clause-known
add_published-requires-clause-known g c κs within =
    let at = c.events in let e = c.in-Some.event in
    let steps : into_iter_items at.event-iterator ≡ e ∷ into_iter_items c.next.new.self = c.in-Some.ensures.steps.0 in
    let later = into_iter_items c.next.new.self in
    subst (λ o. ForSome o (λ r. IsSome (place_of at.places r.path))) (sym c.into_row.ensures)
    (row_known at.places e (All-head (λ x. IsSome (place_of at.places (path_of x))) e later (subst (λ es. All (λ x. IsSome (place_of at.places (path_of x))) es) steps at.invariant.known)))

pub events-preserved : goal.events-preserved
events-preserved g c =
    let at = c.events in let e = c.in-Some.event in
    let steps : into_iter_items at.event-iterator ≡ e ∷ into_iter_items c.next.new.self = c.in-Some.ensures.steps.0 in
    let later = into_iter_items c.next.new.self in
    let added = c.add_published.ensures.rows ∙ ap (λ r. at.rows.items ++ row_and r []) c.into_row.ensures in
    let whole = ap rows_in steps ∙ rows_step e later in
    record {
      count = (let was = at.invariant.count in let gone = c.in-Some.ensures.steps.1 in let short = ap length steps in omega arith);
      rows = ap (λ rs. rs ++ rows_in later) added ∙ (append_assoc at.rows.items (row_and (row_in e) []) (rows_in later) ∙ (ap (λ rs. at.rows.items ++ rs) (sym whole) ∙ at.invariant.rows));
      room = (let n = ap length added ∙ length-append at.rows.items (row_and (row_in e) []) in let k = ap length whole ∙ length-append (row_and (row_in e) []) (rows_in later) in let m = at.invariant.room in let r = c.add_published.ensures.room in omega arith);
      known = All-weaker (λ x. IsSome (place_of at.places (path_of x))) (λ x. IsSome (place_of c.add_published.new.places (path_of x))) (λ x h. c.add_published.ensures.known (path_of x) h) later
          (All-tail (λ x. IsSome (place_of at.places (path_of x))) e later (subst (λ es. All (λ x. IsSome (place_of at.places (path_of x))) es) steps at.invariant.known));
      index = c.add_published.ensures.index;
    }

pub returns-clause-rows : goal.returns-clause-rows
returns-clause-rows g c =
    let at = c.events in
    let none = c.in-None.ensures.steps in
    let empty : into_iter_items at.event-iterator ≡ [] = nil_from_length _ (sym at.invariant.count ∙ none.0) in
    sym (append-nil at.rows.items) ∙ (ap (λ es. at.rows.items ++ rows_in es) (sym empty) ∙ at.invariant.rows)
