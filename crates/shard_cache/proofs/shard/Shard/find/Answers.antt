use Rattle.std.proofs.Common.{rules, ◌≡◌, ◌≢◌, ◌<◌, ◌≤◌, length, sym, ap, subst, ◌∙◌, All, arith}
use Rattle.std.specs.Prelude.{Some, None, false}
use Rattle.std.proofs.lemmas.Option.{same_Some, slice_get_within, get_or_from_slice_get}
use Rattle.scan_model.specs.TokenTests.{same}
use Rattle.shard_cache.specs.declared.kept_row.KeptRow.{KeptRow}
use Rattle.shard_cache.specs.Places.{place_of}
use Rattle.shard_cache.proofs.PlaceLemmas.{absent, other_paths, some_none}
use Rattle.shard_cache.proofs.shard.Shard.find.Goals as goal

pub returns-in_default : goal.returns-in_default
returns-in_default g c =
    let path = c.args.path.now in
    let places = c.self.inside.places in
    let none : place_of places path ≡ None = ap (place_of places) (sym c.as_slice.ensures.value) ∙ (sym c.get.ensures ∙ c.in_default.is) in
    subst (λ rows. All (λ row. row.path ≢ path) rows) (ap (λ s. s.rows) c.self.view_is)
    (absent (λ row. row.path) c.self.inside.rows.items places path c.self.invariant.0 (λ k x at found is. some_none k (sym at ∙ none)))

pub returns-then-place-len : goal.returns-then-place-len
returns-then-place-len g c =
    let path = c.args.path.now in
    let places = c.self.inside.places in
    let rows = c.self.inside.rows.items in
    let here : place_of places path ≡ Some c.in-Some.place = ap (place_of places) (sym c.as_slice.ensures.value) ∙ (sym c.get.ensures ∙ c.in-Some.is) in
    let past : length rows ≤ c.in-Some.place = search rules in
    subst (λ rows. All (λ row. row.path ≢ path) rows) (ap (λ s. s.rows) c.self.view_is)
    (absent (λ row. row.path) rows places path c.self.invariant.0
    (λ k x at found is. let e = same_Some k c.in-Some.place (sym at ∙ here) in let i = slice_get_within rows k x found in omega arith))

pub returns-else-eq : goal.returns-else-eq
returns-else-eq g c =
    let path = c.args.path.now in
    let places = c.self.inside.places in
    let rows = c.self.inside.rows.items in
    let row = c.index-row.result.now in
    let here : place_of places path ≡ Some c.in-Some.place = ap (place_of places) (sym c.as_slice.ensures.value) ∙ (sym c.get.ensures ∙ c.in-Some.is) in
    let differ : same row.path path ≡ false = search rules in
    subst (λ rows. All (λ row. row.path ≢ path) rows) (ap (λ s. s.rows) c.self.view_is)
    (absent (λ row. row.path) rows places path c.self.invariant.0
    (λ k x at found is.
    let e = same_Some k c.in-Some.place (sym at ∙ here) in
    let one : row ≡ x = c.index-row.ensures ∙ (ap (λ n. Rattle.std.proofs.Common.get_or rows n row) (sym e) ∙ get_or_from_slice_get rows k x row found) in
    other_paths row.path path differ (ap (λ (r : KeptRow g.row.S.Denot g.row.S-Opener.Denot g.row.S-Given.Denot). r.path) one ∙ is)))
