use Rattle.std.proofs.Common.{rules, Bor, ◌≡◌, ◌≤◌, ◌<◌, length, refl, sym, ap, subst, ◌∙◌, arith}
use Rattle.std.specs.Prelude.{Some, None}
use Rattle.shard_cache.specs.Places.{place_of}
use Rattle.shard_cache.specs.Rows.{IsRow}
use Rattle.shard_cache.specs.declared.KeptRow.{KeptRow}
use Rattle.cache_desk.specs.declared.desk.Spot.TheVariants as SpotIs
use Rattle.cache_desk.specs.Log.{Free}
use Rattle.cache_desk.specs.Desk.{Tells}
use Rattle.cache_desk.proofs.IndexLemmas.{nowhere, beyond, there}
use Rattle.cache_desk.proofs.desk.spot_of.Goals as goal

pub returns-in_default : goal.returns-in_default
returns-in_default g c =
    let o = g.S.Source.given_outcome in let b = g.S.Source.given_bytes in let fits : KeptRow g.row.S.Denot g.row.S-Opener.Denot g.row.S-Given.Denot → Type 0 = IsRow g.S.Source.given_path o b in
    let path = c.args.path.now in
    let none : place_of c.args.places.now path ≡ None = sym c.get.ensures ∙ c.in_default.is in
    subst (λ s. Tells {X = Bor (KeptRow g.row.S.Denot g.row.S-Opener.Denot g.row.S-Given.Denot)} o b fits (λ row. row.now) SpotIs.Free s) (sym (nowhere o b path c.args.events.now c.args.places.now c.requires.index none)) tt

pub returns-then-place-events : goal.returns-then-place-events
returns-then-place-events g c =
    let o = g.S.Source.given_outcome in let b = g.S.Source.given_bytes in let fits : KeptRow g.row.S.Denot g.row.S-Opener.Denot g.row.S-Given.Denot → Type 0 = IsRow g.S.Source.given_path o b in
    let path = c.args.path.now in
    let k = c.in-Some.place in
    let at : place_of c.args.places.now path ≡ Some k = sym c.get.ensures ∙ c.in-Some.is in
    let out : length c.args.events.now ≤ k = search rules in
    subst (λ s. Tells {X = Bor (KeptRow g.row.S.Denot g.row.S-Opener.Denot g.row.S-Given.Denot)} o b fits (λ row. row.now) SpotIs.Free s) (sym (beyond o b path c.args.events.now c.args.places.now c.requires.index k at out)) tt

pub returns : goal.returns
returns g c =
    let o = g.S.Source.given_outcome in let b = g.S.Source.given_bytes in let fits : KeptRow g.row.S.Denot g.row.S-Opener.Denot g.row.S-Given.Denot → Type 0 = IsRow g.S.Source.given_path o b in
    let path = c.args.path.now in
    let k = c.in-Some.place in
    let at : place_of c.args.places.now path ≡ Some k = sym c.get.ensures ∙ c.in-Some.is in
    let inside : k < length c.args.events.now = search rules in
    subst (λ s. Tells {X = Bor (KeptRow g.row.S.Denot g.row.S-Opener.Denot g.row.S-Given.Denot)} o b fits (λ row. row.now) c.spot_after.result s) (sym (there o b path c.args.events.now c.args.places.now c.requires.index k c.index-events-place.result at inside c.index-events-place.is)) (c.spot_after.ensures Free tt)
