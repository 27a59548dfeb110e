use Rattle.std.proofs.Common.{[], ◌∷◌, length, map, All, sym, ap, subst, ◌∙◌, arith, length-append}
use Rattle.turn_lock.specs.Logs.{Fits}
use Rattle.turn_lock.specs.Passes.{IsPassOf, number, seen, lock_fixed, first_log, GrownBy}
use Rattle.cache_desk.specs.Log.{maker}
use Rattle.cache_desk.specs.Desk.{log_of, fixed_of}
use Rattle.shared_cache.specs.Shared.{first, second}
use Rattle.shared_cache.specs.Closing.{view_of, IsClosed}
use Rattle.shared_cache.proofs.HandsLemmas.{one_more_lengths, row_own}
use Rattle.shared_cache.proofs.ClosedLemmas.{one_closed, named_views, fitting_views}
use Rattle.shared_cache.proofs.parts.close_last.Goals as goal

pub gather-row-requires-clause-some : goal.gather-row-requires-clause-some
gather-row-requires-clause-some g c κs within k d inside =
    let l = c.requires.last k d inside in let n = ap length l.2 ∙ length-append l.0 (l.1 ∷ []) in omega arith

pub close-requires-clause-all : goal.close-requires-clause-all
close-requires-clause-all g c κs within =
    ap length c.of_vec.ensures ∙ ((one_more_lengths c.gather-row.new.hands c.gather-row.result.items c.args.hands.now c.gather-row.ensures).0 ∙ (sym (one_more_lengths c.gather-row.new.hands c.gather-row.result.items c.args.hands.now c.gather-row.ensures).1 ∙ sym c.requires.count))

pub close-requires-clause-own : goal.close-requires-clause-own
close-requires-clause-own g c κs within =
    subst (λ ps. All (λ p. IsPassOf c.args.lock p) ps) (sym c.of_vec.ensures) (row_own c.args.lock c.gather-row.new.hands c.gather-row.result.items c.args.hands.now c.requires.last c.gather-row.ensures)

pub returns : goal.returns
returns g c =
    let gp = g.S.Source.given_path in let o = g.S.Source.given_outcome in let b = g.S.Source.given_bytes in let go = g.S.Source.given_origin in
    let d = c.close.result in
    let row = c.gather-row.result.items in
    let log = log_of o b d in
    let fixed = lock_fixed fixed_of c.args.lock in
    let fits = fitting_views row log (subst (λ ps. All (λ p. Fits maker (number p) (seen p) log) ps) c.of_vec.ensures c.close.ensures.fits) in
    let named = named_views row (first_log (log_of o b) c.args.lock) log c.requires.fresh (subst (λ ps. GrownBy maker ps (first_log (log_of o b) c.args.lock) log) c.of_vec.ensures c.close.ensures.grown) in
    let closed = one_closed gp o b go (first fixed) (map view_of row) d c.into_shard.ensures.desk (ap first c.close.ensures.fixed) fits named in
    let is = c.into_shard.ensures.shard in
    (row, c.gather-row.ensures, subst (λ s. IsClosed gp o b go (first fixed) (map view_of row) s) (sym is) closed, ap (λ s. s.origin) is ∙ ap second c.close.ensures.fixed)
