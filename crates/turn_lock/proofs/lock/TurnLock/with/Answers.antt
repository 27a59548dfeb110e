use Rattle.std.proofs.Common.{◌≡◌, ◌∙◌, refl, ap, sym, subst}
use Rattle.std.specs.Fn.{FnOnceReturnsAtMut}
use Rattle.turn_lock.specs.Logs.{Fits, Follows}
use Rattle.turn_lock.specs.Views.{number_of, seen_of}
use Rattle.turn_lock.proofs.TurnLemmas.{adds_at, fixed_at}
use Rattle.turn_lock.specs.Passes.{lock_fixed}
use Rattle.turn_lock.proofs.lock.TurnLock.with.Goals as goal

pub leave-requires-clause-adds : goal.leave-requires-clause-adds
leave-requires-clause-adds g c κs within = let x = c.enter-state.result in let y = c.step-result.new.arg2 in
    let is : number_of c.args.pass.now.seat.me.0.marks ≡ c.args.pass.now.number = ap (λ m. number_of m.0.marks) c.args.pass.now.at_rest in
    let ret : FnOnceReturnsAtMut g.F.FnOnce c.args.step x c.step-result.result y = record { shown = _; shows = refl; left = _; met = c.step-result.ensures; leaves = refl } in
    let firm : g.T.Logged.fixed x ≡ lock_fixed g.T.Logged.fixed c.args.self.now = c.enter-state.ensures.fixed ∙ c.requires.own.1 in
    let fits = subst (λ k. Fits g.T.Logged.maker k (seen_of c.args.pass.now.seat.me.0.marks) (g.T.Logged.log x)) is c.enter-state.ensures.fits in
    let next = (c.requires.adds x y c.step-result.result fits firm ret).0 in
    adds_at g.T.Logged.log g.T.Logged.fixed g.T.Logged.maker _ _ _ _ _ c.enter-state.ensures.turn (subst (λ k. Follows g.T.Logged.maker k (g.T.Logged.log x) (g.T.Logged.log y)) (sym is) next)

pub leave-requires-clause-fixed : goal.leave-requires-clause-fixed
leave-requires-clause-fixed g c κs within = let x = c.enter-state.result in let y = c.step-result.new.arg2 in
    let is : number_of c.args.pass.now.seat.me.0.marks ≡ c.args.pass.now.number = ap (λ m. number_of m.0.marks) c.args.pass.now.at_rest in
    let ret : FnOnceReturnsAtMut g.F.FnOnce c.args.step x c.step-result.result y = record { shown = _; shows = refl; left = _; met = c.step-result.ensures; leaves = refl } in
    let firm : g.T.Logged.fixed x ≡ lock_fixed g.T.Logged.fixed c.args.self.now = c.enter-state.ensures.fixed ∙ c.requires.own.1 in
    let fits = subst (λ k. Fits g.T.Logged.maker k (seen_of c.args.pass.now.seat.me.0.marks) (g.T.Logged.log x)) is c.enter-state.ensures.fits in
    fixed_at g.T.Logged.log g.T.Logged.fixed g.T.Logged.maker _ _ _ _ _ c.enter-state.ensures.turn ((c.requires.adds x y c.step-result.result fits firm ret).1 ∙ c.enter-state.ensures.fixed)

pub returns-clause-ran : goal.returns-clause-ran
returns-clause-ran g c = let x = c.enter-state.result in let y = c.step-result.new.arg2 in
    let is : number_of c.args.pass.now.seat.me.0.marks ≡ c.args.pass.now.number = ap (λ m. number_of m.0.marks) c.args.pass.now.at_rest in
    let ret : FnOnceReturnsAtMut g.F.FnOnce c.args.step x c.step-result.result y = record { shown = _; shows = refl; left = _; met = c.step-result.ensures; leaves = refl } in
    let firm : g.T.Logged.fixed x ≡ lock_fixed g.T.Logged.fixed c.args.self.now = c.enter-state.ensures.fixed ∙ c.requires.own.1 in
    let fits = subst (λ k. Fits g.T.Logged.maker k (seen_of c.args.pass.now.seat.me.0.marks) (g.T.Logged.log x)) is c.enter-state.ensures.fits in
    (x, y, fits, firm, ret, ap (λ m. seen_of m.0.marks) c.leave.ensures.rest, (c.requires.adds x y c.step-result.result fits firm ret).1)
