use Rattle.std.proofs.Common.{refl}
use Rattle.reducer.proofs.OpenLemmas.{shown_at, none_at}
use Rattle.reducer.proofs.open_lines.OpenLines.get.Goals as goal

pub returns-then-i-open : goal.returns-then-i-open
returns-then-i-open c =
    shown_at c.args.self.now c.deref.result.now c.deref-then-i-open.result.now c.args.i _ _ _ c.deref.ensures.value c.deref-then-i-open.ensures.value c.if-i-open.true refl c.shown_token.ensures

pub returns-else-i-open : goal.returns-else-i-open
returns-else-i-open c = none_at c.args.self.now c.deref.result.now c.args.i c.deref.ensures.value c.if-i-open.false
