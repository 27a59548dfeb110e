use Rattle.std.proofs.Common.{◌+◌, ◌∙◌, Some, length, ap, sym, arith}
use Rattle.path_search.proofs.CandidateLemmas.{angled_fits, next_fits, place_none, place_first, place_behind, place_angled, place_next}
use Rattle.path_search.proofs.places.place.Goals as goal

pub returns-then-is_absolute : goal.returns-then-is_absolute
returns-then-is_absolute c = place_none c.args.list.now c.args.form c.args.name.now c.args.k (sym c.if-is_absolute.ensures)

pub overflow_add-result : goal.overflow_add-result
overflow_add-result c =
    omega (arith, angled_fits c.args.list.now c.args.program.now c.args.form c.args.name.now c.args.k c.in-Angled.is (sym c.if-is_absolute.ensures) c.requires.there c.requires.few, ap length c.as_slice.ensures)

pub overflow_add-result-in-Angled : goal.overflow_add-result-in-Angled
overflow_add-result-in-Angled c =
    omega (arith, angled_fits c.args.list.now c.args.program.now c.args.form c.args.name.now c.args.k c.in-Angled.is (sym c.if-is_absolute.ensures) c.requires.there c.requires.few, ap length c.as_slice.ensures)

pub overflow_add-result-in-Next : goal.overflow_add-result-in-Next
overflow_add-result-in-Next c =
    omega (arith, next_fits c.args.list.now c.args.program.now c.args.form c.args.name.now c.args.k c.in-Next.n c.in-Next.is (sym c.if-is_absolute.ensures) c.requires.there c.requires.few)

pub overflow_add-result-in-Next-2 : goal.overflow_add-result-in-Next-2
overflow_add-result-in-Next-2 c =
    omega (arith, next_fits c.args.list.now c.args.program.now c.args.form c.args.name.now c.args.k c.in-Next.n c.in-Next.is (sym c.if-is_absolute.ensures) c.requires.there c.requires.few)

pub returns-then-k-eq0 : goal.returns-then-k-eq0
returns-then-k-eq0 c = place_first c.args.list.now c.args.form c.args.name.now c.args.k c.in-Quoted.is c.if-k-eq0.true (sym c.if-is_absolute.ensures)

pub returns-else-k-eq0 : goal.returns-else-k-eq0
returns-else-k-eq0 c = place_behind c.args.list.now c.args.form c.args.name.now c.args.k c.in-Quoted.is (λ e. c.if-k-eq0.false e) (sym c.if-is_absolute.ensures)

pub returns-in-Angled : goal.returns-in-Angled
returns-in-Angled c =
    ap (λ quote. Some (length quote + c.args.k + 1)) c.as_slice.ensures
    ∙ place_angled c.args.list.now c.args.form c.args.name.now c.args.k c.in-Angled.is (sym c.if-is_absolute.ensures)

pub returns-in-Next : goal.returns-in-Next
returns-in-Next c = place_next c.args.list.now c.args.form c.args.name.now c.args.k c.in-Next.n c.in-Next.is (sym c.if-is_absolute.ensures)
