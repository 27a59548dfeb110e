use Rattle.std.proofs.Common.{◌≡◌, sym, subst, ap, ◌∙◌, Ok, Err}
use Rattle.reducer.specs.Answers.{content_of}
use Rattle.cache_desk.specs.Log.{standing, Claimed}
use Rattle.shared_cache.specs.declared.looked.Looked.TheVariants as LookedIs
use Rattle.shared_cache.specs.Shared.{seen_of}
use Rattle.shared_cache.specs.Callers.{number_of, seen_by, origin_at, fixed_at, opener_of}
use Rattle.worker.proofs.Looking.{leaves_of, mine_goes}
use Rattle.worker.proofs.asking.look.Goals as goal

pub read-requires-clause-claimed : goal.read-requires-clause-claimed
read-requires-clause-claimed g c κs within =
    let mine =
    leaves_of g.S.Source.opener_path g.S.Source.opener_origin c.args.path.now (number_of c.args.passes.now) (fixed_at c.args.cache.now c.args.path.now) (seen_by c.args.passes.now) (seen_by c.look.new.passes) c.look.result
    (Ok (LookedIs.Mine c.in-Ok-Mine.claim)) (c.in-Ok-Mine.is ∙ ap Ok c.in-Ok-Mine.field-0-is) c.look.ensures.elsewhere c.look.ensures.looks in
    subst (λ p. standing (seen_of (seen_by c.look.new.passes) p) p ≡ Claimed (number_of c.look.new.passes)) (sym mine.path_is) (mine.claimed ∙ ap Claimed (sym c.look.ensures.own.1))

pub read-requires-clause-here : goal.read-requires-clause-here
read-requires-clause-here g c κs within =
    let mine =
    leaves_of g.S.Source.opener_path g.S.Source.opener_origin c.args.path.now (number_of c.args.passes.now) (fixed_at c.args.cache.now c.args.path.now) (seen_by c.args.passes.now) (seen_by c.look.new.passes) c.look.result
    (Ok (LookedIs.Mine c.in-Ok-Mine.claim)) (c.in-Ok-Mine.is ∙ ap Ok c.in-Ok-Mine.field-0-is) c.look.ensures.elsewhere c.look.ensures.looks in
    subst (λ p. origin_at c.args.cache.now p ≡ g.S.Source.opener_origin (opener_of c.in-Ok-Mine.claim)) (sym mine.path_is) mine.here

pub returns-in-Ok-Done-clause-seen : goal.returns-in-Ok-Done-clause-seen
returns-in-Ok-Done-clause-seen g c =
    (leaves_of g.S.Source.opener_path g.S.Source.opener_origin c.args.path.now (number_of c.args.passes.now) (fixed_at c.args.cache.now c.args.path.now) (seen_by c.args.passes.now) (seen_by c.look.new.passes) c.look.result
    (Ok (LookedIs.Done c.in-Ok-Done.answer)) (c.in-Ok-Done.is ∙ ap Ok c.in-Ok-Done.field-0-is) c.look.ensures.elsewhere c.look.ensures.looks).1

pub returns-in-Ok-Done-clause-goes : goal.returns-in-Ok-Done-clause-goes
returns-in-Ok-Done-clause-goes g c =
    (leaves_of g.S.Source.opener_path g.S.Source.opener_origin c.args.path.now (number_of c.args.passes.now) (fixed_at c.args.cache.now c.args.path.now) (seen_by c.args.passes.now) (seen_by c.look.new.passes) c.look.result
    (Ok (LookedIs.Done c.in-Ok-Done.answer)) (c.in-Ok-Done.is ∙ ap Ok c.in-Ok-Done.field-0-is) c.look.ensures.elsewhere c.look.ensures.looks).0

pub returns-in-Ok-Mine-clause-goes : goal.returns-in-Ok-Mine-clause-goes
returns-in-Ok-Mine-clause-goes g c =
    let mine =
    leaves_of g.S.Source.opener_path g.S.Source.opener_origin c.args.path.now (number_of c.args.passes.now) (fixed_at c.args.cache.now c.args.path.now) (seen_by c.args.passes.now) (seen_by c.look.new.passes) c.look.result
    (Ok (LookedIs.Mine c.in-Ok-Mine.claim)) (c.in-Ok-Mine.is ∙ ap Ok c.in-Ok-Mine.field-0-is) c.look.ensures.elsewhere c.look.ensures.looks in
    mine_goes g.S.Source.opener_path g.S.Source.opener_origin c.args.path.now (number_of c.args.passes.now) (fixed_at c.args.cache.now c.args.path.now) (seen_by c.args.passes.now) (seen_by c.look.new.passes) c.in-Ok-Mine.claim
    (seen_by c.read.new.passes) (number_of c.look.new.passes) (content_of c.read.result) mine c.look.ensures.own.1 c.read.ensures.further c.read.ensures.claims c.read.ensures.seen

pub returns-in-Ok-Busy-clause-goes : goal.returns-in-Ok-Busy-clause-goes
returns-in-Ok-Busy-clause-goes g c =
    leaves_of g.S.Source.opener_path g.S.Source.opener_origin c.args.path.now (number_of c.args.passes.now) (fixed_at c.args.cache.now c.args.path.now) (seen_by c.args.passes.now) (seen_by c.look.new.passes) c.look.result
    (Ok (LookedIs.Busy c.in-Ok-Busy.mark)) (c.in-Ok-Busy.is ∙ ap Ok c.in-Ok-Busy.field-0-is) c.look.ensures.elsewhere c.look.ensures.looks

pub returns-in-Err-clause-goes : goal.returns-in-Err-clause-goes
returns-in-Err-clause-goes g c =
    leaves_of g.S.Source.opener_path g.S.Source.opener_origin c.args.path.now (number_of c.args.passes.now) (fixed_at c.args.cache.now c.args.path.now) (seen_by c.args.passes.now) (seen_by c.look.new.passes) c.look.result
    (Err c.in-Err.field-0) c.in-Err.is c.look.ensures.elsewhere c.look.ensures.looks
