use Rattle.std.proofs.Common.{◌≡◌, ◌∙◌}
use Rattle.shared_cache.specs.Callers.{number_of, seen_by}
use Rattle.worker.proofs.Seeing.{goes_then}
use Rattle.worker.proofs.asking.look_until_done.Goals as goal

pub returns-in_err-answer-clause-goes : goal.returns-in_err-answer-clause-goes
returns-in_err-answer-clause-goes g c =
    goes_then (number_of c.args.passes.now) (number_of c.loop.passes) (λ other. other ≡ c.args.path.now) (seen_by c.args.passes.now) (seen_by c.loop.passes) (seen_by c.look.new.passes) c.loop.invariant.number c.loop.invariant.goes
    c.look.ensures.goes

pub returns-in-Some-2-clause-goes : goal.returns-in-Some-2-clause-goes
returns-in-Some-2-clause-goes g c =
    goes_then (number_of c.args.passes.now) (number_of c.loop.passes) (λ other. other ≡ c.args.path.now) (seen_by c.args.passes.now) (seen_by c.loop.passes) (seen_by c.look.new.passes) c.loop.invariant.number c.loop.invariant.goes
    c.look.ensures.goes

pub loop-preserved : goal.loop-preserved
loop-preserved g c = record {
  can_go_on = (tt, tt);
  own = c.look.ensures.own.0;
  number = c.look.ensures.own.1 ∙ c.loop.invariant.number;
  goes =
      goes_then (number_of c.args.passes.now) (number_of c.loop.passes) (λ other. other ≡ c.args.path.now) (seen_by c.args.passes.now) (seen_by c.loop.passes) (seen_by c.look.new.passes) c.loop.invariant.number
      c.loop.invariant.goes c.look.ensures.goes;
}
