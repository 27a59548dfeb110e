use Rattle.std.proofs.Common.{subst}
use Rattle.scan_model.specs.declared.memory.NoMemory.{NoMemory}
use Rattle.scan_core.specs.Events.{event_of, IsWanted}
use Rattle.scan_core.proofs.StepLemmas.{stepped_draw, stepped_look, stepped_read, stepped_publish, stepped_end}
use Rattle.scan_core.proofs.job_core.Core.step.Goals as goal

pub draw-requires : goal.draw-requires
draw-requires g c = subst (λ z. IsWanted c.args.self.now (event_of g.R.Reading.content z)) c.in-Draw.is c.requires

pub look-requires : goal.look-requires
look-requires g c = subst (λ z. IsWanted c.args.self.now (event_of g.R.Reading.content z)) c.in-Look.is c.requires

pub read-requires : goal.read-requires
read-requires g c = subst (λ z. IsWanted c.args.self.now (event_of g.R.Reading.content z)) c.in-Read.is c.requires

pub publish-requires : goal.publish-requires
publish-requires g c = subst (λ z. IsWanted c.args.self.now (event_of g.R.Reading.content z)) c.in-Publish.is c.requires

pub end-requires : goal.end-requires
end-requires g c = subst (λ z. IsWanted c.args.self.now (event_of g.R.Reading.content z)) c.in-End.is c.requires

pub returns-in-Draw : goal.returns-in-Draw
returns-in-Draw g c =
    let h = stepped_draw g.R.Reading.content c.args.self.now c.draw.new.self c.draw.result c.args.event c.in-Draw.worker c.in-Draw.is c.draw.ensures.steps c.draw.ensures.spent in
    record {
      ok = h.ok;
      err = h.err;
      runs = h.runs;
      spent = h.spent;
      left = h.left;
      scan = h.scan;
      reached = h.reached;
    }

pub returns-in-Look : goal.returns-in-Look
returns-in-Look g c =
    let h = stepped_look g.R.Reading.content c.args.self.now c.look.new.self c.look.result c.args.event c.in-Look.worker c.in-Look.is c.look.ensures.steps c.look.ensures.spent in
    record {
      ok = h.ok;
      err = h.err;
      runs = h.runs;
      spent = h.spent;
      left = h.left;
      scan = h.scan;
      reached = h.reached;
    }

pub returns-in-Publish : goal.returns-in-Publish
returns-in-Publish g c =
    let h = stepped_publish g.R.Reading.content c.args.self.now c.publish.new.self c.publish.result c.args.event c.in-Publish.worker c.in-Publish.is c.publish.ensures.steps c.publish.ensures.spent in
    record {
      ok = h.ok;
      err = h.err;
      runs = h.runs;
      spent = h.spent;
      left = h.left;
      scan = h.scan;
      reached = h.reached;
    }

pub returns-in-Read : goal.returns-in-Read
returns-in-Read g c =
    let h = stepped_read {A = Unit {0}} {E = NoMemory} g.R.Reading.content c.args.self.now c.read.new.self tt c.args.event c.in-Read.worker c.in-Read.reading c.in-Read.is c.read.ensures in
    record {
      ok = h.ok;
      err = h.err;
      runs = h.runs;
      spent = h.spent;
      left = h.left;
      scan = h.scan;
      reached = h.reached;
    }

pub returns-in-End : goal.returns-in-End
returns-in-End g c =
    let h = stepped_end {A = Unit {0}} {E = NoMemory} g.R.Reading.content c.args.self.now c.end.new.self tt c.args.event c.in-End.worker c.in-End.is c.end.ensures in
    record {
      ok = h.ok;
      err = h.err;
      runs = h.runs;
      spent = h.spent;
      left = h.left;
      scan = h.scan;
      reached = h.reached;
    }
