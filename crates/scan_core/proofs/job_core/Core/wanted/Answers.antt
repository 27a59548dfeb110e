use Rattle.scan_core.specs.Inside.{state_of}
use Rattle.scan_core.proofs.SeatLemmas.{looks_asks, looks_wanted, reads_asks, reads_wanted, holds_asks, holds_wanted, has_no_path}
use Rattle.scan_core.proofs.job_core.Core.wanted.Goals as goal

pub asked-requires : goal.asked-requires
asked-requires g c =
    looks_asks g.R.Reading.content (state_of c.self.inside) c.self.invariant c.args.self.now c.self.view_is c.args.worker c.index.result.now c.requires.worker c.index.ensures _ _ c.in-Looks.is

pub asked-requires-in-Reads : goal.asked-requires-in-Reads
asked-requires-in-Reads g c =
    reads_asks g.R.Reading.content (state_of c.self.inside) c.self.invariant c.args.self.now c.self.view_is c.args.worker c.index.result.now c.requires.worker c.index.ensures _ _ _ c.in-Reads.is

pub asked-requires-in-Holds : goal.asked-requires-in-Holds
asked-requires-in-Holds g c =
    holds_asks g.R.Reading.content (state_of c.self.inside) c.self.invariant c.args.self.now c.self.view_is c.args.worker c.index.result.now c.requires.worker c.index.ensures _ _ _ _ c.in-Holds.is

pub unreachable-requires : goal.unreachable-requires
unreachable-requires g c =
    has_no_path g.R.Reading.content (state_of c.self.inside) c.self.invariant c.args.self.now c.self.view_is c.args.worker c.index.result.now c.requires.worker c.index.ensures
    c.in_default.not-Looks c.in_default.not-Reads c.in_default.not-Holds c.requires.path

pub returns-in-Looks : goal.returns-in-Looks
returns-in-Looks g c =
    looks_wanted g.R.Reading.content (state_of c.self.inside) c.self.invariant c.args.self.now c.self.view_is c.args.worker c.index.result.now c.requires.worker c.index.ensures _ _ _ c.in-Looks.is c.asked.ensures

pub returns-in-Reads : goal.returns-in-Reads
returns-in-Reads g c =
    reads_wanted g.R.Reading.content (state_of c.self.inside) c.self.invariant c.args.self.now c.self.view_is c.args.worker c.index.result.now c.requires.worker c.index.ensures _ _ _ _ c.in-Reads.is c.asked-in-Reads.ensures

pub returns-in-Holds : goal.returns-in-Holds
returns-in-Holds g c =
    holds_wanted g.R.Reading.content (state_of c.self.inside) c.self.invariant c.args.self.now c.self.view_is c.args.worker c.index.result.now c.requires.worker c.index.ensures _ _ _ _ _ c.in-Holds.is c.asked-in-Holds.ensures
