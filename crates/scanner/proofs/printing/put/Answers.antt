use Rattle.scanner.proofs.SinkLemmas.{all_put, part_put, either_put}
use Rattle.scanner.proofs.printing.put.Goals as goal

pub returns-clause-all : goal.returns-clause-all
returns-clause-all g c =
    all_put g.K.Sink.held g.K.Sink.faults g.K.Sink.puts c.args.sink.now c.put.new.self c.args.text.now c.put.result c.requires c.put.ensures.added c.put.ensures.fine c.put.ensures.counted

pub returns-clause-part : goal.returns-clause-part
returns-clause-part g c =
    part_put g.K.Sink.held g.K.Sink.faults g.K.Sink.puts c.args.sink.now c.put.new.self c.args.text.now c.put.result c.put.ensures.begun c.put.ensures.rose c.put.ensures.counted

pub returns-clause-either : goal.returns-clause-either
returns-clause-either g c =
    either_put g.K.Sink.held g.K.Sink.faults g.K.Sink.puts c.args.sink.now c.put.new.self c.args.text.now c.put.result
    (all_put g.K.Sink.held g.K.Sink.faults g.K.Sink.puts c.args.sink.now c.put.new.self c.args.text.now c.put.result c.requires c.put.ensures.added c.put.ensures.fine c.put.ensures.counted)
    (part_put g.K.Sink.held g.K.Sink.faults g.K.Sink.puts c.args.sink.now c.put.new.self c.args.text.now c.put.result c.put.ensures.begun c.put.ensures.rose c.put.ensures.counted)
