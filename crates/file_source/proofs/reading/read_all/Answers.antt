use Rattle.std.proofs.Common.{rules, ◌≡◌, ◌<◌, length}
use Rattle.file_source.proofs.ReadLemmas.{read_whole}
use Rattle.file_source.proofs.reading.read_all.Goals as goal

pub returns-in-Ok-eq0-clause-read : goal.returns-in-Ok-eq0-clause-read
returns-in-Ok-eq0-clause-read g c =
    let room : 0 < length c.read.new.buf = search rules in
    let none : c.in-Ok-eq0.field-0 ≡ 0 = search rules in
    read_whole (g.R.Read.remaining c.args.file.now.reader) (g.R.Read.remaining c.loop-turn.file.reader) (g.R.Read.remaining c.read.new.self.reader)
    c.loop-turn.bytes.items c.of_vec.result c.read.new.buf _ c.loop-turn.invariant.consumed c.of_vec.ensures none room c.in-Ok-eq0.ensures.bytes
