use Rattle.std.proofs.Common.{◌≡◌, ◌≤◌, vec_len}
use Rattle.std.specs.Io.KnownBytes.{Consumes}
use Rattle.scan_model.specs.Limits.{file_limit}
use Rattle.file_source.proofs.reading.read_all.Given as goal

abbrev pub invariant-loop-turn : goal.invariant-loop-turn
invariant-loop-turn g l = record {
  counted : l.file.turns ≡ l._turn;
  taken : l._turn ≤ vec_len l.bytes;
  within : vec_len l.bytes ≤ file_limit;
  consumed : Consumes (g.R.Read.remaining l.fn.file.reader) (g.R.Read.remaining l.file.reader) l.bytes.items;
}
