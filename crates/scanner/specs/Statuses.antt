-- How a run ends, as its exit status.
use Rattle.std.specs.Prelude.{ℕ}
use Rattle.scanner.specs.declared.status.Status.{Status}
use Rattle.scanner.specs.declared.status.Status.TheVariants.{Fine, SomeFailed, Usage, DbUnread, BadDb, TooMany, SinkFault, NoMemory}

abbrev pub number : Status → ℕ
number Fine = 0
number SomeFailed = 1
number Usage = 2
number DbUnread = 3
number BadDb = 4
number TooMany = 5
number SinkFault = 6
number NoMemory = 7
