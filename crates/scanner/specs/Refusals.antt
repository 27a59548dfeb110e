-- Why a run ends before any command is scanned: its status, and what it tells the error output.
use Rattle.std.specs.Prelude.{ℕ, List, ◌++◌, codes, decimal}
use Rattle.scanner.specs.declared.refusal.Refusal.{Refusal}
use Rattle.scanner.specs.declared.refusal.Refusal.TheVariants.{Usage, DbAbsent, DbFailed, DbBig, NotJson, NotArray, BadEntry, TooMany}
use Rattle.scanner.specs.declared.status.Status.{Status}
use Rattle.scanner.specs.declared.status.Status.TheVariants as Statuses

abbrev pub refused_status : Refusal → Status
refused_status Usage = Statuses.Usage
refused_status DbAbsent = Statuses.DbUnread
refused_status DbFailed = Statuses.DbUnread
refused_status DbBig = Statuses.DbUnread
refused_status NotJson = Statuses.BadDb
refused_status NotArray = Statuses.BadDb
refused_status (BadEntry number) = Statuses.BadDb
refused_status TooMany = Statuses.TooMany

abbrev pub text_of : Refusal → List ℕ
text_of Usage = codes "usage: scan_deps --compilation-database=FILE [options]\n"
text_of DbAbsent = codes "database unread: Absent\n"
text_of DbFailed = codes "database unread: Failed\n"
text_of DbBig = codes "database unread: Big\n"
text_of NotJson = codes "bad database: not JSON\n"
text_of NotArray = codes "bad database: not an array\n"
text_of (BadEntry number) = codes "bad database: entry " ++ decimal number ++ codes "\n"
text_of TooMany = codes "too many commands\n"
