-- What the code finds in a line, as the definitions see it.
use Rattle.std.specs.Prelude.{List, ℕ, Option, Some, if◌then◌else◌}
use Rattle.module_lines.specs.declared.dotted.Dotted as read
use Rattle.module_lines.specs.declared.subject.Subject as stated
use Rattle.module_lines.specs.declared.subject.Subject.TheVariants as case
use Rattle.scan_model.specs.declared.token.Tok.{Tok}
use Rattle.scan_model.specs.ModuleLines.{Dotted, Subject, Empty, Private, Name, Partition, NameAndPartition, is_private, partition}

-- a name, and what follows it
abbrev pub named : List ℕ → List Tok → Dotted
named name after = record { name = name; after = after }

abbrev pub dotted_of : read.Dotted → Dotted
dotted_of d = named d.name d.after.now

abbrev pub subject_of : stated.Subject → Subject
subject_of case.Empty = Empty
subject_of case.Private = Private
subject_of (case.Name name) = Name name
subject_of (case.Partition part) = Partition part
subject_of (case.NameAndPartition name part) = NameAndPartition name part

-- what a `:` that comes first begins
abbrev pub after_colon : List Tok → Option Subject
after_colon ts = let part = partition Partition ts in if is_private ts then Some Private else part
