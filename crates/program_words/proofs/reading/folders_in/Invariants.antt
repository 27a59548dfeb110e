use Rattle.std.proofs.Common.{◌≡◌}
use Rattle.program_words.proofs.PartLemmas.{after_parts}
use Rattle.program_words.proofs.reading.folders_in.Given as goal

abbrev pub invariant-parts : goal.invariant-parts
invariant-parts l = l.folders.items ≡ after_parts l.yielded
