use Rattle.path_search.proofs.FolderLemmas.{NoSlashFrom}
use Rattle.path_search.proofs.folders.before_last_slash.Given as goal

abbrev pub invariant-bytes : goal.invariant-bytes
invariant-bytes l = NoSlashFrom l.text l.i
