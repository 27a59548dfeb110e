use Rattle.command_words.proofs.Utf8Paths.{normal-IsUtf8}
use Rattle.command_words.proofs.jobs.job_of_words.Goals as goal

pub command_by-requires-clause-utf8 : goal.command_by-requires-clause-utf8
command_by-requires-clause-utf8 c =
    rw (c.in_ok-directory.ensures, c.as_slice.ensures.value) (normal-IsUtf8 _ c.as_slice.ensures.utf8)
