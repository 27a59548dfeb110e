use Rattle.command_words.proofs.Utf8Paths.{join-IsUtf8}
use Rattle.command_words.proofs.jobs.command_by.Goals as goal

-- the main path is made of two texts
pub text_of-requires : goal.text_of-requires
text_of-requires c =
    rw (c.as_slice-2.ensures.value, c.in_ok-main.ensures, c.as_slice.ensures.value) (join-IsUtf8 _ _ c.requires.utf8 c.as_slice.ensures.utf8)
