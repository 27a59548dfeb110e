use Rattle.file_source.proofs.tests.plain_source_gives_what_is_listed.Given as goal

abbrev pub ghosts-plain_gives : goal.ghosts-plain_gives
ghosts-plain_gives g a = record { files = a.files }
