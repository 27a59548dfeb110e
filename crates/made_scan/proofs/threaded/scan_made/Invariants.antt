use Rattle.big_gen.specs.MadeTexts.{made_files}
use Rattle.made_scan.proofs.threaded.scan_made.Given as goal

abbrev pub ghosts-scan : goal.ghosts-scan
ghosts-scan g a = record { files = made_files a.units }
