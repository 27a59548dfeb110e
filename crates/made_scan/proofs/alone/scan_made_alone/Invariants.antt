use Rattle.big_gen.specs.MadeTexts.{made_files}
use Rattle.made_scan.proofs.alone.scan_made_alone.Given as goal

abbrev pub ghosts-scan : goal.ghosts-scan
ghosts-scan a = record { files = made_files a.units }
