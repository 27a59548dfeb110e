use Rattle.std.proofs.Common.{◌≡◌, length, drop, fold}
use Rattle.std.specs.Str.{chars}
use Rattle.command_words.specs.Splitting.{seen, step, split_to_end}
use Rattle.command_words.proofs.splitting.split_text.Given as goal

abbrev pub invariant-characters : goal.invariant-characters
invariant-characters l = fold step (seen l.splitter) (drop (length l.yielded) (chars l.text)) ≡ split_to_end l.text
