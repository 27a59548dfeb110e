use Rattle.std.proofs.Common.{◌≡◌, ◌-◌, ◌≤◌, ◌++◌, take, drop}
use Rattle.scan_model.specs.Spelling.{delimiter, is_delimited}
use Rattle.token_spelling.proofs.RawLemmas.{is_delimited_within}
use Rattle.token_spelling.proofs.raw_strings.divide.Given as goal

abbrev pub invariant-loop-i : goal.invariant-loop-i
invariant-loop-i l = record {
  few : l.i ≤ 16;
  front : take l.i l.text ++ delimiter (drop l.i l.text) ≡ delimiter l.text;
  same : is_delimited_within (16 - l.i) (drop l.i l.text) ≡ is_delimited l.text;
}
