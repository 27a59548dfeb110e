use Rattle.std.proofs.Common.{◌≡◌, ◌≤◌, ◌++◌, length, take}
use Rattle.std.specs.Option.{option_map}
use Rattle.if_values.specs.Characters.{characters}
use Rattle.if_values.proofs.characters.characters.Given as goal

abbrev pub invariant-characters : goal.invariant-characters
invariant-characters l = record {
  few : l.count ≤ 4;
  long : length l.bytes ≡ 4;
  read : characters l.text ≡ option_map (take l.count l.bytes ++◌) (characters l.rest);
}

abbrev pub decreases-characters : goal.decreases-characters
decreases-characters l = length l.rest
