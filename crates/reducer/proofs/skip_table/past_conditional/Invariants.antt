use Rattle.std.proofs.Common.{◌≡◌, ◌+◌, ◌-◌, ◌<◌, false, [], ◌∷◌, drop, length}
use Rattle.reducer.specs.SkipTable.{skip_over}
use Rattle.reducer.proofs.skip_table.past_conditional.Given as goal

abbrev pub invariant-groups : goal.invariant-groups
invariant-groups l = record {
  order : l.k < l.at;
  within : l.at < length l.directives;
  same : skip_over l.k (l.opener + 1) (record { opener = l.opener; past_else = false } ∷ []) (drop (l.opener + 1) l.directives)
      ≡ skip_over l.k (l.at + 1) (record { opener = l.opener; past_else = l.past_else } ∷ []) (drop (l.at + 1) l.directives);
}

abbrev pub decreases-groups : goal.decreases-groups
decreases-groups l = length l.directives - l.at
