use Rattle.std.proofs.Common.{◌≡◌, ◌≤◌, drop}
use Rattle.std.specs.Prelude.{None}
use Rattle.std.specs.Option.{option_map}
use Rattle.scan_model.specs.Condition.{is_too_deep}
use Rattle.if_values.proofs.faults.is_too_deep.Given as goal

abbrev pub invariant-depth : goal.invariant-depth
invariant-depth l = record {
  few_open : l.opened ≤ 256;
  short : l.row ≤ 256;
  few_questions : l.questions ≤ 256;
  same : is_too_deep l.opened l.row l.questions (option_map (λ t. t.now) l.before) (drop l.tok-index l.toks) ≡ is_too_deep 0 0 0 None l.toks;
}
