use Rattle.std.proofs.Common.{◌≡◌, ◌++◌, ◌-◌, map, refl, subst, arith}
use Rattle.std.proofs.lemmas.Grind.{common_steps}
use Rattle.std.specs.List.{range_with_len, concat}
use Rattle.big_gen.specs.MadeTexts.{entry_line}
use Rattle.big_gen.proofs.RangeLemmas.{one_piece_more}
use Rattle.big_gen.proofs.database.push_more.Goals as goal

pub loop-unit-preserved : goal.loop-unit-preserved
unfolding entry_line
loop-unit-preserved c =
    let pushed : c.push_entry.new.text.items ≡ c.loop-unit.text.items ++ entry_line c.loop-unit.unit = grind (arith, common_steps) in
    one_piece_more entry_line 2 c.loop-unit.unit _ _ _ _ (omega arith) refl c.loop-unit.invariant pushed

pub returns : goal.returns
returns c =
    let last : c.loop-unit.unit - 2 ≡ c.args.n - 1 = omega arith in
    subst (λ n. c.loop-unit.text.items ≡ c.args.text.now.items ++ concat (map entry_line (range_with_len 2 n))) last c.loop-unit.invariant
