use Rattle.std.proofs.Common.{◌≡◌, ◌∷◌, [], ◌++◌, refl, arith}
use Rattle.std.proofs.lemmas.Grind.{common_steps}
use Rattle.big_gen.specs.MadeTexts.{made_unit}
use Rattle.big_gen.proofs.RangeLemmas.{one_more}
use Rattle.big_gen.proofs.files.push_units.Goals as goal

pub loop-unit-preserved : goal.loop-unit-preserved
loop-unit-preserved c =
    let pushed : c.push.new.self.items ≡ c.loop-unit.files.items ++ made_unit c.loop-unit.unit ∷ [] = grind (arith, common_steps) in
    one_more made_unit 1 c.loop-unit.unit _ _ _ _ (omega arith) refl c.loop-unit.invariant pushed
