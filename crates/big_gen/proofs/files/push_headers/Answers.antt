use Rattle.std.proofs.Common.{◌≡◌, ◌∷◌, [], ◌++◌, map, refl, subst, ◌-◌, arith}
use Rattle.std.proofs.lemmas.Grind.{common_steps}
use Rattle.std.specs.List.{range_with_len}
use Rattle.big_gen.specs.MadeTexts.{made_header}
use Rattle.big_gen.proofs.RangeLemmas.{one_more}
use Rattle.big_gen.proofs.files.push_headers.Goals as goal

pub loop-header-preserved : goal.loop-header-preserved
loop-header-preserved c =
    let pushed : c.push.new.self.items ≡ c.loop-header.files.items ++ made_header c.loop-header.header ∷ [] = grind (arith, common_steps) in
    one_more made_header 1 c.loop-header.header _ _ _ _ (omega arith) refl c.loop-header.invariant pushed

pub returns : goal.returns
returns c =
    let last : c.loop-header.header ≡ 65 = omega arith in
    subst (λ n. c.loop-header.files.items ≡ c.args.files.now.items ++ map made_header (range_with_len 1 (n - 1))) last c.loop-header.invariant
