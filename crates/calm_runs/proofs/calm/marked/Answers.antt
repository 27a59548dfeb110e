use Rattle.std.proofs.Common.{bit_or}
use Rattle.std.proofs.lemmas.Simd.{zip2_of_maps}
use Rattle.calm_runs.specs.Lanes.{equal_to}
use Rattle.calm_runs.proofs.LaneLemmas.{map_same}
use Rattle.calm_runs.proofs.calm.marked.Goals as goal

pub returns : goal.returns
returns c =
    let v = c.args.bytes in
    let newline = zip2_of_maps bit_or (λ b. b) (equal_to 10) v (map_same v) c.equal_to.ensures in
    let return = zip2_of_maps bit_or _ (equal_to 13) v newline c.equal_to-2.ensures in
    let double = zip2_of_maps bit_or _ (equal_to 34) v return c.equal_to-3.ensures in
    let single = zip2_of_maps bit_or _ (equal_to 39) v double c.equal_to-4.ensures in
    let slash = zip2_of_maps bit_or _ (equal_to 47) v single c.equal_to-5.ensures in
    zip2_of_maps bit_or _ (equal_to 92) v slash c.equal_to-6.ensures
