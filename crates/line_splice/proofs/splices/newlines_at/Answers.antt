use Rattle.std.proofs.Common.{◌∙◌, ◌==◌, nat_eq, ap, arith, take, drop, w8}
use lib.Count.{ones}
use Rattle.std.proofs.lemmas.List.Sums.{count_by-le-length}
use Rattle.std.proofs.lemmas.Simd.{bitmask_splat, ones-mask_l, length-chunk}
use Rattle.line_splice.proofs.splices.newlines_at.Goals as goal

pub returns-clause-count : goal.returns-clause-count
returns-clause-count c = let t = take 32 (drop c.args.place c.args.written.now) in
    ap ones (bitmask_splat w8 nat_eq t 32 10 (length-chunk c.args.place 32 c.args.written.now c.requires) (omega arith)) ∙ ones-mask_l (λ x. x == 10) t

pub returns-clause-few : goal.returns-clause-few
returns-clause-few c = let t = take 32 (drop c.args.place c.args.written.now) in
    omega (arith, returns-clause-count c, count_by-le-length (λ x. x == 10) t, length-chunk c.args.place 32 c.args.written.now c.requires)
