use Rattle.std.proofs.Common.{refl, ◌∙◌, leb, ap, sym, map, take, drop, slice_index, arith}
use Rattle.std.proofs.lemmas.Simd.{length-chunk, leading_from_mask_l, run_in_chunk_le, run_in_chunk_fails}
use Rattle.calm_runs.specs.Lanes.{marked}
use Rattle.calm_runs.proofs.LaneLemmas.{marks_of, trailing_marks, unmarked_calm}
use Rattle.calm_runs.proofs.calm.calm_lanes.Goals as goal

pub returns-then-marks-eq0-clause-all : goal.returns-then-marks-eq0-clause-all
returns-then-marks-eq0-clause-all c k low high =
    let s = c.args.written.now in
    let i = c.args.i in
    let v = take 16 (drop i s) in
    let long = length-chunk i 16 s c.requires in
    let is = marks_of v c.marked-lanes.result 16 long (omega arith) (c.marked-lanes.ensures ∙ ap (map marked) c.load.ensures) in
    let counted = sym (leading_from_mask_l (λ b. leb 128 (marked b)) v (sym is ∙ c.if-marks-eq0.true) ∙ long) in
    unmarked_calm (slice_index s k) (run_in_chunk_fails (λ b. leb 128 (marked b)) s i 16 16 0 c.requires counted k low high)

pub returns-else-marks-eq0-clause-within : goal.returns-else-marks-eq0-clause-within
returns-else-marks-eq0-clause-within c =
    let s = c.args.written.now in
    let i = c.args.i in
    run_in_chunk_le (λ b. leb 128 (marked b)) s i 16 _ 0 c.requires
    (trailing_marks (take 16 (drop i s)) c.marked-lanes.result _ (length-chunk i 16 s c.requires) (c.marked-lanes.ensures ∙ ap (map marked) c.load.ensures) c.if-marks-eq0.false refl)

pub returns-else-marks-eq0-clause-all : goal.returns-else-marks-eq0-clause-all
returns-else-marks-eq0-clause-all c k low high =
    let s = c.args.written.now in
    let i = c.args.i in
    unmarked_calm (slice_index s k) (run_in_chunk_fails (λ b. leb 128 (marked b)) s i 16 _ 0 c.requires
    (trailing_marks (take 16 (drop i s)) c.marked-lanes.result _ (length-chunk i 16 s c.requires) (c.marked-lanes.ensures ∙ ap (map marked) c.load.ensures) c.if-marks-eq0.false refl) k low high)
