use Rattle.std.proofs.Common.{◌≡◌, ◌≤◌, ◌∙◌, true, ap, sym, subst, inl, inr, take, drop, length, length-take, arith}
use Rattle.std.proofs.lemmas.List.{take-take}
use Rattle.std.specs.List.{list_all}
use Rattle.line_splice.specs.Cursor.{rest, text_of}
use Rattle.line_splice.specs.Plain.{shows_itself}
use Rattle.scan_model.specs.Spliced.{byte_at}
use Rattle.calm_runs.specs.Runs.{is_calm, is_run, PassesRun}
use Rattle.calm_runs.proofs.ByteLemmas.{all_show, take_calm}
use Rattle.calm_runs.proofs.TokenLemmas.{run_passed, newline_first}
use Rattle.calm_runs.proofs.run.pass_run.Goals as goal

pub pass_plain-requires-clause-plain : goal.pass_plain-requires-clause-plain
pass_plain-requires-clause-plain c =
    let n = c.calm_len-calm in ap (λ t. list_all shows_itself (take n.result t)) (sym c.ahead.ensures) ∙ all_show (take n.result c.ahead.result.now) n.ensures.all

pub returns-then-is_newline-clause-run : goal.returns-then-is_newline-clause-run
returns-then-is_newline-clause-run c =
    let n = c.calm_len-calm in
    let here = rest c.args.at.now in
    subst (PassesRun (text_of c.args.at.now) here) (sym c.pass_plain.ensures.rest)
    (run_passed (text_of c.args.at.now) here n.result c.ahead.result.now (c.pass_plain.ensures.written ∙ ap (take n.result) (sym c.ahead.ensures)) n.ensures.within
    (inr (n.ensures.all, newline_first (drop n.result here) (ap byte_at (sym c.pass_plain.ensures.rest) ∙ c.is_newline.ensures.0 c.if-is_newline.true))))

pub pass_plain-requires-2-clause-plain : goal.pass_plain-requires-2-clause-plain
pass_plain-requires-2-clause-plain c =
    let n = c.calm_len-calm in
    let count = c.run_len-count in
    let written = c.ahead.result.now in
    let few : count.result ≤ n.result = omega (arith, count.ensures.within, n.ensures.within, length-take n.result c.ahead-2.result.now) in
    let calm : list_all is_calm (take count.result written) ≡ true =
    ap (list_all is_calm) (sym (take-take count.result n.result written few)) ∙ take_calm count.result (take n.result written) n.ensures.all in
    ap (λ t. list_all shows_itself (take count.result t)) (sym c.ahead.ensures) ∙ all_show (take count.result written) calm

pub returns-clause-run : goal.returns-clause-run
returns-clause-run c =
    let n = c.calm_len-calm in
    let count = c.run_len-count in
    let here = rest c.args.at.now in
    let written = c.ahead-2.result.now in
    let few : count.result ≤ n.result = omega (arith, count.ensures.within, n.ensures.within, length-take n.result written) in
    let run : is_run (take count.result written) ≡ true = ap is_run (sym (take-take count.result n.result written few)) ∙ count.ensures.run in
    let same : length c.ahead.result.now ≡ length written = ap length (c.ahead.ensures ∙ sym c.ahead-2.ensures) in
    subst (PassesRun (text_of c.args.at.now) here) (sym c.pass_plain-2.ensures.rest)
    (run_passed (text_of c.args.at.now) here count.result written (c.pass_plain-2.ensures.written ∙ ap (take count.result) (sym c.ahead-2.ensures))
    (omega (arith, few, same, n.ensures.within)) (inl run))
