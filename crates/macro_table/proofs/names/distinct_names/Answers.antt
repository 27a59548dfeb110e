use Rattle.std.proofs.Common.{◌≡◌, Bool, true, false, cond, [], refl, sym, ◌∙◌, ap, get_or, take, arith}
use Rattle.std.specs.Prelude.{not, ◌&&◌}
use Rattle.std.proofs.lemmas.List.{take_all}
use Rattle.scan_model.specs.MacroDefinition.{are_distinct}
use Rattle.scan_model.specs.TokenTests.{same, is_among}
use Rattle.macro_table.specs.Heads.{texts}
use Rattle.macro_table.proofs.Distinct.{is_among-push, are_distinct-push, are_distinct-twice, texts-split, texts-more}
use Rattle.macro_table.proofs.names.distinct_names.Goals as goal

held : (b r : Bool) → r ≡ not b → r ≡ false → b ≡ true
held true r e f = refl
held false r e f = cc

fresh : (b r : Bool) → r ≡ not b → r ≡ true → b ≡ false
fresh true r e f = cc
fresh false r e f = refl

pub returns-then-not-branch-clause-distinct : goal.returns-then-not-branch-clause-distinct
returns-then-not-branch-clause-distinct c =
    let names = c.args.names.now in
    let i = c.loop-name.name-index in
    let here = texts-split names i (record { ref_ptr = (0, 0); now = [] }) (omega arith) in
    let there = sym (c.loop-name.invariant.0 (get_or names i (record { ref_ptr = (0, 0); now = [] })).now) ∙ held _ _ c.in_ok-insert.ensures.added c.if-not-branch.true in
    sym (ap are_distinct here.1 ∙ are_distinct-twice (texts (take i names)) _ here.0 there)

pub loop-name-preserved : goal.loop-name-preserved
loop-name-preserved c =
    let names = c.args.names.now in
    let i = c.loop-name.name-index in
    let key = (get_or names i (record { ref_ptr = (0, 0); now = [] })).now in
    let more = texts-more names i (record { ref_ptr = (0, 0); now = [] }) (omega arith) in
    let absent = sym (c.loop-name.invariant.0 key) ∙ fresh _ _ c.in_ok-insert.ensures.added c.if-not-branch.false in (
      λ q. c.in_ok-insert.ensures.updates.0 (record { ref_ptr = (0, 0); now = q }) ∙ ap (cond (same key q) true) (c.loop-name.invariant.0 q)
          ∙ sym (is_among-push (texts (take i names)) key q) ∙ sym (ap (λ ns. is_among ns q) more),
      ap are_distinct more ∙ are_distinct-push (texts (take i names)) key ∙ ap (λ b. b && not (is_among (texts (take i names)) key)) c.loop-name.invariant.1 ∙ ap not absent,
    )

pub returns-clause-names : goal.returns-clause-names
returns-clause-names c = λ j q. (c.loop-name.invariant.0 q ∙ ap (λ ns. is_among (texts ns) q) (take_all c.loop-name.name-index c.args.names.now (omega arith))) j
