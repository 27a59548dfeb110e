use Rattle.std.proofs.Common.{◌∙◌, ◌++◌, refl, ap, sym, subst, append-nil, OnOk}
use Rattle.reducer.specs.Building.{kept_lines, open_toks, HasLines}
use Rattle.reducer.proofs.KeptLemmas.{dropped, kept_closed}
use Rattle.reducer.proofs.reduction.end_line.Goals as goal

pub returns-then-begins_directive : goal.returns-then-begins_directive
returns-then-begins_directive c =
    let ts = open_toks c.args.lines.now in
    let is = sym c.begins_directive.ensures ∙ c.if-begins_directive.true in
    subst (λ ls. OnOk c.keep_line.result (HasLines c.args.lines.now c.keep_line.new.self ls)) (sym (kept_closed ts c.args.last is)) c.keep_line.ensures

pub returns-else-begins_directive : goal.returns-else-begins_directive
returns-else-begins_directive c =
    let b = c.args.lines.now in
    let is = sym c.begins_directive.ensures ∙ c.if-begins_directive.false in
    record { sound = c.requires.sound; stay = (refl, refl); added = sym (append-nil (kept_lines b)) ∙ ap (λ ls. kept_lines b ++ ls) (sym (dropped (open_toks b) c.args.last is)) }
