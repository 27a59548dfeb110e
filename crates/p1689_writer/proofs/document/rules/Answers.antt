use Rattle.std.proofs.Common.{◌≡◌, ◌+◌, [], ◌∷◌, ◌++◌, take, map, sym, ap, ap₂, ◌∙◌, append-nil}
use Rattle.std.proofs.lemmas.List.{map-append}
use Rattle.serde_json.specs.View.{view}
use Rattle.p1689_writer.specs.Document.{rules}
use Rattle.p1689_writer.proofs.Rules.{rules-next, rules-other}
use Rattle.p1689_writer.proofs.document.rules.Goals as goal
use Rattle.p1689_writer.proofs.document.rules.Goals.{in-Record+in_ok-rule+in_ok-push, in_default}

pub loop-end-preserved : goal.loop-end-preserved
loop-end-preserved c =
    let es = c.args.ends.now in
    let end = c.end-item.result in
    let done = rules (take c.loop-end.end-index es) in
    let next : rules (take (c.loop-end.end-index + 1) es) ≡ done ++ rules (end ∷ []) = rules-next es c.loop-end.end-index end c.loop-end-test.true c.end-item.is in
    elim c.match-end.branch [
      | in-Record+in_ok-rule+in_ok-push w ↦
          let rule = w.in_ok-rule.field-0 in
          let pushed : map view c.match-end.rules.items ≡ map view c.loop-end.rules.items ++ view rule ∷ [] = ap (λ v. map view v.items) w.rules-is ∙ ap (map view) w.in_ok-push.ensures.items ∙ map-append view c.loop-end.rules.items (rule ∷ []) in
          let added : rules (end ∷ []) ≡ view rule ∷ [] = ap (λ e. rules (e ∷ [])) w.in-Record.is ∙ ap (λ d. d ∷ []) (sym w.in_ok-rule.ensures) in
          pushed ∙ ap₂ (λ a b. a ++ b) c.loop-end.invariant (sym added) ∙ sym next
      | in_default w ↦
          let added : rules (end ∷ []) ≡ [] = rules-other end w.in_default.not-Record in
          ap (λ v. map view v.items) w.rules-is ∙ c.loop-end.invariant ∙ sym (append-nil done) ∙ ap (λ more. done ++ more) (sym added) ∙ sym next
    ]
