use Rattle.std.proofs.Common.{◌≡◌, ◌∙◌, ap, sym, refl, List, ℕ, [], ◌∷◌, ◌++◌, ◌≤◌, length, arith, rules}
use Rattle.hide_sets.specs.declared.table.Node.{Node}
use Rattle.hide_sets.specs.Nodes.{sets_from}
use Rattle.scan_model.specs.TokenTests.{is_among}
use Rattle.scan_model.specs.Expansion.{also}
use Rattle.hide_sets.proofs.Known.{known_still, known_put}
use Rattle.hide_sets.proofs.Tree.{length-sets, IsTree-pushed, IsTree-name, also-made, sets-name}
use Rattle.hide_sets.proofs.table.HideSets.also.Goals as goal

pub returns-in_err-push-2-clause-err : goal.returns-in_err-push-2-clause-err
returns-in_err-push-2-clause-err c =
    let same = ap (λ (v : List (List ℕ)). sets_from v [] c.push-2.new.self.items) c.in_ok-push.ensures.items ∙ ap (sets_from (c.self.inside.names.items ++ c.in_ok-copy.copy ∷ []) []) c.in_err-push-2.ensures.items ∙ sets-name c.self.inside.names.items c.self.inside.nodes.items c.in_ok-copy.copy c.self.invariant.0 ∙ c.self.view_is in
    search (rules, same)

pub invariant_of-self-in_err-push : goal.invariant_of-self-in_err-push
invariant_of-self-in_err-push c =
    rw c.in_err-push.ensures.items (c.self.invariant.0, known_still c.self.inside.known c.insert.new.self c.self.inside.names.items c.args.name.now c.in_ok-insert.ensures.ok c.self.invariant.1)

pub invariant_of-self-in_err-push-2 : goal.invariant_of-self-in_err-push-2
invariant_of-self-in_err-push-2 c =
    let put = c.in_ok-insert.ensures.ok ∙ ap (λ s. also s (is_among c.self.inside.known)) (sym c.in_ok-copy.ensures) in
    let known = known_put c.self.inside.known c.insert.new.self c.self.inside.names.items c.in_ok-copy.copy put c.self.invariant.1 in
    rw (c.in_ok-push.ensures.items, c.in_err-push-2.ensures.items) (IsTree-name c.self.inside.names.items c.self.inside.nodes.items c.in_ok-copy.copy c.self.invariant.0, known)

pub invariant_of-self-2 : goal.invariant_of-self-2
invariant_of-self-2 c =
    let node : Node = record { name = c.len-number.result; parent = c.args.set } in
    let named : node.name ≡ length c.self.inside.names.items = c.len-number.ensures ∙ c.self.inside.names.ok.0 in
    let parent : c.args.set ≤ length c.self.inside.nodes.items = omega (arith, c.requires, length-sets c.self.inside.names.items c.self.inside.nodes.items c.args.self.now c.self.view_is) in
    let put = c.in_ok-insert.ensures.ok ∙ ap (λ s. also s (is_among c.self.inside.known)) (sym c.in_ok-copy.ensures) in
    let known = known_put c.self.inside.known c.insert.new.self c.self.inside.names.items c.in_ok-copy.copy put c.self.invariant.1 in
    rw (c.in_ok-push.ensures.items, c.in_ok-push-2.ensures.items) (IsTree-pushed c.self.inside.names.items c.self.inside.nodes.items c.in_ok-copy.copy node c.self.invariant.0 named parent, known)

pub returns-clause-ok : goal.returns-clause-ok
returns-clause-ok c =
    let node : Node = record { name = c.len-number.result; parent = c.args.set } in
    let named : node.name ≡ length c.self.inside.names.items = c.len-number.ensures ∙ c.self.inside.names.ok.0 in
    let count : c.of_number.result ≡ length c.push-2.new.self.items = c.of_number.ensures ∙ c.len.ensures ∙ c.push-2.new.self.ok.0 in
    also-made c.self.inside.names.items c.push.new.self.items c.self.inside.nodes.items c.push-2.new.self.items c.args.self.now _ c.args.name.now node _ c.self.invariant.0 c.self.view_is (rw (← c.in_ok-copy.ensures) c.in_ok-push.ensures.items) c.in_ok-push-2.ensures.items refl named c.requires count
