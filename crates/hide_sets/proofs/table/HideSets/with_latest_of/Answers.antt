use Rattle.std.proofs.Common.{◌≡◌, sym, ◌∙◌, ap, refl, List, ℕ, [], ◌<◌, ◌≤◌, ◌-◌, suc, length, get_or, arith}
use Rattle.hide_sets.specs.declared.table.Node.{Node}
use Rattle.hide_sets.specs.Sets.{latest_of}
use Rattle.hide_sets.proofs.Tree.{length-sets, IsTree-node, node-made, node-names, node-name}
use Rattle.hide_sets.proofs.table.HideSets.with_latest_of.Goals as goal

pub index-requires : goal.index-requires
index-requires c = omega (arith, length-sets c.self.inside.names.items c.self.inside.nodes.items c.args.self.now c.self.view_is, c.self.inside.nodes.ok.0)

pub invariant_of-self-2 : goal.invariant_of-self-2
invariant_of-self-2 c =
    let node : Node = record { name = c.index.result.now.name; parent = c.args.set } in
    let k = c.number.result - 1 in
    let l : k < length c.self.inside.nodes.items = omega (arith, length-sets c.self.inside.names.items c.self.inside.nodes.items c.args.self.now c.self.view_is) in
    let named = node-name c.self.inside.names.items c.self.inside.nodes.items k c.index.result.now c.self.invariant.0 l c.index.ensures in
    let parent : c.args.set ≤ length c.self.inside.nodes.items = omega (arith, c.requires.set, length-sets c.self.inside.names.items c.self.inside.nodes.items c.args.self.now c.self.view_is) in
    rw c.in_ok-push.ensures.items (IsTree-node c.self.inside.names.items c.self.inside.nodes.items node c.self.invariant.0 named parent, c.self.invariant.1)

pub returns-clause-ok : goal.returns-clause-ok
returns-clause-ok c =
    let node : Node = record { name = c.index.result.now.name; parent = c.args.set } in
    let k = c.number.result - 1 in
    let l : k < length c.self.inside.nodes.items = omega (arith, length-sets c.self.inside.names.items c.self.inside.nodes.items c.args.self.now c.self.view_is) in
    let s : c.args.other ≡ suc k = omega arith in
    let whole = node-names c.self.inside.names.items c.self.inside.nodes.items c.args.self.now c.args.other k c.index.result.now c.self.invariant.0 c.self.view_is s l c.index.ensures in
    let name : get_or c.self.inside.names.items c.index.result.now.name [] ≡ latest_of c.args.self.now c.args.other = sym (ap (λ (v : List (List ℕ)). get_or v 0 []) whole) in
    let count : c.of_number.result ≡ length c.push.new.self.items = c.of_number.ensures ∙ c.len.ensures ∙ c.push.new.self.ok.0 in
    node-made c.self.inside.names.items c.self.inside.nodes.items c.push.new.self.items c.args.self.now _ (latest_of c.args.self.now c.args.other) node _ c.self.view_is c.in_ok-push.ensures.items refl name c.requires.set count
