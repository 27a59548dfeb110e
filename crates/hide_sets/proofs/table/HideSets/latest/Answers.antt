use Rattle.std.proofs.Common.{◌≡◌, ◌<◌, ◌-◌, suc, length, arith, subst, sym, get_or}
use Rattle.hide_sets.specs.declared.table.Node.{Node}
use Rattle.hide_sets.proofs.Tree.{length-sets, latest-step}
use Rattle.hide_sets.proofs.table.HideSets.latest.Goals as goal

pub index-node-requires : goal.index-node-requires
index-node-requires c = omega (arith, length-sets c.self.inside.names.items c.self.inside.nodes.items c.args.self.now c.self.view_is, c.self.inside.nodes.ok.0)

pub index-requires : goal.index-requires
index-requires c =
    let node = c.index-node.result.now in
    let k = c.number-2.result - 1 in
    let l : k < length c.self.inside.nodes.items = omega (arith, length-sets c.self.inside.names.items c.self.inside.nodes.items c.args.self.now c.self.view_is) in
    let h : node.name < length c.self.inside.names.items = subst (λ (n : Node). n.name < length c.self.inside.names.items) (sym c.index-node.ensures) (c.self.invariant.0.named k node l) in
    omega (arith, c.self.inside.names.ok.0)

pub returns : goal.returns
returns c =
    let k = c.number-2.result - 1 in
    let l : k < length c.self.inside.nodes.items = omega (arith, length-sets c.self.inside.names.items c.self.inside.nodes.items c.args.self.now c.self.view_is) in
    let s : c.args.set ≡ suc k = omega arith in
    let name : c.as_slice.result.now ≡ get_or c.self.inside.names.items c.index-node.result.now.name c.as_slice.result.now = rw c.as_slice.ensures c.index.ensures in
    latest-step c.self.inside.names.items c.self.inside.nodes.items c.args.self.now c.args.set k c.index-node.result.now c.as_slice.result.now c.self.invariant.0 c.self.view_is s l c.index-node.ensures name
