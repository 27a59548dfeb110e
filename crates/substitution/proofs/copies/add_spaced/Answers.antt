use Rattle.std.proofs.Common.{sym, subst, List, ◌<◌, map, length, drop, rules}
use Rattle.std.proofs.lemmas.List.{take_rest}
use Rattle.std.proofs.lemmas.List.Elements.{All-drop}
use Rattle.scan_model.specs.Substitution as spec
use Rattle.substitution.specs.declared.marked.Marked.{Marked}
use Rattle.substitution.specs.Meaning.{all_marked_of, IsMarked, AreMarked}
use Rattle.substitution.specs.Calls.{Adds}
use Rattle.substitution.proofs.AddLemmas.{spaced-more}
use Rattle.substitution.proofs.copies.add_spaced.Goals as goal

pub returns : goal.returns
returns c = λ sets k.
    let some : 0 < length c.args.marked.now = search rules in
    let rest = take_rest c.args.marked.now 1 in
    let known : AreMarked sets (drop 1 c.args.marked.now) = All-drop (IsMarked sets) 1 c.args.marked.now k in
    let others : Adds sets c.push-2.new.self.items c.add_all.new.items.items (map spec.Operand (all_marked_of sets (drop 1 c.args.marked.now))) =
    subst (λ (s : List Marked). Adds sets c.push-2.new.self.items c.add_all.new.items.items (map spec.Operand (all_marked_of sets s))) rest (c.in_ok-add_all.ensures sets (subst (AreMarked sets) (sym rest) known)) in
    spaced-more sets c.args.items.now.items c.push-2.new.self.items c.add_all.new.items.items c.args.space c.args.marked.now c.index-marked-0.result c.in_ok-first.first some c.index-marked-0.is c.in_ok-first.ensures c.in_ok-push-2.ensures.items k others
