use Rattle.std.proofs.Common.{◌≡◌, sym, ◌∙◌, ap, subst, refl, ℕ, List, length, drop, arith, length-drop}
use Rattle.std.specs.Prelude.{Option, Some, None, is_some}
use Rattle.std.specs.Option.{option_map, option_copied}
use Rattle.std.specs.Borrow.{Bor}
use Rattle.std.proofs.lemmas.List.Elements.{All-drop}
use Rattle.scan_model.specs.declared.macros.Def.{Def}
use Rattle.scan_model.specs.declared.token.Kind.TheVariants.{Number}
use Rattle.scan_model.specs.Substitution as spec
use Rattle.scan_model.specs.Expansion.{out, instead, defined_out}
use Rattle.substitution.specs.Meaning.{marked_of, all_marked_of, IsMarked}
use Rattle.expansion_laws.specs.Turns.{expands}
use Rattle.expansion.specs.Lists.{digit_of}
use Rattle.list_stack.specs.Stacks.{Stack}
use Rattle.expansion.specs.States.{IsMachine, continued, scope_of, weight_of_lists}
use Rattle.expansion.proofs.DefinedLemmas.{defined-means, found_in}
use Rattle.expansion.proofs.StepLemmas.{turns-at}
use Rattle.expansion.proofs.machine.Machine.defined.Goals as goal

pub returns-in_default : goal.returns-in_default
returns-in_default c =
    let m = c.args.self.now in
    let e = scope_of c.args.scope.now in
    let word = marked_of m.sets c.args.word in
    let todo = all_marked_of m.sets m.todo.first in
    turns-at c.goes_out.result e _ _ _ _ _
    (ap (λ (o : Option (List ℕ × ℕ)). continued e m (defined_out (expands e) e word todo m.cost m.counter (option_map (found_in m.sets m.todo.first) o))) c.in_default.ensures
    ∙ ap (λ (o : Option (List ℕ × List spec.Marked)). continued e m (defined_out (expands e) e word todo m.cost m.counter o)) (sym (defined-means e m.sets m.todo.first)))
    (omega arith) c.goes_out.ensures

pub goes_out-requires-2-clause-valid : goal.goes_out-requires-2-clause-valid
goes_out-requires-2-clause-valid c =
    let h = c.requires.valid in
    let m = c.args.self.now in
    subst (λ (todo : Stack). IsMachine (record m { todo = todo })) (sym c.skip.ensures)
    (record {
      first = All-drop (IsMarked m.sets) c.in-Some.found.length m.todo.first h.first;
      others = h.others;
      out = h.out;
      calls = h.calls;
      lists = h.lists;
      cost = h.cost;
      counter = h.counter;
    })

is_some-copied : (o : Option (Bor Def)) → is_some o ≡ is_some (option_copied o)
is_some-copied None = refl
is_some-copied (Some x) = refl

pub returns : goal.returns
returns c =
    let m = c.args.self.now in
    let e = scope_of c.args.scope.now in
    let word = marked_of m.sets c.args.word in
    let todo = all_marked_of m.sets m.todo.first in
    let found = c.in-Some.found in
    let shorter : length c.skip.new.self.first ≡ length (drop found.length m.todo.first) = ap (λ (s : Stack). length s.first) c.skip.ensures in
    let others : weight_of_lists c.skip.new.self.others ≡ weight_of_lists m.todo.others = ap (λ (s : Stack). weight_of_lists s.others) c.skip.ensures in
    let test = c.is_some-is_defined.ensures ∙ is_some-copied c.get.result ∙ ap (is_some {T = Def}) c.get.ensures.value in
    turns-at c.goes_out-2.result e _ _ _ _ _
    (ap (λ (t : spec.Marked). continued e (record m { todo = c.skip.new.self }) (out t (expands e (all_marked_of m.sets c.skip.new.self.first) m.cost m.counter)))
    (c.instead.ensures.value m.sets ∙ ap (λ (t : List ℕ). instead Number t word) (c.in_ok-text.ensures ∙ c.digit-digit.ensures ∙ ap digit_of test))
    ∙ ap (λ (s : Stack). continued e (record m { todo = s }) (out (instead Number (digit_of (is_some (e.defs found.name.now))) word) (expands e (all_marked_of m.sets s.first) m.cost m.counter))) c.skip.ensures
    ∙ ap (λ (o : Option (List ℕ × ℕ)). continued e m (defined_out (expands e) e word todo m.cost m.counter (option_map (found_in m.sets m.todo.first) o))) c.in-Some.ensures
    ∙ ap (λ (o : Option (List ℕ × List spec.Marked)). continued e m (defined_out (expands e) e word todo m.cost m.counter o)) (sym (defined-means e m.sets m.todo.first)))
    (omega (arith, length-drop found.length m.todo.first)) c.goes_out-2.ensures
