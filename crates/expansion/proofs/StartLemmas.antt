-- Where the machine starts.
use Rattle.std.proofs.Common.{◌≡◌, sym, ◌∙◌, ap, subst, refl, ℕ, suc, ◌+◌, ◌^◌, ◌<◌, List, [], ◌∷◌, map, length, reverse, arith}
use Rattle.std.specs.Prelude.{All, sum_by}
use Rattle.std.proofs.lemmas.List.Elements.{All-nil, All-cons}
use Rattle.hide_sets.specs.Sets.{Sets}
use Rattle.scan_model.specs.declared.token.Tok.{Tok}
use Rattle.scan_model.specs.declared.expansion.Expanded.{Expanded}
use Rattle.scan_model.specs.Substitution as spec
use Rattle.scan_model.specs.Expansion as expansion
use Rattle.scan_model.specs.Expansion.{cost_limit, answer_of}
use Rattle.substitution.specs.declared.marked.Marked.{Marked}
use Rattle.substitution.specs.Meaning.{all_marked_of, AreMarked, IsMarked}
use Rattle.expansion_laws.specs.Turns.{expands}
use Rattle.expansion_laws.proofs.TurnLemmas.{expands_list}
use Rattle.expansion.specs.declared.machine.Machine.{Machine}
use Rattle.expansion.specs.declared.machine.Pending.{Pending}
use Rattle.expansion.specs.declared.machine.Turn.{Turn}
use Rattle.expansion.specs.declared.machine.Turn.TheVariants.{Ends}
use Rattle.list_stack.specs.Stacks.{Stack}
use Rattle.expansion.specs.Lists.{unhidden}
use Rattle.expansion.specs.Meaning.{outs}
use Rattle.expansion.specs.States.{IsMachine, IsPending, Turns, ran_of, all_resumed}
use Rattle.expansion.proofs.CallLemmas.{outs-nil}

marks : (toks : List Tok) → all_marked_of [] (map unhidden toks) ≡ map (λ t. record { tok = t; hides = spec.no_name }) toks
marks [] = refl
marks (t ∷ toks) =
    let first : spec.Marked = record { tok = t; hides = spec.no_name } in
    ap (λ (ms : List spec.Marked). first ∷ ms) (marks toks)

known : (toks : List Tok) → AreMarked [] (map unhidden toks)
known [] = All-nil (IsMarked [])
known (t ∷ toks) = All-cons (IsMarked []) (unhidden t) (map unhidden toks) (omega arith) (known toks)

pub start-valid : (m : Machine) (toks : List Tok) → m.sets ≡ [] → m.todo ≡ record { first = map unhidden toks; others = [] } → m.out.items ≡ [] → m.calls.items ≡ [] → m.cost ≡ 0 → m.counter < 2 ^ 63 → IsMachine m
start-valid m toks s t o c k n = record {
  first = subst (λ (x : Sets). AreMarked x m.todo.first) (sym s) (subst (AreMarked []) (sym (ap (λ (x : Stack). x.first) t)) (known toks));
  others = subst (λ (ls : List (List Marked)). All (AreMarked m.sets) ls) (sym (ap (λ (x : Stack). x.others) t)) (All-nil (AreMarked m.sets));
  out = subst (AreMarked m.sets) (sym o) (All-nil (IsMarked m.sets));
  calls = subst (λ (ps : List Pending). All (IsPending m.sets) ps) (sym c) (All-nil (IsPending m.sets));
  lists = ap (λ (x : Stack). length x.others) t ∙ sym (ap (λ (ps : List Pending). 0 + sum_by (λ p. suc p.call.further) ps) c);
  cost = omega arith;
  counter = omega arith;
}

pub start-means : (e : expansion.Scope) (m : Machine) (toks : List Tok) → m.sets ≡ [] → m.todo ≡ record { first = map unhidden toks; others = [] } → m.out.items ≡ [] → m.calls.items ≡ [] → m.cost ≡ 0 → m.counter ≡ expansion.first_counter e.mode →
    answer_of (ran_of e m) ≡ expansion.expand e.defs e.site e.mode toks
start-means e m toks s t o c k n =
    ap answer_of (
    ap (λ (ps : List Pending). all_resumed e m.sets (reverse ps) m.todo.others (outs (all_marked_of m.sets m.out.items) (expands e (all_marked_of m.sets m.todo.first) m.cost m.counter))) c
    ∙ ap (λ (ms : List Marked). outs (all_marked_of m.sets ms) (expands e (all_marked_of m.sets m.todo.first) m.cost m.counter)) o
    ∙ outs-nil (expands e (all_marked_of m.sets m.todo.first) m.cost m.counter)
    ∙ ap (λ (x : Stack). expands e (all_marked_of m.sets x.first) m.cost m.counter) t
    ∙ ap (λ (x : Sets). expands e (all_marked_of x (map unhidden toks)) m.cost m.counter) s
    ∙ ap (λ (ms : List spec.Marked). expands e ms m.cost m.counter) (marks toks)
    ∙ ap (λ (c : ℕ). expands e (map (λ t. record { tok = t; hides = spec.no_name }) toks) c m.counter) k
    ∙ ap (expands e (map (λ t. record { tok = t; hides = spec.no_name }) toks) 0) n)
    ∙ sym (expands_list e.defs e.site e.mode toks)

pub ends : (e : expansion.Scope) (ran : expansion.Ran) (most : ℕ) (m : Machine) (turn : Turn) (answer : Expanded) → turn ≡ Ends answer → Turns e ran most m turn → answer ≡ answer_of ran
ends e ran most m turn answer h t = subst (Turns e ran most m) h t
