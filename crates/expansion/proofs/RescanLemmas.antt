-- What a replacement does to the machine: it fails, costs too much, or puts a list before the rest.
use Rattle.std.proofs.Common.{◌≡◌, sym, ◌∙◌, ap, subst, refl, ℕ, ◌+◌, ◌-◌, ◌<◌, ◌≤◌, nat_lt, Bool, true, false, if◌then◌else◌, List, ◌++◌, map, length, reverse, arith}
use Rattle.std.specs.Prelude.{Option, Some, None, All}
use Rattle.std.specs.Option.{option_map}
use Rattle.std.proofs.lemmas.Bool.{ltb-true, ltb-false}
use Rattle.std.proofs.lemmas.List.{length-append, length-map}
use Rattle.hide_sets.specs.Sets.{Sets, hides_of, Extends}
use Rattle.scan_model.specs.declared.expansion.Expanded.{Expanded}
use Rattle.scan_model.specs.declared.expansion.Expanded.TheVariants as Gives
use Rattle.scan_model.specs.Substitution as spec
use Rattle.scan_model.specs.Expansion as expansion
use Rattle.scan_model.specs.Expansion.{Ran, Failed, paid, cost_limit, answer_of, rescanned, hidden_by}
use Rattle.substitution.specs.declared.marked.Marked.{Marked}
use Rattle.substitution.specs.Meaning.{all_marked_of, AreMarked}
use Rattle.substitution.proofs.MeaningLemmas.{AreMarked-Extends}
use Rattle.expansion_laws.specs.Turns.{expands}
use Rattle.expansion.specs.declared.machine.Machine.{Machine}
use Rattle.list_stack.specs.Stacks.{Stack, PutsBefore}
use Rattle.expansion.specs.Meaning.{outs}
use Rattle.expansion.specs.States.{IsMachine, GoesOn, all_resumed, continued, weight, weight_of_lists}
use Rattle.expansion.proofs.StateLemmas.{continued-failed, continued-grown, AreLists-grown, ArePending-grown}

-- ## What is paid

within_if : (b : Bool) (c : ℕ) (ran : Ran) → nat_lt cost_limit c ≡ b → c ≤ cost_limit → (if b then Failed Gives.TooLong else ran) ≡ ran
within_if true c ran e le = absurd (omega (arith, ltb-true cost_limit c e))
within_if false c ran e le = refl

pub paid-within : (c : ℕ) (ran : Ran) → c ≤ cost_limit → paid c ran ≡ ran
paid-within c ran le = within_if (nat_lt cost_limit c) c ran refl le

over_if : (b : Bool) (c : ℕ) (ran : Ran) → nat_lt cost_limit c ≡ b → cost_limit < c → (if b then Failed Gives.TooLong else ran) ≡ Failed Gives.TooLong
over_if true c ran e lt = refl
over_if false c ran e lt = absurd (omega (arith, ltb-false cost_limit c e))

pub paid-over : (c : ℕ) (ran : Ran) → cost_limit < c → paid c ran ≡ Failed Gives.TooLong
paid-over c ran lt = over_if (nat_lt cost_limit c) c ran refl lt

-- ## Ends

pub ends-as : (e : expansion.Scope) (m : Machine) (ran : Ran) (answer : Expanded) → ran ≡ Failed answer → answer ≡ answer_of (continued e m ran)
ends-as e m ran answer h = sym (ap (λ (r : Ran). answer_of (continued e m r)) h ∙ ap answer_of (continued-failed e m answer))

pub rescan-bad : (e : expansion.Scope) (m : Machine) (added : List ℕ → Bool) (list : Option (List Marked)) → list ≡ None →
    Gives.Bad ≡ answer_of (continued e m (rescanned (expands e) e added (all_marked_of m.sets m.todo.first) m.cost m.counter (option_map (all_marked_of m.sets) list)))
rescan-bad e m added list h = ends-as e m _ Gives.Bad (rw h)

pub rescan-too_long : (e : expansion.Scope) (m : Machine) (added : List ℕ → Bool) (given : Option (List Marked)) (list : List Marked) → given ≡ Some list → cost_limit - m.cost ≤ length list →
    Gives.TooLong ≡ answer_of (continued e m (rescanned (expands e) e added (all_marked_of m.sets m.todo.first) m.cost m.counter (option_map (all_marked_of m.sets) given)))
rescan-too_long e m added given list h long =
    let same : length (all_marked_of m.sets list) ≡ length list = length-map list _ in
    ends-as e m _ Gives.TooLong (rw h (paid-over (m.cost + 1 + length (all_marked_of m.sets list)) _ (omega arith)))

-- ## A list put before the rest

pub rescan-goes : (e : expansion.Scope) (m : Machine) (added : ℕ) (given : Option (List Marked)) (list : List Marked) (todo : Stack) (sets : Sets) (cost : ℕ) →
    IsMachine m → given ≡ Some list → length list < cost_limit - m.cost → cost ≡ m.cost + (1 + length list) →
    Extends m.sets sets → PutsBefore m.sets sets (hides_of m.sets added) list m.todo.first todo.first → todo.others ≡ m.todo.others →
    GoesOn e (continued e m (rescanned (expands e) e (hides_of m.sets added) (all_marked_of m.sets m.todo.first) m.cost m.counter (option_map (all_marked_of m.sets) given))) (weight m)
    (record m { sets = sets; todo = todo; cost = cost })
rescan-goes e m added given list todo sets cost valid h short is x p o =
    let same : length (all_marked_of m.sets list) ≡ length list = length-map list _ in
    let now : length todo.first ≡ length list + length m.todo.first = size list m.todo.first todo.first (hides_of m.sets added) m.sets sets p in
    let others : weight_of_lists todo.others ≡ weight_of_lists m.todo.others = ap weight_of_lists o in
    let costs : cost ≡ m.cost + 1 + length (all_marked_of m.sets list) = omega arith in
    record {
      valid = record {
        first = p.known;
        others = subst (λ (ls : List (List Marked)). All (AreMarked sets) ls) (sym o) (AreLists-grown m.sets sets x m.todo.others valid.others);
        out = AreMarked-Extends m.sets sets m.out.items x valid.out;
        calls = ArePending-grown m.sets sets x m.calls.items valid.calls;
        lists = ap length o ∙ valid.lists;
        cost = omega (arith, valid.cost);
        counter = omega (arith, valid.cost, valid.counter);
      };
      less = omega arith;
      same = ap (λ (ls : List (List Marked)). all_resumed e sets (reverse m.calls.items) ls (outs (all_marked_of sets m.out.items) (expands e (all_marked_of sets todo.first) cost m.counter))) o
          ∙ continued-grown e m sets (expands e (all_marked_of sets todo.first) cost m.counter) x valid
          ∙ ap (continued e m) (ap (λ (ms : List spec.Marked). expands e ms cost m.counter) p.meant
          ∙ ap (λ (k : ℕ). expands e (map (hidden_by (hides_of m.sets added)) (all_marked_of m.sets list) ++ all_marked_of m.sets m.todo.first) k m.counter) costs
          ∙ sym (paid-within (m.cost + 1 + length (all_marked_of m.sets list)) _ (omega (arith, valid.cost))))
          ∙ ap (λ (o : Option (List Marked)). continued e m (rescanned (expands e) e (hides_of m.sets added) (all_marked_of m.sets m.todo.first) m.cost m.counter (option_map (all_marked_of m.sets) o))) (sym h);
    }
  where
    size : (list old new : List Marked) (added : List ℕ → Bool) (sets sets' : Sets) → PutsBefore sets sets' added list old new → length new ≡ length list + length old
    size list old new added sets sets' p =
        sym (length-map new _) ∙ ap length p.meant ∙ length-append (map (hidden_by added) (all_marked_of sets list)) (all_marked_of sets old)
        ∙ ap (λ (k : ℕ). k + length (all_marked_of sets old)) (length-map (all_marked_of sets list) _ ∙ length-map list _)
        ∙ ap (λ (k : ℕ). length list + k) (length-map old _)
