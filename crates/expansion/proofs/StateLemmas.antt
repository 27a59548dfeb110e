-- What a state stands for, when its table of hide sets grows and when its list fails.
use Rattle.std.proofs.Common.{◌≡◌, ◌∙◌, ap, subst, sym, refl, ℕ, suc, ◌<◌, Bool, List, [], ◌∷◌, ◌++◌, map, length, reverse, take, drop, ⊎_elim, arith}
use Rattle.std.specs.Prelude.{All, Option, Some, None, IfOk, Result, Ok, Err, ◌≤◌, slice_index_or}
use Rattle.scan_model.specs.declared.memory.NoMemory.{NoMemory}
use Rattle.expansion.specs.declared.machine.Turn.{Turn}
use Rattle.expansion.specs.declared.machine.Turn.TheVariants.{Goes, Ends}
use Rattle.expansion_laws.specs.Turns.{expands}
use Rattle.substitution.specs.Meaning.{GivesMarked}
use Rattle.std.proofs.lemmas.Bool.{cases_lt}
use Rattle.std.proofs.lemmas.List.{get_or_past, reverse-append}
use Rattle.std.proofs.lemmas.List.Elements.{All-nil, All-push, All-same, All-head, All-tail, All-take, All-drop, All-weaker}
use Rattle.hide_sets.specs.Sets.{Sets, Extends}
use Rattle.hide_sets.proofs.Growing.{hides_of-Extends, IsSet-Extends}
use Rattle.scan_model.specs.declared.expansion.Expanded.{Expanded}
use Rattle.scan_model.specs.Substitution as spec
use Rattle.scan_model.specs.Expansion as expansion
use Rattle.scan_model.specs.Expansion.{Ran, Went, Failed, Replaced, Args, NotReplaced, with_arg, rescanned}
use Rattle.substitution.specs.declared.marked.Marked.{Marked}
use Rattle.substitution.specs.declared.marked.Arg.{Arg}
use Rattle.substitution.specs.Meaning.{all_marked_of, arg_of, IsMarked, AreMarked, IsArg}
use Rattle.substitution.proofs.MeaningLemmas.{marked_of-Extends, all_marked_of-Extends, AreMarked-Extends}
use Rattle.expansion.specs.declared.machine.Call.{Call}
use Rattle.expansion.specs.declared.machine.Pending.{Pending}
use Rattle.expansion.specs.declared.machine.Machine.{Machine}
use Rattle.expansion.specs.Meaning as meaning
use Rattle.expansion.specs.Meaning.{outs, resumed}
use Rattle.expansion.specs.States.{call_of, pending_of, IsCall, IsPending, IsMachine, all_resumed, continued, Turns}

-- ## What fails

pub all_resumed-failed : (e : expansion.Scope) (sets : Sets) (ps : List Pending) (lists : List (List Marked)) (answer : Expanded) → all_resumed e sets ps lists (Failed answer) ≡ Failed answer
all_resumed-failed e sets [] lists answer = refl
all_resumed-failed e sets (p ∷ ps) lists answer = all_resumed-failed e sets ps (drop (suc p.call.further) lists) answer

pub continued-failed : (e : expansion.Scope) (m : Machine) (answer : Expanded) → continued e m (Failed answer) ≡ Failed answer
continued-failed e m answer = all_resumed-failed e m.sets (reverse m.calls.items) m.todo.others answer

-- ## A larger table

-- each of the list means what it meant
map-same : {X Y : Type 0} (f g : X → Y) (P : X → Type 0) → ((x : X) → P x → f x ≡ g x) → (xs : List X) → All P xs → map f xs ≡ map g xs
map-same f g P same [] h = refl
map-same {X} {Y} f g P same (x ∷ xs) h =
    let one : f x ≡ g x = same x (All-head P x xs h) in
    let rest : map f xs ≡ map g xs = map-same f g P same xs (All-tail P x xs h) in
    cc

-- the list at a place, or no token
pub AreMarked-at : (sets : Sets) (lists : List (List Marked)) (k : ℕ) → All (AreMarked sets) lists → AreMarked sets (slice_index_or lists k [])
AreMarked-at sets lists k h = ⊎_elim (λ (lt : k < length lists). h k [] lt)
    (λ (le : length lists ≤ k). subst (AreMarked sets) (sym (get_or_past lists k [] le)) (All-nil (IsMarked sets)))
    (cases_lt k (length lists))

pub All-reverse : {X : Type 0} (P : X → Type 0) (xs : List X) → All P xs → All P (reverse xs)
All-reverse P [] h = h
All-reverse P (x ∷ xs) h = All-same P (reverse (x ∷ xs)) (reverse xs ++ x ∷ []) (reverse-append (x ∷ []) xs) (All-push P (reverse xs) x (All-reverse P xs (All-tail P x xs h)) (All-head P x xs h))

module _ (old new : Sets) (x : Extends old new) where
  arg_of-grown : (a : Arg) → IsArg old a → arg_of new a ≡ arg_of old a
  arg_of-grown a h =
      let one = all_marked_of-Extends old new a.written x h.written in
      let two = all_marked_of-Extends old new _ x h.replaced in
      cc

  IsArg-grown : (a : Arg) → IsArg old a → IsArg new a
  IsArg-grown a h = record { written = AreMarked-Extends old new _ x h.written; replaced = AreMarked-Extends old new _ x h.replaced }

  lists-grown : (lists : List (List Marked)) → All (AreMarked old) lists → map (all_marked_of new) lists ≡ map (all_marked_of old) lists
  lists-grown lists h = map-same (all_marked_of new) (all_marked_of old) (AreMarked old) (λ l k. all_marked_of-Extends old new l x k) lists h

  pub AreLists-grown : (lists : List (List Marked)) → All (AreMarked old) lists → All (AreMarked new) lists
  AreLists-grown lists h = All-weaker (AreMarked old) (AreMarked new) (λ l k. AreMarked-Extends old new l x k) lists h

  call_of-grown : (c : Call) (begun : ℕ) (lists : List (List Marked)) → IsCall old c begun → All (AreMarked old) lists → call_of new c begun lists ≡ call_of old c begun lists
  call_of-grown c begun lists h k =
      let name = marked_of-Extends old new c.name x h.name in
      let close = hides_of-Extends old new c.close x h.close in
      let args = map-same (arg_of new) (arg_of old) (IsArg old) arg_of-grown c.args.items h.args in
      let further = lists-grown (take c.further lists) (All-take (AreMarked old) c.further lists k) in
      let before = all_marked_of-Extends old new c.before.items x h.before in
      let rest = all_marked_of-Extends old new (slice_index_or lists c.further []) x (AreMarked-at old lists c.further k) in
      cc

  IsCall-grown : (c : Call) (begun : ℕ) → IsCall old c begun → IsCall new c begun
  IsCall-grown c begun h = record {
    name = IsSet-Extends old new _ x h.name;
    close = IsSet-Extends old new _ x h.close;
    args = All-weaker (IsArg old) (IsArg new) IsArg-grown c.args.items h.args;
    before = AreMarked-Extends old new _ x h.before;
    fits = h.fits;
  }

  pending_of-grown : (p : Pending) (lists : List (List Marked)) → IsPending old p → All (AreMarked old) lists → pending_of new p lists ≡ pending_of old p lists
  pending_of-grown p lists h k =
      let call = call_of-grown p.call (suc (length p.call.args.items)) lists h.call k in
      let written = all_marked_of-Extends old new p.written.items x h.written in
      cc

  IsPending-grown : (p : Pending) → IsPending old p → IsPending new p
  IsPending-grown p h = record { call = IsCall-grown p.call (suc (length p.call.args.items)) h.call; written = AreMarked-Extends old new _ x h.written }

  pub ArePending-grown : (ps : List Pending) → All (IsPending old) ps → All (IsPending new) ps
  ArePending-grown ps h = All-weaker (IsPending old) (IsPending new) IsPending-grown ps h

  pub all_resumed-grown : (e : expansion.Scope) (ps : List Pending) (lists : List (List Marked)) (ran : Ran) → All (IsPending old) ps → All (AreMarked old) lists → all_resumed e new ps lists ran ≡ all_resumed e old ps lists ran
  all_resumed-grown e [] lists ran h k = refl
  all_resumed-grown e (p ∷ ps) lists ran h k =
      ap (λ (q : meaning.Pending). all_resumed e new ps (drop (suc p.call.further) lists) (resumed e q ran)) (pending_of-grown p lists (All-head (IsPending old) p ps h) k)
      ∙ all_resumed-grown e ps (drop (suc p.call.further) lists) (resumed e (pending_of old p lists) ran) (All-tail (IsPending old) p ps h) (All-drop (AreMarked old) (suc p.call.further) lists k)

-- the same machine with a larger table
pub IsMachine-grown : (m : Machine) (sets : Sets) → Extends m.sets sets → IsMachine m → IsMachine (record m { sets = sets })
IsMachine-grown m sets x h = record {
  first = AreMarked-Extends m.sets sets m.todo.first x h.first;
  others = AreLists-grown m.sets sets x m.todo.others h.others;
  out = AreMarked-Extends m.sets sets m.out.items x h.out;
  calls = ArePending-grown m.sets sets x m.calls.items h.calls;
  lists = h.lists;
  cost = h.cost;
  counter = h.counter;
}

pub continued-grown : (e : expansion.Scope) (m : Machine) (sets : Sets) (ran : Ran) → Extends m.sets sets → IsMachine m → continued e (record m { sets = sets }) ran ≡ continued e m ran
continued-grown e m sets ran x h =
    all_resumed-grown m.sets sets x e (reverse m.calls.items) m.todo.others (outs (all_marked_of sets m.out.items) ran) (All-reverse (IsPending m.sets) m.calls.items h.calls) h.others
    ∙ ap (λ (o : List spec.Marked). all_resumed e m.sets (reverse m.calls.items) m.todo.others (outs o ran)) (all_marked_of-Extends m.sets sets m.out.items x h.out)

-- the list that a replacement gives, in a larger table
pub GivesList-grown : (sets sets' : Sets) (list : Option (List spec.Marked)) (given : Option (List Marked)) → Extends sets sets' → GivesMarked sets list given → GivesMarked sets' list given
GivesList-grown sets sets' list None x h = record { known = h.known; meant = h.meant }
GivesList-grown sets sets' list (Some ms) x h =
    let some : List spec.Marked → Option (List spec.Marked) = λ (l : List spec.Marked). Some l in
    record { known = AreMarked-Extends sets sets' ms x h.known; meant = ap some (all_marked_of-Extends sets sets' ms x h.known) ∙ h.meant }

-- the same replacement, seen by a larger table
pub rescanned-grown : (e : expansion.Scope) (m : Machine) (sets : Sets) (added added' : List ℕ → Bool) (list list' : Option (List spec.Marked)) →
    Extends m.sets sets → IsMachine m → added' ≡ added → list' ≡ list →
    continued e (record m { sets = sets }) (rescanned (expands e) e added' (all_marked_of sets m.todo.first) m.cost m.counter list')
    ≡ continued e m (rescanned (expands e) e added (all_marked_of m.sets m.todo.first) m.cost m.counter list)
rescanned-grown e m sets added added' list list' x h a l =
    continued-grown e m sets _ x h
    ∙ ap (λ (f : List ℕ → Bool). continued e m (rescanned (expands e) e f (all_marked_of sets m.todo.first) m.cost m.counter list')) a
    ∙ ap (λ (t : List spec.Marked). continued e m (rescanned (expands e) e added t m.cost m.counter list')) (all_marked_of-Extends m.sets sets m.todo.first x h.first)
    ∙ ap (λ (o : Option (List spec.Marked)). continued e m (rescanned (expands e) e added (all_marked_of m.sets m.todo.first) m.cost m.counter o)) l

-- ## Turns to the same end

pub turn-along : (e : expansion.Scope) (ran ran' : Ran) (most most' : ℕ) (m : Machine) (turn : Turn) → ran ≡ ran' → most ≤ most' → Turns e ran most m turn → Turns e ran' most' m turn
turn-along e ran ran' most most' m Goes h le t = record { valid = t.valid; less = omega (arith, t.less); same = t.same ∙ h }
turn-along e ran ran' most most' m (Ends answer) h le t = t ∙ ap expansion.answer_of h

pub turns-along : (result : Result Turn NoMemory) (ran ran' : expansion.Scope → Ran) (most most' : ℕ) (m : Machine) →
    ((e : expansion.Scope) → ran e ≡ ran' e) → most ≤ most' →
    IfOk result (λ turn. (e : expansion.Scope) → Turns e (ran e) most m turn) → IfOk result (λ turn. (e : expansion.Scope) → Turns e (ran' e) most' m turn)
turns-along (Ok turn) ran ran' most most' m same le h = λ e. turn-along e (ran e) (ran' e) most most' m turn (same e) le (h e)
turns-along (Err error) ran ran' most most' m same le h = tt
