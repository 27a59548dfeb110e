-- The sets that a table's nodes mean.
use Rattle.std.proofs.Common.{◌≡◌, sym, ◌∙◌, ap, subst, refl, ⊎_elim, ℕ, zero, suc, ◌+◌, ◌<◌, ◌≤◌, List, [], ◌∷◌, ◌++◌, length, get_or, arith, append_assoc, zero-add}
use Rattle.std.proofs.lemmas.List.{append-nil, length_push, get_or_append_left, get_or_at, get_or_read, get_or_push}
use Rattle.std.proofs.lemmas.Bool.{cases_lt}
use Rattle.hide_sets.specs.declared.table.Node.{Node}
use Rattle.scan_model.specs.Expansion.{also}
use Rattle.hide_sets.specs.Sets.{Sets, names_of, has_name, hides_of, Makes}
use Rattle.hide_sets.specs.Nodes.{names_with, sets_from, IsTree}

pub length-sets_from : (names : List (List ℕ)) (sets : Sets) (nodes : List Node) → length (sets_from names sets nodes) ≡ length sets + length nodes
length-sets_from names sets [] = omega arith
length-sets_from names sets (n ∷ nodes) =
    omega (arith, length-sets_from names (sets ++ names_with names sets n ∷ []) nodes, length_push sets (names_with names sets n))

pub sets_from-push : (names : List (List ℕ)) (sets : Sets) (nodes : List Node) (n : Node) → sets_from names sets (nodes ++ n ∷ []) ≡ sets_from names sets nodes ++ names_with names (sets_from names sets nodes) n ∷ []
sets_from-push names sets [] n = refl
sets_from-push names sets (m ∷ nodes) n = sets_from-push names (sets ++ names_with names sets m ∷ []) nodes n

sets_from-grown : (names : List (List ℕ)) (sets : Sets) (nodes : List Node) → (more : Sets) × (sets_from names sets nodes ≡ sets ++ more)
sets_from-grown names sets [] = ([], sym (append-nil sets))
sets_from-grown names sets (n ∷ nodes) =
    let more = sets_from-grown names (sets ++ names_with names sets n ∷ []) nodes in
    (names_with names sets n ∷ more.0, more.1 ∙ append_assoc sets (names_with names sets n ∷ []) more.0)

-- a number of before means what it meant
pub names_of-append : (sets more : Sets) (set : ℕ) → set ≤ length sets → names_of (sets ++ more) set ≡ names_of sets set
names_of-append sets more zero h = refl
names_of-append sets more (suc k) h = get_or_append_left sets more [] k (omega arith)

-- more names change nothing for nodes whose names are there
pub sets_from-names : (names more : List (List ℕ)) (sets : Sets) (nodes : List Node) → ((k : ℕ) (d : Node) → k < length nodes → (get_or nodes k d).name < length names) → sets_from (names ++ more) sets nodes ≡ sets_from names sets nodes
sets_from-names names more sets [] h = refl
sets_from-names names more sets (n ∷ nodes) h =
    let here : n.name < length names = h 0 n (omega arith) in
    let same : names_with (names ++ more) sets n ≡ names_with names sets n = ap (λ (s : List ℕ). s ∷ names_of sets n.parent) (get_or_append_left names more [] n.name here) in
    ap (λ (s : List (List ℕ)). sets_from (names ++ more) (sets ++ s ∷ []) nodes) same ∙ sets_from-names names more (sets ++ names_with names sets n ∷ []) nodes (λ k d l. h (suc k) d (omega arith))

-- what a node's own number means
pub names_of-sets_from : (names : List (List ℕ)) (sets : Sets) (nodes : List Node) (k : ℕ) (d : Node) → k < length nodes → (get_or nodes k d).parent ≤ length sets + k → names_of (sets_from names sets nodes) (suc (length sets + k)) ≡ names_with names (sets_from names sets nodes) (get_or nodes k d)
names_of-sets_from names sets [] k d h p = absurd (omega arith)
names_of-sets_from names sets (n ∷ nodes) zero d h p =
    let whole = names_with names sets n in
    let grown = sets_from-grown names (sets ++ whole ∷ []) nodes in
    let shape : sets_from names (sets ++ whole ∷ []) nodes ≡ sets ++ (whole ∷ grown.0) = grown.1 ∙ append_assoc sets (whole ∷ []) grown.0 in
    let early : n.parent ≤ length sets = omega arith in
    let parent : names_of (sets ++ (whole ∷ grown.0)) n.parent ≡ names_of sets n.parent = names_of-append sets (whole ∷ grown.0) n.parent early in
    let own : get_or (sets ++ (whole ∷ grown.0)) (length sets + 0) [] ≡ whole = get_or_at sets whole grown.0 [] (length sets + 0) (omega arith) in
    rw shape (own ∙ ap (λ (s : List (List ℕ)). get_or names n.name [] ∷ s) (sym parent))
names_of-sets_from names sets (n ∷ nodes) (suc k) d h p =
    let pushed = length_push sets (names_with names sets n) in
    let count : length sets + suc k ≡ length (sets ++ names_with names sets n ∷ []) + k = omega arith in
    ap (λ m. names_of (sets_from names sets (n ∷ nodes)) (suc m)) count ∙ names_of-sets_from names (sets ++ names_with names sets n ∷ []) nodes k d (omega arith) (omega arith)

-- the nodes' sets, which a table begins with none of
pub length-sets : (names : List (List ℕ)) (nodes : List Node) (sets : Sets) → sets_from names [] nodes ≡ sets → length sets ≡ length nodes
length-sets names nodes sets e = sym (ap length e) ∙ length-sets_from names [] nodes ∙ zero-add (length nodes)

-- a node's set is its name and its parent's set
pub node-names : (names : List (List ℕ)) (nodes : List Node) (sets : Sets) (set k : ℕ) (node : Node) → IsTree names nodes → sets_from names [] nodes ≡ sets → set ≡ suc k → k < length nodes → node ≡ get_or nodes k node → names_of sets set ≡ get_or names node.name [] ∷ names_of sets node.parent
node-names names nodes sets set k node t e s l h =
    let start : names_of (sets_from names [] nodes) (suc (0 + k)) ≡ names_with names (sets_from names [] nodes) (get_or nodes k node) = names_of-sets_from names [] nodes k node l (omega (arith, t.earlier k node l)) in
    let there : names_with names (sets_from names [] nodes) (get_or nodes k node) ≡ names_with names (sets_from names [] nodes) node = ap (names_with names (sets_from names [] nodes)) (sym h) in
    let number : suc (0 + k) ≡ set = omega arith in
    subst (λ (v : Sets). names_of v set ≡ get_or names node.name [] ∷ names_of v node.parent) e (ap (names_of (sets_from names [] nodes)) (sym number) ∙ start ∙ there)

pub node-parent : (names : List (List ℕ)) (nodes : List Node) (k : ℕ) (node : Node) → IsTree names nodes → k < length nodes → node ≡ get_or nodes k node → node.parent ≤ k
node-parent names nodes k node t l h = subst (λ (n : Node). n.parent ≤ k) (sym h) (t.earlier k node l)

pub node-name : (names : List (List ℕ)) (nodes : List Node) (k : ℕ) (node : Node) → IsTree names nodes → k < length nodes → node ≡ get_or nodes k node → node.name < length names
node-name names nodes k node t l h = subst (λ (n : Node). n.name < length names) (sym h) (t.named k node l)

-- the same, by the name that is read
pub latest-step : (names : List (List ℕ)) (nodes : List Node) (sets : Sets) (set k : ℕ) (node : Node) (name : List ℕ) → IsTree names nodes → sets_from names [] nodes ≡ sets → set ≡ suc k → k < length nodes → node ≡ get_or nodes k node → name ≡ get_or names node.name name → (node.parent < set) × (names_of sets set ≡ name ∷ names_of sets node.parent)
latest-step names nodes sets set k node name t e s l h g =
    let named : get_or names node.name [] ≡ name = sym (get_or_read names node.name name (node-name names nodes k node t l h) g []) in
    (omega (arith, node-parent names nodes k node t l h), node-names names nodes sets set k node t e s l h ∙ ap (λ (s : List ℕ). s ∷ names_of sets node.parent) named)

pub IsTree-name : (names : List (List ℕ)) (nodes : List Node) (name : List ℕ) → IsTree names nodes → IsTree (names ++ name ∷ []) nodes
IsTree-name names nodes name t =
    record { named = λ k d l. omega (arith, t.named k d l, length_push names name); earlier = t.earlier }

pub IsTree-node : (names : List (List ℕ)) (nodes : List Node) (node : Node) → IsTree names nodes → node.name < length names → node.parent ≤ length nodes → IsTree names (nodes ++ node ∷ [])
IsTree-node names nodes node t n p =
    record {
      named = λ k d l. ⊎_elim
          (λ (i : k < length nodes). let h : (get_or nodes k d).name < length names = t.named k d i in rw (get_or_append_left nodes (node ∷ []) d k i) h)
          (λ (i : length nodes ≤ k). let e : length nodes ≡ k = omega (arith, length_push nodes node) in rw (get_or_push nodes node d k e) n)
          (cases_lt k (length nodes));
      earlier = λ k d l. ⊎_elim
          (λ (i : k < length nodes). let h : (get_or nodes k d).parent ≤ k = t.earlier k d i in rw (get_or_append_left nodes (node ∷ []) d k i) h)
          (λ (i : length nodes ≤ k). let e : length nodes ≡ k = omega (arith, length_push nodes node) in rw (get_or_push nodes node d k e) (omega arith))
          (cases_lt k (length nodes));
    }

pub IsTree-pushed : (names : List (List ℕ)) (nodes : List Node) (name : List ℕ) (node : Node) → IsTree names nodes → node.name ≡ length names → node.parent ≤ length nodes → IsTree (names ++ name ∷ []) (nodes ++ node ∷ [])
IsTree-pushed names nodes name node t n p =
    IsTree-node (names ++ name ∷ []) nodes node (IsTree-name names nodes name t) (omega (arith, length_push names name)) p

-- a set more, which is an earlier one and a name
grown : (sets : Sets) (set : ℕ) (name : List ℕ) → set ≤ length sets → Makes sets (sets ++ (name ∷ names_of sets set) ∷ []) (also name (hides_of sets set)) (suc (length sets))
grown sets set name h =
    record {
      extended = record { since = (name ∷ names_of sets set) ∷ []; grown = refl };
      is_set = omega (arith, length_push sets (name ∷ names_of sets set));
      meant = ap has_name (get_or_push sets (name ∷ names_of sets set) [] (length sets) refl);
    }

-- a node more
pub node-made : (names : List (List ℕ)) (nodes nodes' : List Node) (sets sets' : Sets) (name : List ℕ) (node : Node) (set : ℕ) → sets_from names [] nodes ≡ sets → nodes' ≡ nodes ++ node ∷ [] → sets' ≡ sets_from names [] nodes' → get_or names node.name [] ≡ name → node.parent ≤ length sets → set ≡ length nodes' → Makes sets sets' (also name (hides_of sets node.parent)) set
node-made names nodes nodes' sets sets' name node set e q r n h l =
    let shape : sets' ≡ sets ++ (name ∷ names_of sets node.parent) ∷ [] =
    r ∙ ap (sets_from names []) q ∙ sets_from-push names [] nodes node ∙ ap (λ (v : Sets). v ++ names_with names v node ∷ []) e ∙ ap (λ (s : List ℕ). sets ++ (s ∷ names_of sets node.parent) ∷ []) n in
    let count : set ≡ suc (length sets) = omega (arith, length-sets names nodes sets e, ap length q, length_push nodes node) in
    subst (λ (v : Sets). Makes sets v (also name (hides_of sets node.parent)) set) (sym shape) (subst (Makes sets (sets ++ (name ∷ names_of sets node.parent) ∷ []) (also name (hides_of sets node.parent))) (sym count) (grown sets node.parent name h))

-- a name more changes no set
pub sets-name : (names : List (List ℕ)) (nodes : List Node) (name : List ℕ) → IsTree names nodes → sets_from (names ++ name ∷ []) [] nodes ≡ sets_from names [] nodes
sets-name names nodes name t = sets_from-names names (name ∷ []) [] nodes t.named

-- a name more, and a node more that has it
pub also-made : (names names' : List (List ℕ)) (nodes nodes' : List Node) (sets sets' : Sets) (name : List ℕ) (node : Node) (set : ℕ) → IsTree names nodes → sets_from names [] nodes ≡ sets → names' ≡ names ++ name ∷ [] → nodes' ≡ nodes ++ node ∷ [] → sets' ≡ sets_from names' [] nodes' → node.name ≡ length names → node.parent ≤ length sets → set ≡ length nodes' → Makes sets sets' (also name (hides_of sets node.parent)) set
also-made names names' nodes nodes' sets sets' name node set t e p q r n h l =
    let same : sets_from names' [] nodes ≡ sets = ap (λ (v : List (List ℕ)). sets_from v [] nodes) p ∙ sets-name names nodes name t ∙ e in
    let own : get_or names' node.name [] ≡ name = ap (λ (v : List (List ℕ)). get_or v node.name []) p ∙ get_or_push names name [] node.name (sym n) in
    node-made names' nodes nodes' sets sets' name node set same q r own h l
