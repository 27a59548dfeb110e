-- Lists that grow.
use Rattle.std.proofs.Common.{◌≡◌, sym, ◌∙◌, ap, subst, refl, ℕ, Bool, ◌<◌, List, [], ◌∷◌, ◌++◌, map, length, get_or, take, drop, ◌+◌, arith, append_assoc}
use Rattle.std.proofs.lemmas.List.{map-append, append-nil, take_more}
use Rattle.std.proofs.lemmas.List.Elements.{All-append}
use Rattle.hide_sets.specs.Sets.{Sets}
use Rattle.scan_model.specs.Substitution as spec
use Rattle.substitution.specs.declared.marked.Marked.{Marked}
use Rattle.substitution.specs.declared.item.Item.{Item}
use Rattle.substitution.specs.declared.item.Item.TheVariants.{Operand}
use Rattle.substitution.specs.Meaning.{marked_of, all_marked_of, item_of, items_of, IsMarked, AreMarked, IsItem}
use Rattle.substitution.specs.Calls.{Adds}
use Rattle.substitution.proofs.JoinLemmas.{AreItems-nil, AreItems-push}

pub adds-none : (sets : Sets) (items : List Item) → Adds sets items items []
adds-none sets items = record { more = []; grown = sym (append-nil items); known = AreItems-nil sets; meant = refl }

pub adds-on : (sets : Sets) (a b c : List Item) (x y : List spec.Item) → Adds sets a b x → Adds sets b c y → Adds sets a c (x ++ y)
adds-on sets a b c x y p q =
    record {
      more = p.more ++ q.more;
      grown = q.grown ∙ ap (λ (s : List Item). s ++ q.more) p.grown ∙ append_assoc a p.more q.more;
      known = All-append (IsItem sets) p.more q.more p.known q.known;
      meant = map-append (item_of sets) p.more q.more ∙ ap (λ (s : List spec.Item). s ++ items_of sets q.more) p.meant ∙ ap (λ (s : List spec.Item). x ++ s) q.meant;
    }

pub adds-same : (sets : Sets) (a b : List Item) (x y : List spec.Item) → x ≡ y → Adds sets a b x → Adds sets a b y
adds-same sets a b x y e p = subst (Adds sets a b) e p

-- one item
pub adds-one : (sets : Sets) (a b : List Item) (item : Item) (x : spec.Item) → b ≡ a ++ item ∷ [] → IsItem sets item → item_of sets item ≡ x → Adds sets a b (x ∷ [])
adds-one sets a b item x e k m =
    record { more = item ∷ []; grown = e; known = AreItems-push sets [] item (AreItems-nil sets) k; meant = ap (λ (i : spec.Item). i ∷ []) m }

-- the first i operands, and one more
pub operands-more : (sets : Sets) (a b c : List Item) (marked : List Marked) (i : ℕ) (m : Marked) → i < length marked → m ≡ get_or marked i m → AreMarked sets marked → c ≡ b ++ Operand m ∷ [] → Adds sets a b (map spec.Operand (all_marked_of sets (take i marked))) → Adds sets a c (map spec.Operand (all_marked_of sets (take (i + 1) marked)))
operands-more sets a b c marked i m h e k g p =
    let known : IsMarked sets m = subst (IsMarked sets) (sym e) (k i m h) in
    let more : take (i + 1) marked ≡ take i marked ++ m ∷ [] = take_more marked i m h ∙ ap (λ (n : Marked). take i marked ++ n ∷ []) (sym e) in
    let shape : map spec.Operand (all_marked_of sets (take (i + 1) marked)) ≡ map spec.Operand (all_marked_of sets (take i marked)) ++ spec.Operand (marked_of sets m) ∷ [] =
    ap (λ (s : List Marked). map spec.Operand (all_marked_of sets s)) more ∙ ap (map spec.Operand) (map-append (marked_of sets) (take i marked) (m ∷ [])) ∙ map-append spec.Operand (all_marked_of sets (take i marked)) (marked_of sets m ∷ []) in
    adds-same sets a c _ _ (sym shape) (adds-on sets a b c _ _ p (adds-one sets b c (Operand m) (spec.Operand (marked_of sets m)) g known refl))

-- the first operand, with a space of its own, and the others
pub spaced-more : (sets : Sets) (a b c : List Item) (space : Bool) (marked : List Marked) (m first : Marked) → 0 < length marked → m ≡ get_or marked 0 m → first ≡ m → b ≡ a ++ Operand (record first { tok = record first.tok { space = space } }) ∷ [] → AreMarked sets marked → Adds sets b c (map spec.Operand (all_marked_of sets (drop 1 marked))) → Adds sets a c (spec.items_of (spec.first_spaced space (all_marked_of sets marked)))
spaced-more sets a b c space [] m first l e f g k p = absurd (omega arith)
spaced-more sets a b c space (x ∷ xs) m first l e f g k p =
    let same : first ≡ x = f ∙ e in
    let known : IsMarked sets first = subst (IsMarked sets) (sym same) (k 0 x l) in
    let item : spec.Operand (spec.spaced space (marked_of sets first)) ≡ spec.Operand (spec.spaced space (marked_of sets x)) = ap (λ (n : Marked). spec.Operand (spec.spaced space (marked_of sets n))) same in
    adds-on sets a b c (spec.Operand (spec.spaced space (marked_of sets x)) ∷ []) _ (adds-one sets a b (Operand (record first { tok = record first.tok { space = space } })) _ g known item) p
