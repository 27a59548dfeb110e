-- What tokens and items mean, in tables that grow.
use Rattle.std.proofs.Common.{◌≡◌, ap, refl, Bool, List, ℕ, suc, [], ◌∷◌, get_or, arith}
use Rattle.hide_sets.specs.Sets.{Sets, Extends}
use Rattle.hide_sets.proofs.Growing.{hides_of-Extends, IsSet-Extends}
use Rattle.scan_model.specs.Substitution as subst
use Rattle.substitution.specs.declared.marked.Marked.{Marked}
use Rattle.substitution.specs.declared.item.Item.{Item}
use Rattle.substitution.specs.declared.item.Item.TheVariants.{Placemarker, Operand, Paste}
use Rattle.substitution.specs.Meaning.{marked_of, all_marked_of, item_of, items_of, IsMarked, AreMarked, IsItem, AreItems}

pub marked_of-Extends : (old new : Sets) (m : Marked) → Extends old new → IsMarked old m → marked_of new m ≡ marked_of old m
marked_of-Extends old new m e h =
    ap (λ (f : List ℕ → Bool). let made : subst.Marked = record { tok = m.tok; hides = f } in made) (hides_of-Extends old new m.hides e h)

pub all_marked_of-Extends : (old new : Sets) (ms : List Marked) → Extends old new → AreMarked old ms → all_marked_of new ms ≡ all_marked_of old ms
all_marked_of-Extends old new [] e h = refl
all_marked_of-Extends old new (m ∷ ms) e h =
    let one = marked_of-Extends old new m e (h 0 m (omega arith)) in
    let rest = all_marked_of-Extends old new ms e (λ k d l. h (suc k) d (omega arith)) in
    cc

pub AreMarked-Extends : (old new : Sets) (ms : List Marked) → Extends old new → AreMarked old ms → AreMarked new ms
AreMarked-Extends old new ms e h = λ k d l. IsSet-Extends old new (get_or ms k d).hides e (h k d l)

pub item_of-Extends : (old new : Sets) (item : Item) → Extends old new → IsItem old item → item_of new item ≡ item_of old item
item_of-Extends old new Placemarker e h = refl
item_of-Extends old new (Operand m) e h = ap subst.Operand (marked_of-Extends old new m e h)
item_of-Extends old new (Paste m) e h = ap subst.Paste (marked_of-Extends old new m e h)

pub IsItem-Extends : (old new : Sets) (item : Item) → Extends old new → IsItem old item → IsItem new item
IsItem-Extends old new Placemarker e h = h
IsItem-Extends old new (Operand m) e h = IsSet-Extends old new m.hides e h
IsItem-Extends old new (Paste m) e h = IsSet-Extends old new m.hides e h

pub items_of-Extends : (old new : Sets) (items : List Item) → Extends old new → AreItems old items → items_of new items ≡ items_of old items
items_of-Extends old new [] e h = refl
items_of-Extends old new (item ∷ items) e h =
    let one = item_of-Extends old new item e (h 0 item (omega arith)) in
    let rest = items_of-Extends old new items e (λ k d l. h (suc k) d (omega arith)) in
    cc

pub AreItems-Extends : (old new : Sets) (items : List Item) → Extends old new → AreItems old items → AreItems new items
AreItems-Extends old new items e h = λ k d l. IsItem-Extends old new (get_or items k d) e (h k d l)
