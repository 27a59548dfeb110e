-- Joins by `##`, from left to right.
use Rattle.std.proofs.Common.{◌≡◌, sym, ◌∙◌, ap, subst, refl, suc, ◌<◌, ◌≤◌, ⊎_elim, List, [], ◌∷◌, ◌++◌, length, get_or, Option, Some, None, IfSome, option_map, option_and_then, option_to_list, arith, append_assoc}
use Rattle.std.proofs.lemmas.List.{map-append, length_push, get_or_append_left, get_or_push}
use Rattle.std.proofs.lemmas.Bool.{cases_lt}
use Rattle.hide_sets.specs.Sets.{Sets, Extends}
use Rattle.hide_sets.proofs.Growing.{Extends-itself, Extends-on}
use Rattle.scan_model.specs.Substitution as spec
use Rattle.substitution.specs.declared.marked.Marked.{Marked}
use Rattle.substitution.specs.declared.item.Item.{Item}
use Rattle.substitution.specs.declared.item.Item.TheVariants.{Placemarker, Operand, Paste}
use Rattle.substitution.specs.Meaning.{item_of, items_of, IsItem, AreItems, GivesItem}
use Rattle.substitution.specs.Joins.{joined_with}
use Rattle.substitution.proofs.MeaningLemmas.{items_of-Extends, AreItems-Extends}

-- ## Lists of items

pub AreItems-first : (sets : Sets) (item : Item) (items : List Item) → AreItems sets (item ∷ items) → IsItem sets item
AreItems-first sets item items h = h 0 item (omega arith)

pub AreItems-rest : (sets : Sets) (item : Item) (items : List Item) → AreItems sets (item ∷ items) → AreItems sets items
AreItems-rest sets item items h = λ k d l. h (suc k) d (omega arith)

pub AreItems-nil : (sets : Sets) → AreItems sets []
AreItems-nil sets = λ k d l. absurd (omega arith)

pub AreItems-push : (sets : Sets) (items : List Item) (item : Item) → AreItems sets items → IsItem sets item → AreItems sets (items ++ item ∷ [])
AreItems-push sets items item h p = λ k d l. ⊎_elim
    (λ (i : k < length items). let q : IsItem sets (get_or items k d) = h k d i in rw (get_or_append_left items (item ∷ []) d k i) q)
    (λ (i : length items ≤ k). let e : length items ≡ k = omega (arith, length_push items item) in rw (get_or_push items item d k e) p)
    (cases_lt k (length items))

pub AreItems-option : (sets : Sets) (right : Option Item) (items : List Item) → AreItems sets (option_to_list right ++ items) → IfSome right (IsItem sets) × AreItems sets items
AreItems-option sets None items h = (tt, h)
AreItems-option sets (Some right) items h = (AreItems-first sets right items h, AreItems-rest sets right items h)

-- ## The walk

-- What is done, and what is left to join, make the whole.
pub record Joining (old sets : Sets) (items done : List Item) (left : Item) (rest : List Item) : Type 0 where
  pub extended : Extends old sets
  pub done_known : AreItems sets done
  pub left_known : IsItem sets left
  pub rest_known : AreItems sets rest
  pub whole : option_map (items_of sets done ++◌) (spec.joined_onto (item_of sets left) (items_of sets rest)) ≡ spec.joined (items_of old items)

pub append-none : (o : Option (List spec.Item)) → option_map ([] ++◌) o ≡ o
append-none None = refl
append-none (Some x) = refl

map-push : (done : List spec.Item) (x : spec.Item) (o : Option (List spec.Item)) → option_map ((done ++ x ∷ []) ++◌) o ≡ option_map (done ++◌) (option_map (x ∷◌) o)
map-push done x None = refl
map-push done x (Some xs) = ap Some (append_assoc done (x ∷ []) xs)

pub joining-start : (sets : Sets) (items done : List Item) (first : Item) (rest : List Item) → AreItems sets items → items ≡ first ∷ rest → done ≡ [] → Joining sets sets items done first rest
joining-start sets items done first rest h e d =
    let all : AreItems sets (first ∷ rest) = subst (AreItems sets) e h in
    record {
      extended = Extends-itself sets;
      done_known = subst (AreItems sets) (sym d) (AreItems-nil sets);
      left_known = AreItems-first sets first rest all;
      rest_known = AreItems-rest sets first rest all;
      whole = ap (λ (s : List Item). option_map (items_of sets s ++◌) (spec.joined_onto (item_of sets first) (items_of sets rest))) d ∙ append-none (spec.joined_onto (item_of sets first) (items_of sets rest)) ∙ ap (λ (s : List Item). spec.joined (items_of sets s)) (sym e);
    }

-- an item that isn't a `##` comes next
onto-next : (sets : Sets) (left item : Item) (rest : List Item) → ((m : Marked) → item ≡ Paste m → ⊥) → spec.joined_onto (item_of sets left) (items_of sets (item ∷ rest)) ≡ option_map (item_of sets left ∷◌) (spec.joined_onto (item_of sets item) (items_of sets rest))
onto-next sets left Placemarker rest h = refl
onto-next sets left (Operand m) rest h = refl
onto-next sets left (Paste m) rest h = absurd (h m refl)

pub joining-next : (old sets : Sets) (items done done' : List Item) (left item : Item) (rest rest' : List Item) → rest ≡ item ∷ rest' → ((m : Marked) → item ≡ Paste m → ⊥) → done' ≡ done ++ left ∷ [] → Joining old sets items done left rest → Joining old sets items done' item rest'
joining-next old sets items done done' left item rest rest' e n d j =
    let all : AreItems sets (item ∷ rest') = subst (AreItems sets) e j.rest_known in
    let pushed : items_of sets done' ≡ items_of sets done ++ item_of sets left ∷ [] = ap (items_of sets) d ∙ map-append (item_of sets) done (left ∷ []) in
    let after = spec.joined_onto (item_of sets item) (items_of sets rest') in
    record {
      extended = j.extended;
      done_known = subst (AreItems sets) (sym d) (AreItems-push sets done left j.done_known j.left_known);
      left_known = AreItems-first sets item rest' all;
      rest_known = AreItems-rest sets item rest' all;
      whole = ap (λ (s : List spec.Item). option_map (s ++◌) after) pushed ∙ map-push (items_of sets done) (item_of sets left) after ∙ ap (option_map (items_of sets done ++◌)) (sym (onto-next sets left item rest' n)) ∙ ap (λ (s : List Item). option_map (items_of sets done ++◌) (spec.joined_onto (item_of sets left) (items_of sets s))) (sym e) ∙ j.whole;
    }

-- a `##` comes next
onto-paste : (sets : Sets) (left : Item) (m : Marked) (right : Option Item) (rest : List Item) → (right ≡ None → rest ≡ []) → spec.joined_onto (item_of sets left) (items_of sets (Paste m ∷ (option_to_list right ++ rest))) ≡ option_and_then (λ z. spec.joined_onto z (items_of sets rest)) (joined_with (item_of sets left) (option_map (item_of sets) right))
onto-paste sets left m None rest h = let e : rest ≡ [] = h refl in rw e
onto-paste sets left m (Some right) rest h = refl

-- what the `##` makes is what is left of a larger table
pub joining-paste : (old sets sets' : Sets) (items done : List Item) (left whole : Item) (m : Marked) (right : Option Item) (rest rest' : List Item) → rest ≡ Paste m ∷ (option_to_list right ++ rest') → (right ≡ None → rest' ≡ []) → Extends sets sets' → GivesItem sets' (joined_with (item_of sets left) (option_map (item_of sets) right)) (Some whole) → Joining old sets items done left rest → Joining old sets' items done whole rest'
joining-paste old sets sets' items done left whole m right rest rest' e n x g j =
    let all : AreItems sets (Paste m ∷ (option_to_list right ++ rest')) = subst (AreItems sets) e j.rest_known in
    let r : AreItems sets rest' = (AreItems-option sets right rest' (AreItems-rest sets (Paste m) (option_to_list right ++ rest') all)).1 in
    let front : items_of sets' done ≡ items_of sets done = items_of-Extends sets sets' done x j.done_known in
    let back : items_of sets' rest' ≡ items_of sets rest' = items_of-Extends sets sets' rest' x r in
    let onto = onto-paste sets left m right rest' n in
    let one : option_and_then (λ z. spec.joined_onto z (items_of sets rest')) (joined_with (item_of sets left) (option_map (item_of sets) right)) ≡ spec.joined_onto (item_of sets' whole) (items_of sets rest') = ap (option_and_then (λ z. spec.joined_onto z (items_of sets rest'))) (sym g.meant) in
    record {
      extended = Extends-on old sets sets' j.extended x;
      done_known = AreItems-Extends sets sets' done x j.done_known;
      left_known = g.known;
      rest_known = AreItems-Extends sets sets' rest' x r;
      whole = ap (λ (s : List spec.Item). option_map (s ++◌) (spec.joined_onto (item_of sets' whole) (items_of sets' rest'))) front
          ∙ ap (λ (s : List spec.Item). option_map (items_of sets done ++◌) (spec.joined_onto (item_of sets' whole) s)) back
          ∙ ap (option_map (items_of sets done ++◌)) (sym one) ∙ ap (option_map (items_of sets done ++◌)) (sym onto)
          ∙ ap (λ (s : List Item). option_map (items_of sets done ++◌) (spec.joined_onto (item_of sets left) (items_of sets s))) (sym e) ∙ j.whole;
    }
