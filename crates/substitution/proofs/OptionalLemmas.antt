-- The content of `__VA_OPT__`, item by item.
use Rattle.std.proofs.Common.{◌≡◌, sym, ◌∙◌, ap, subst, refl, ◌<◌, Bool, true, false, not, ◌&&◌, if◌then◌else◌, List, [], ◌∷◌, ◌++◌, length, arith, append_assoc}
use Rattle.std.proofs.lemmas.List.{append-nil}
use Rattle.hide_sets.specs.Sets.{Sets}
use Rattle.scan_model.specs.Substitution as spec
use Rattle.substitution.specs.declared.marked.Marked.{Marked}
use Rattle.substitution.specs.declared.item.Item.{Item}
use Rattle.substitution.specs.declared.item.Item.TheVariants.{Placemarker, Operand, Paste}
use Rattle.substitution.specs.Meaning.{all_marked_of, item_of, items_of, IsItem, AreItems, AreMarked}
use Rattle.substitution.specs.Joins.{stands, item_spaced}
use Rattle.substitution.specs.Calls.{Adds}
use Rattle.substitution.proofs.JoinLemmas.{AreItems-first, AreItems-rest}
use Rattle.substitution.proofs.AddLemmas.{adds-none, adds-on, adds-one}

-- ## Placemarkers

-- the tokens so far, and those of what is left
pub record Stripping (items : List Item) (marked : List Marked) (rest : List Item) : Type 0 where
  pub known : (sets : Sets) → AreItems sets items → AreMarked sets marked
  pub rest_known : (sets : Sets) → AreItems sets items → AreItems sets rest
  pub whole : (sets : Sets) → all_marked_of sets marked ++ spec.without_placemarkers (items_of sets rest) ≡ spec.without_placemarkers (items_of sets items)

strip-first : (sets : Sets) (item : Item) (rest : List spec.Item) → spec.without_placemarkers (item_of sets item ∷ rest) ≡ spec.without_placemarkers (item_of sets item ∷ []) ++ spec.without_placemarkers rest
strip-first sets Placemarker rest = refl
strip-first sets (Operand m) rest = refl
strip-first sets (Paste m) rest = refl

pub stripping-start : (items rest : List Item) (marked : List Marked) → rest ≡ items → marked ≡ [] → Stripping items marked rest
stripping-start items rest marked e m =
    record {
      known = λ sets h. subst (AreMarked sets) (sym m) (λ k d l. absurd (omega arith));
      rest_known = λ sets h. subst (AreItems sets) (sym e) h;
      whole = λ sets. ap (λ (s : List Marked). all_marked_of sets s ++ spec.without_placemarkers (items_of sets rest)) m ∙ ap (λ (s : List Item). spec.without_placemarkers (items_of sets s)) e;
    }

pub stripping-more : (items : List Item) (marked marked' : List Marked) (item : Item) (rest rest' : List Item) → rest ≡ item ∷ rest' → ((sets : Sets) → AreMarked sets marked → IsItem sets item → AreMarked sets marked') → ((sets : Sets) → all_marked_of sets marked' ≡ all_marked_of sets marked ++ spec.without_placemarkers (item_of sets item ∷ [])) → Stripping items marked rest → Stripping items marked' rest'
stripping-more items marked marked' item rest rest' e k v s =
    record {
      known = λ sets h. k sets (s.known sets h) (AreItems-first sets item rest' (subst (AreItems sets) e (s.rest_known sets h)));
      rest_known = λ sets h. AreItems-rest sets item rest' (subst (AreItems sets) e (s.rest_known sets h));
      whole = λ sets. let after = spec.without_placemarkers (items_of sets rest') in
          ap (λ (x : List spec.Marked). x ++ after) (v sets) ∙ append_assoc (all_marked_of sets marked) (spec.without_placemarkers (item_of sets item ∷ [])) after
          ∙ ap (λ (x : List spec.Marked). all_marked_of sets marked ++ x) (sym (strip-first sets item (items_of sets rest')))
          ∙ ap (λ (x : List Item). all_marked_of sets marked ++ spec.without_placemarkers (items_of sets x)) (sym e) ∙ s.whole sets;
    }

-- ## The first token's space

abbrev pub spaced_if : Bool → Bool → List spec.Item → List spec.Item
spaced_if first space items = if first then spec.first_item_spaced space items else items

-- the items so far, and those of what is left, whose first token takes the space if none has yet
pub record Spacing (sets : Sets) (old new content rest : List Item) (space first : Bool) : Type 0 where
  pub done : List spec.Item
  pub added : Adds sets old new done
  pub rest_known : AreItems sets rest
  pub whole : done ++ spaced_if first space (items_of sets rest) ≡ spec.first_item_spaced space (items_of sets content)

space-first : (sets : Sets) (first space : Bool) (item : Item) (rest : List spec.Item) → spaced_if first space (item_of sets item ∷ rest) ≡ (if first then item_spaced space (item_of sets item) else item_of sets item) ∷ spaced_if (first && not (stands item)) space rest
space-first sets true space Placemarker rest = refl
space-first sets true space (Operand m) rest = refl
space-first sets true space (Paste m) rest = refl
space-first sets false space item rest = refl

pub spacing-start : (sets : Sets) (old content rest : List Item) (space : Bool) → rest ≡ content → AreItems sets content → Spacing sets old old content rest space true
spacing-start sets old content rest space e h =
    record { done = []; added = adds-none sets old; rest_known = subst (AreItems sets) (sym e) h; whole = ap (λ (s : List Item). spec.first_item_spaced space (items_of sets s)) e }

pub spacing-more : (sets : Sets) (old new new' content rest rest' : List Item) (space first first' : Bool) (item item' : Item) → rest ≡ item ∷ rest' → new' ≡ new ++ item' ∷ [] → first' ≡ (first && not (stands item)) → (IsItem sets item → IsItem sets item') → item_of sets item' ≡ (if first then item_spaced space (item_of sets item) else item_of sets item) → Spacing sets old new content rest space first → Spacing sets old new' content rest' space first'
spacing-more sets old new new' content rest rest' space first first' item item' e g f k v s =
    let all : AreItems sets (item ∷ rest') = subst (AreItems sets) e s.rest_known in
    let one = adds-one sets new new' item' (item_of sets item') g (k (AreItems-first sets item rest' all)) refl in
    let after = spaced_if first' space (items_of sets rest') in
    record {
      done = s.done ++ item_of sets item' ∷ [];
      added = adds-on sets old new new' s.done (item_of sets item' ∷ []) s.added one;
      rest_known = AreItems-rest sets item rest' all;
      whole = append_assoc s.done (item_of sets item' ∷ []) after
          ∙ ap (λ (x : spec.Item). s.done ++ (x ∷ after)) v
          ∙ ap (λ (b : Bool). s.done ++ ((if first then item_spaced space (item_of sets item) else item_of sets item) ∷ spaced_if b space (items_of sets rest'))) f
          ∙ ap (λ (x : List spec.Item). s.done ++ x) (sym (space-first sets first space item (items_of sets rest')))
          ∙ ap (λ (x : List Item). s.done ++ spaced_if first space (items_of sets x)) (sym e) ∙ s.whole;
    }

pub spacing-end : (sets : Sets) (old new content rest : List Item) (space first : Bool) → rest ≡ [] → Spacing sets old new content rest space first → Adds sets old new (spec.first_item_spaced space (items_of sets content))
spacing-end sets old new content rest space first e s =
    let none : (b : Bool) → spaced_if b space [] ≡ [] = λ b. elim b as (λ v. spaced_if v space [] ≡ []) [ true ↦ refl | false ↦ refl ] in
    subst (Adds sets old new) (sym (append-nil s.done) ∙ ap (λ (x : List spec.Item). s.done ++ x) (sym (none first)) ∙ ap (λ (x : List Item). s.done ++ spaced_if first space (items_of sets x)) (sym e) ∙ s.whole) s.added

pub or_placemarker-some : (sets : Sets) (content : List Item) → 0 < length content → items_of sets content ≡ spec.or_placemarker (items_of sets content)
or_placemarker-some sets [] h = absurd (omega arith)
or_placemarker-some sets (x ∷ content) h = refl
