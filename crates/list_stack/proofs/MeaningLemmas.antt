-- What opened and cut lists mean, and that nothing is lost.
use Rattle.std.proofs.Common.{◌≡◌, ◌∙◌, ap, refl, ℕ, zero, suc, ◌<◌, Bool, true, false, ◌&&◌, ◌==◌, if◌then◌else◌, List, [], ◌∷◌, length, map, arith}
use Rattle.std.specs.Prelude.{Option, Some, None}
use Rattle.std.specs.Option.{option_map}
use Rattle.std.specs.List.{onto_first}
use Rattle.hide_sets.specs.Sets.{Sets}
use Rattle.scan_model.specs.Substitution as spec
use Rattle.scan_model.specs.TokenTests.{is_comma, is_open_paren, is_close_paren}
use Rattle.scan_model.specs.Parentheses.{Enclosed, onto_inside, enclosed, in_parens, depth_after}
use Rattle.scan_model.specs.Expansion.{cut_at_commas}
use Rattle.substitution.specs.declared.marked.Marked.{Marked}
use Rattle.substitution.specs.Meaning.{marked_of, all_marked_of}
use Rattle.list_stack.specs.Stacks.{cut_lists}

abbrev pub all_lists_of : Sets → List (List Marked) → List (List spec.Marked)
all_lists_of sets lists = map (all_marked_of sets) lists

abbrev pub enclosed_of : Sets → Enclosed Marked → Enclosed spec.Marked
enclosed_of sets e = record { inside = all_marked_of sets e.inside; close = marked_of sets e.close; after = all_marked_of sets e.after }

-- ## Parentheses

enclosed-if : (sets : Sets) (b : Bool) (x y : Option (Enclosed Marked)) (x' y' : Option (Enclosed spec.Marked)) →
    option_map (enclosed_of sets) x ≡ x' → option_map (enclosed_of sets) y ≡ y' → option_map (enclosed_of sets) (if b then x else y) ≡ (if b then x' else y')
enclosed-if sets true x y x' y' h k = h
enclosed-if sets false x y x' y' h k = k

enclosed-onto : (sets : Sets) (m : Marked) (o : Option (Enclosed Marked)) →
    option_map (enclosed_of sets) (option_map (onto_inside m) o) ≡ option_map (onto_inside (marked_of sets m)) (option_map (enclosed_of sets) o)
enclosed-onto sets m None = refl
enclosed-onto sets m (Some e) = refl

pub enclosed-meant : (sets : Sets) (depth : ℕ) (ms : List Marked) →
    option_map (enclosed_of sets) (enclosed (λ m. m.tok) depth ms) ≡ enclosed (λ m. m.tok) depth (all_marked_of sets ms)
enclosed-meant sets depth [] = refl
enclosed-meant sets depth (m ∷ ms) =
    enclosed-if sets (depth == 0 && is_close_paren m.tok) _ _ _ _ refl
    (enclosed-onto sets m (enclosed (λ m. m.tok) (depth_after m.tok depth) ms) ∙ ap (option_map (onto_inside (marked_of sets m))) (enclosed-meant sets (depth_after m.tok depth) ms))

pub in_parens-meant : (sets : Sets) (ms : List Marked) →
    option_map (enclosed_of sets) (in_parens (λ m. m.tok) ms) ≡ in_parens (λ m. m.tok) (all_marked_of sets ms)
in_parens-meant sets [] = refl
in_parens-meant sets (m ∷ ms) = enclosed-if sets (is_open_paren m.tok) _ _ _ _ (enclosed-meant sets 0 ms) refl

-- ## Lists cut at commas

lists-if : (sets : Sets) (b : Bool) (x y : List (List Marked)) (x' y' : List (List spec.Marked)) →
    all_lists_of sets x ≡ x' → all_lists_of sets y ≡ y' → all_lists_of sets (if b then x else y) ≡ (if b then x' else y')
lists-if sets true x y x' y' h k = h
lists-if sets false x y x' y' h k = k

lists-onto : (sets : Sets) (m : Marked) (lists : List (List Marked)) → all_lists_of sets (onto_first m lists) ≡ onto_first (marked_of sets m) (all_lists_of sets lists)
lists-onto sets m [] = refl
lists-onto sets m (list ∷ lists) = refl

pub cut_lists-meant : (sets : Sets) (k depth : ℕ) (ms : List Marked) → all_lists_of sets (cut_lists k depth ms) ≡ cut_at_commas k depth (all_marked_of sets ms)
cut_lists-meant sets k depth [] = refl
cut_lists-meant sets zero depth (m ∷ ms) = refl
cut_lists-meant sets (suc k) depth (m ∷ ms) =
    lists-if sets (depth == 0 && is_comma m.tok) _ _ _ _
    (ap (λ (lists : List (List spec.Marked)). [] ∷ lists) (cut_lists-meant sets k depth ms))
    (lists-onto sets m (cut_lists (suc k) (depth_after m.tok depth) ms) ∙ ap (onto_first (marked_of sets m)) (cut_lists-meant sets (suc k) (depth_after m.tok depth) ms))

-- ## There is always a list

onto_first-some : (m : Marked) (lists : List (List Marked)) → 0 < length (onto_first m lists)
onto_first-some m [] = omega arith
onto_first-some m (list ∷ lists) = omega arith

some-if : (b : Bool) (x y : List (List Marked)) → 0 < length x → 0 < length y → 0 < length (if b then x else y)
some-if true x y h k = h
some-if false x y h k = k

pub cut_lists-some : (k depth : ℕ) (ms : List Marked) → 0 < length (cut_lists k depth ms)
cut_lists-some k depth [] = omega arith
cut_lists-some zero depth (m ∷ ms) = omega arith
cut_lists-some (suc k) depth (m ∷ ms) =
    some-if (depth == 0 && is_comma m.tok) ([] ∷ cut_lists k depth ms) (onto_first m (cut_lists (suc k) (depth_after m.tok depth) ms))
    (omega arith) (onto_first-some m (cut_lists (suc k) (depth_after m.tok depth) ms))
