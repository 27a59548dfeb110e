-- What stands after `defined`.
use Rattle.std.proofs.Common.{◌≡◌, sym, ◌∙◌, ap, refl, ℕ, Bool, true, false, ◌&&◌, if◌then◌else◌, List, [], ◌∷◌}
use Rattle.std.specs.Prelude.{Option, Some, None, drop}
use Rattle.std.specs.Option.{option_map}
use Rattle.hide_sets.specs.Sets.{Sets}
use Rattle.scan_model.specs.declared.token.Kind.TheVariants.{Ident}
use Rattle.scan_model.specs.TokenTests.{is_of, is_open_paren, is_close_paren}
use Rattle.scan_model.specs.Substitution as spec
use Rattle.scan_model.specs.Expansion as expansion
use Rattle.scan_model.specs.Expansion.{defined_name}
use Rattle.substitution.specs.declared.marked.Marked.{Marked}
use Rattle.substitution.specs.Meaning.{all_marked_of}
use Rattle.expansion_laws.specs.Turns.{expands}
use Rattle.expansion.specs.Lists.{defined_at}

abbrev pub found_in : Sets → List Marked → List ℕ × ℕ → List ℕ × List spec.Marked
found_in sets todo found = (found.0, all_marked_of sets (drop found.1 todo))

map-if : (f : List ℕ × ℕ → List ℕ × List spec.Marked) (b : Bool) (x y : Option (List ℕ × ℕ)) → option_map f (if b then x else y) ≡ (if b then option_map f x else option_map f y)
map-if f true x y = refl
map-if f false x y = refl

pub defined-means : (e : expansion.Scope) (sets : Sets) (todo : List Marked) → defined_name (expands e) e (all_marked_of sets todo) ≡ option_map (found_in sets todo) (defined_at todo)
defined-means e sets [] = refl
defined-means e sets (p ∷ []) = sym (map-if (found_in sets (p ∷ [])) (is_of Ident p.tok) (Some (p.tok.text, 1)) None)
defined-means e sets (p ∷ x ∷ []) = sym (map-if (found_in sets (p ∷ x ∷ [])) (is_of Ident p.tok) (Some (p.tok.text, 1)) None)
defined-means e sets (p ∷ x ∷ q ∷ rest) =
    let todo : List Marked = p ∷ x ∷ q ∷ rest in
    let in_parens : Bool = is_open_paren p.tok && is_of Ident x.tok && is_close_paren q.tok in
    sym (map-if (found_in sets todo) (is_of Ident p.tok) (Some (p.tok.text, 1)) (if in_parens then Some (x.tok.text, 3) else None)
    ∙ ap (λ (o : Option (List ℕ × List spec.Marked)). if is_of Ident p.tok then Some (p.tok.text, all_marked_of sets (x ∷ q ∷ rest)) else o) (map-if (found_in sets todo) in_parens (Some (x.tok.text, 3)) None))
