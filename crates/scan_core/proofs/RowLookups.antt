-- A look-up in the table is one in the rows.
use Rattle.std.proofs.Common.{◌≡◌, ℕ, Bool, true, false, cond, if◌then◌else◌, List, [], ◌∷◌, map, refl, sym, subst, Option, Some, nat_eq}
use Rattle.std.specs.Option.{option_map}
use Rattle.std.specs.Bool.{one_answer}
use Rattle.std.specs.Cmp.Lexicographic.{pointwise}
use Rattle.std.specs.Map.{lookup}
use Rattle.std.proofs.lemmas.Slice.Eq.{bytes_eq-Decides}
use Rattle.scan_model.specs.Files.{Content}
use Rattle.scan_model.specs.TokenTests.{same}
use Rattle.cache_machine.specs.Rows.{Held, held_at}
use Rattle.scan_core.specs.declared.seat.Kept.{Kept}
use Rattle.scan_core.specs.Inside.{Entry, held_of, row_of}

same_back : (a b : List ℕ) → same a b ≡ same b a
same_back a b =
    one_answer (same a b) (same b a) (bytes_eq-Decides a b) ((λ h. sym ((bytes_eq-Decides b a).0 h)), (λ e. (bytes_eq-Decides b a).1 (sym e)))

module _ {R : Type 0} (content : R → Content (List ℕ)) where
  one_held : (held : Kept R) (later : Option Held) (found : Option (Kept R)) (b c : Bool) → b ≡ c → later ≡ option_map (held_of content) found →
      (if b then Some (held_of content held) else later) ≡ option_map (held_of content) (cond c (Some held) found)
  one_held held later found b true e h = subst (λ z. (if z then Some (held_of content held) else later) ≡ Some (held_of content held)) (sym e) refl
  one_held held later found b false e h = subst (λ z. (if z then Some (held_of content held) else later) ≡ option_map (held_of content) found) (sym e) h

  pub held_looked_up : (entries : List (Entry R)) (path : List ℕ) →
      held_at (map (row_of content) entries) path ≡ option_map (held_of content) (lookup (λ key. pointwise nat_eq path key.items) entries)
  held_looked_up [] path = refl
  held_looked_up (entry ∷ entries) path =
      one_held entry.1 (held_at (map (row_of content) entries) path) (lookup (λ key. pointwise nat_eq path key.items) entries)
      (same entry.0.items path) (same path entry.0.items) (same_back entry.0.items path) (held_looked_up entries path)
