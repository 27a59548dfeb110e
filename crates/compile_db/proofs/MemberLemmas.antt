-- An object's members after one is taken out.
use Rattle.std.proofs.Common.{◌≡◌, ◌≢◌, List, [], ◌∷◌, ℕ, Bool, true, false, cond, Some, String, Global, nat_cmp, refl, sym, ap, ◌∙◌}
use Rattle.std.proofs.lemmas.Map.Text.{is_eq-slice_cmp}
use Rattle.std.proofs.lemmas.Slice.Eq.{bytes_eq-Decides}
use Rattle.std.specs.BTreeMap.{is_at}
use Rattle.std.specs.Cmp.Lexicographic.{slice_cmp}
use Rattle.std.specs.Map.{remove_entry}
use Rattle.std.specs.Ordering.{match_ordering}
use Rattle.std.specs.String.{string_bytes}
use Rattle.serde_json.specs.Find.{get_member}
use Rattle.serde_json.specs.View.{view, members_view}
use Rattle.serde_json.specs.declared.value.Value.{Value}
use Rattle.serde_json.proofs.Views.{member_later}

abbrev Member : Type 0
Member = String Global × Value

-- whether a key is this name
abbrev pub is_named : List ℕ → String Global → Bool
is_named name key = is_at (λ k. slice_cmp nat_cmp name (string_bytes k)) key

name_at : (name : List ℕ) (key : String Global) → is_named name key ≡ true → name ≡ string_bytes key
name_at name key h = (bytes_eq-Decides name (string_bytes key)).0 (sym (is_eq-slice_cmp name (string_bytes key)) ∙ h)

removed_first : (named : Bool) (name other : List ℕ) (e : Member) (es rest : List Member) → is_named name e.0 ≡ named → other ≢ name
    → get_member other (members_view rest) ≡ get_member other (members_view es)
    → get_member other (members_view (cond named es (e ∷ rest))) ≡ get_member other (members_view (e ∷ es))
removed_first true name other e es rest here apart later = sym (member_later other e es (λ same. apart (same ∙ sym (name_at name e.0 here))))
removed_first false name other e es rest here apart later =
    ap (λ found. match_ordering (slice_cmp nat_cmp other (string_bytes e.0)) found (Some (view e.1)) found) later

-- the members of other names stay
pub get_member-remove_entry : (name other : List ℕ) (es : List Member) → other ≢ name
    → get_member other (members_view (remove_entry (is_named name) es)) ≡ get_member other (members_view es)
get_member-remove_entry name other [] apart = refl
get_member-remove_entry name other (e ∷ es) apart = removed_first (is_named name e.0) name other e es _ refl apart (get_member-remove_entry name other es apart)
