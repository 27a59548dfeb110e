-- What a put changes in a map by bytes, and what a list of its entries finds.
use Rattle.std.proofs.Common.{◌≡◌, ℕ, Bool, true, false, cond, List, [], ◌∷◌, map, refl, sym, ap, subst, ◌∙◌}
use Rattle.std.specs.Prelude.{Option, Some}
use Rattle.std.specs.Option.{option_map}
use Rattle.std.specs.Cmp.Lexicographic.{bytes_decides, nat_list_eq_equiv}
use Rattle.std.specs.Map.{lookup, KeepsOthers}
use Rattle.std.specs.declared.alloc.Global.{Global}
use Rattle.std.specs.declared.vec.Vec.{Vec}
use Rattle.scan_model.specs.TokenTests.{same}
use Rattle.byte_keys.specs.Maps.{is_at, same_key, entry_by, PutChangesOne, EntriesFindAlike}

apart : (bytes other key : List ℕ) → same bytes other ≡ false → same bytes key ≡ true → same other key ≡ false
apart bytes other key n y = nat_list_eq_equiv.symm other key ∙ sym (nat_list_eq_equiv.congr bytes key other y) ∙ n

module _ {V : Type 0} (bytes : List ℕ) (value : V) (old new : List (Vec ℕ Global × V)) where
  others_kept : KeepsOthers same_key (is_at bytes) old new → (other : List ℕ) → same bytes other ≡ false → lookup (is_at other) new ≡ lookup (is_at other) old
  unfolding KeepsOthers
  others_kept kept other n = kept (is_at other) (λ x y. nat_list_eq_equiv.congr other x.items y.items) (λ k. apart bytes other k.items n)

  put_at : lookup (is_at bytes) new ≡ Some value → KeepsOthers same_key (is_at bytes) old new → (other : List ℕ) (b : Bool) → same bytes other ≡ b
      → lookup (is_at other) new ≡ cond b (Some value) (lookup (is_at other) old)
  put_at here kept other true is = subst (λ n. lookup (is_at n) new ≡ Some value) ((bytes_decides bytes other).0 is) here
  put_at here kept other false is = others_kept kept other is

pub put_changes_one : {V : Type 0} → PutChangesOne V
put_changes_one bytes key value old new is here kept other =
    put_at bytes value old new (subst (λ k. lookup (is_at k) new ≡ Some value) is here) (subst (λ k. KeepsOthers same_key (is_at k) old new) is kept) other (same bytes other) refl

module _ {V W : Type 0} (f : V → W) where
  pub option_map-cond : (b : Bool) (v : V) (o : Option V) → option_map f (cond b (Some v) o) ≡ cond b (Some (f v)) (option_map f o)
  option_map-cond true v o = refl
  option_map-cond false v o = refl

pub entries_find_alike : {V W : Type 0} → EntriesFindAlike V W
entries_find_alike f [] bytes = refl
entries_find_alike f (e ∷ es) bytes =
    ap (cond (same bytes e.0.items) (Some (f e.1))) (entries_find_alike f es bytes) ∙ sym (option_map-cond f (same bytes e.0.items) e.1 (lookup (is_at bytes) es))

-- where the values are seen as themselves
pub entries_find : {V : Type 0} (es : List (Vec ℕ Global × V)) (bytes : List ℕ) → lookup (same bytes) (map (entry_by (λ v. v)) es) ≡ lookup (is_at bytes) es
entries_find [] bytes = refl
entries_find (e ∷ es) bytes = ap (cond (same bytes e.0.items) (Some e.1)) (entries_find es bytes)
