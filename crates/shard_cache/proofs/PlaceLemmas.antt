-- How an index is read, and how it goes on.
use Rattle.std.proofs.Common.{◌≡◌, ◌≢◌, ◌<◌, ℕ, zero, suc, Bool, true, false, cond, List, [], ◌∷◌, ◌++◌, length, MutBor, All, refl, sym, ap, ◌∙◌, subst}
use Rattle.std.specs.Prelude.{Option, Some, None, slice_get, IsSome, is_some, Result, Ok, Err, is_err, OnOk, MatchOption}
use Rattle.std.specs.Option.{option_copied_mut}
use Rattle.std.specs.Map.{lookup, KeepsOthers}
use Rattle.std.specs.Cmp.Lexicographic.{bytes_decides}
use Rattle.std.specs.declared.alloc.Global.{Global}
use Rattle.std.specs.declared.vec.Vec.{Vec}
use Rattle.std.proofs.lemmas.List.Elements.{All-nil, All-cons}
use Rattle.std.proofs.lemmas.Option.{same_Some}
use Rattle.scan_model.specs.TokenTests.{same}
use Rattle.byte_keys.specs.Maps.{is_at, same_key}
use Rattle.byte_keys.proofs.MapLemmas.{put_changes_one, entries_find}
use Rattle.shard_cache.specs.Places.{entries, place_of, IsPlaced, last_of, last_place, IsIndexOf}

-- ## Equal paths

pub same_is : (p q : List ℕ) → same p q ≡ true → p ≡ q
same_is p q e = (bytes_decides p q).0 e

pub same_itself : (p : List ℕ) → same p p ≡ true
same_itself p = (bytes_decides p p).1 refl

true_false : true ≡ false → ⊥
true_false e = cc

pub other_paths : (p q : List ℕ) → same p q ≡ false → p ≢ q
other_paths p q not e = true_false (sym (same_itself p) ∙ (ap (λ z. same p z) e ∙ not))

pub some_none : {A : Type 0} (x : A) → Some x ≡ None → ⊥
some_none x e = cc

-- ## The last place

pub last_of_none : (b : Bool) (o : Option ℕ) → last_of b o ≡ None → (b ≡ false) × (o ≡ None)
last_of_none true None e = absurd (some_none zero e)
last_of_none false None e = (refl, refl)
last_of_none b (Some k) e = absurd (some_none (suc k) e)

last_of_end : (b : Bool) → last_of b None ≡ cond b (Some zero) None
last_of_end true = refl
last_of_end false = refl

last_of_more : (here b : Bool) (n : ℕ) (o : Option ℕ) → last_of here (cond b (Some n) o) ≡ cond b (Some (suc n)) (last_of here o)
last_of_more here true n o = refl
last_of_more here false n o = refl

module _ {X : Type 0} (path_of : X → List ℕ) where
  -- no element has a path that has no last place
  pub all_others : (xs : List X) (path : List ℕ) → last_place path_of xs path ≡ None → All (λ x. path_of x ≢ path) xs
  all_others [] path e = All-nil _
  all_others (x ∷ xs) path e =
      let h = last_of_none (same (path_of x) path) (last_place path_of xs path) e in
      All-cons (λ y. path_of y ≢ path) x xs (other_paths (path_of x) path h.0) (all_others xs path h.1)

  at_last : (x : X) (xs : List X) (path : List ℕ) (k : ℕ) (b : Bool) (o : Option ℕ) → same (path_of x) path ≡ b → last_place path_of xs path ≡ o → last_of b o ≡ Some k
      → ((j : ℕ) → last_place path_of xs path ≡ Some j → (y : X) × (slice_get xs j ≡ Some y) × (path_of y ≡ path))
      → (y : X) × (slice_get (x ∷ xs) k ≡ Some y) × (path_of y ≡ path)
  at_last x xs path k b (Some j) is last e rest =
      let found = rest j last in
      let at : suc j ≡ k = same_Some (suc j) k e in
      (found.0, subst (λ n. slice_get (x ∷ xs) n ≡ Some found.0) at found.1, found.2)
  at_last x xs path k true None is last e rest =
      let at : zero ≡ k = same_Some zero k e in
      (x, subst (λ n. slice_get (x ∷ xs) n ≡ Some x) at refl, same_is (path_of x) path is)
  at_last x xs path k false None is last e rest = absurd (some_none k (sym e))

  -- at the last place stands an element with the path
  pub last_has : (xs : List X) (path : List ℕ) (k : ℕ) → last_place path_of xs path ≡ Some k → (x : X) × (slice_get xs k ≡ Some x) × (path_of x ≡ path)
  last_has [] path k e = absurd (some_none k (sym e))
  last_has (x ∷ xs) path k e = at_last x xs path k (same (path_of x) path) (last_place path_of xs path) refl refl e (last_has xs path)

  -- one element more
  pub last_more : (xs : List X) (x : X) (path : List ℕ) → last_place path_of (xs ++ x ∷ []) path ≡ cond (same (path_of x) path) (Some (length xs)) (last_place path_of xs path)
  last_more [] x path = last_of_end (same (path_of x) path)
  last_more (y ∷ xs) x path =
      ap (λ o. last_of (same (path_of y) path) o) (last_more xs x path)
      ∙ last_of_more (same (path_of y) path) (same (path_of x) path) (length xs) (last_place path_of xs path)

-- ## Reading an index

module _ {X : Type 0} (path_of : X → List ℕ) (xs : List X) (places : List (List ℕ × ℕ)) (path : List ℕ) where
  absent_at : (o p : Option ℕ) → last_place path_of xs path ≡ o → place_of places path ≡ p → IsIndexOf path_of xs places
      → ((k : ℕ) (x : X) → p ≡ Some k → slice_get xs k ≡ Some x → path_of x ≡ path → ⊥) → All (λ x. path_of x ≢ path) xs
  absent_at None p last at index wrong = all_others path_of xs path last
  absent_at (Some k) p last at index wrong =
      let found = last_has path_of xs path k last in
      absurd (wrong k found.0 (sym at ∙ index path k last) found.1 found.2)

  -- where the index has no place, or one at which no element with the path stands, no element has the path
  pub absent : IsIndexOf path_of xs places → ((k : ℕ) (x : X) → place_of places path ≡ Some k → slice_get xs k ≡ Some x → path_of x ≡ path → ⊥) → All (λ x. path_of x ≢ path) xs
  absent index wrong = absent_at (last_place path_of xs path) (place_of places path) refl refl index wrong

-- ## An index that goes on

cond_at : {A : Type 0} (b : Bool) (x y : A) → b ≡ true → cond b x y ≡ x
cond_at b x y e = ap (λ c. cond c x y) e

cond_not : {A : Type 0} (b : Bool) (x y : A) → b ≡ false → cond b x y ≡ y
cond_not b x y e = ap (λ c. cond c x y) e

module _ {X : Type 0} (path_of : X → List ℕ) where
  step : (xs : List X) (x : X) (old new : List (List ℕ × ℕ)) (path : List ℕ) (k : ℕ) (b : Bool) → same (path_of x) path ≡ b → IsPlaced (path_of x) (length xs) old new → IsIndexOf path_of xs old
      → cond b (Some (length xs)) (last_place path_of xs path) ≡ Some k → place_of new path ≡ Some k
  step xs x old new path k true is placed index e = placed path ∙ (cond_at (same (path_of x) path) (Some (length xs)) (place_of old path) is ∙ e)
  step xs x old new path k false is placed index e = placed path ∙ (cond_not (same (path_of x) path) (Some (length xs)) (place_of old path) is ∙ index path k e)

  -- an element more, whose place was put into the index under its path
  pub index_more : (xs : List X) (x : X) (old new : List (List ℕ × ℕ)) → IsPlaced (path_of x) (length xs) old new → IsIndexOf path_of xs old → IsIndexOf path_of (xs ++ x ∷ []) new
  index_more xs x old new placed index path k e =
      step xs x old new path k (same (path_of x) path) refl placed index (sym (last_more path_of xs x path) ∙ e)

  early : (xs : List X) (path other : List ℕ) (j k : ℕ) (old new : List (List ℕ × ℕ)) (b : Bool) → same path other ≡ b → last_place path_of xs path ≡ None → IsPlaced path j old new → IsIndexOf path_of xs old
      → last_place path_of xs other ≡ Some k → place_of new other ≡ Some k
  early xs path other j k old new true is fresh placed index e =
      absurd (some_none k (sym e ∙ (ap (λ q. last_place path_of xs q) (sym (same_is path other is)) ∙ fresh)))
  early xs path other j k old new false is fresh placed index e = placed other ∙ (cond_not (same path other) (Some j) (place_of old other) is ∙ index other k e)

  -- a place that is put in for a path without an element leaves an index
  pub index_early : (xs : List X) (path : List ℕ) (j : ℕ) (old new : List (List ℕ × ℕ)) → last_place path_of xs path ≡ None → IsPlaced path j old new → IsIndexOf path_of xs old → IsIndexOf path_of xs new
  index_early xs path j old new fresh placed index other k e = early xs path other j k old new (same path other) refl fresh placed index e

  -- of nothing
  pub index_empty : (places : List (List ℕ × ℕ)) → IsIndexOf path_of [] places
  index_empty places path k e = absurd (some_none k (sym e))

-- what has a place keeps one
pub known_on : (path : List ℕ) (j : ℕ) (old new : List (List ℕ × ℕ)) → IsPlaced path j old new → (other : List ℕ) → IsSome (place_of old other) → IsSome (place_of new other)
known_on path j old new placed other some = subst IsSome (sym (placed other)) (either (same path other)) where
  either : (b : Bool) → IsSome (cond b (Some j) (place_of old other))
  either true = refl
  either false = some

-- ## The entries of the map

pub place_in : (es : List (Vec ℕ Global × ℕ)) (path : List ℕ) → place_of (entries es) path ≡ lookup (is_at path) es
unfolding place_of
place_in es path = entries_find es path

-- what a map tells of an entry that was put or changed
pub is_placed : (path key : List ℕ) (place : ℕ) (old new : List (Vec ℕ Global × ℕ)) → key ≡ path → lookup (is_at key) new ≡ Some place → KeepsOthers same_key (is_at key) old new → IsPlaced path place (entries old) (entries new)
is_placed path key place old new is here others other =
    place_in new other ∙ put_changes_one path key place old new is here others other ∙ ap (cond (same path other) (Some place)) (sym (place_in old other))

-- ## Reading a list

pub match_weaker : {X A C : Type 0} {B D : X → Type 0} (o : Option X) → (A → C) → ((x : X) → B x → D x) → MatchOption o A B → MatchOption o C D
match_weaker None f g m = f m
match_weaker (Some x) f g m = g x m

-- what holds at Ok holds of what is no Err
pub at_ok : {X Y U : Type 0} (r : Result X Y) → is_err r ≡ false → OnOk r U → U
at_ok (Ok x) e u = u
at_ok (Err y) e u = absurd (true_false e)

pub none_some : {A : Type 0} (r : Option (MutBor A)) (o : Option A) → option_copied_mut r ≡ o → r ≡ None → IsSome o → ⊥
none_some r o copied none some = true_false (sym some ∙ ap is_some (sym copied ∙ ap option_copied_mut none))
