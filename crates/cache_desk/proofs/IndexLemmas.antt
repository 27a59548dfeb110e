-- What the index of a shard's events tells.
use Rattle.std.proofs.Common.{◌≡◌, ◌≢◌, ◌<◌, ◌≤◌, ◌+◌, ◌⊎◌, ℕ, zero, suc, Bool, true, false, List, [], ◌∷◌, ◌++◌, length, get_or, All, refl, sym, ap, ◌∙◌, subst, arith}
use Rattle.std.specs.Prelude.{Option, Some, None, slice_get, IsSome, Contains}
use Rattle.std.proofs.lemmas.List.Elements.{All-weaker, All-contains, All-contains_itself}
use Rattle.std.proofs.lemmas.List.{length-append}
use Rattle.std.proofs.lemmas.Option.{slice_get-get_or, same_Some, slice_get_within}
use Rattle.scan_model.specs.declared.Outcome.{Outcome}
use Rattle.scan_model.specs.TokenTests.{same}
use Rattle.shard_cache.specs.declared.KeptRow.{KeptRow}
use Rattle.shard_cache.specs.Places.{place_of, last_of, last_place, IsIndexOf}
use Rattle.shard_cache.proofs.PlaceLemmas.{all_others, last_has, same_is, same_itself, some_none, last_of_none}
use Rattle.cache_desk.specs.declared.entry.Event.{Event}
use Rattle.cache_desk.specs.declared.entry.Event.TheVariants as EventIs
use Rattle.cache_desk.specs.declared.happened.Happened.{Happened}
use Rattle.cache_desk.specs.declared.happened.Happened.TheVariants as HappenedIs
use Rattle.cache_desk.specs.Log.{Standing, Free, Claimed, left_by, after, standing_from, standing}
use Rattle.std.specs.Option.{ForSome}
use Rattle.cache_desk.specs.Desk.{path_of, entry_of, entries, row_in, row_and, rows_in}
use Rattle.reducer.proofs.ReducedLemmas.{all_at}

left_not_free : (by : ℕ) (event : Event) → left_by by event ≢ Free
left_not_free by EventIs.Claimed e = cc
left_not_free by (EventIs.Published o b) e = cc

module _ {S O G : Type 0} (outcome : G → Outcome) (bytes : G → List ℕ) (path : List ℕ) where
  path_is : (h : Happened S O G) → (entry_of outcome bytes h).path ≡ path_of h
  path_is (HappenedIs.Claim c) = refl
  path_is (HappenedIs.Publication p) = refl

  -- how an event leaves the path, by whether it is the path's
  abbrev pub left_after : Bool → Standing → Happened S O G → Standing
  left_after b s h = after b s (entry_of outcome bytes h)

  step : (s : Standing) (h : Happened S O G) (events : List (Happened S O G))
      → standing_from s (entries outcome bytes (h ∷ events)) path ≡ standing_from (left_after (same (path_of h) path) s h) (entries outcome bytes events) path
  step s h events = ap (λ p. standing_from (left_after (same p path) s h) (entries outcome bytes events) path) (path_is h)

  -- a path without an event stands as it stood
  stays : (s : Standing) (events : List (Happened S O G)) → last_place path_of events path ≡ None → standing_from s (entries outcome bytes events) path ≡ s
  stays s [] e = refl
  stays s (h ∷ events) e =
      let n = last_of_none (same (path_of h) path) (last_place path_of events path) e in
      step s h events ∙ (ap (λ b. standing_from (left_after b s h) (entries outcome bytes events) path) n.0 ∙ stays s events n.1)

  last_step : (s : Standing) (h : Happened S O G) (events : List (Happened S O G)) (k : ℕ) (e : Happened S O G) (b : Bool) (o : Option ℕ) → same (path_of h) path ≡ b → last_place path_of events path ≡ o → last_of b o ≡ Some k
      → slice_get (h ∷ events) k ≡ Some e
      → ((t : Standing) (j : ℕ) → last_place path_of events path ≡ Some j → slice_get events j ≡ Some e → standing_from t (entries outcome bytes events) path ≡ left_by (entry_of outcome bytes e).by (entry_of outcome bytes e).event)
      → standing_from s (entries outcome bytes (h ∷ events)) path ≡ left_by (entry_of outcome bytes e).by (entry_of outcome bytes e).event
  last_step s h events k e b (Some j) is last here at rest =
      let kj : suc j ≡ k = same_Some (suc j) k here in
      step s h events ∙ rest (left_after (same (path_of h) path) s h) j last (subst (λ n. slice_get (h ∷ events) n ≡ Some e) (sym kj) at)
  last_step s h events k e true None is last here at rest =
      let k0 : zero ≡ k = same_Some zero k here in
      let first : h ≡ e = same_Some h e (subst (λ n. slice_get (h ∷ events) n ≡ Some e) (sym k0) at) in
      step s h events ∙ (stays (left_after (same (path_of h) path) s h) events last
      ∙ (ap (λ c. left_after c s h) is ∙ ap (λ (x : Happened S O G). left_by (entry_of outcome bytes x).by (entry_of outcome bytes x).event) first))
  last_step s h events k e false None is last here at rest = absurd (some_none k (sym here))

  -- a path stands as its last event left it
  stands_last : (s : Standing) (events : List (Happened S O G)) (k : ℕ) (e : Happened S O G) → last_place path_of events path ≡ Some k → slice_get events k ≡ Some e
      → standing_from s (entries outcome bytes events) path ≡ left_by (entry_of outcome bytes e).by (entry_of outcome bytes e).event
  stands_last s [] k e last at = absurd (some_none k (sym last))
  stands_last s (h ∷ events) k e last at =
      last_step s h events k e (same (path_of h) path) (last_place path_of events path) refl refl last at (λ t j l a. stands_last t events j e l a)

  module _ (events : List (Happened S O G)) (places : List (List ℕ × ℕ)) (index : IsIndexOf path_of events places) where
    nowhere_by : (o : Option ℕ) → last_place path_of events path ≡ o → place_of places path ≡ None → standing (entries outcome bytes events) path ≡ Free
    nowhere_by None last at = stays Free events last
    nowhere_by (Some k) last at = absurd (some_none k (sym (index path k last) ∙ at))

    -- a path that the index lacks is free
    pub nowhere : place_of places path ≡ None → standing (entries outcome bytes events) path ≡ Free
    nowhere at = nowhere_by (last_place path_of events path) refl at

    beyond_by : (k : ℕ) (o : Option ℕ) → last_place path_of events path ≡ o → place_of places path ≡ Some k → length events ≤ k → standing (entries outcome bytes events) path ≡ Free
    beyond_by k None last at out = stays Free events last
    beyond_by k (Some j) last at out =
        let here : j ≡ k = same_Some j k (sym (index path j last) ∙ at) in
        let has = last_has path_of events path j last in
        let inside = slice_get_within events j has.0 has.1 in
        absurd (omega arith)

    -- and so is one whose place has no event
    pub beyond : (k : ℕ) → place_of places path ≡ Some k → length events ≤ k → standing (entries outcome bytes events) path ≡ Free
    beyond k at out = beyond_by k (last_place path_of events path) refl at out

    there_by : (k : ℕ) (e : Happened S O G) (o : Option ℕ) (b : Bool) → last_place path_of events path ≡ o → same (path_of e) path ≡ b → place_of places path ≡ Some k → slice_get events k ≡ Some e
        → standing (entries outcome bytes events) path ≡ left_after b Free e
    there_by k e None false last is at found = stays Free events last
    there_by k e None true last is at found = absurd (all_at (λ (x : Happened S O G). path_of x ≢ path) events k e (all_others path_of events path last) found (same_is (path_of e) path is))
    there_by k e (Some j) b last is at found =
        let here : j ≡ k = same_Some j k (sym (index path j last) ∙ at) in
        let has = last_has path_of events path j last in
        let one : has.0 ≡ e = same_Some has.0 e (sym has.1 ∙ (ap (λ n. slice_get events n) here ∙ found)) in
        let yes : true ≡ b = sym (same_itself path) ∙ (ap (λ p. same p path) (sym has.2) ∙ (ap (λ (x : Happened S O G). same (path_of x) path) one ∙ is)) in
        stands_last Free events k e (subst (λ n. last_place path_of events path ≡ Some n) here last) found ∙ ap (λ c. left_after c Free e) yes

    -- else it stands as the event at its place leaves it
    pub there : (k : ℕ) (e : Happened S O G) → place_of places path ≡ Some k → k < length events → e ≡ get_or events k e → standing (entries outcome bytes events) path ≡ left_after (same (path_of e) path) Free e
    there k e at inside found = there_by k e (last_place path_of events path) (same (path_of e) path) refl refl at (slice_get-get_or events k e inside ∙ ap Some (sym found))

  -- a free path has no event
  free_by : (events : List (Happened S O G)) (o : Option ℕ) → last_place path_of events path ≡ o → standing (entries outcome bytes events) path ≡ Free → o ≡ None
  free_by events None last free = refl
  free_by events (Some k) last free =
      let has = last_has path_of events path k last in
      absurd (left_not_free (entry_of outcome bytes has.0).by (entry_of outcome bytes has.0).event (sym (stands_last Free events k has.0 last has.1) ∙ free))

  pub free_is_new : (events : List (Happened S O G)) → standing (entries outcome bytes events) path ≡ Free → last_place path_of events path ≡ None
  free_is_new events free = free_by events (last_place path_of events path) refl free

  known_by : (events : List (Happened S O G)) (places : List (List ℕ × ℕ)) (o : Option ℕ) → last_place path_of events path ≡ o → IsIndexOf path_of events places → standing (entries outcome bytes events) path ≢ Free → place_of places path ≡ None → ⊥
  known_by events places None last index not at = not (stays Free events last)
  known_by events places (Some k) last index not at = some_none k (sym (index path k last) ∙ at)

  -- a path that isn't free is in the index
  pub known : (events : List (Happened S O G)) (places : List (List ℕ × ℕ)) → IsIndexOf path_of events places → standing (entries outcome bytes events) path ≢ Free → place_of places path ≡ None → ⊥
  known events places index not at = known_by events places (last_place path_of events path) refl index not at

  -- a claimed path has a place
  pub claimed_known : (events : List (Happened S O G)) (places : List (List ℕ × ℕ)) (by : ℕ) → IsIndexOf path_of events places → standing (entries outcome bytes events) path ≡ Claimed by → IsSome (place_of places path)
  claimed_known events places by index is = some_by (place_of places path) refl where
    claimed_free : Claimed by ≡ Free → ⊥
    claimed_free e = cc

    some_by : (o : Option ℕ) → place_of places path ≡ o → IsSome o
    some_by None at = absurd (known events places index (λ free. claimed_free (sym is ∙ free)) at)
    some_by (Some k) at = refl

-- ## All events

module _ {S O G : Type 0} where
  known_event : (events : List (Happened S O G)) (places : List (List ℕ × ℕ)) (e : Happened S O G) (o : Option ℕ) → last_place path_of events (path_of e) ≡ o → IsIndexOf path_of events places → Contains events e → IsSome (place_of places (path_of e))
  known_event events places e None last index has = absurd (All-contains (λ (x : Happened S O G). path_of x ≢ path_of e) events e (all_others path_of events (path_of e) last) has refl)
  known_event events places e (Some k) last index has = subst IsSome (sym (index (path_of e) k last)) refl

  -- each event's path has a place
  pub all_known : (events : List (Happened S O G)) (places : List (List ℕ × ℕ)) → IsIndexOf path_of events places → All (λ e. IsSome (place_of places (path_of e))) events
  all_known events places index =
      All-weaker (λ (e : Happened S O G). Contains events e) (λ e. IsSome (place_of places (path_of e))) (λ e has. known_event events places e (last_place path_of events (path_of e)) refl index has) events (All-contains_itself events)

  -- the rows of one event more
  pub rows_step : (e : Happened S O G) (events : List (Happened S O G)) → rows_in (e ∷ events) ≡ row_and (row_in e) [] ++ rows_in events
  rows_step (HappenedIs.Claim c) events = refl
  rows_step (HappenedIs.Publication p) events = refl

  -- the path of an event's row has a place where the event's has
  pub row_known : (places : List (List ℕ × ℕ)) (e : Happened S O G) → IsSome (place_of places (path_of e)) → ForSome (row_in e) (λ r. IsSome (place_of places r.path))
  row_known places (HappenedIs.Claim c) has = λ x none. absurd (some_none x (sym none))
  row_known places (HappenedIs.Publication p) has = λ x some. subst (λ (r : KeptRow S O G). IsSome (place_of places r.path)) (same_Some p.row x some) has

  rows_append : (events later : List (Happened S O G)) → rows_in (events ++ later) ≡ rows_in events ++ rows_in later
  rows_append [] later = refl
  rows_append (HappenedIs.Claim c ∷ events) later = rows_append events later
  rows_append (HappenedIs.Publication p ∷ events) later = ap (λ rows. p.row ∷ rows) (rows_append events later)

  -- a claim adds no row, and a publication one
  pub rows_claim : (events events' : List (Happened S O G)) (path : List ℕ) (by : ℕ) → events' ≡ events ++ HappenedIs.Claim (record { path = path; by = by }) ∷ [] → length (rows_in events') ≡ length (rows_in events)
  rows_claim events events' path by more = ap (λ es. length (rows_in es)) more ∙ (ap length (rows_append events (HappenedIs.Claim (record { path = path; by = by }) ∷ [])) ∙ (length-append (rows_in events) [] ∙ (let n : length (rows_in events) + 0 ≡ length (rows_in events) = omega arith in n)))

  pub rows_publication : (events events' : List (Happened S O G)) (row : KeptRow S O G) (by : ℕ) → events' ≡ events ++ HappenedIs.Publication (record { row = row; by = by }) ∷ [] → length (rows_in events') ≡ length (rows_in events) + 1
  rows_publication events events' row by more = ap (λ es. length (rows_in es)) more ∙ (ap length (rows_append events (HappenedIs.Publication (record { row = row; by = by }) ∷ [])) ∙ length-append (rows_in events) (row ∷ []))
