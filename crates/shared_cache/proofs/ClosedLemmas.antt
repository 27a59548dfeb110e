-- One closed lock gives one shard, and sixteen give a store.
use Rattle.std.proofs.Common.{◌≡◌, ◌≢◌, ◌<◌, ◌≤◌, ◌+◌, ℕ, zero, suc, Bool, true, false, List, [], ◌∷◌, ◌++◌, length, map, get_or, All, refl, sym, ap, ◌∙◌, subst, ⊎_elim, arith}
use Rattle.std.specs.Prelude.{Contains, Some, slice_get, is_some}
use Rattle.std.specs.List.{Any}
use Rattle.std.proofs.lemmas.List.{nil_from_length}
use Rattle.std.proofs.lemmas.List.Elements.{All-nil, All-append, All-weaker, All-map, All-contains, All-contains_itself, Contains-append_left, Contains-append_right, Contains-append_cases}
use Rattle.scan_model.specs.declared.Outcome.{Outcome}
use Rattle.scan_model.specs.declared.Outcome.TheVariants as OutcomeIs
use Rattle.scan_model.specs.Files.{content}
use Rattle.turn_lock.specs.declared.Logged.{Ghosts}
use Rattle.turn_lock.specs.declared.lock.Pass.{Pass}
use Rattle.turn_lock.specs.Logs.{Fits}
use Rattle.turn_lock.specs.Passes.{number, seen, IsNamed, GrownBy}
use Rattle.shard_cache.specs.declared.KeptRow.{KeptRow}
use Rattle.shard_cache.specs.Rows.{ShardView, shard_number, AllDiffer, IsRow, AreShards, IsStore, all_rows, all_asked, stands_for}
use Rattle.shard_cache.specs.StoreMap.{file_map, AreGiven, IsOneMap}
use Rattle.shard_cache.proofs.StoreLemmas.{AllDiffer-append, IsStore-differ}
use Rattle.shard_cache.proofs.MapLemmas.{file_map-found, contains_map}
use Rattle.cache_desk.specs.declared.entry.Entry.{Entry}
use Rattle.cache_desk.specs.declared.desk.Desk.{Desk}
use Rattle.cache_desk.specs.Log.{claim, publication, maker, claims}
use Rattle.cache_desk.specs.Desk.{DeskView, IsDesk, stood, row_outcome, row_published, log_of, rows_in, shard_of_desk}
use Rattle.cache_desk.proofs.LogLemmas.{claims_differ}
use Rattle.shared_cache.specs.declared.cache.Passes.{Passes}
use Rattle.shared_cache.specs.Cache.{HasSeen}
use Rattle.shared_cache.specs.Shared.{all_seen, seen_of_shard, HasRowsOf}
use Rattle.shared_cache.specs.Closing.{view_of, views_at, IsKeptIn, IsClosed, AreClosed}
use Rattle.shared_cache.specs.Closed.{IsClaimed, AreClaimed, IsPublished}
use Rattle.shared_cache.proofs.SeenLemmas.{claim_of}
use Rattle.shared_cache.proofs.RowsLemmas.{claimed_by, is_claimed, rows_differ, row_is_published, publication_has_row, rows_sound, claims_placed}

-- ## Some element of a list

module _ {A B : Type 0} (f : A → B) (P : B → Type 0) where
  pub any_map : (xs : List A) → Any P (map f xs) → Any (λ x. P (f x)) xs
  any_map [] (k, y, inside, at, holds) = absurd (omega arith)
  any_map (x ∷ xs) (zero, y, inside, at, holds) = (0, x, omega arith, refl, subst P (sym at) holds)
  any_map (x ∷ xs) (suc k, y, inside, at, holds) = let a = any_map xs (k, y, omega arith, at, holds) in let b = a.2 in (suc a.0, a.1, omega arith, a.3, a.4)

module _ {A : Type 0} (P : A → Type 0) where
  any_left : (xs ys : List A) → Any P xs → Any P (xs ++ ys)
  any_left xs ys (k, x, inside, at, holds) = let h = Contains-append_left xs ys x (k, inside, at) in (h.0, x, h.1, h.2, holds)

  any_right : (xs ys : List A) → Any P ys → Any P (xs ++ ys)
  any_right xs ys (k, x, inside, at, holds) = let h = Contains-append_right xs ys x (k, inside, at) in (h.0, x, h.1, h.2, holds)

-- ## The passes that an entry names have seen it

abbrev View : Type 0
View = ℕ × List Entry

seen_by : (by : ℕ) (before log : List Entry) (e : Entry) → Fits maker by before log → by ≡ maker e → Contains log e → Contains before e
seen_by by before log e (rest, is, others) named has =
    ⊎_elim (λ (h : Contains before e). h) (λ (h : Contains rest e). absurd (All-contains (λ (f : Entry). maker f ≢ by) rest e others h (sym named)))
    (Contains-append_cases before rest e (subst (λ (l : List Entry). Contains l e) is has))

own_entry : (views : List View) (log : List Entry) (e : Entry) → All (λ (v : View). Fits maker v.0 v.1 log) views → All (λ f. Any (λ (v : View). v.0 ≡ maker f) views) log → Contains log e → Any (λ (v : View). (v.0 ≡ maker e) × Contains v.1 e) views
own_entry views log e fits named has = at_view (All-contains (λ (f : Entry). Any (λ (v : View). v.0 ≡ maker f) views) log e named has) where
  at_view : Any (λ (v : View). v.0 ≡ maker e) views → Any (λ (v : View). (v.0 ≡ maker e) × Contains v.1 e) views
  at_view (k, v, inside, at, by) = (k, v, inside, at, (by, seen_by v.0 v.1 log e (All-contains (λ (w : View). Fits maker w.0 w.1 log) views v fits (k, inside, at)) by has))

claim_seen : (views : List View) (log : List Entry) (path : List ℕ) → All (λ (v : View). Fits maker v.0 v.1 log) views → All (λ f. Any (λ (v : View). v.0 ≡ maker f) views) log
    → Contains (claims log) path → Any (λ (v : View). Contains v.1 (claim path v.0)) views
claim_seen views log path fits named has = let c = claimed_by log path has in at_view c.0 (own_entry views log (claim path c.0) fits named c.1) where
  at_view : (by : ℕ) → Any (λ (v : View). (v.0 ≡ by) × Contains v.1 (claim path by)) views → Any (λ (v : View). Contains v.1 (claim path v.0)) views
  at_view by (k, v, inside, at, own) = (k, v, inside, at, subst (λ n. Contains v.1 (claim path n)) (sym own.0) own.1)

-- ## One closed lock

module _ {S O G : Type 0} (gp : G → List ℕ) (outcome : G → Outcome) (bytes : G → List ℕ) (go : G → ℕ) where
  row_seen : (views : List View) (d : DeskView S O G) (row : KeptRow S O G) → All (λ (v : View). Fits maker v.0 v.1 (log_of outcome bytes d)) views → All (λ f. Any (λ (v : View). v.0 ≡ maker f) views) (log_of outcome bytes d)
      → Contains (rows_in d.events) row → Any (λ (v : View). Contains v.1 (row_published outcome bytes row v.0)) views
  row_seen views d row fits named has = let p = row_is_published outcome bytes d.events row has in at_view p.0 (own_entry views (log_of outcome bytes d) (row_published outcome bytes row p.0) fits named p.1) where
    at_view : (by : ℕ) → Any (λ (v : View). (v.0 ≡ by) × Contains v.1 (row_published outcome bytes row by)) views → Any (λ (v : View). Contains v.1 (row_published outcome bytes row v.0)) views
    at_view by (k, v, inside, at, own) = (k, v, inside, at, subst (λ n. Contains v.1 (row_published outcome bytes row n)) (sym own.0) own.1)

  row_asked : (d : DeskView S O G) → IsDesk outcome bytes (IsRow gp outcome bytes) go d → (row : KeptRow S O G) → Contains (rows_in d.events) row → Contains d.asked row.path
  row_asked d desk row has =
      let p = row_is_published outcome bytes d.events row has in
      subst (λ ps. Contains ps row.path) (sym desk.asked)
      (is_claimed (log_of outcome bytes d) row.path p.0 (claim_of (log_of outcome bytes d) row.path p.0 (row_outcome outcome bytes row) (bytes row.given) desk.legal p.1))

  kept_seen : (d : DeskView S O G) (v : View) → Fits maker v.0 v.1 (log_of outcome bytes d) → (path : List ℕ) (o : Outcome) (b : List ℕ) → HasSeen v.1 path o b → IsKeptIn outcome bytes (rows_in d.events) path o b
  kept_seen d v (rest, is, others) path o b (w, has) =
      publication_has_row outcome bytes d.events path w o b
      (subst (λ (l : List Entry). Contains l (publication path w o b)) (sym is) (Contains-append_left v.1 rest (publication path w o b) has))

  -- a state that fits the views, in whose log each entry names one of them, gives the closed shard
  pub one_closed : (k : ℕ) (views : List View) (d : DeskView S O G) → IsDesk outcome bytes (IsRow gp outcome bytes) go d → d.number ≡ k
      → All (λ (v : View). Fits maker v.0 v.1 (log_of outcome bytes d)) views → All (λ f. Any (λ (v : View). v.0 ≡ maker f) views) (log_of outcome bytes d)
      → IsClosed gp outcome bytes go k views (shard_of_desk d)
  one_closed k views d desk at fits named =
      let log = log_of outcome bytes d in
      let rows = rows_in d.events in
      let sound = rows_sound outcome bytes (IsRow gp outcome bytes) go d.number d.origin d.events desk.sound in
      record {
        kept = record {
          placed = (λ j e inside. (sound j e inside).0 ∙ at);
          each_row = (λ j e inside. (sound j e inside).1);
          differ = rows_differ outcome bytes d.events desk.legal;
        };
        given = record {
          asked = All-weaker (λ (row : KeptRow S O G). Contains rows row) (λ row. Contains d.asked row.path) (row_asked d desk) rows (All-contains_itself rows);
          path = (λ j e inside. (sound j e inside).1.given);
          origin = (λ j e inside. (sound j e inside).2);
        };
        asked_once = subst AllDiffer (sym desk.asked) (claims_differ log desk.legal);
        placed = subst (λ ps. All (λ path. shard_number path ≡ k) ps) (sym desk.asked) (λ j e inside. claims_placed outcome bytes (IsRow gp outcome bytes) go d.number d.origin d.events desk.sound j e inside ∙ at);
        claimed = subst (λ ps. All (λ path. Any (λ (v : View). Contains v.1 (claim path v.0)) views) ps) (sym desk.asked)
            (All-weaker (λ (path : List ℕ). Contains (claims log) path) (λ path. Any (λ (v : View). Contains v.1 (claim path v.0)) views) (λ path has. claim_seen views log path fits named has) (claims log) (All-contains_itself (claims log)));
        published = All-weaker (λ (row : KeptRow S O G). Contains rows row) (λ row. Any (λ (v : View). Contains v.1 (row_published outcome bytes row v.0)) views) (λ row has. row_seen views d row fits named has) rows (All-contains_itself rows);
        seen_is_kept = All-weaker (λ (v : View). Fits maker v.0 v.1 log) (λ v. (path : List ℕ) (o : Outcome) (b : List ℕ) → HasSeen v.1 path o b → IsKeptIn outcome bytes rows path o b) (λ v fit. kept_seen d v fit) views fits;
      }

-- ## The passes of one lock

module _ {S O G : Type 0} {g : Ghosts (Desk S O G) Entry} where
  named_view : (row : List (Pass (Desk S O G) Entry g)) (i n : ℕ) (pass : Pass (Desk S O G) Entry g) → slice_get row i ≡ Some pass → number pass ≡ n → Any (λ (v : View). v.0 ≡ n) (map view_of row)
  named_view [] i n pass at is = cc
  named_view (p ∷ row) zero n pass at is = (0, view_of p, omega arith, refl, ap number (some_is p pass at) ∙ is) where
    some_is : {A : Type 0} (x y : A) → Some x ≡ Some y → x ≡ y
    some_is x y e = cc
  named_view (p ∷ row) (suc i) n pass at is = let a = named_view row i n pass at is in let b = a.2 in (suc a.0, a.1, omega arith, a.3, a.4)

  -- a log that was empty names the passes' views alone
  pub named_views : (row : List (Pass (Desk S O G) Entry g)) (before log : List Entry) → length before ≡ 0 → GrownBy maker row before log → All (λ f. Any (λ (v : View). v.0 ≡ maker f) (map view_of row)) log
  named_views row before log none (rest, is, named) =
      subst (λ (l : List Entry). All (λ f. Any (λ (v : View). v.0 ≡ maker f) (map view_of row)) l) (sym (is ∙ ap (λ l. l ++ rest) (nil_from_length before none)))
      (All-weaker (λ (f : Entry). IsNamed row (maker f)) (λ f. Any (λ (v : View). v.0 ≡ maker f) (map view_of row)) (λ f n. named_view row n.0 (maker f) n.1 n.2 n.3) rest named)

  pub fitting_views : (row : List (Pass (Desk S O G) Entry g)) (log : List Entry) → All (λ (p : Pass (Desk S O G) Entry g). Fits maker (number p) (seen p) log) row → All (λ (v : View). Fits maker v.0 v.1 log) (map view_of row)
  fitting_views row log fits = All-map (λ (v : View). Fits maker v.0 v.1 log) view_of row fits

-- ## All closed locks

content_stood : (t : Bool) (o : Outcome) (b : List ℕ) → stands_for t o b ≡ content (stood t o) b
content_stood false OutcomeIs.Present b = refl
content_stood false OutcomeIs.Absent b = refl
content_stood false OutcomeIs.Failed b = refl
content_stood false OutcomeIs.Big b = refl
content_stood false OutcomeIs.NoMemory b = refl
content_stood true OutcomeIs.Present b = refl
content_stood true OutcomeIs.Absent b = refl
content_stood true OutcomeIs.Failed b = refl
content_stood true OutcomeIs.Big b = refl
content_stood true OutcomeIs.NoMemory b = refl

module _ {S O G : Type 0} (outcome : G → Outcome) (bytes : G → List ℕ) where
  abbrev IsThat : List ℕ → Outcome → List ℕ → KeptRow S O G → Type 0
  IsThat path o b row = (row.path ≡ path) × (row_outcome outcome bytes row ≡ o) × (bytes row.given ≡ b)

  in_map : (rows : List (KeptRow S O G)) (path : List ℕ) (o : Outcome) (b : List ℕ) → AllDiffer (map (λ (row : KeptRow S O G). row.path) rows) → IsKeptIn outcome bytes rows path o b → file_map outcome bytes rows path ≡ Some (content o b)
  in_map rows path o b differ (k, row, inside, at, is) =
      ap (λ p. file_map outcome bytes rows p) (sym is.0)
      ∙ (file_map-found outcome bytes rows row differ (k, inside, at)
      ∙ ap Some (content_stood (is_some row.reduced) (outcome row.given) (bytes row.given) ∙ (λ i. content (is.1 i) (is.2 i))))

module _ {S O G : Type 0} {g : Ghosts (Desk S O G) Entry} (gp : G → List ℕ) (outcome : G → Outcome) (bytes : G → List ℕ) (go : G → ℕ) where
  abbrev Closed : List (Passes S O G Entry g) → ℕ → List (ShardView S O G) → Type 0
  Closed hands k shards = AreClosed gp outcome bytes go hands k shards

  closed_shards : (hands : List (Passes S O G Entry g)) (k : ℕ) (shards : List (ShardView S O G)) → Closed hands k shards → AreShards (IsRow gp outcome bytes) k shards
  closed_shards hands k [] closed = tt
  closed_shards hands k (shard ∷ shards) closed = (closed.0.kept, closed_shards hands (suc k) shards closed.1)

  pub closed_store : (hands : List (Passes S O G Entry g)) (shards : List (ShardView S O G)) → Closed hands 0 shards → length shards ≡ 16 → IsStore (IsRow gp outcome bytes) shards
  closed_store hands shards closed sixteen = record { sixteen = sixteen; each = closed_shards hands 0 shards closed }

  closed_given : (hands : List (Passes S O G Entry g)) (k : ℕ) (shards : List (ShardView S O G)) → Closed hands k shards → AreGiven gp go shards
  closed_given hands k [] closed = tt
  closed_given hands k (shard ∷ shards) closed = (closed.0.given, closed_given hands (suc k) shards closed.1)

  asked_from : (hands : List (Passes S O G Entry g)) (k : ℕ) (shards : List (ShardView S O G)) → Closed hands k shards → All (λ path. k ≤ shard_number path) (all_asked shards)
  asked_from hands k [] closed = All-nil _
  asked_from hands k (shard ∷ shards) closed =
      All-append (λ (path : List ℕ). k ≤ shard_number path) shard.asked (all_asked shards)
      (λ j d inside. let here = closed.0.placed j d inside in omega arith)
      (λ j d inside. let later = asked_from hands (suc k) shards closed.1 j d inside in omega arith)

  asked_differ : (hands : List (Passes S O G Entry g)) (k : ℕ) (shards : List (ShardView S O G)) → Closed hands k shards → AllDiffer (all_asked shards)
  asked_differ hands k [] closed = tt
  asked_differ hands k (shard ∷ shards) closed =
      AllDiffer-append k shard.asked (all_asked shards) closed.0.asked_once (asked_differ hands (suc k) shards closed.1) closed.0.placed
      (λ j d inside. let later = asked_from hands (suc k) shards closed.1 j d inside in omega arith)

  pub closed_map : (hands : List (Passes S O G Entry g)) (shards : List (ShardView S O G)) → Closed hands 0 shards → length shards ≡ 16 → IsOneMap gp go shards
  closed_map hands shards closed sixteen = record {
    asked_once = asked_differ hands 0 shards closed;
    paths_differ = IsStore-differ (IsRow gp outcome bytes) shards (closed_store hands shards closed sixteen);
    given = closed_given hands 0 shards closed;
  }

  claimed_here : (hands : List (Passes S O G Entry g)) (k : ℕ) (path : List ℕ) → shard_number path ≡ k → Any (λ (v : View). Contains v.1 (claim path v.0)) (views_at k hands) → IsClaimed hands path
  claimed_here hands k path at claimed =
      subst (λ n. Any (λ (hand : Passes S O G Entry g). Contains (seen_of_shard (all_seen hand.passes.items) n) (claim path hand.number)) hands) (sym at)
      (any_map (λ (hand : Passes S O G Entry g). (hand.number, seen_of_shard (all_seen hand.passes.items) k)) (λ (v : View). Contains v.1 (claim path v.0)) hands claimed)

  pub closed_claimed : (hands : List (Passes S O G Entry g)) (k : ℕ) (shards : List (ShardView S O G)) → Closed hands k shards → AreClaimed hands k shards
  closed_claimed hands k [] closed = tt
  closed_claimed hands k (shard ∷ shards) closed =
      ((λ j d inside. (closed.0.placed j d inside, claimed_here hands k (get_or shard.asked j d) (closed.0.placed j d inside) (closed.0.claimed j d inside))), closed_claimed hands (suc k) shards closed.1)

  published_here : (hands : List (Passes S O G Entry g)) (k : ℕ) (row : KeptRow S O G) → shard_number row.path ≡ k → Any (λ (v : View). Contains v.1 (row_published outcome bytes row v.0)) (views_at k hands) → IsPublished outcome bytes hands row
  published_here hands k row at published =
      subst (λ n. Any (λ (hand : Passes S O G Entry g). Contains (seen_of_shard (all_seen hand.passes.items) n) (row_published outcome bytes row hand.number)) hands) (sym at)
      (any_map (λ (hand : Passes S O G Entry g). (hand.number, seen_of_shard (all_seen hand.passes.items) k)) (λ (v : View). Contains v.1 (row_published outcome bytes row v.0)) hands published)

  pub closed_published : (hands : List (Passes S O G Entry g)) (k : ℕ) (shards : List (ShardView S O G)) → Closed hands k shards → All (IsPublished outcome bytes hands) (all_rows shards)
  closed_published hands k [] closed = All-nil _
  closed_published hands k (shard ∷ shards) closed =
      All-append (IsPublished outcome bytes hands) shard.rows (all_rows shards)
      (λ j d inside. published_here hands k (get_or shard.rows j d) (closed.0.kept.placed j d inside) (closed.0.published j d inside))
      (closed_published hands (suc k) shards closed.1)

  closed_kept : (hands : List (Passes S O G Entry g)) (k : ℕ) (shards : List (ShardView S O G)) → Closed hands k shards → (hand : Passes S O G Entry g) → Contains hands hand → (j m : ℕ) → m ≡ k + j → j < length shards
      → (path : List ℕ) (o : Outcome) (b : List ℕ) → HasSeen (seen_of_shard (all_seen hand.passes.items) m) path o b → IsKeptIn outcome bytes (all_rows shards) path o b
  closed_kept hands k [] closed hand among j m at inside path o b has = absurd (omega arith)
  closed_kept hands k (shard ∷ shards) closed hand among zero m at inside path o b has =
      let here : m ≡ k = omega arith in
      any_left (IsThat outcome bytes path o b) shard.rows (all_rows shards)
      (All-contains (λ (v : View). (path : List ℕ) (o : Outcome) (b : List ℕ) → HasSeen v.1 path o b → IsKeptIn outcome bytes shard.rows path o b) (views_at k hands) (hand.number, seen_of_shard (all_seen hand.passes.items) k) closed.0.seen_is_kept
      (contains_map (λ (h : Passes S O G Entry g). (h.number, seen_of_shard (all_seen h.passes.items) k)) hands hand among)
      path o b (subst (λ n. HasSeen (seen_of_shard (all_seen hand.passes.items) n) path o b) here has))
  closed_kept hands k (shard ∷ shards) closed hand among (suc j) m at inside path o b has =
      any_right (IsThat outcome bytes path o b) shard.rows (all_rows shards) (closed_kept hands (suc k) shards closed.1 hand among j m (omega arith) (omega arith) path o b has)

  -- what any of the passes has seen is in the map of the rows
  pub closed_seen : (hands : List (Passes S O G Entry g)) (shards : List (ShardView S O G)) → Closed hands 0 shards → length shards ≡ 16 → All (λ (hand : Passes S O G Entry g). HasRowsOf (file_map outcome bytes (all_rows shards)) (all_seen hand.passes.items)) hands
  closed_seen hands shards closed sixteen =
      All-weaker (λ (hand : Passes S O G Entry g). Contains hands hand) (λ hand. HasRowsOf (file_map outcome bytes (all_rows shards)) (all_seen hand.passes.items))
      (λ hand among path o b has. in_map outcome bytes (all_rows shards) path o b (IsStore-differ (IsRow gp outcome bytes) shards (closed_store hands shards closed sixteen))
      (closed_kept hands 0 shards closed hand among (shard_number path) (shard_number path) (omega arith) (omega arith) path o b has))
      hands (All-contains_itself hands)
