-- A cache that is made, and one that is taken apart again before anything happened.
use Rattle.std.proofs.Common.{◌≤◌, ◌≡◌, ◌⊎◌, ℕ, zero, suc, List, [], ◌∷◌, ◌++◌, length, map, get_or, reverse, All, refl, sym, ap, ◌∙◌, subst, ⊎_elim, inl, inr, arith}
use Rattle.std.specs.Prelude.{Some, None, slice_get, Contains, Vec}
use Rattle.std.specs.List.{Any}
use Rattle.std.specs.declared.alloc.Global.{Global}
use Rattle.std.proofs.lemmas.List.{append_assoc, append-nil, map-append, reverse-append, nil_from_length}
use Rattle.std.proofs.lemmas.List.Elements.{All-nil, All-head, All-tail}
use Rattle.std.proofs.lemmas.Option.{slice_get-get_or, same_Some}
use Rattle.scan_model.specs.declared.Outcome.{Outcome}
use Rattle.turn_lock.specs.declared.Logged.{Ghosts}
use Rattle.turn_lock.specs.declared.lock.Pass.{Pass}
use Rattle.turn_lock.specs.declared.lock.TurnLock.{TurnLock}
use Rattle.turn_lock.specs.Passes.{pass_count}
use Rattle.shard_cache.specs.Rows.{ShardView, all_asked, all_rows, all_origins}
use Rattle.shard_cache.specs.StoreMap.{IsUntouched}
use Rattle.shard_cache.proofs.MapLemmas.{append-nil_parts}
use Rattle.cache_desk.specs.declared.entry.Entry.{Entry}
use Rattle.cache_desk.specs.declared.desk.Desk.{Desk}
use Rattle.cache_desk.specs.Log.{claim}
use Rattle.cache_desk.specs.Desk.{DeskView, row_published, shard_of_desk}
use Rattle.shared_cache.specs.declared.cache.Passes.{Passes}
use Rattle.shared_cache.specs.Shared.{ArePasses, HavePasses, second, locks_fixed, all_seen, seen_of_shard}
use Rattle.shared_cache.specs.Opening.{AreDealt}
use Rattle.shared_cache.specs.Hands.{AreMade}
use Rattle.shared_cache.specs.Closing.{IsClosed, AreClosed, views_at}
use Rattle.shared_cache.proofs.ClosedLemmas.{any_map}

get_push : {X : Type 0} (xs : List X) (x y : X) (k : ℕ) → slice_get (xs ++ x ∷ []) k ≡ Some y → (slice_get xs k ≡ Some y) ⊎ ((k ≡ length xs) × (x ≡ y))
get_push [] x y zero at = inr (refl, same_Some x y at)
get_push [] x y (suc k) at = cc
get_push (z ∷ xs) x y zero at = inl at
get_push (z ∷ xs) x y (suc k) at =
    ⊎_elim (λ (h : slice_get xs k ≡ Some y). inl h) (λ (h : (k ≡ length xs) × (x ≡ y)). inr (ap suc h.0, h.1)) (get_push xs x y k at)

-- each lock has few passes
pub few_each : {T E : Type 0} (locks : List (TurnLock T E)) (n : ℕ) → HavePasses locks n → n ≤ 64 → All (λ l. pass_count l ≤ 64) locks
few_each locks n counted few k d inside = subst (λ m. m ≤ 64) (sym (counted k d inside)) few

module _ {S O G E : Type 0} {g : Ghosts (Desk S O G) E} where
  -- the passes of the next worker, before there is a lock
  pub dealt_hand : (hands : List (Passes S O G E g)) (hand : Passes S O G E g) → AreDealt [] hands → hand.passes.items ≡ [] → hand.number ≡ length hands → AreDealt [] (hands ++ hand ∷ [])
  dealt_hand hands hand dealt none number k other at =
      ⊎_elim (λ (h : slice_get hands k ≡ Some other). dealt k other h)
      (λ (h : (k ≡ length hands) × (hand ≡ other)). subst (λ (z : Passes S O G E g). ArePasses [] z.passes.items k × (z.number ≡ k) × All (λ log. log ≡ []) (all_seen z.passes.items)) h.1
      (subst (λ ps. ArePasses [] ps k) (sym none) tt, number ∙ sym h.0, subst (λ ps. All (λ log. log ≡ []) (all_seen ps)) (sym none) (All-nil _)))
      (get_push hands hand other k at)

  pub dealt_none : (hands : List (Passes S O G E g)) → hands ≡ [] → AreDealt [] hands
  dealt_none hands none k hand at = absurd (some_none (sym at ∙ ap (λ z. slice_get z k) none)) where
    some_none : Some hand ≡ None → ⊥
    some_none e = cc

  pub made_none : {X : Type 0} (log : Desk S O G → List X) (fixed : Desk S O G → List ℕ) (workers : ℕ) (locks : List (TurnLock (Desk S O G) E)) (rooms : List (Vec (Pass (Desk S O G) E g) Global)) (hands : List (Passes S O G E g))
      → locks ≡ [] → rooms ≡ [] → length hands ≡ workers → workers ≤ 64 → AreDealt [] hands → AreMade log fixed workers locks rooms hands
  made_none log fixed workers locks rooms hands no_lock no_room count small dealt =
      subst (λ z. AreMade log fixed workers z rooms hands) (sym no_lock) (subst (λ z. AreMade log fixed workers [] z hands) (sym no_room) (record {
        parts = record {
          numbered = (λ k inside. absurd (omega arith));
          fresh = All-nil _;
          counted = All-nil _;
          rooms_are = refl;
          few = omega arith;
          roomy = All-nil _;
          own = (λ k d inside. let is = dealt k (get_or hands k d) (slice_get-get_or hands k d inside) in subst (λ n. ArePasses [] (get_or hands k d).passes.items n) (sym is.1) is.0);
        };
        count = count;
        dealt = dealt;
      }))

-- ## Shards of which nothing was asked

abbrev AreBare : {S O G : Type 0} → List (ShardView S O G) → Type 0
AreBare [] = Unit {0}
AreBare (s ∷ ss) = ((s.asked ≡ []) × (s.rows ≡ [])) × AreBare ss

module _ {S O G : Type 0} where
  bare_store : (ss : List (ShardView S O G)) → all_asked ss ≡ [] → all_rows ss ≡ [] → AreBare ss
  bare_store [] asked rows = tt
  bare_store (s ∷ ss) asked rows =
      let a = append-nil_parts s.asked (all_asked ss) asked in let r = append-nil_parts s.rows (all_rows ss) rows in ((a.0, r.0), bare_store ss a.1 r.1)

  bare_parts : (xs ys : List (ShardView S O G)) → AreBare (xs ++ ys) → AreBare xs × AreBare ys
  bare_parts [] ys bare = (tt, bare)
  bare_parts (x ∷ xs) ys bare = let r = bare_parts xs ys bare.1 in ((bare.0, r.0), r.1)

  bare_is : (s t : ShardView S O G) → s.asked ≡ [] → s.rows ≡ [] → t.asked ≡ [] → t.rows ≡ [] → s.origin ≡ t.origin → s ≡ t
  bare_is s t sa sr ta tr so = λ i. record { asked = (sa ∙ sym ta) i; origin = so i; rows = (sr ∙ sym tr) i }

  bare_same : (xs ys : List (ShardView S O G)) → AreBare xs → AreBare ys → all_origins xs ≡ all_origins ys → xs ≡ ys
  bare_same [] [] bx by same = refl
  bare_same [] (y ∷ ys) bx by same = absurd (let n = ap length same in omega arith)
  bare_same (x ∷ xs) [] bx by same = absurd (let n = ap length same in omega arith)
  bare_same (x ∷ xs) (y ∷ ys) bx by same =
      let first : x.origin ≡ y.origin = ap (first_or 0) same in
      let rest : all_origins xs ≡ all_origins ys = ap after_first same in
      λ i. bare_is x y bx.0.0 bx.0.1 by.0.0 by.0.1 first i ∷ bare_same xs ys bx.1 by.1 rest i
    where
      first_or : ℕ → List ℕ → ℕ
      first_or d [] = d
      first_or d (n ∷ ns) = n

      after_first : List ℕ → List ℕ
      after_first [] = []
      after_first (n ∷ ns) = ns

  -- the shards of a store that are locks by now, and those that are left, the last first
  abbrev pub AreTaken : {E : Type 0} → (Desk S O G → List ℕ) → List (ShardView S O G) → List (ShardView S O G) → List (TurnLock (Desk S O G) E) → Type 0
  AreTaken fixed store left locks = (taken : List (ShardView S O G)) × (taken ++ reverse left ≡ store) × (all_origins taken ≡ map second (locks_fixed fixed locks))

  pub none_taken : {E : Type 0} (fixed : Desk S O G → List ℕ) (store left : List (ShardView S O G)) (locks : List (TurnLock (Desk S O G) E)) → reverse left ≡ store → length locks ≡ 0 → AreTaken fixed store left locks
  none_taken fixed store left locks is none = ([], is, sym (ap (λ ls. map second (locks_fixed fixed ls)) (nil_from_length locks none)))

  next_is : (taken left less : List (ShardView S O G)) (shard : ShardView S O G) → left ≡ less ++ shard ∷ [] → taken ++ reverse left ≡ taken ++ shard ∷ reverse less
  next_is taken left less shard cut = ap (λ ss. taken ++ ss) (ap reverse cut ∙ reverse-append less (shard ∷ []))

  -- the next shard is bare
  pub next_bare : {E : Type 0} (fixed : Desk S O G → List ℕ) (store left less : List (ShardView S O G)) (locks : List (TurnLock (Desk S O G) E)) (shard : ShardView S O G) → IsUntouched store → left ≡ less ++ shard ∷ [] → AreTaken fixed store left locks → (shard.asked ≡ []) × (shard.rows ≡ [])
  next_bare fixed store left less locks shard untouched cut (taken, is, from) =
      let bare = subst (λ ss. AreBare ss) (sym (sym (next_is taken left less shard cut) ∙ is)) (bare_store store untouched.nothing_asked untouched.no_row) in
      (bare_parts taken (shard ∷ reverse less) bare).1.0

  -- the next shard is taken
  pub one_taken : {E : Type 0} (fixed : Desk S O G → List ℕ) (store left less : List (ShardView S O G)) (before after : List (TurnLock (Desk S O G) E)) (shard : ShardView S O G) (f : List ℕ) → left ≡ less ++ shard ∷ [] → locks_fixed fixed after ≡ locks_fixed fixed before ++ f ∷ [] → second f ≡ shard.origin
      → AreTaken fixed store left before → AreTaken fixed store less after
  one_taken fixed store left less before after shard f cut more origin (taken, is, from) = (
    taken ++ shard ∷ [],
    append_assoc taken (shard ∷ []) (reverse less) ∙ (sym (next_is taken left less shard cut) ∙ is),
    map-append (λ (s : ShardView S O G). s.origin) taken (shard ∷ [])
        ∙ ((λ i. from i ++ sym origin i ∷ []) ∙ sym (ap (map second) more ∙ map-append second (locks_fixed fixed before) (f ∷ []))),
  )

  pub all_taken : {E : Type 0} (fixed : Desk S O G → List ℕ) (store left : List (ShardView S O G)) (locks : List (TurnLock (Desk S O G) E)) → length left ≡ 0 → AreTaken fixed store left locks → map second (locks_fixed fixed locks) ≡ all_origins store
  all_taken fixed store left locks none (taken, is, from) =
      sym from ∙ ap all_origins (sym (append-nil taken) ∙ (ap (λ ss. taken ++ reverse ss) (sym (nil_from_length left none)) ∙ is))

  -- the shard of a desk that was made of a bare one
  pub desk_back : (shard back : ShardView S O G) (desk back_desk : DeskView S O G) (number origin : ℕ) → (shard.asked ≡ []) × (shard.rows ≡ []) → back_desk ≡ desk → desk ≡ record { number = number; asked = []; origin = origin; events = [] } → origin ≡ shard.origin → back ≡ shard_of_desk back_desk → back ≡ shard
  desk_back shard back desk back_desk number origin bare same made from is =
      is ∙ (ap shard_of_desk (same ∙ made) ∙ bare_is (record { asked = []; origin = origin; rows = [] }) shard refl refl bare.0 bare.1 from)

-- ## Locks that are closed before anything happened

pub nothing_at : {X : Type 0} (logs : List (List X)) (k : ℕ) → All (λ log. log ≡ []) logs → get_or logs k [] ≡ []
nothing_at [] k none = refl
nothing_at (log ∷ logs) zero none = All-head (λ l. l ≡ []) log logs none
nothing_at (log ∷ logs) (suc k) none = nothing_at logs k (All-tail (λ l. l ≡ []) log logs none)

module _ {S O G : Type 0} {g : Ghosts (Desk S O G) Entry} (gp : G → List ℕ) (outcome : G → Outcome) (bytes : G → List ℕ) (go : G → ℕ) where
  nobody : (locks : List (TurnLock (Desk S O G) Entry)) (hands : List (Passes S O G Entry g)) (k : ℕ) (entry : Passes S O G Entry g → Entry) → AreDealt locks hands → Any (λ (hand : Passes S O G Entry g). Contains (seen_of_shard (all_seen hand.passes.items) k) (entry hand)) hands → ⊥
  nobody locks hands k entry dealt (i, hand, inside, at, has) =
      let is = dealt i hand (slice_get-get_or hands i hand inside ∙ ap Some at) in
      let none : seen_of_shard (all_seen hand.passes.items) k ≡ [] = nothing_at (all_seen hand.passes.items) k is.2 in
      no_element (entry hand) (subst (λ log. Contains log (entry hand)) none has)
    where
      no_element : (e : Entry) → Contains [] e → ⊥
      no_element e (j, within, there) = absurd (omega arith)

  no_path : (locks : List (TurnLock (Desk S O G) Entry)) (hands : List (Passes S O G Entry g)) (k : ℕ) (paths : List (List ℕ)) → AreDealt locks hands → All (λ path. Any (λ (view : ℕ × List Entry). Contains view.1 (claim path view.0)) (views_at k hands)) paths → paths ≡ []
  no_path locks hands k [] dealt claimed = refl
  no_path locks hands k (path ∷ paths) dealt claimed =
      absurd (nobody locks hands k (λ hand. claim path hand.number) dealt
      (any_map (λ (hand : Passes S O G Entry g). (hand.number, seen_of_shard (all_seen hand.passes.items) k)) (λ (view : ℕ × List Entry). Contains view.1 (claim path view.0)) hands
      (All-head (λ (p : List ℕ). Any (λ (view : ℕ × List Entry). Contains view.1 (claim p view.0)) (views_at k hands)) path paths claimed)))

  no_row : (locks : List (TurnLock (Desk S O G) Entry)) (hands : List (Passes S O G Entry g)) (k : ℕ) (shard : ShardView S O G) → AreDealt locks hands → IsClosed gp outcome bytes go k (views_at k hands) shard → shard.rows ≡ []
  no_row locks hands k shard dealt closed = none shard.rows (λ row. row_published outcome bytes row) closed.published where
    none : {R : Type 0} (rows : List R) (entry : R → ℕ → Entry) → All (λ row. Any (λ (view : ℕ × List Entry). Contains view.1 (entry row view.0)) (views_at k hands)) rows → rows ≡ []
    none [] entry published = refl
    none {R} (row ∷ rows) entry published =
        absurd (nobody locks hands k (λ hand. entry row hand.number) dealt
        (any_map (λ (hand : Passes S O G Entry g). (hand.number, seen_of_shard (all_seen hand.passes.items) k)) (λ (view : ℕ × List Entry). Contains view.1 (entry row view.0)) hands
        (All-head (λ (r : R). Any (λ (view : ℕ × List Entry). Contains view.1 (entry r view.0)) (views_at k hands)) row rows published)))

  closed_bare : (locks : List (TurnLock (Desk S O G) Entry)) (hands : List (Passes S O G Entry g)) (k : ℕ) (shards : List (ShardView S O G)) → AreDealt locks hands → AreClosed gp outcome bytes go hands k shards → AreBare shards
  closed_bare locks hands k [] dealt closed = tt
  closed_bare locks hands k (shard ∷ shards) dealt closed = ((no_path locks hands k shard.asked dealt closed.0.claimed, no_row locks hands k shard dealt closed.0), closed_bare locks hands (suc k) shards dealt closed.1)

  -- the shards are those that they were
  pub store_back : (fixed : Desk S O G → List ℕ) (store left now back : List (ShardView S O G)) (locks : List (TurnLock (Desk S O G) Entry)) (hands : List (Passes S O G Entry g)) → IsUntouched store → AreDealt locks hands → now ≡ left → AreTaken fixed store left locks
      → ((closed : List (ShardView S O G)) × (back ≡ closed ++ reverse now) × AreClosed gp outcome bytes go hands 0 closed × (all_origins closed ≡ map second (locks_fixed fixed locks))) → back ≡ store
  store_back fixed store left now back locks hands untouched dealt whole (taken, was, from) (closed, is, are, origins) =
      let bare = (bare_parts taken (reverse left) (subst (λ ss. AreBare ss) (sym was) (bare_store store untouched.nothing_asked untouched.no_row))).0 in
      let back_are : closed ≡ taken = bare_same closed taken (closed_bare locks hands 0 closed dealt are) bare (origins ∙ sym from) in
      is ∙ ((λ i. back_are i ++ reverse (whole i)) ∙ was)
