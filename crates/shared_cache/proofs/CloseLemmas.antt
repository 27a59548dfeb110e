-- Locks that are closed from the last to the first.
use Rattle.std.proofs.Common.{◌≡◌, ℕ, suc, List, [], ◌∷◌, ◌++◌, length, map, get_or, reverse, All, refl, sym, ap, ◌∙◌, subst, arith}
use Rattle.std.specs.List.{AllZip}
use Rattle.std.proofs.lemmas.List.{append_assoc, append-nil, map-append, reverse-append, reverse-reverse, nil_from_length, get_or_push, length_push, length-map}
use Rattle.scan_model.specs.declared.Outcome.{Outcome}
use Rattle.turn_lock.specs.declared.Logged.{Ghosts}
use Rattle.turn_lock.specs.declared.lock.TurnLock.{TurnLock}
use Rattle.turn_lock.specs.Passes.{lock_fixed}
use Rattle.shard_cache.specs.Rows.{ShardView, all_origins}
use Rattle.cache_desk.specs.declared.entry.Entry.{Entry}
use Rattle.cache_desk.specs.declared.desk.Desk.{Desk}
use Rattle.shared_cache.specs.declared.cache.Passes.{Passes}
use Rattle.shared_cache.specs.Shared.{ArePasses, AreNumbered, first, second, locks_fixed}
use Rattle.shared_cache.specs.Closing.{IsClosed, ClosesLast, AreClosed, view_of, views_at}
use Rattle.shared_cache.proofs.HandsLemmas.{IsBegun, views_are}

last_number : (fs : List (List ℕ)) (f : List ℕ) → AreNumbered (fs ++ f ∷ []) → first f ≡ length fs
last_number fs f are =
    let at : get_or (fs ++ f ∷ []) (length fs) [] ≡ f = get_or_push fs f [] (length fs) refl in
    sym (ap first at) ∙ ap first (are (length fs) (let n = length_push fs f in omega arith))

module _ {S O G : Type 0} {g : Ghosts (Desk S O G) Entry} (gp : G → List ℕ) (outcome : G → Outcome) (bytes : G → List ℕ) (go : G → ℕ) (fixed : Desk S O G → List ℕ) where
  -- these locks are left; the shards of the others stand after the first ones, the last first
  abbrev pub AreLeft : List (Passes S O G Entry g) → List ℕ → List (ShardView S O G) → List (ShardView S O G) → List (TurnLock (Desk S O G) Entry) → Type 0
  AreLeft hands origins before shards locks = (closed : List (ShardView S O G))
      × (shards ≡ before ++ reverse closed) × AreClosed gp outcome bytes go hands (length locks) closed × (map second (locks_fixed fixed locks) ++ all_origins closed ≡ origins)

  pub all_left : (hands : List (Passes S O G Entry g)) (before : List (ShardView S O G)) (locks : List (TurnLock (Desk S O G) Entry)) → AreLeft hands (map second (locks_fixed fixed locks)) before before locks
  all_left hands before locks = ([], sym (append-nil before), tt, append-nil (map second (locks_fixed fixed locks)))

  pub one_left : (all : List (Passes S O G Entry g)) (origins : List ℕ) (before shards now : List (ShardView S O G)) (locks : List (TurnLock (Desk S O G) Entry)) (lock : TurnLock (Desk S O G) Entry) (hands less : List (Passes S O G Entry g)) (shard : ShardView S O G)
      → AllZip IsBegun hands all → All (λ (hand : Passes S O G Entry g). ArePasses (locks ++ lock ∷ []) hand.passes.items hand.number) hands → AreNumbered (locks_fixed fixed (locks ++ lock ∷ []))
      → ClosesLast gp outcome bytes go (lock_fixed fixed lock) hands less shard → now ≡ shards ++ shard ∷ [] → AreLeft all origins before shards (locks ++ lock ∷ []) → AreLeft all origins before now locks
  one_left all origins before shards now locks lock hands less shard begun own numbered last more (closed, is, are, from) =
      let row = last.0 in
      let fs = locks_fixed fixed locks in
      let f = lock_fixed fixed lock in
      let number : first f ≡ length locks = last_number fs f (subst AreNumbered (map-append (lock_fixed fixed) locks (lock ∷ [])) numbered) ∙ length-map locks (lock_fixed fixed) in
      let views : map view_of row ≡ views_at (length locks) all = views_are locks lock less row hands all own last.1 begun in
      let here : IsClosed gp outcome bytes go (length locks) (views_at (length locks) all) shard = subst (λ k. IsClosed gp outcome bytes go k (views_at (length locks) all) shard) number (subst (λ vs. IsClosed gp outcome bytes go (first f) vs shard) views last.2) in
      let next : length (locks ++ lock ∷ []) ≡ suc (length locks) = (let n = length_push locks lock in omega arith) in
      let origin : map second (locks_fixed fixed (locks ++ lock ∷ [])) ≡ map second fs ++ second f ∷ [] = ap (map second) (map-append (lock_fixed fixed) locks (lock ∷ [])) ∙ map-append second fs (f ∷ []) in (
        shard ∷ closed,
        more ∙ (ap (λ ss. ss ++ shard ∷ []) is ∙ (append_assoc before (reverse closed) (shard ∷ []) ∙ ap (λ ss. before ++ ss) (sym (reverse-append (shard ∷ []) closed)))),
        (here, subst (λ k. AreClosed gp outcome bytes go all k closed) next are),
        ap (λ o. map second fs ++ o ∷ all_origins closed) last.3 ∙ (sym (append_assoc (map second fs) (second f ∷ []) (all_origins closed)) ∙ (sym (ap (λ os. os ++ all_origins closed) origin) ∙ from)),
      )

  -- where no lock is left, the shards stand in order once they are reversed
  pub none_left : (all : List (Passes S O G Entry g)) (origins : List ℕ) (before shards now : List (ShardView S O G)) (locks : List (TurnLock (Desk S O G) Entry)) → length locks ≡ 0 → now ≡ reverse shards → AreLeft all origins before shards locks
      → (closed : List (ShardView S O G)) × (now ≡ closed ++ reverse before) × AreClosed gp outcome bytes go all 0 closed × (all_origins closed ≡ origins)
  none_left all origins before shards now locks none turned (closed, is, are, from) = (
    closed,
    turned ∙ (ap reverse is ∙ (reverse-append before (reverse closed) ∙ ap (λ ss. ss ++ reverse before) (reverse-reverse closed))),
    subst (λ k. AreClosed gp outcome bytes go all k closed) none are,
    sym (ap (λ ls. map second (locks_fixed fixed ls) ++ all_origins closed) (nil_from_length locks none)) ∙ from,
  )

  -- all locks of a cache, closed for these passes
  pub all_closed : (passes hands : List (Passes S O G Entry g)) (before now : List (ShardView S O G)) (locks : List (TurnLock (Desk S O G) Entry)) → hands ≡ passes → length before ≡ 0 → length locks ≡ 16
      → ((closed : List (ShardView S O G)) × (now ≡ closed ++ reverse before) × AreClosed gp outcome bytes go hands 0 closed × (all_origins closed ≡ map second (locks_fixed fixed locks)))
      → AreClosed gp outcome bytes go passes 0 now × (length now ≡ 16) × (all_origins now ≡ map second (locks_fixed fixed locks))
  all_closed passes hands before now locks same empty sixteen (closed, is, are, from) =
      let now_is : now ≡ closed = is ∙ (ap (λ ss. closed ++ reverse ss) (nil_from_length before empty) ∙ append-nil closed) in
      let count : length closed ≡ 16 = sym (length-map closed (λ (s : ShardView S O G). s.origin)) ∙ (ap length from ∙ (length-map (locks_fixed fixed locks) second ∙ (length-map locks (lock_fixed fixed) ∙ sixteen))) in (
        subst (λ z. AreClosed gp outcome bytes go passes 0 z) (sym now_is) (subst (λ z. AreClosed gp outcome bytes go z 0 closed) same are),
        ap length now_is ∙ count,
        ap all_origins now_is ∙ from,
      )
