-- Workers that get or give one pass each.
use Rattle.std.proofs.Common.{◌≡◌, ◌<◌, ◌≤◌, ◌+◌, ℕ, zero, suc, List, [], ◌∷◌, ◌++◌, length, map, get_or, set, take, drop, All, refl, sym, ap, ◌∙◌, subst, arith}
use Rattle.std.specs.Prelude.{Some, slice_get, vec_capacity, Vec}
use Rattle.std.specs.List.{AllZip}
use Rattle.std.specs.declared.alloc.Global.{Global}
use Rattle.std.proofs.lemmas.List.{append_assoc, append-nil, map-append, take_more, take_more_set, take-set, take-take, drop_more, drop-set, drop-set-lt, drop-drop, get_or-take, get_or-drop, get_or_append_left, length_push, length-map, same_from_push}
use Rattle.std.proofs.lemmas.List.Elements.{All-nil, All-cons, All-head, All-tail, All-push}
use Rattle.std.proofs.lemmas.Option.{slice_get-get_or}
use Rattle.turn_lock.specs.declared.Logged.{Ghosts}
use Rattle.turn_lock.specs.declared.lock.Pass.{Pass}
use Rattle.turn_lock.specs.declared.lock.TurnLock.{TurnLock}
use Rattle.turn_lock.specs.Passes.{IsPassOf, number, seen, pass_count, lock_fixed, AreFirst}
use Rattle.shard_cache.proofs.RowLemmas.{All-parts}
use Rattle.cache_desk.specs.declared.entry.Entry.{Entry}
use Rattle.cache_desk.specs.declared.desk.Desk.{Desk}
use Rattle.shared_cache.specs.declared.cache.Passes.{Passes}
use Rattle.shared_cache.specs.Shared.{ArePasses, AreNumbered, AreFresh, HaveRoom, HavePasses, second, locks_fixed, all_seen, seen_of_shard}
use Rattle.shared_cache.specs.Opening.{AreDealt}
use Rattle.shared_cache.specs.Hands.{IsOneMore, HaveOneMore, HaveLast, AreParts, AreMade}
use Rattle.shared_cache.specs.Closing.{view_of, views_at}
use Rattle.shared_cache.proofs.SharedLemmas.{same_length}

-- ## One lock more or less

module _ {T E : Type 0} {g : Ghosts T E} where
  -- each list of passes gets one of the lock
  pub passes_push : (ls : List (TurnLock T E)) (ps : List (Pass T E g)) (n : ℕ) (l : TurnLock T E) (p : Pass T E g) → ArePasses ls ps n → IsPassOf l p → number p ≡ n → ArePasses (ls ++ l ∷ []) (ps ++ p ∷ []) n
  passes_push [] [] n l p are own is = ((own, is), tt)
  passes_push [] (q ∷ ps) n l p are own is = absurd are
  passes_push (m ∷ ls) [] n l p are own is = absurd are
  passes_push (m ∷ ls) (q ∷ ps) n l p are own is = (are.0, passes_push ls ps n l p are.1 own is)

  -- or gives its last
  pub passes_last : (ls : List (TurnLock T E)) (ps : List (Pass T E g)) (n : ℕ) (l : TurnLock T E) → ArePasses (ls ++ l ∷ []) ps n
      → (others : List (Pass T E g)) × (last : Pass T E g) × (ps ≡ others ++ last ∷ []) × (IsPassOf l last × (number last ≡ n)) × ArePasses ls others n
  passes_last [] [] n l are = absurd are
  passes_last [] (p ∷ []) n l are = ([], p, refl, are.0, tt)
  passes_last [] (p ∷ q ∷ ps) n l are = absurd are.1
  passes_last (m ∷ ls) [] n l are = absurd are
  passes_last (m ∷ ls) (p ∷ ps) n l are = let r = passes_last ls ps n l are.1 in (p ∷ r.0, r.1, ap (λ qs. p ∷ qs) r.2, r.3, (are.0, r.4))

numbered_at : (m : ℕ) (fs : List (List ℕ)) (f : List ℕ) (o : ℕ) → ((k : ℕ) → k < length fs → get_or fs k [] ≡ (m + k) ∷ second (get_or fs k []) ∷ []) → f ≡ (m + length fs) ∷ o ∷ []
    → (k : ℕ) → k < length (fs ++ f ∷ []) → get_or (fs ++ f ∷ []) k [] ≡ (m + k) ∷ second (get_or (fs ++ f ∷ []) k []) ∷ []
numbered_at m [] f o are is zero inside = is ∙ ap (λ z. (m + 0) ∷ z ∷ []) (sym (ap second is))
numbered_at m [] f o are is (suc k) inside = absurd (omega arith)
numbered_at m (x ∷ fs) f o are is zero inside = are 0 (omega arith)
numbered_at m (x ∷ fs) f o are is (suc k) inside =
    let there : suc m + k ≡ m + suc k = omega arith in
    let last : m + suc (length fs) ≡ suc m + length fs = omega arith in
    numbered_at (suc m) fs f o (λ j within. are (suc j) (omega arith) ∙ ap (λ z. z ∷ second (get_or fs j []) ∷ []) (let e : m + suc j ≡ suc m + j = omega arith in e)) (is ∙ ap (λ z. z ∷ o ∷ []) last) k (omega arith)
    ∙ ap (λ z. z ∷ second (get_or (fs ++ f ∷ []) k []) ∷ []) there

pub numbered_push : (fs : List (List ℕ)) (f : List ℕ) (o : ℕ) → AreNumbered fs → f ≡ length fs ∷ o ∷ [] → AreNumbered (fs ++ f ∷ [])
numbered_push fs f o are is k inside =
    let from : (j : ℕ) → 0 + j ≡ j = (λ j. omega arith) in
    numbered_at 0 fs f o (λ j within. are j within ∙ ap (λ z. z ∷ second (get_or fs j []) ∷ []) (sym (from j))) (is ∙ ap (λ z. z ∷ o ∷ []) (sym (from (length fs)))) k inside
    ∙ ap (λ z. z ∷ second (get_or (fs ++ f ∷ []) k []) ∷ []) (from k)

numbered_less : (fs : List (List ℕ)) (f : List ℕ) → AreNumbered (fs ++ f ∷ []) → AreNumbered fs
numbered_less fs f are k inside =
    let same : get_or (fs ++ f ∷ []) k [] ≡ get_or fs k [] = get_or_append_left fs (f ∷ []) [] k inside in
    sym same ∙ (are k (let n = length_push fs f in omega arith) ∙ ap (λ z. k ∷ second z ∷ []) same)

few_passes : {T E : Type 0} (locks : List (TurnLock T E)) (n : ℕ) → 0 < length locks → HavePasses locks n → All (λ l. pass_count l ≤ 64) locks → n ≤ 64
few_passes [] n some counted few = absurd (omega arith)
few_passes {T} {E} (l ∷ locks) n some counted few =
    subst (λ z. z ≤ 64) (All-head (λ (m : TurnLock T E). pass_count m ≡ n) l locks counted) (All-head (λ (m : TurnLock T E). pass_count m ≤ 64) l locks few)

module _ {S O G E : Type 0} {g : Ghosts (Desk S O G) E} where
  -- ## One pass more for each

  pub one_more_push : (befores : List (Passes S O G E g)) (row : List (Pass (Desk S O G) E g)) (afters : List (Passes S O G E g)) (before : Passes S O G E g) (pass : Pass (Desk S O G) E g) (after : Passes S O G E g) → HaveOneMore befores row afters → IsOneMore before pass after
      → HaveOneMore (befores ++ before ∷ []) (row ++ pass ∷ []) (afters ++ after ∷ [])
  one_more_push [] [] [] before pass after have one = (one, tt)
  one_more_push [] [] (a ∷ afters) before pass after have one = absurd have
  one_more_push [] (p ∷ row) afters before pass after have one = absurd have
  one_more_push (b ∷ befores) [] afters before pass after have one = absurd have
  one_more_push (b ∷ befores) (p ∷ row) [] before pass after have one = absurd have
  one_more_push (b ∷ befores) (p ∷ row) (a ∷ afters) before pass after have one = (have.0, one_more_push befores row afters before pass after have.1 one)

  pub one_more_lengths : (befores : List (Passes S O G E g)) (row : List (Pass (Desk S O G) E g)) (afters : List (Passes S O G E g)) → HaveOneMore befores row afters → (length row ≡ length befores) × (length afters ≡ length befores)
  one_more_lengths [] [] [] have = (refl, refl)
  one_more_lengths [] [] (a ∷ afters) have = absurd have
  one_more_lengths [] (p ∷ row) afters have = absurd have
  one_more_lengths (b ∷ befores) [] afters have = absurd have
  one_more_lengths (b ∷ befores) (p ∷ row) [] have = absurd have
  one_more_lengths (b ∷ befores) (p ∷ row) (a ∷ afters) have = let r = one_more_lengths befores row afters have.1 in (ap suc r.0, ap suc r.1)

  -- each worker that got one had less before
  pub one_more_at : (befores : List (Passes S O G E g)) (row : List (Pass (Desk S O G) E g)) (afters : List (Passes S O G E g)) (k : ℕ) (after : Passes S O G E g) → HaveOneMore befores row afters → slice_get afters k ≡ Some after
      → (before : Passes S O G E g) × (pass : Pass (Desk S O G) E g) × (slice_get befores k ≡ Some before) × (slice_get row k ≡ Some pass) × IsOneMore before pass after
  one_more_at [] [] [] k after have at = cc
  one_more_at [] [] (a ∷ afters) k after have at = absurd have
  one_more_at [] (p ∷ row) afters k after have at = absurd have
  one_more_at (b ∷ befores) [] afters k after have at = absurd have
  one_more_at (b ∷ befores) (p ∷ row) [] k after have at = absurd have
  one_more_at (b ∷ befores) (p ∷ row) (a ∷ afters) zero after have at = (b, p, refl, refl, subst (λ z. IsOneMore b p z) (some_is a after at) have.0) where
    some_is : (x y : Passes S O G E g) → Some x ≡ Some y → x ≡ y
    some_is x y e = cc
  one_more_at (b ∷ befores) (p ∷ row) (a ∷ afters) (suc k) after have at = one_more_at befores row afters k after have.1 at

  -- a fact of each worker afterwards, by what it was before
  pub one_more_all : (P Q : (Passes S O G E g) → Type 0) (befores : List (Passes S O G E g)) (row : List (Pass (Desk S O G) E g)) (afters : List (Passes S O G E g)) → ((before : Passes S O G E g) (pass : Pass (Desk S O G) E g) (after : Passes S O G E g) → IsOneMore before pass after → P before → Q after) → HaveOneMore befores row afters → All P befores → All Q afters
  one_more_all P Q [] [] [] step have all = All-nil _
  one_more_all P Q [] [] (a ∷ afters) step have all = absurd have
  one_more_all P Q [] (p ∷ row) afters step have all = absurd have
  one_more_all P Q (b ∷ befores) [] afters step have all = absurd have
  one_more_all P Q (b ∷ befores) (p ∷ row) [] step have all = absurd have
  one_more_all P Q (b ∷ befores) (p ∷ row) (a ∷ afters) step have all =
      All-cons Q a afters (step b p a have.0 (All-head P b befores all)) (one_more_all P Q befores row afters step have.1 (All-tail P b befores all))

  -- a fact of each worker before, by what it is afterwards
  pub one_less_all : (P Q : (Passes S O G E g) → Type 0) (befores : List (Passes S O G E g)) (row : List (Pass (Desk S O G) E g)) (afters : List (Passes S O G E g)) → ((before : Passes S O G E g) (pass : Pass (Desk S O G) E g) (after : Passes S O G E g) → IsOneMore before pass after → P after → Q before) → HaveOneMore befores row afters → All P afters → All Q befores
  one_less_all P Q [] [] [] step have all = All-nil _
  one_less_all P Q [] [] (a ∷ afters) step have all = absurd have
  one_less_all P Q [] (p ∷ row) afters step have all = absurd have
  one_less_all P Q (b ∷ befores) [] afters step have all = absurd have
  one_less_all P Q (b ∷ befores) (p ∷ row) [] step have all = absurd have
  one_less_all P Q (b ∷ befores) (p ∷ row) (a ∷ afters) step have all =
      All-cons Q b befores (step b p a have.0 (All-head P a afters all)) (one_less_all P Q befores row afters step have.1 (All-tail P a afters all))

  -- a fact of each pass, by the worker that has it afterwards
  pub one_more_row : (P : (Passes S O G E g) → Type 0) (Q : (Pass (Desk S O G) E g) → Type 0) (befores : List (Passes S O G E g)) (row : List (Pass (Desk S O G) E g)) (afters : List (Passes S O G E g)) → ((before : Passes S O G E g) (pass : Pass (Desk S O G) E g) (after : Passes S O G E g) → IsOneMore before pass after → P after → Q pass) → HaveOneMore befores row afters → All P afters → All Q row
  one_more_row P Q [] [] [] step have all = All-nil _
  one_more_row P Q [] [] (a ∷ afters) step have all = absurd have
  one_more_row P Q [] (p ∷ row) afters step have all = absurd have
  one_more_row P Q (b ∷ befores) [] afters step have all = absurd have
  one_more_row P Q (b ∷ befores) (p ∷ row) [] step have all = absurd have
  one_more_row P Q (b ∷ befores) (p ∷ row) (a ∷ afters) step have all =
      All-cons Q p row (step b p a have.0 (All-head P a afters all)) (one_more_row P Q befores row afters step have.1 (All-tail P a afters all))

  -- the passes that were the workers' last are of the lock
  pub row_own : (lock : TurnLock (Desk S O G) E) (befores : List (Passes S O G E g)) (row : List (Pass (Desk S O G) E g)) (afters : List (Passes S O G E g)) → HaveLast lock afters → HaveOneMore befores row afters → All (λ (p : Pass (Desk S O G) E g). IsPassOf lock p) row
  row_own lock befores row afters last have =
      one_more_row (λ (hand : Passes S O G E g). (others : List (Pass (Desk S O G) E g)) × (end : Pass (Desk S O G) E g) × (hand.passes.items ≡ others ++ end ∷ []) × IsPassOf lock end × (number end ≡ hand.number)) (λ p. IsPassOf lock p) befores row afters
      (λ before pass after one l. subst (λ z. IsPassOf lock z) (sym (same_from_push before.passes.items l.0 pass l.1 (sym one.0 ∙ l.2)).1) l.3) have last

  -- ## One worker after the other

  -- the worker with these passes
  abbrev pub with_passes : Passes S O G E g → Vec (Pass (Desk S O G) E g) Global → Passes S O G E g
  with_passes hand passes = record { passes = passes; number = hand.number }

  rest_same : (n : ℕ) (now was : List (Passes S O G E g)) → drop n now ≡ drop n was → drop (n + 1) now ≡ drop (n + 1) was
  rest_same n now was e = sym (drop-drop 1 n now) ∙ (ap (drop 1) e ∙ drop-drop 1 n was)

  pub head_same : (n : ℕ) (now was : List (Passes S O G E g)) (hand : Passes S O G E g) → drop n now ≡ drop n was → hand ≡ get_or now n hand → hand ≡ get_or was n hand
  head_same n now was hand e at =
      at ∙ (ap (λ k. get_or now k hand) (let z : n ≡ n + 0 = omega arith in z) ∙ (sym (get_or-drop n now 0 hand) ∙ (ap (λ xs. get_or xs 0 hand) e ∙ (get_or-drop n was 0 hand ∙ ap (λ k. get_or was k hand) (let z : n + 0 ≡ n = omega arith in z)))))

  pub front_same : (n m : ℕ) (now was : List (Passes S O G E g)) (hand : Passes S O G E g) → n < m → take m now ≡ take m was → hand ≡ get_or now n hand → hand ≡ get_or was n hand
  front_same n m now was hand inside e at = at ∙ (sym (get_or-take m now n hand inside) ∙ (ap (λ xs. get_or xs n hand) e ∙ get_or-take m was n hand inside))

  -- the next worker gives its last pass
  pub gives : (n : ℕ) (now was : List (Passes S O G E g)) (row longer : List (Pass (Desk S O G) E g)) (hand : Passes S O G E g) (left : Vec (Pass (Desk S O G) E g) Global) (pass : Pass (Desk S O G) E g) → n < length now → length now ≡ length was → hand ≡ get_or now n hand
      → HaveOneMore (take n now) row (take n was) → drop n now ≡ drop n was → IsOneMore (with_passes hand left) pass hand → longer ≡ row ++ pass ∷ []
      → HaveOneMore (take (n + 1) (set now n (with_passes hand left))) longer (take (n + 1) was) × (drop (n + 1) (set now n (with_passes hand left)) ≡ drop (n + 1) was)
  gives n now was row longer hand left pass inside long at have rest one more =
      let less = with_passes hand left in
      let first = take_more_set now n less inside in
      let last : take (n + 1) was ≡ take n was ++ hand ∷ [] = take_more was n hand (omega arith) ∙ ap (λ z. take n was ++ z ∷ []) (sym (head_same n now was hand rest at)) in (
        subst (λ z. HaveOneMore z longer (take (n + 1) was)) (sym first)
            (subst (λ z. HaveOneMore (take n now ++ less ∷ []) longer z) (sym last)
            (subst (λ z. HaveOneMore (take n now ++ less ∷ []) z (take n was ++ hand ∷ [])) (sym more)
            (one_more_push (take n now) row (take n was) less pass hand have one))),
        drop-set-lt (n + 1) now n less (omega arith) ∙ rest_same n now was rest,
      )

  -- the worker before the last that got one gets its pass
  pub gets : (n : ℕ) (now was : List (Passes S O G E g)) (row left less : List (Pass (Desk S O G) E g)) (hand more : Passes S O G E g) (pass : Pass (Desk S O G) E g) → n < length now → length now ≡ length was → length row ≡ length was → hand ≡ get_or now n hand
      → left ≡ less ++ pass ∷ [] → length less ≡ n → left ≡ take (n + 1) row → take (n + 1) now ≡ take (n + 1) was
      → HaveOneMore (drop (n + 1) was) (drop (n + 1) row) (drop (n + 1) now) → IsOneMore hand pass more
      → HaveOneMore (drop n was) (drop n row) (drop n (set now n more)) × (take n (set now n more) ≡ take n was) × (less ≡ take n row)
  gets n now was row left less hand more pass inside long rows at cut short took same have one =
      let here : hand ≡ get_or was n hand = front_same n (n + 1) now was hand (omega arith) same at in
      let split : less ++ pass ∷ [] ≡ take n row ++ get_or row n pass ∷ [] = sym cut ∙ (took ∙ take_more row n pass (omega arith)) in
      let parts = same_from_push less (take n row) pass (get_or row n pass) split in
      let bs : drop n was ≡ hand ∷ drop (n + 1) was = drop_more was n hand (omega arith) ∙ ap (λ z. z ∷ drop (n + 1) was) (sym here) in
      let rs : drop n row ≡ pass ∷ drop (n + 1) row = drop_more row n pass (omega arith) ∙ ap (λ z. z ∷ drop (n + 1) row) (sym parts.1) in
      let ns : drop n (set now n more) ≡ more ∷ drop (n + 1) now = drop-set now n more inside in (
        subst (λ z. HaveOneMore z (drop n row) (drop n (set now n more))) (sym bs)
            (subst (λ z. HaveOneMore (hand ∷ drop (n + 1) was) z (drop n (set now n more))) (sym rs)
            (subst (λ z. HaveOneMore (hand ∷ drop (n + 1) was) (pass ∷ drop (n + 1) row) z) (sym ns) (one, have))),
        take-set now n more ∙ (sym (take-take n (n + 1) now (omega arith)) ∙ (ap (take n) same ∙ take-take n (n + 1) was (omega arith))),
        parts.0,
      )

  pub gets_next : (n : ℕ) (now was : List (Passes S O G E g)) (row left less : List (Pass (Desk S O G) E g)) (hand : Passes S O G E g) (longer : Vec (Pass (Desk S O G) E g) Global) (pass : Pass (Desk S O G) E g) → length now ≡ length was → length row ≡ length was → hand ≡ get_or now n hand
      → left ≡ less ++ pass ∷ [] → n ≡ length less → length left ≤ length row → left ≡ take (length left) row → take (length left) now ≡ take (length left) was
      → HaveOneMore (drop (length left) was) (drop (length left) row) (drop (length left) now) → IsOneMore hand pass (with_passes hand longer)
      → HaveOneMore (drop (length less) was) (drop (length less) row) (drop (length less) (set now n (with_passes hand longer))) × (take (length less) (set now n (with_passes hand longer)) ≡ take (length less) was) × (less ≡ take (length less) row)
  gets_next n now was row left less hand longer pass long rows at cut short within took same have one =
      let more = with_passes hand longer in
      let one_longer : length left ≡ n + 1 = (let l = ap length cut ∙ length_push less pass in omega arith) in
      subst (λ m. HaveOneMore (drop m was) (drop m row) (drop m (set now n (with_passes hand longer))) × (take m (set now n (with_passes hand longer)) ≡ take m was) × (less ≡ take m row)) short
      (gets n now was row left less hand more pass (omega arith) long rows at cut (sym short) (subst (λ m. left ≡ take m row) one_longer took) (subst (λ m. take m now ≡ take m was) one_longer same)
      (subst (λ m. HaveOneMore (drop m was) (drop m row) (drop m now)) one_longer have) one)

  -- ## A lock that is made

  pub dealt_own : (locks : List (TurnLock (Desk S O G) E)) (hands : List (Passes S O G E g)) → AreDealt locks hands → All (λ (hand : Passes S O G E g). ArePasses locks hand.passes.items hand.number) hands
  dealt_own locks hands dealt k d inside =
      let hand = get_or hands k d in
      let is = dealt k hand (slice_get-get_or hands k d inside) in
      subst (λ n. ArePasses locks hand.passes.items n) (sym is.1) is.0

  dealt_more : (locks : List (TurnLock (Desk S O G) E)) (lock : TurnLock (Desk S O G) E) (hands : List (Passes S O G E g)) (row : List (Pass (Desk S O G) E g)) (after : List (Passes S O G E g)) → AreDealt locks hands → AreFirst lock [] row → HaveOneMore hands row after → AreDealt (locks ++ lock ∷ []) after
  dealt_more locks lock hands row after dealt ps have k hand at =
      let w = one_more_at hands row after k hand have at in
      let before = w.0 in let pass = w.1 in
      let was = dealt k before w.2 in
      let own = ps k pass w.3 in
      let items : hand.passes.items ≡ before.passes.items ++ pass ∷ [] = w.4.0 in
      let logs : all_seen hand.passes.items ≡ all_seen before.passes.items ++ seen pass ∷ [] = ap all_seen items ∙ map-append seen before.passes.items (pass ∷ []) in (
        subst (λ z. ArePasses (locks ++ lock ∷ []) z k) (sym items) (passes_push locks before.passes.items k lock pass was.0 own.0 own.1),
        w.4.1 ∙ was.1,
        subst (λ z. All (λ log. log ≡ []) z) (sym logs) (All-push (λ log. log ≡ []) (all_seen before.passes.items) (seen pass) was.2 own.2),
      )

  -- each worker has a place for one pass more
  pub has_place : (locks : List (TurnLock (Desk S O G) E)) (hands now : List (Passes S O G E g)) → now ≡ hands → length locks < 16 → All (λ (hand : Passes S O G E g). ArePasses locks hand.passes.items hand.number) hands
      → All (λ (hand : Passes S O G E g). 16 ≤ vec_capacity hand.passes) hands → All (λ (hand : Passes S O G E g). length hand.passes.items < vec_capacity hand.passes) now
  has_place locks hands now same few own places =
      subst (λ z. All (λ (hand : Passes S O G E g). length hand.passes.items < vec_capacity hand.passes) z) (sym same)
      (λ k d inside. let hand = get_or hands k d in let n = same_length locks hand.passes.items hand.number (own k d inside) in let m = places k d inside in omega arith)

  pub still_places : (befores : List (Passes S O G E g)) (row : List (Pass (Desk S O G) E g)) (afters : List (Passes S O G E g)) → HaveOneMore befores row afters
      → All (λ (hand : Passes S O G E g). 16 ≤ vec_capacity hand.passes) befores → All (λ (hand : Passes S O G E g). 16 ≤ vec_capacity hand.passes) afters
  still_places befores row afters have places =
      one_more_all (λ (hand : Passes S O G E g). 16 ≤ vec_capacity hand.passes) (λ hand. 16 ≤ vec_capacity hand.passes) befores row afters (λ before pass after one large. let same = one.2 in omega arith) have places

  pub made_more : {X : Type 0} (log : Desk S O G → List X) (fixed : Desk S O G → List ℕ) (workers : ℕ) (locks : List (TurnLock (Desk S O G) E)) (rooms : List (Vec (Pass (Desk S O G) E g) Global)) (hands : List (Passes S O G E g))
      → (lock : TurnLock (Desk S O G) E) (row : List (Pass (Desk S O G) E g)) (room : Vec (Pass (Desk S O G) E g) Global) (after : List (Passes S O G E g)) (origin : ℕ)
      → AreMade log fixed workers locks rooms hands → HaveOneMore hands row after → AreFirst lock [] row → pass_count lock ≡ workers
      → length (log lock.table.shared.key.first.value) ≡ 0 → lock_fixed fixed lock ≡ length locks ∷ origin ∷ [] → length room.items ≡ 0 → 64 ≤ vec_capacity room
      → AreMade log fixed workers (locks ++ lock ∷ []) (rooms ++ room ∷ []) after
  made_more log fixed workers locks rooms hands lock row room after origin made have ps passes fresh number empty large =
      let parts = made.parts in
      let long = (one_more_lengths hands row after have).1 in
      let dealt = dealt_more locks lock hands row after made.dealt ps have in
      let same : length after ≡ length hands = long in
      let count = made.count in
      let n = length-map locks (lock_fixed fixed) in
      record {
        parts = record {
          numbered = subst AreNumbered (sym (map-append (lock_fixed fixed) locks (lock ∷ []))) (numbered_push (locks_fixed fixed locks) (lock_fixed fixed lock) origin parts.numbered (number ∙ ap (λ z. z ∷ origin ∷ []) (sym n)));
          fresh = All-push (λ l. length (log l.table.shared.key.first.value) ≡ 0) locks lock parts.fresh fresh;
          counted = subst (λ z. HavePasses (locks ++ lock ∷ []) z) (sym same) (All-push (λ l. pass_count l ≡ length hands) locks lock parts.counted (passes ∙ sym count));
          rooms_are = length_push rooms room ∙ (ap (λ z. z + 1) parts.rooms_are ∙ sym (length_push locks lock));
          few = (let n = parts.few in omega arith);
          roomy = All-push (λ (r : Vec (Pass (Desk S O G) E g) Global). (length r.items ≡ 0) × (64 ≤ vec_capacity r)) rooms room parts.roomy (empty, large);
          own = dealt_own (locks ++ lock ∷ []) after dealt;
        };
        count = same ∙ count;
        dealt = dealt;
      }

  -- ## A lock that is closed

  own_less : (locks : List (TurnLock (Desk S O G) E)) (lock : TurnLock (Desk S O G) E) (before : Passes S O G E g) (pass : Pass (Desk S O G) E g) (after : Passes S O G E g) → IsOneMore before pass after → ArePasses (locks ++ lock ∷ []) after.passes.items after.number
      → (ArePasses locks before.passes.items before.number × (IsPassOf lock pass × (number pass ≡ after.number)))
  own_less locks lock before pass after one own =
      let l = passes_last locks after.passes.items after.number lock own in
      let same = same_from_push before.passes.items l.0 pass l.1 (sym one.0 ∙ l.2) in (
        subst (λ n. ArePasses locks before.passes.items n) one.1 (subst (λ z. ArePasses locks z after.number) (sym same.0) l.4),
        subst (λ z. IsPassOf lock z × (number z ≡ after.number)) (sym same.1) l.3,
      )

  -- each worker's last pass is of the last lock
  pub last_passes : (locks : List (TurnLock (Desk S O G) E)) (lock : TurnLock (Desk S O G) E) (hands : List (Passes S O G E g)) → All (λ (hand : Passes S O G E g). ArePasses (locks ++ lock ∷ []) hand.passes.items hand.number) hands → HaveLast lock hands
  last_passes locks lock hands own k d inside =
      let hand = get_or hands k d in
      let l = passes_last locks hand.passes.items hand.number lock (own k d inside) in (l.0, l.1, l.2, l.3.0, l.3.1)

  pub parts_at : {X : Type 0} (log : Desk S O G → List X) (fixed : Desk S O G → List ℕ) (all locks : List (TurnLock (Desk S O G) E)) (lock : TurnLock (Desk S O G) E) (all_rooms rooms : List (Vec (Pass (Desk S O G) E g) Global)) (room : Vec (Pass (Desk S O G) E g) Global) (hands now : List (Passes S O G E g))
      → all ≡ locks ++ lock ∷ [] → all_rooms ≡ rooms ++ room ∷ [] → now ≡ hands → AreParts log fixed all all_rooms hands → AreParts log fixed (locks ++ lock ∷ []) (rooms ++ room ∷ []) now
  parts_at log fixed all locks lock all_rooms rooms room hands now a r h parts =
      subst (λ z. AreParts log fixed z (rooms ++ room ∷ []) now) a (subst (λ z. AreParts log fixed all z now) r (subst (λ z. AreParts log fixed all all_rooms z) (sym h) parts))

  -- what the last lock needs to be closed
  pub last_needs : {X : Type 0} (log : Desk S O G → List X) (fixed : Desk S O G → List ℕ) (locks : List (TurnLock (Desk S O G) E)) (lock : TurnLock (Desk S O G) E) (rooms : List (Vec (Pass (Desk S O G) E g) Global)) (room : Vec (Pass (Desk S O G) E g) Global) (hands : List (Passes S O G E g))
      → AreParts log fixed (locks ++ lock ∷ []) (rooms ++ room ∷ []) hands
      → (length (log lock.table.shared.key.first.value) ≡ 0) × (pass_count lock ≡ length hands) × HaveLast lock hands × ((length room.items ≡ 0) × (length hands ≤ vec_capacity room))
  last_needs log fixed locks lock rooms room hands parts =
      let Fresh = λ (l : TurnLock (Desk S O G) E). length (log l.table.shared.key.first.value) ≡ 0 in
      let Counted = λ (l : TurnLock (Desk S O G) E). pass_count l ≡ length hands in
      let Roomy = λ (v : Vec (Pass (Desk S O G) E g) Global). (length v.items ≡ 0) × (64 ≤ vec_capacity v) in
      let roomy = All-head Roomy room [] (All-parts Roomy rooms (room ∷ []) parts.roomy).1 in (
        All-head Fresh lock [] (All-parts Fresh locks (lock ∷ []) parts.fresh).1,
        All-head Counted lock [] (All-parts Counted locks (lock ∷ []) parts.counted).1,
        last_passes locks lock hands parts.own,
        (roomy.0, (let n = parts.few in let m = roomy.1 in omega arith)),
      )

  pub parts_less : {X : Type 0} (log : Desk S O G → List X) (fixed : Desk S O G → List ℕ) (locks : List (TurnLock (Desk S O G) E)) (lock : TurnLock (Desk S O G) E) (rooms : List (Vec (Pass (Desk S O G) E g) Global)) (room : Vec (Pass (Desk S O G) E g) Global) (before : List (Passes S O G E g)) (row : List (Pass (Desk S O G) E g)) (hands : List (Passes S O G E g))
      → AreParts log fixed (locks ++ lock ∷ []) (rooms ++ room ∷ []) hands → HaveOneMore before row hands → AreParts log fixed locks rooms before
  parts_less log fixed locks lock rooms room before row hands parts have =
      let same : length hands ≡ length before = (one_more_lengths before row hands have).1 in
      let n = length_push rooms room in let m = length_push locks lock in let r = parts.rooms_are in
      record {
        numbered = numbered_less (locks_fixed fixed locks) (lock_fixed fixed lock) (subst AreNumbered (map-append (lock_fixed fixed) locks (lock ∷ [])) parts.numbered);
        fresh = (All-parts (λ l. length (log l.table.shared.key.first.value) ≡ 0) locks (lock ∷ []) parts.fresh).0;
        counted = subst (λ z. HavePasses locks z) same (All-parts (λ l. pass_count l ≡ length hands) locks (lock ∷ []) parts.counted).0;
        rooms_are = omega arith;
        few = (let n = parts.few in omega arith);
        roomy = (All-parts (λ (v : Vec (Pass (Desk S O G) E g) Global). (length v.items ≡ 0) × (64 ≤ vec_capacity v)) rooms (room ∷ []) parts.roomy).0;
        own = one_less_all (λ (hand : Passes S O G E g). ArePasses (locks ++ lock ∷ []) hand.passes.items hand.number) (λ hand. ArePasses locks hand.passes.items hand.number) before row hands (λ b p a one own. (own_less locks lock b p a one own).0) have parts.own;
      }

  -- the parts of a cache with all its passes
  pub parts_all : {X : Type 0} (log : Desk S O G → List X) (fixed : Desk S O G → List ℕ) (locks : List (TurnLock (Desk S O G) E)) (rooms : List (Vec (Pass (Desk S O G) E g) Global)) (passes hands : List (Passes S O G E g))
      → hands ≡ passes → length locks ≡ 16 → length rooms ≡ 16 → AreNumbered (locks_fixed fixed locks) → AreFresh log locks → All (λ l. pass_count l ≤ 64) locks → HaveRoom 64 rooms → HavePasses locks (length passes)
      → All (λ (hand : Passes S O G E g). ArePasses locks hand.passes.items hand.number) passes → AreParts log fixed locks rooms hands
  parts_all log fixed locks rooms passes hands same sixteen also numbered fresh few roomy counted own =
      subst (λ z. AreParts log fixed locks rooms z) (sym same)
      (record { numbered = numbered; fresh = fresh; counted = counted; rooms_are = also ∙ sym sixteen; few = few_passes locks (length passes) (omega arith) counted few; roomy = roomy; own = own })

  -- a worker's passes begin with these
  abbrev pub IsBegun : (Passes S O G E g) → (Passes S O G E g) → Type 0
  IsBegun now was = (now.number ≡ was.number) × ((rest : List (Pass (Desk S O G) E g)) × (was.passes.items ≡ now.passes.items ++ rest))

  pub begun_same : (hands : List (Passes S O G E g)) → AllZip IsBegun hands hands
  begun_same [] = tt
  begun_same (hand ∷ hands) = ((refl, ([], sym (append-nil hand.passes.items))), begun_same hands)

  pub begun_less : (less : List (Passes S O G E g)) (row : List (Pass (Desk S O G) E g)) (now was : List (Passes S O G E g)) → HaveOneMore less row now → AllZip IsBegun now was → AllZip IsBegun less was
  begun_less [] [] [] [] have begun = tt
  begun_less [] [] [] (w ∷ was) have begun = absurd begun
  begun_less [] [] (n ∷ now) was have begun = absurd have
  begun_less [] (p ∷ row) now was have begun = absurd have
  begun_less (l ∷ less) [] now was have begun = absurd have
  begun_less (l ∷ less) (p ∷ row) [] was have begun = absurd have
  begun_less (l ∷ less) (p ∷ row) (n ∷ now) [] have begun = absurd begun
  begun_less (l ∷ less) (p ∷ row) (n ∷ now) (w ∷ was) have begun =
      let b = begun.0 in ((sym have.0.1 ∙ b.0, (p ∷ b.1.0, b.1.1 ∙ (ap (λ xs. xs ++ b.1.0) have.0.0 ∙ append_assoc l.passes.items (p ∷ []) b.1.0))), begun_less less row now was have.1 begun.1)

module _ {S O G : Type 0} {g : Ghosts (Desk S O G) Entry} where
  seen_at : (before : List (Pass (Desk S O G) Entry g)) (pass : Pass (Desk S O G) Entry g) (rest : List (Pass (Desk S O G) Entry g)) (k : ℕ) → length before ≡ k → seen_of_shard (all_seen (before ++ pass ∷ rest)) k ≡ seen pass
  seen_at [] pass rest zero is = refl
  seen_at [] pass rest (suc k) is = absurd (omega arith)
  seen_at (p ∷ before) pass rest zero is = absurd (omega arith)
  seen_at (p ∷ before) pass rest (suc k) is = seen_at before pass rest k (omega arith)

  -- what the row has seen is what the workers had seen of the shard
  pub views_are : (locks : List (TurnLock (Desk S O G) Entry)) (lock : TurnLock (Desk S O G) Entry) (less : List (Passes S O G Entry g)) (row : List (Pass (Desk S O G) Entry g)) (now was : List (Passes S O G Entry g))
      → All (λ (hand : Passes S O G Entry g). ArePasses (locks ++ lock ∷ []) hand.passes.items hand.number) now → HaveOneMore less row now → AllZip IsBegun now was → map view_of row ≡ views_at (length locks) was
  views_are locks lock [] [] [] [] own have begun = refl
  views_are locks lock [] [] [] (w ∷ was) own have begun = absurd begun
  views_are locks lock [] [] (n ∷ now) was own have begun = absurd have
  views_are locks lock [] (p ∷ row) now was own have begun = absurd have
  views_are locks lock (l ∷ less) [] now was own have begun = absurd have
  views_are locks lock (l ∷ less) (p ∷ row) [] was own have begun = absurd have
  views_are locks lock (l ∷ less) (p ∷ row) (n ∷ now) [] own have begun = absurd begun
  views_are locks lock (l ∷ less) (p ∷ row) (n ∷ now) (w ∷ was) own have begun =
      let P = λ (hand : Passes S O G Entry g). ArePasses (locks ++ lock ∷ []) hand.passes.items hand.number in
      let o = own_less locks lock l p n have.0 (All-head P n now own) in
      let b = begun.0 in
      let items : w.passes.items ≡ l.passes.items ++ p ∷ b.1.0 = b.1.1 ∙ (ap (λ xs. xs ++ b.1.0) have.0.0 ∙ append_assoc l.passes.items (p ∷ []) b.1.0) in
      let named : number p ≡ w.number = o.1.1 ∙ b.0 in
      let logs : seen p ≡ seen_of_shard (all_seen w.passes.items) (length locks) =
      sym (ap (λ xs. seen_of_shard (all_seen xs) (length locks)) items ∙ seen_at l.passes.items p b.1.0 (length locks) (same_length locks l.passes.items l.number o.0)) in
      (λ i. (named i, logs i) ∷ views_are locks lock less row now was (All-tail P n now own) have.1 begun.1 i)
