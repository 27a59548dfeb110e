-- What holds while a worker draws and runs one job after another.
use Rattle.std.proofs.Common.{◌≡◌, ◌<◌, ◌≤◌, ◌+◌, ℕ, List, [], ◌∷◌, ◌++◌, length, map, All, Contains, Some, refl, sym, ◌∙◌, ap, subst, ⊎_elim, arith}
use Rattle.std.specs.Prelude.{slice_get}
use Rattle.std.proofs.lemmas.List.{map-append, length-append, length-map}
use Rattle.std.proofs.lemmas.Option.{slice_get_within, get_or_from_slice_get}
use Rattle.std.proofs.lemmas.List.Elements.{All-nil, All-push, All-weaker, All-head, All-tail}
use Rattle.scan_model.specs.declared.command.Settings.{Settings}
use Rattle.scan_model.specs.declared.command.Job.{Job}
use Rattle.scan_model.specs.declared.UnitEnd.{UnitEnd}
use Rattle.scan_model.specs.Files.{FileMap}
use Rattle.scan_model.specs.Answer.{looked}
use Rattle.shard_cache.specs.Ends.{IsLookedAt}
use Rattle.cache_desk.specs.declared.entry.Entry.{Entry}
use Rattle.worker.specs.Claims.{HasClaimed, GoesOn}
use Rattle.worker.specs.Work.{IsEndOver, IsLooked, IsEndOf, AreSpent}
use Rattle.worker.proofs.Seeing.{rows_before}

all_last : (P : ℕ → Type 0) (xs : List ℕ) (x : ℕ) → All P (xs ++ x ∷ []) → P x
all_last P [] x all = All-head P x [] all
all_last P (y ∷ xs) x all = all_last P xs x (All-tail P y (xs ++ x ∷ []) all)

-- there are no more numbers than the least that is greater than all of them
abbrev pub AreFew : List ℕ → Type 0
AreFew drawn = (r : ℕ) → All (λ n. n < r) drawn → length drawn ≤ r

few_more : (drawn : List ℕ) (number : ℕ) → AreFew drawn → All (λ n. n < number) drawn → AreFew (drawn ++ number ∷ [])
few_more drawn number few later r all =
    let below = few number later in
    let last : number < r = all_last (λ n. n < r) drawn number all in
    let count : length (drawn ++ number ∷ []) ≡ length drawn + 1 = length-append drawn (number ∷ []) in
    omega arith

module _ (settings : Settings) (jobs : List Job) (by : ℕ) where
  -- the jobs of these numbers have their ends, and no other paths were claimed than they look at
  pub record IsWorking (drawn : List ℕ) (seen : List (List Entry)) (share : List (ℕ × UnitEnd)) : Type 0 where
    pub below : All (λ n. n < length jobs) drawn
    pub few : AreFew drawn
    pub numbers : map (λ e. e.0) share ≡ drawn
    pub ends : All (IsEndOf settings jobs seen) share
    pub spent : AreSpent settings jobs seen by

  -- it begins
  pub working_begins : (drawn : List ℕ) (seen : List (List Entry)) (share : List (ℕ × UnitEnd)) → ((path : List ℕ) → HasClaimed seen by path → ⊥) → drawn ≡ [] → share ≡ [] → IsWorking drawn seen share
  working_begins drawn seen share unclaimed none empty =
      subst (λ d. IsWorking d seen share) (sym none)
      (subst (λ s. IsWorking [] seen s) (sym empty) record {
        below = All-nil (λ n. n < length jobs);
        few = λ r all. omega arith;
        numbers = refl;
        ends = All-nil (IsEndOf settings jobs seen);
        spent = λ path c. absurd (unclaimed path c);
      })

  spent_more : (before now : List (List Entry)) (number : ℕ) (job : Job) → slice_get jobs number ≡ Some job → GoesOn by (IsLooked settings job now) before now → AreSpent settings jobs before by → AreSpent settings jobs now by
  spent_more before now number job at goes spent path c = (
    goes.published (λ other was. (spent other was).0) path c,
    λ files rows.
        ⊎_elim (λ (was : HasClaimed before by path). (spent path was).1 files (rows_before before now files goes.further rows))
        (λ (new : IsLooked settings job now path). looked_at files number job at path (new files rows)) (goes.claims path c),
  ) where
    looked_at : (files : FileMap (List ℕ)) (number : ℕ) (job : Job) → slice_get jobs number ≡ Some job → (path : List ℕ) → Contains (looked files settings job) path → IsLookedAt files settings jobs path
    looked_at files number job at path has = (number, job, slice_get_within jobs number job at, get_or_from_slice_get jobs number job job at, has)

  one_more : (drawn : List ℕ) (before now : List (List Entry)) (share : List (ℕ × UnitEnd)) (number : ℕ) (job : Job) (end : UnitEnd) → IsWorking drawn before share → All (λ n. n < number) drawn →
      number < length jobs → slice_get jobs number ≡ Some job → IsEndOver settings job now end → GoesOn by (IsLooked settings job now) before now → IsWorking (drawn ++ number ∷ []) now (share ++ (number, end) ∷ [])
  one_more drawn before now share number job end h later inside at is goes = record {
    below = All-push (λ n. n < length jobs) drawn number h.below inside;
    few = few_more drawn number h.few later;
    numbers = map-append (λ (e : ℕ × UnitEnd). e.0) share ((number, end) ∷ []) ∙ ap (λ z. z ++ number ∷ []) h.numbers;
    ends =
        All-push (IsEndOf settings jobs now) share (number, end)
        (All-weaker (IsEndOf settings jobs before) (IsEndOf settings jobs now) (λ e was. (was.0, was.1, λ files rows. was.2 files (rows_before before now files goes.further rows))) share h.ends)
        (job, at, is);
    spent = spent_more before now number job at goes h.spent;
  }

  -- one job more has its end
  pub working_more : (drawn drawn_now : List ℕ) (before now : List (List Entry)) (share share_now : List (ℕ × UnitEnd)) (number : ℕ) (job : Job) (end : UnitEnd) → IsWorking drawn before share → All (λ n. n < number) drawn →
      number < length jobs → slice_get jobs number ≡ Some job → IsEndOver settings job now end → GoesOn by (IsLooked settings job now) before now → drawn_now ≡ drawn ++ number ∷ [] → share_now ≡ share ++ (number, end) ∷ [] → IsWorking drawn_now now share_now
  working_more drawn drawn_now before now share share_now number job end h later inside at is goes drew added =
      subst (λ d. IsWorking d now share_now) (sym drew)
      (subst (λ s. IsWorking (drawn ++ number ∷ []) now s) (sym added) (one_more drawn before now share number job end h later inside at is goes))

  -- no more numbers were drawn than there are jobs
  pub no_more : (drawn : List ℕ) (seen : List (List Entry)) (share : List (ℕ × UnitEnd)) → IsWorking drawn seen share → length drawn ≤ length jobs
  no_more drawn seen share h = h.few (length jobs) h.below

  -- and fewer, where one more of them is drawn
  pub fewer : (drawn : List ℕ) (seen : List (List Entry)) (share : List (ℕ × UnitEnd)) (number : ℕ) → IsWorking drawn seen share → All (λ n. n < number) drawn → number < length jobs → length drawn < length jobs
  fewer drawn seen share number h later inside = let count = h.few number later in omega arith

  -- there is an end for each
  pub as_many : (drawn : List ℕ) (seen : List (List Entry)) (share : List (ℕ × UnitEnd)) → IsWorking drawn seen share → length share ≡ length drawn
  as_many drawn seen share h = sym (length-map share (λ (e : ℕ × UnitEnd). e.0)) ∙ ap length h.numbers
