-- What all workers leave: an end for each job over one map of files, and the row of each path that was asked for.
use Rattle.std.proofs.Common.{◌≡◌, ◌<◌, ◌≤◌, ℕ, zero, suc, List, [], ◌∷◌, ◌++◌, map, length, All, Contains, get_or, Option, Some, None, slice_get, refl, sym, ap, ◌∙◌, subst, arith}
use Rattle.std.specs.Prelude.{IsSome}
use Rattle.std.specs.List.{flat_map, AllZip, Any}
use Rattle.std.proofs.lemmas.List.{length-map}
use Rattle.std.proofs.lemmas.List.Elements.{All-nil, All-cons, All-head, All-tail, All-weaker, All-map, All-append, All-contains}
use Rattle.scan_model.specs.declared.command.Settings.{Settings}
use Rattle.scan_model.specs.declared.command.Job.{Job}
use Rattle.scan_model.specs.declared.UnitEnd.{UnitEnd}
use Rattle.scan_model.specs.Files.{FileMap, Content, content}
use Rattle.shard_cache.specs.Ends.{IsEnd, AreEnds, IsLookedAt}
use Rattle.cache_desk.specs.declared.entry.Entry.{Entry}
use Rattle.shared_cache.specs.Shared.{HasRowsOf}
use Rattle.tickets.specs.Tickets.{total, times}
use Rattle.worker.specs.Claims.{HasClaimed}
use Rattle.worker.specs.Work.{IsEndOf, IsWorked}
use Rattle.workers.specs.Places.{AreBelow, ArePlaced}
use Rattle.workers.proofs.NumberLemmas.{Past, have_ends}

-- ## Lists

module _ {X Y : Type 0} where
  pub All-unmap : (P : Y → Type 0) (f : X → Y) (xs : List X) → All P (map f xs) → All (λ x. P (f x)) xs
  All-unmap P f [] h = All-nil _
  All-unmap P f (x ∷ xs) h = All-cons (λ x. P (f x)) x xs (All-head P (f x) (map f xs) h) (All-unmap P f xs (All-tail P (f x) (map f xs) h))

  pub Any-unmap : (P : Y → Type 0) (f : X → Y) (xs : List X) → Any P (map f xs) → Any (λ x. P (f x)) xs
  Any-unmap P f [] (k, y, inside, at, p) = absurd (omega arith)
  Any-unmap P f (x ∷ xs) (zero, y, inside, at, p) = (0, x, omega arith, refl, subst P (sym at) p)
  Any-unmap P f (x ∷ xs) (suc k, y, inside, at, p) = next (Any-unmap P f xs (k, y, omega arith, at, p))
    where
      next : Any (λ x. P (f x)) xs → Any (λ x. P (f x)) (x ∷ xs)
      next (k, z, inside, at, p) = (suc k, z, omega arith, at, p)

  All-flat_map : (P : Y → Type 0) (f : X → List Y) (xs : List X) → All (λ x. All P (f x)) xs → All P (flat_map f xs)
  All-flat_map P f [] h = All-nil _
  All-flat_map P f (x ∷ xs) h = All-append P (f x) (flat_map f xs) (All-head (λ x. All P (f x)) x xs h) (All-flat_map P f xs (All-tail (λ x. All P (f x)) x xs h))

  -- an element by its place in the second list is related to the one there in the first
  zip : (R : X → Y → Type 0) (xs : List X) (ys : List Y) → length ys ≡ length xs → ((k : ℕ) (y : Y) → get_or (map Some ys) k None ≡ Some y → (x : X) × (slice_get xs k ≡ Some x) × R x y) → AllZip R xs ys
  zip R [] [] e h = tt
  zip R [] (y ∷ ys) e h = absurd (omega arith)
  zip R (x ∷ xs) [] e h = absurd (omega arith)
  zip R (x ∷ xs) (y ∷ ys) e h = (first (h 0 y refl), zip R xs ys (omega arith) (λ k z at. h (suc k) z at))
    where
      first : (other : X) × (slice_get (x ∷ xs) 0 ≡ Some other) × R other y → R x y
      first (other, at, r) = let is : other ≡ x = cc in subst (λ z. R z y) is r

-- one of the elements, of which all this holds
All-any : {X : Type 0} (P Q : X → Type 0) (xs : List X) → All P xs → Any Q xs → (x : X) × P x × Q x
All-any P Q [] all (k, x, inside, at, q) = absurd (omega arith)
All-any P Q (y ∷ ys) all (zero, x, inside, at, q) = (y, All-head P y ys all, subst Q (sym at) q)
All-any P Q (y ∷ ys) all (suc k, x, inside, at, q) = All-any P Q ys (All-tail P y ys all) (k, x, omega arith, at, q)

-- both hold of each
pub All-both : {X : Type 0} (P Q : X → Type 0) (xs : List X) → All P xs → All Q xs → All (λ x. P x × Q x) xs
All-both P Q [] p q = All-nil _
All-both P Q (x ∷ xs) p q = All-cons (λ x. P x × Q x) x xs (All-head P x xs p, All-head Q x xs q) (All-both P Q xs (All-tail P x xs p) (All-tail Q x xs q))

-- ## Places

places_full : (places : List (Option UnitEnd)) → ((k : ℕ) → k < length places → IsSome (get_or places k None)) → All (λ place. IsSome place) places
places_full [] h = All-nil _
places_full (place ∷ places) h = All-cons (λ place. IsSome place) place places (h 0 (omega arith)) (places_full places (λ k below. h (suc k) (omega arith)))

module _ {H : Type 0} (settings : Settings) (jobs : List Job) (by : H → ℕ) (drawn : H → List ℕ) (seen : H → List (List Entry)) (ends : H → List (ℕ × UnitEnd)) where
  -- the worker's work is done
  abbrev pub Worked : H → Type 0
  Worked h = IsWorked settings jobs (by h) (drawn h) (seen h) (ends h)

  past_of : (hs : List H) → All Worked hs → All (Past drawn ends (λ (e : ℕ × UnitEnd). e.0) (length jobs)) hs
  past_of hs worked = All-weaker Worked (Past drawn ends (λ (e : ℕ × UnitEnd). e.0) (length jobs)) (λ h w. (w.last, w.drawn_are ∙ ap (λ z. z ++ w.last ∷ []) (sym w.numbers), w.past)) hs worked

  -- the ends are of numbers of jobs
  pub below_of : (hs : List H) → All Worked hs → All (λ h. AreBelow (length jobs) (ends h)) hs
  below_of hs worked =
      All-weaker Worked (λ h. AreBelow (length jobs) (ends h))
      (λ h w. All-unmap (λ n. n < length jobs) (λ (e : ℕ × UnitEnd). e.0) (ends h) (subst (λ z. All (λ n. n < length jobs) z) (sym w.numbers) w.below)) hs worked

  -- each place has its end
  pub full_of : (hs : List H) (n : ℕ) (places : List (Option UnitEnd)) → 0 < length hs → All Worked hs → ((x : ℕ) → x < n → total (λ h. times x (drawn h)) hs ≡ 1) → ((x : ℕ) → n ≤ x → total (λ h. times x (drawn h)) hs ≡ 0) → length places ≡ length jobs → ArePlaced (flat_map ends hs) places → All (λ place. IsSome place) places
  full_of hs n places some worked once beyond count placed =
      let P : ℕ → Type 0 = λ k. IsSome (get_or places k None) in
      let numbers : All P (map (λ (e : ℕ × UnitEnd). e.0) (flat_map ends hs)) = All-map P (λ (e : ℕ × UnitEnd). e.0) (flat_map ends hs) placed.filled in
      places_full places (λ k below. All-contains P (map (λ (e : ℕ × UnitEnd). e.0) (flat_map ends hs)) k numbers
      (have_ends drawn ends (λ (e : ℕ × UnitEnd). e.0) (length jobs) hs n some (past_of hs worked) once beyond k (omega arith)))

  module _ (files : FileMap (List ℕ)) where
    -- the end is that of the job with this number, over these files
    abbrev EndIn : ℕ × UnitEnd → Type 0
    EndIn e = (job : Job) × (slice_get jobs e.0 ≡ Some job) × IsEnd files settings job e.1

    end_in : (s : List (List Entry)) → HasRowsOf files s → (e : ℕ × UnitEnd) → IsEndOf settings jobs s e → EndIn e
    end_in s rows (number, end) (job, at, over) = (job, at, over files rows)

    ends_in_all : (hs : List H) → All Worked hs → All (λ h. HasRowsOf files (seen h)) hs → All EndIn (flat_map ends hs)
    ends_in_all hs worked rows = All-flat_map EndIn ends hs (each hs worked rows)
      where
        each : (hs : List H) → All Worked hs → All (λ h. HasRowsOf files (seen h)) hs → All (λ h. All EndIn (ends h)) hs
        each [] worked rows = All-nil _
        each (h ∷ hs) worked rows =
            let w : Worked h = All-head Worked h hs worked in
            let r : HasRowsOf files (seen h) = All-head (λ h. HasRowsOf files (seen h)) h hs rows in
            All-cons (λ h. All EndIn (ends h)) h hs (All-weaker (IsEndOf settings jobs (seen h)) EndIn (end_in (seen h) r) (ends h) w.ends)
            (each hs (All-tail Worked h hs worked) (All-tail (λ h. HasRowsOf files (seen h)) h hs rows))

    -- each job has its end
    pub ends_of : (hs : List H) (places : List (Option UnitEnd)) (in_order : List UnitEnd) → All Worked hs → All (λ h. HasRowsOf files (seen h)) hs → length places ≡ length jobs → ArePlaced (flat_map ends hs) places → map Some in_order ≡ places → AreEnds files settings jobs in_order
    ends_of hs places in_order worked rows count placed is =
        let all = ends_in_all hs worked rows in
        zip (IsEnd files settings) jobs in_order (sym (length-map in_order Some) ∙ (ap length is ∙ count))
        (λ k end at. All-contains EndIn (flat_map ends hs) (k, end) all (placed.own k end (ap (λ z. get_or z k None) (sym is) ∙ at)))

    -- each path that one of the workers claimed is in the map, and a job looks at it
    pub claimed_of : (hs : List H) (paths : List (List ℕ)) → All Worked hs → All (λ h. HasRowsOf files (seen h)) hs → All (λ path. Any (λ h. HasClaimed (seen h) (by h) path) hs) paths → All (λ path. ((c : Content (List ℕ)) × (files path ≡ Some c)) × IsLookedAt files settings jobs path) paths
    claimed_of hs paths worked rows claimed = All-weaker (λ path. Any (λ h. HasClaimed (seen h) (by h) path) hs) (λ path. ((c : Content (List ℕ)) × (files path ≡ Some c)) × IsLookedAt files settings jobs path) one paths claimed
      where
        one : (path : List ℕ) → Any (λ h. HasClaimed (seen h) (by h) path) hs → ((c : Content (List ℕ)) × (files path ≡ Some c)) × IsLookedAt files settings jobs path
        one path any = of (All-any (λ h. Worked h × HasRowsOf files (seen h)) (λ h. HasClaimed (seen h) (by h) path) hs (All-both Worked (λ h. HasRowsOf files (seen h)) hs worked rows) any)
          where
            of : (h : H) × (Worked h × HasRowsOf files (seen h)) × HasClaimed (seen h) (by h) path → ((c : Content (List ℕ)) × (files path ≡ Some c)) × IsLookedAt files settings jobs path
            of (h, (w, r), c) = let s = w.spent path c in ((content s.0.0 s.0.1, r path s.0.0 s.0.1 s.0.2), s.1 files r)
