-- What a run over a store has at any moment, and at its end.
use Rattle.std.proofs.Common.{◌≡◌, ◌≢◌, inl, inr, ℕ, zero, suc, ◌<◌, ◌≤◌, Bool, true, false, if◌then◌else◌, List, [], ◌∷◌, map, length, slice_get, Contains, refl, ap, sym, ◌∙◌, subst, Option, Some, arith}
use Rattle.std.specs.Prelude.{All, IsSome, IfOk, OnOk, Result, Ok, Err, slice_index_or}
use Rattle.std.specs.List.{AllByRecursion, AllZip}
use Rattle.std.proofs.lemmas.Slice.Eq.{bytes_eq-Decides}
use Rattle.std.proofs.lemmas.List.Elements.{All-nil, All-cons, All-head, All-tail, All-weaker, All-contains, All-contains_itself}
use Rattle.std.proofs.lemmas.Option.{slice_get_within}
use Rattle.scan_model.specs.declared.Outcome.{Outcome}
use Rattle.scan_model.specs.declared.command.Settings.{Settings}
use Rattle.scan_model.specs.declared.command.Job.{Job}
use Rattle.scan_model.specs.declared.unit_end.UnitEnd.{UnitEnd}
use Rattle.scan_model.specs.declared.unit_end.UnitEnd.TheVariants as Ends
use Rattle.scan_model.specs.Files.{Content}
use Rattle.scan_model.specs.TokenTests.{same}
use Rattle.cache_machine.specs.Rows.{map_of}
use Rattle.cache_machine.specs.Machine.{Machine, Worker, Holding, Spent, Over, worker_at}
use Rattle.cache_machine.specs.JobLooks.{answer_by_job}
use Rattle.cache_machine.proofs.Sound.{IsSound}
use Rattle.cache_machine.proofs.Reached.{over_ends}
use Rattle.shard_cache.specs.declared.kept_row.KeptRow.{KeptRow}
use Rattle.shard_cache.specs.Rows.{ShardView, all_rows, paths_of, row_content, IsRow, LacksPath}
use Rattle.shard_cache.specs.StoreMap.{file_map, HaveRows, IsOneMap}
use Rattle.shard_cache.proofs.MapLemmas.{contains_map}
use Rattle.shard_cache.specs.Ends.{IsEnd, AreEnds}
use Rattle.scheduler.specs.Moments.{HaveRead}
use Rattle.scheduler.specs.Moving.{Moment}
use Rattle.scheduler.specs.Order.{IsInOrder, HaveMemory}
use Rattle.scheduler.proofs.Following.{followed}
use Rattle.scheduler.proofs.LookLemmas.{get_contains}
use Rattle.scheduler.proofs.StoreSteps.{end_stays}
use Rattle.scheduler.proofs.StoreGrowth.{extended_length, extended_rows, extended_one_map, extended_have_rows}
use Rattle.scheduler.proofs.Running.{IsTaken, IsRunning, files_of}
use Rattle.scheduler.proofs.Scheduled.{IsScheduled}

-- ## Results

pub if_ok_by : {T E : Type 0} (result : Result T E) (P Q : T → Type 0) → IfOk result P → ((t : T) → P t → Q t) → IfOk result Q
if_ok_by (Ok t) P Q h each = each t h
if_ok_by (Err e) P Q h each = tt

pub on_ok_all : {T E X : Type 0} (result : Result T E) → X → OnOk result X
on_ok_all (Ok t) x = x
on_ok_all (Err e) x = tt

-- ## Lists

all_by : {A : Type 0} (P : A → Type 0) (xs : List A) → ((n : ℕ) (x : A) → slice_get xs n ≡ Some x → P x) → All P xs
all_by P [] each = All-nil P
all_by P (x ∷ xs) each = All-cons P x xs (each zero x refl) (all_by P xs (λ n y at. each (suc n) y at))

zip_by : {A B : Type 0} (P : A → B → Type 0) (xs : List A) (ys : List B) → length xs ≡ length ys → ((n : ℕ) (x : A) (y : B) → slice_get xs n ≡ Some x → slice_get ys n ≡ Some y → P x y) → AllZip P xs ys
zip_by P [] [] e each = tt
zip_by P [] (y ∷ ys) e each = absurd (omega arith)
zip_by P (x ∷ xs) [] e each = absurd (omega arith)
zip_by P (x ∷ xs) (y ∷ ys) e each = (each zero x y refl refl, zip_by P xs ys (omega arith) (λ n a b at here. each (suc n) a b at here))

length_some : {A : Type 0} (xs : List A) → length (map Some xs) ≡ length xs
length_some [] = refl
length_some (x ∷ xs) = ap suc (length_some xs)

get_some : {A : Type 0} (xs : List A) (n : ℕ) (x : A) → slice_get xs n ≡ Some x → slice_get (map Some xs) n ≡ Some (Some x)
get_some [] n x h = cc
get_some (y ∷ xs) zero x h = cc
get_some (y ∷ xs) (suc n) x h = get_some xs n x h

some_get : {A : Type 0} (xs : List A) (n : ℕ) (x : A) → slice_get (map Some xs) n ≡ Some (Some x) → slice_get xs n ≡ Some x
some_get [] n x h = cc
some_get (y ∷ xs) zero x h = cc
some_get (y ∷ xs) (suc n) x h = some_get xs n x h

none_holds : (ws : List Worker) → AllByRecursion (λ worker. worker ≡ Over) ws → (w : ℕ) → slice_index_or ws w Over ≡ Over
none_holds [] all w = refl
none_holds (x ∷ ws) all zero = all.0
none_holds (x ∷ ws) all (suc w) = none_holds ws all.1 w

-- ## Stores

module _ {S O G : Type 0} where
  module _ (outcome : G → Outcome) (bytes : G → List ℕ) (Q : List ℕ → Type 0) where
    found_if : (row : KeptRow S O G) (path : List ℕ) (later : Option (Content (List ℕ))) (content : Content (List ℕ)) → Q row.path → (later ≡ Some content → Q path) → (b : Bool) → same row.path path ≡ b →
        (if b then Some (row_content outcome bytes row) else later) ≡ Some content → Q path
    found_if row path later content holds rest true e h = subst Q ((bytes_eq-Decides row.path path).0 e) holds
    found_if row path later content holds rest false e h = rest h

    -- what holds of the rows' paths holds of each path in the map
    in_map : (rows : List (KeptRow S O G)) (path : List ℕ) (content : Content (List ℕ)) → All (λ row. Q row.path) rows → file_map outcome bytes rows path ≡ Some content → Q path
    in_map [] path content h e = cc
    in_map (row ∷ rows) path content h e =
        found_if row path (file_map outcome bytes rows path) content (All-head (λ (r : KeptRow S O G). Q r.path) row rows h)
        (λ later. in_map rows path content (All-tail (λ (r : KeptRow S O G). Q r.path) row rows h) later) (same row.path path) refl e

-- each place has an end
pub ends_are_there : (jobs : List Job) (settings : Settings) (m : Machine) → IsSound jobs settings m → 1 ≤ length m.workers → AllByRecursion (λ worker. worker ≡ Over) m.workers → All (λ end. IsSome end) m.ends
ends_are_there jobs settings m sound some over = all_by (λ end. IsSome end) m.ends (λ n end at.
    let inside : n < length jobs = subst (λ z. n < z) sound.jobs_ends (slice_get_within m.ends n end at) in
    let has = over_ends jobs settings m sound some over n inside in
    let is : end ≡ Some has.0 = let a = has.1.0 in cc in
    subst (λ z. IsSome z) (sym is) refl)

-- ## The run

module _ {S O G : Type 0} (given_path : G → List ℕ) (given_origin : G → ℕ) (outcome : G → Outcome) (bytes : G → List ℕ) (jobs : List Job) (settings : Settings) where
  abbrev Run : List (ShardView S O G) → Moment S O G → Type 0
  Run old r = IsRunning given_path given_origin outcome bytes jobs settings old r

  -- where each path that was asked before had its row, the rows of one map stay one map
  pub run_one_map : (old : List (ShardView S O G)) (r : Moment S O G) → Run old r → HaveRows old → IsOneMap given_path given_origin old → IsOneMap given_path given_origin r.store
  run_one_map old r h have one = elim h.valid [
    | inl same ↦ subst (λ z. IsOneMap given_path given_origin z) (sym same) one
    | inr valid ↦ extended_one_map given_path given_origin (λ (row : KeptRow S O G). IsRow given_path outcome bytes row) old r.store (sym (extended_length given_path given_origin old r.store h.extended) ∙ valid.sixteen) have one valid h.extended
  ]

  -- ### Where all workers are over

  module _ (old : List (ShardView S O G)) (r : Moment S O G) (h : Run old r) (over : AllByRecursion (λ worker. worker ≡ Over) r.machine.workers) where
    none_held : (w n k : ℕ) (content : Content (List ℕ)) → worker_at r.machine w ≡ Holding n k content → ⊥
    none_held w n k content e = let no : Over ≡ Holding n k content = sym (none_holds r.machine.workers over w) ∙ e in cc

    done_of_taken : (path : List ℕ) → LacksPath old path → IsTaken jobs settings r.machine path → Contains (paths_of h.extended.rows) path
    done_of_taken path lacks (inr held) = absurd (none_held held.w held.n held.k held.content held.holds)
    done_of_taken path lacks (inl (content, done)) =
        let rows = h.extended.rows in
        let P : List ℕ → Type 0 = λ p. LacksPath old p → Contains (paths_of rows) p in
        let all : All (λ (row : KeptRow S O G). P row.path) (all_rows r.store) =
        All-weaker (λ (row : KeptRow S O G). LacksPath old row.path → Contains rows row) (λ row. P row.path) (λ row has lack. contains_map (λ (z : KeptRow S O G). z.path) rows row (has lack)) (all_rows r.store)
        (extended_rows given_path given_origin old r.store h.extended) in
        in_map outcome bytes P (all_rows r.store) path content all (h.done path content done) lacks

    -- each path that was asked has its row, where each that was asked before had
    pub run_have_rows : HaveRows old → HaveRows r.store
    run_have_rows have =
        let asks = h.extended.asks in
        let each : All (λ path. Contains (paths_of h.extended.rows) path) asks =
        All-weaker (λ path. Contains asks path) (λ path. Contains (paths_of h.extended.rows) path)
        (λ path c. done_of_taken path (All-contains (λ p. LacksPath old p) asks path h.extended.fresh c) (All-contains (λ p. IsTaken jobs settings r.machine p) asks path h.taken c)) asks (All-contains_itself asks) in
        elim h.valid [
          | inl same ↦ subst (λ z. HaveRows z) (sym same) have
          | inr valid ↦ extended_have_rows given_path given_origin old r.store (sym (extended_length given_path given_origin old r.store h.extended) ∙ valid.sixteen) have h.extended each
        ]

    run_read : HaveRead jobs settings (files_of given_path given_origin outcome bytes jobs settings r.store) r.machine
    run_read = record {
      done = h.done;
      held = λ w n k content path e at. absurd (none_held w n k content e);
    }

  -- each end is the job's
  pub run_ends : (old : List (ShardView S O G)) (r : Moment S O G) → IsSound jobs settings r.machine → Run old r → (ends : List UnitEnd) → map Some ends ≡ r.machine.ends → AreEnds (file_map outcome bytes (all_rows r.store)) settings jobs ends
  run_ends old r sound h ends is =
      let files = file_map outcome bytes (all_rows r.store) in
      let same_length : length jobs ≡ length ends = sym sound.jobs_ends ∙ (ap length (sym is) ∙ length_some ends) in
      zip_by (IsEnd files settings) jobs ends same_length (λ n job end at here.
      let recorded = sound.ends n end (subst (λ z. slice_get z n ≡ Some (Some end)) is (get_some ends n end here)) in
      end_stays (map_of r.machine.rows) files h.done settings job end (elim recorded [
        | inl lost ↦ inr lost
        | inr known ↦ inl (ap (λ z. answer_by_job settings (map_of r.machine.rows) z) (sym at) ∙ known)
      ]))

  -- the rows stand in order, where memory wasn't wanting
  pub run_order : (workers number x : ℕ) (old : List (ShardView S O G)) (r : Moment S O G) → AllByRecursion (λ worker. worker ≡ Over) r.machine.workers →
      IsScheduled given_path given_origin outcome bytes jobs settings workers number old x r → (ends : List UnitEnd) → map Some ends ≡ r.machine.ends → HaveMemory ends →
      IsInOrder (file_map outcome bytes (all_rows r.store)) jobs settings workers number old r.store
  run_order workers number x old r over h ends is memory =
      let extended = h.running.extended in
      elim (followed jobs settings workers number r.machine x h.published (file_map outcome bytes (all_rows r.store)) h.following (run_read old r h.running over) over) [
        | inl short ↦ absurd (elim short.1 [
          | inl ended ↦ (
              let there : slice_get ends short.0 ≡ Some Ends.NoMemory = some_get ends short.0 Ends.NoMemory (subst (λ z. slice_get z short.0 ≡ Some (Some Ends.NoMemory)) (sym is) ended) in
              All-contains (λ end. end ≢ Ends.NoMemory) ends Ends.NoMemory memory (get_contains ends short.0 Ends.NoMemory there) refl
              )
          | inr spent ↦ (let no : Over ≡ Spent short.0 = sym (none_holds r.machine.workers over spent.0) ∙ spent.1 in cc)
        ])
        | inr run ↦ record {
          last = record { machine = r.machine; number = x; published = h.published };
          run = run;
          asks = extended.asks;
          rows = extended.rows;
          is = extended.is;
          in_order = h.in_order;
        }
      ]
