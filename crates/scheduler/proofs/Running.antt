-- What holds at each moment of a run over a store.
use Rattle.std.proofs.Common.{◌≡◌, ◌≢◌, ◌⊎◌, inl, inr, ℕ, ◌<◌, List, [], ◌∷◌, ◌++◌, length, slice_get, Contains, refl, ap, sym, ◌∙◌, subst, Option, Some, None, get_or-set_same, get_or-set_other}
use Rattle.std.specs.Prelude.{⊤, All, slice_set}
use Rattle.std.proofs.lemmas.Bool.{cases_eq}
use Rattle.std.proofs.lemmas.List.Elements.{All-nil, All-cons, All-append, All-weaker, All-contains, Contains-append_left, Contains-push}
use Rattle.scan_model.specs.declared.Outcome.{Outcome}
use Rattle.scan_model.specs.declared.command.Settings.{Settings}
use Rattle.scan_model.specs.declared.command.Job.{Job}
use Rattle.scan_model.specs.Files.{FileMap, Content}
use Rattle.unit_laws.specs.Growth.{Extends}
use Rattle.cache_machine.specs.Rows.{Claimed, Row, held_at, done_of, map_of}
use Rattle.cache_machine.specs.Machine.{Machine, Worker, Idle, At, Claiming, Holding, Spent, Over, worker_at}
use Rattle.cache_machine.specs.JobLooks.{path_at}
use Rattle.cache_machine.specs.Steps.{Event, Draw, Look, Read, Publish, End, act}
use Rattle.cache_machine.specs.RowGrowth.{RowsGrow}
use Rattle.cache_machine.specs.Wants.{Draw_wanted, Look_wanted, Read_wanted, End_wanted, wants, wanted_as, wanted}
use Rattle.cache_machine.proofs.Sound.{IsSound}
use Rattle.cache_machine.proofs.RowLemmas.{extends}
use Rattle.cache_machine.proofs.JobLemmas.{path_stays}
use Rattle.cache_machine.proofs.Changes.{fits_as}
use Rattle.shard_cache.specs.declared.kept_row.KeptRow.{KeptRow}
use Rattle.shard_cache.specs.Rows.{ShardView, all_rows, all_origins, row_content, IsRow, IsStore, LacksPath, change_at, asked_also, kept_also, shard_number}
use Rattle.shard_cache.specs.StoreMap.{file_map}
use Rattle.shard_cache.specs.StoreRun.{IsGivenRow, IsExtended}
use Rattle.shard_cache.proofs.StoreLemmas.{all_rows-asked, all_origins-asked, all_origins-kept, IsStore-differ, LacksPath-kept}
use Rattle.shard_cache.proofs.MapLemmas.{file_map-found, file_map-none, shard_inside}
use Rattle.shard_cache.proofs.StoreRunLemmas.{extended_ask, extended_add}
use Rattle.scan_core.specs.Events.{IsSpent}
use Rattle.shard_cache.specs.Ends.{IsLookedAt}
use Rattle.scheduler.specs.Moments.{HasMoved}
use Rattle.scheduler.specs.Moving.{place_at, IsRowOf, PlaceFits, PlacesFit, IsQuiet, Moment, HasRun, HasFound, HasRead, HasPassed, HasPublished}
use Rattle.scheduler.proofs.WantCases.{draw_is, look_is, read_is, publish_is, end_is}
use Rattle.scheduler.proofs.Turns.{IsHolding, IsTurn, turn_other, turn_itself, IsQuietTurn, draw_quiet, draw_spent_quiet, look_quiet, look_spent_quiet, end_quiet, IsReadTurn, read_turn, IsPublishTurn, publish_turn, publish_spent_turn}
use Rattle.scheduler.proofs.MovingLemmas.{lacks_path}
use Rattle.scheduler.proofs.LookLemmas.{job_looks_at}
use Rattle.scheduler.proofs.StoreSteps.{same_or_other, kept_has, kept_grows, looked_at_stays}
use Rattle.scheduler.proofs.StoreGrowth.{extended_rows}

-- ## The machine's step

module _ (jobs : List Job) (settings : Settings) where
  draw_turned : (m new : Machine) (w : ℕ) → wants jobs settings m w ≡ Draw_wanted → HasMoved jobs settings (Draw w) m new → IsQuietTurn jobs settings m new w
  draw_turned m new w want (inl e) = subst (λ z. IsQuietTurn jobs settings m z w) (sym e) (draw_quiet jobs settings m w (draw_is jobs settings m.rows (worker_at m w) want))
  draw_turned m new w want (inr (e, spent)) = subst (λ z. IsQuietTurn jobs settings m z w) (sym e)
      (draw_spent_quiet jobs settings m w (draw_is jobs settings m.rows (worker_at m w) want) (subst (λ z. IsSpent z w) e spent.0))

  look_turned : (m new : Machine) (w : ℕ) → wants jobs settings m w ≡ Look_wanted → HasMoved jobs settings (Look w) m new → IsQuietTurn jobs settings m new w
  look_turned m new w want (inl e) =
      let state = look_is jobs settings m.rows (worker_at m w) want in
      subst (λ z. IsQuietTurn jobs settings m z w) (sym e) (look_quiet jobs settings m w state.0 state.1.0 state.1.1.0 state.1.1.1)
  look_turned m new w want (inr (e, spent)) =
      let state = look_is jobs settings m.rows (worker_at m w) want in
      subst (λ z. IsQuietTurn jobs settings m z w) (sym e) (look_spent_quiet jobs settings m w state.0 state.1.0 state.1.1.0)

  end_turned : (m new : Machine) (w : ℕ) → IsSound jobs settings m → wants jobs settings m w ≡ End_wanted → HasMoved jobs settings (End w) m new → IsQuietTurn jobs settings m new w
  end_turned m new w sound want (inl e) = subst (λ z. IsQuietTurn jobs settings m z w) (sym e) (end_quiet jobs settings m w (end_is jobs settings m.rows (worker_at m w) want) sound)
  end_turned m new w sound want (inr (e, spent)) = absurd spent.1

  pub quiet_turned : (m new : Machine) (w : ℕ) (event : Event) → IsSound jobs settings m → IsQuiet jobs settings m w event → HasMoved jobs settings event m new → IsQuietTurn jobs settings m new w
  quiet_turned m new w (Draw v) sound quiet moved = draw_turned m new w quiet.1 (subst (λ z. HasMoved jobs settings (Draw z) m new) quiet.0 moved)
  quiet_turned m new w (Look v) sound quiet moved = look_turned m new w quiet.1 (subst (λ z. HasMoved jobs settings (Look z) m new) quiet.0 moved)
  quiet_turned m new w (End v) sound quiet moved = end_turned m new w sound quiet.1 (subst (λ z. HasMoved jobs settings (End z) m new) quiet.0 moved)
  quiet_turned m new w (Read v content) sound quiet moved = absurd quiet
  quiet_turned m new w (Publish v) sound quiet moved = absurd quiet

  pub publish_turned : (m new : Machine) (w n k : ℕ) (content : Content (List ℕ)) (path : List ℕ) → worker_at m w ≡ Holding n k content → path_at jobs settings m.rows n k ≡ Some path → IsSound jobs settings m →
      HasMoved jobs settings (Publish w) m new → IsPublishTurn jobs settings m new w path content
  publish_turned m new w n k content path e at sound (inl is) = subst (λ z. IsPublishTurn jobs settings m z w path content) (sym is) (publish_turn jobs settings m w n k content path e at sound)
  publish_turned m new w n k content path e at sound (inr (is, spent)) = subst (λ z. IsPublishTurn jobs settings m z w path content) (sym is) (publish_spent_turn jobs settings m w n k content path e at sound)

  pub read_turned : (m new : Machine) (w : ℕ) (content : Content (List ℕ)) → wants jobs settings m w ≡ Read_wanted → new ≡ act jobs settings m (Read w content) → IsReadTurn jobs settings m new w content
  read_turned m new w content want moved =
      let state = read_is jobs settings m.rows (worker_at m w) want in
      subst (λ z. IsReadTurn jobs settings m z w content) (sym moved) (read_turn jobs settings m w state.0 state.1.0 content state.1.1)

  -- the path that was read is the one that the worker claimed
  pub read_at : (m new : Machine) (w : ℕ) (content : Content (List ℕ)) (path : List ℕ) → wanted jobs settings m w ≡ Some path → (t : IsReadTurn jobs settings m new w content) → path_at jobs settings m.rows t.n t.k ≡ Some path
  read_at m new w content path is t = ap (λ z. wanted_as jobs settings m.rows z) (sym t.was) ∙ is

  -- what a worker holds it claimed
  held_claimed : (m : Machine) (w n k : ℕ) (content : Content (List ℕ)) (path : List ℕ) → IsSound jobs settings m → worker_at m w ≡ Holding n k content → path_at jobs settings m.rows n k ≡ Some path → held_at m.rows path ≡ Some (Claimed w)
  held_claimed m w n k content path sound e at =
      let claim = (fits_as jobs settings m w (Holding n k content) e sound).1 in
      let same_path : claim.path ≡ path = let a = claim.kth in cc in
      subst (λ z. held_at m.rows z ≡ Some (Claimed w)) same_path claim.claimed

  -- so no two workers hold what was read for one path
  held_differ : (m : Machine) (v w : ℕ) (path other : List ℕ) → v ≢ w → held_at m.rows path ≡ Some (Claimed w) → held_at m.rows other ≡ Some (Claimed v) → path ≢ other
  held_differ m v w path other differ mine its is =
      let there : held_at m.rows other ≡ Some (Claimed w) = subst (λ z. held_at m.rows z ≡ Some (Claimed w)) is mine in
      let same_worker : v ≡ w = cc in
      differ same_worker

  -- files that have what was done, and what is published, have what is done then
  pub done_published : (m new : Machine) (w : ℕ) (path : List ℕ) (content : Content (List ℕ)) (files more : FileMap (List ℕ)) → IsPublishTurn jobs settings m new w path content → Extends (List ℕ) (map_of m.rows) files → Extends (List ℕ) files more →
      more path ≡ Some content → Extends (List ℕ) (map_of new.rows) more
  done_published m new w path content files more t done larger has other before e = elim (same_or_other path other) [
    | inl here ↦ subst (λ z. more z ≡ Some before) here (has ∙ (sym t.has ∙ (ap (λ z. map_of new.rows z) here ∙ e)))
    | inr differ ↦ larger other before (done other before (sym (t.others other differ) ∙ e))
  ]

  -- ## What was asked

  -- a worker holds what was read for the path
  pub record IsHeld (m : Machine) (path : List ℕ) : Type 0 where
    pub w : ℕ
    pub n : ℕ
    pub k : ℕ
    pub content : Content (List ℕ)
    pub holds : worker_at m w ≡ Holding n k content
    pub at : path_at jobs settings m.rows n k ≡ Some path

  -- the path is done, or held
  abbrev pub IsTaken : Machine → List ℕ → Type 0
  IsTaken m path = ((content : Content (List ℕ)) × (map_of m.rows path ≡ Some content)) ⊎ IsHeld m path

  taken_stays : (m new : Machine) (w : ℕ) → IsTurn jobs settings m new w → (path : List ℕ) → IsTaken m path → IsTaken new path
  taken_stays m new w t path (inl (content, done)) = inl (content, extends m.rows new.rows t.grow path content done)
  taken_stays m new w t path (inr h) = elim (cases_eq h.w w) [
    | inl here ↦ inl (h.content, t.done h.n h.k h.content path (ap (λ z. worker_at m z) (sym here) ∙ h.holds) h.at)
    | inr other ↦ inr (record {
      w = h.w;
      n = h.n;
      k = h.k;
      content = h.content;
      holds = turn_other jobs settings m new w t h.w other ∙ h.holds;
      at = path_stays jobs settings m.rows new.rows h.n h.k path t.grow h.at;
    })
  ]

  pub taken_after : (m new : Machine) (w : ℕ) → IsTurn jobs settings m new w → (asks : List (List ℕ)) → All (λ path. IsTaken m path) asks → All (λ path. IsTaken new path) asks
  taken_after m new w t asks h =
      All-weaker (λ path. IsTaken m path) (λ path. IsTaken new path) (taken_stays m new w t) asks h

  -- a path that a worker is to read wasn't asked
  pub not_taken : (m : Machine) (w n k : ℕ) (path : List ℕ) → IsSound jobs settings m → worker_at m w ≡ Claiming n k → path_at jobs settings m.rows n k ≡ Some path → IsTaken m path → ⊥
  not_taken m w n k path sound e at taken =
      let claim = (fits_as jobs settings m w (Claiming n k) e sound).1 in
      let same_path : claim.path ≡ path = let a = claim.kth in cc in
      let claimed : held_at m.rows path ≡ Some (Claimed w) = subst (λ z. held_at m.rows z ≡ Some (Claimed w)) same_path claim.claimed in
      elim taken [
        | inl done ↦ (let not_done : map_of m.rows path ≡ None = ap done_of claimed in let is = done.1 in cc)
        | inr h ↦ (
            let other_claimed = held_claimed m h.w h.n h.k h.content path sound h.holds h.at in
            let same_worker : w ≡ h.w = cc in
            let no : Claiming n k ≡ Holding h.n h.k h.content = sym e ∙ (ap (λ z. worker_at m z) same_worker ∙ h.holds) in cc
            )
      ]

  pub none_taken : (m : Machine) (w n k : ℕ) (path : List ℕ) → IsSound jobs settings m → worker_at m w ≡ Claiming n k → path_at jobs settings m.rows n k ≡ Some path → (asks : List (List ℕ)) → All (λ q. IsTaken m q) asks →
      All (λ q. q ≢ path) asks
  none_taken m w n k path sound e at asks h =
      All-weaker (λ q. IsTaken m q) (λ q. q ≢ path) (λ q taken is. not_taken m w n k path sound e at (subst (λ z. IsTaken m z) is taken)) asks h

  -- the path is one that the worker's job looks at
  pub looked_by : (files : FileMap (List ℕ)) (n k : ℕ) (path : List ℕ) → (rows : List Row) → Extends (List ℕ) (map_of rows) files → path_at jobs settings rows n k ≡ Some path → IsLookedAt files settings jobs path
  looked_by files n k path rows larger at = looked_at_stays (map_of rows) files larger settings jobs path (job_looks_at jobs settings rows n k path at)

  pub looks_after : (files more : FileMap (List ℕ)) → Extends (List ℕ) files more → (asks : List (List ℕ)) → All (λ path. IsLookedAt files settings jobs path) asks → All (λ path. IsLookedAt more settings jobs path) asks
  looks_after files more larger asks h = All-weaker (λ path. IsLookedAt files settings jobs path) (λ path. IsLookedAt more settings jobs path) (λ path. looked_at_stays files more larger settings jobs path) asks h

-- ## The run

module _ {S O G : Type 0} (given_path : G → List ℕ) (given_origin : G → ℕ) (outcome : G → Outcome) (bytes : G → List ℕ) (jobs : List Job) (settings : Settings) where
  -- what the rows of a store stand for
  abbrev pub files_of : List (ShardView S O G) → FileMap (List ℕ)
  files_of store = file_map outcome bytes (all_rows store)

  -- what was told of the k-th path of job n is what its row in the first store stands for
  pub record IsFound (old : List (ShardView S O G)) (rows : List Row) (n k : ℕ) (content : Content (List ℕ)) : Type 0 where
    pub path : List ℕ
    pub at : path_at jobs settings rows n k ≡ Some path
    pub has : files_of old path ≡ Some content

  -- the row that a worker holds was asked of its path's own source; where it holds none, the first store has one
  abbrev pub GivenFits : List (ShardView S O G) → List (List ℕ) → List Row → Worker → Option (KeptRow S O G) → Type 0
  GivenFits old asks rows (Holding n k content) (Some row) = IsGivenRow given_path given_origin old row × Contains asks row.path
  GivenFits old asks rows (Holding n k content) None = IsFound old rows n k content
  GivenFits old asks rows worker place = ⊤

  -- A moment of a run that began with this store. The store has what the machine has done and what the first store had; the
  -- paths that the run asked are done or held, and some job looks at them.
  pub record IsRunning (old : List (ShardView S O G)) (r : Moment S O G) : Type 0 where
    pub done : Extends (List ℕ) (map_of r.machine.rows) (files_of r.store)
    pub grown : Extends (List ℕ) (files_of old) (files_of r.store)
    pub fit : PlacesFit given_path outcome bytes jobs settings r.machine r.held r.store
    pub extended : IsExtended given_path given_origin old r.store
    pub valid : (r.store ≡ old) ⊎ IsStore (λ row. IsRow given_path outcome bytes row) r.store
    pub origins : all_origins r.store ≡ all_origins old
    pub taken : All (λ path. IsTaken jobs settings r.machine path) extended.asks
    pub looks : All (λ path. IsLookedAt (files_of r.store) settings jobs path) extended.asks
    pub given : (w : ℕ) → GivenFits old extended.asks r.machine.rows (worker_at r.machine w) (place_at r.held w)

  -- ### Places

  pub place_free : (rows : List Row) (store : List (ShardView S O G)) (s : Worker) (place : Option (KeptRow S O G)) → (IsHolding s → ⊥) → PlaceFits given_path outcome bytes jobs settings rows store s place
  place_free rows store Idle place free = tt
  place_free rows store (At n k) place free = tt
  place_free rows store (Claiming n k) place free = tt
  place_free rows store (Holding n k content) place free = absurd (free tt)
  place_free rows store (Spent n) place free = tt
  place_free rows store Over place free = tt

  place_stays : (rows more : List Row) (store next : List (ShardView S O G)) → RowsGrow rows more → (s : Worker) (place : Option (KeptRow S O G)) →
      ((row : KeptRow S O G) (n k : ℕ) (content : Content (List ℕ)) → s ≡ Holding n k content → IsRowOf given_path outcome bytes jobs settings rows store n k content row → LacksPath next row.path) →
      PlaceFits given_path outcome bytes jobs settings rows store s place → PlaceFits given_path outcome bytes jobs settings more next s place
  place_stays rows more store next grow Idle place lacks fits = tt
  place_stays rows more store next grow (At n k) place lacks fits = tt
  place_stays rows more store next grow (Claiming n k) place lacks fits = tt
  place_stays rows more store next grow (Holding n k content) None lacks fits = tt
  place_stays rows more store next grow (Holding n k content) (Some row) lacks fits = record {
    path = path_stays jobs settings rows more n k row.path grow fits.path;
    content_is = fits.content_is;
    may = record { fits = fits.may.fits; lacks = lacks row n k content refl fits };
  }
  place_stays rows more store next grow (Spent n) place lacks fits = tt
  place_stays rows more store next grow Over place lacks fits = tt

  pub lacks_same : (store next : List (ShardView S O G)) (path : List ℕ) → all_rows next ≡ all_rows store → LacksPath store path → LacksPath next path
  lacks_same store next path is lacks = subst (λ z. All (λ (row : KeptRow S O G). row.path ≢ path) z) (sym is) lacks

  -- the next store lacks the paths of the rows that other workers hold
  abbrev pub LacksOthers : Machine → ℕ → List (ShardView S O G) → List (ShardView S O G) → Type 0
  LacksOthers m w store next =
      (v : ℕ) → v ≢ w → (row : KeptRow S O G) (n k : ℕ) (content : Content (List ℕ)) → worker_at m v ≡ Holding n k content → IsRowOf given_path outcome bytes jobs settings m.rows store n k content row → LacksPath next row.path

  pub same_lacks : (m : Machine) (w : ℕ) (store next : List (ShardView S O G)) → all_rows next ≡ all_rows store → LacksOthers m w store next
  same_lacks m w store next is v other row n k content e held = lacks_same store next row.path is held.may.lacks

  -- the places after a step: that of the worker itself, and those of the others, which are as they were
  pub places_after : (m new : Machine) (w : ℕ) (held held' : List (Option (KeptRow S O G))) (store next : List (ShardView S O G)) → (t : IsTurn jobs settings m new w) → PlacesFit given_path outcome bytes jobs settings m held store →
      ((v : ℕ) → v ≢ w → place_at held' v ≡ place_at held v) → LacksOthers m w store next → PlaceFits given_path outcome bytes jobs settings new.rows next t.state (place_at held' w) → PlacesFit given_path outcome bytes jobs settings new held' next
  places_after m new w held held' store next t before others lacks itself v = elim (cases_eq v w) [
    | inl here ↦ subst (λ z. PlaceFits given_path outcome bytes jobs settings new.rows next (worker_at new z) (place_at held' z)) (sym here)
        (subst (λ z. PlaceFits given_path outcome bytes jobs settings new.rows next z (place_at held' w)) (sym (turn_itself jobs settings m new w t)) itself)
    | inr other ↦ subst (λ z. PlaceFits given_path outcome bytes jobs settings new.rows next z (place_at held' v)) (sym (turn_other jobs settings m new w t v other))
        (subst (λ z. PlaceFits given_path outcome bytes jobs settings new.rows next (worker_at m v) z) (sym (others v other))
        (place_stays m.rows new.rows store next t.grow (worker_at m v) (place_at held v) (λ row n k content e is. lacks v other row n k content e is) (before v)))
  ]

  pub given_free : (old : List (ShardView S O G)) (asks : List (List ℕ)) (rows : List Row) (s : Worker) (place : Option (KeptRow S O G)) → (IsHolding s → ⊥) → GivenFits old asks rows s place
  given_free old asks rows Idle place free = tt
  given_free old asks rows (At n k) place free = tt
  given_free old asks rows (Claiming n k) place free = tt
  given_free old asks rows (Holding n k content) place free = absurd (free tt)
  given_free old asks rows (Spent n) place free = tt
  given_free old asks rows Over place free = tt

  given_stays : (old : List (ShardView S O G)) (asks more : List (List ℕ)) (rows rows' : List Row) → ((p : List ℕ) → Contains asks p → Contains more p) → RowsGrow rows rows' → (s : Worker) (place : Option (KeptRow S O G)) →
      GivenFits old asks rows s place → GivenFits old more rows' s place
  given_stays old asks more rows rows' wider grow Idle place fits = tt
  given_stays old asks more rows rows' wider grow (At n k) place fits = tt
  given_stays old asks more rows rows' wider grow (Claiming n k) place fits = tt
  given_stays old asks more rows rows' wider grow (Holding n k content) None fits = record { path = fits.path; at = path_stays jobs settings rows rows' n k fits.path grow fits.at; has = fits.has }
  given_stays old asks more rows rows' wider grow (Holding n k content) (Some row) fits = (fits.0, wider row.path fits.1)
  given_stays old asks more rows rows' wider grow (Spent n) place fits = tt
  given_stays old asks more rows rows' wider grow Over place fits = tt

  pub given_after : (old : List (ShardView S O G)) (asks more : List (List ℕ)) (m new : Machine) (w : ℕ) (held held' : List (Option (KeptRow S O G))) → (t : IsTurn jobs settings m new w) → ((p : List ℕ) → Contains asks p → Contains more p) →
      ((v : ℕ) → GivenFits old asks m.rows (worker_at m v) (place_at held v)) → ((v : ℕ) → v ≢ w → place_at held' v ≡ place_at held v) → GivenFits old more new.rows t.state (place_at held' w) →
      (v : ℕ) → GivenFits old more new.rows (worker_at new v) (place_at held' v)
  given_after old asks more m new w held held' t wider before others itself v = elim (cases_eq v w) [
    | inl here ↦ subst (λ z. GivenFits old more new.rows (worker_at new z) (place_at held' z)) (sym here)
        (subst (λ z. GivenFits old more new.rows z (place_at held' w)) (sym (turn_itself jobs settings m new w t)) itself)
    | inr other ↦ subst (λ z. GivenFits old more new.rows z (place_at held' v)) (sym (turn_other jobs settings m new w t v other))
        (subst (λ z. GivenFits old more new.rows (worker_at m v) z) (sym (others v other)) (given_stays old asks more m.rows new.rows wider t.grow (worker_at m v) (place_at held v) (before v)))
  ]

  pub other_place : (w v : ℕ) (held held' : List (Option (KeptRow S O G))) (place : Option (KeptRow S O G)) → held' ≡ slice_set held w place → v ≢ w → place_at held' v ≡ place_at held v
  other_place w v held held' place is other = ap (λ z. place_at z v) is ∙ get_or-set_other held w v place None other

  pub own_place : (w : ℕ) (held held' : List (Option (KeptRow S O G))) (place : Option (KeptRow S O G)) → held' ≡ slice_set held w place → w < length held → place_at held' w ≡ place
  own_place w held held' place is inside = ap (λ z. place_at z w) is ∙ get_or-set_same held w place None inside

  -- ### Files

  pub same_files : (store next : List (ShardView S O G)) → all_rows next ≡ all_rows store → Extends (List ℕ) (files_of store) (files_of next)
  same_files store next is path content e = ap (λ z. file_map outcome bytes z path) is ∙ e

  -- what a grown store lacks the first one lacked
  pub lacked : (old store : List (ShardView S O G)) (path : List ℕ) → Extends (List ℕ) (files_of old) (files_of store) → LacksPath store path → (had : Option (Content (List ℕ))) → files_of old path ≡ had → LacksPath old path
  lacked old store path grown lacks None e = lacks_path outcome bytes (all_rows old) path e
  lacked old store path grown lacks (Some content) e =
      let none : files_of store path ≡ None = file_map-none outcome bytes path (all_rows store) lacks in
      let some : files_of store path ≡ Some content = grown path content e in cc

  -- ### The store

  abbrev pub extended_same : (old now new : List (ShardView S O G)) → new ≡ now → IsExtended given_path given_origin old now → IsExtended given_path given_origin old new
  extended_same old now new e h = record { asks = h.asks; rows = h.rows; is = e ∙ h.is; once = h.once; fresh = h.fresh; asked = h.asked; given = h.given }

  pub valid_same : (old now new : List (ShardView S O G)) → new ≡ now → (now ≡ old) ⊎ IsStore (λ row. IsRow given_path outcome bytes row) now → (new ≡ old) ⊎ IsStore (λ row. IsRow given_path outcome bytes row) new
  valid_same old now new e (inl is) = inl (e ∙ is)
  valid_same old now new e (inr valid) = inr (subst (λ z. IsStore (λ row. IsRow given_path outcome bytes row) z) (sym e) valid)

  -- ### A step that asks nothing and adds nothing

  -- where a turn leaves the store as it is, and the store has what is done then
  abbrev pub unchanged : (old : List (ShardView S O G)) (w : ℕ) (r new : Moment S O G) → IsRunning old r → (t : IsTurn jobs settings r.machine new.machine w) → new.store ≡ r.store →
      ((v : ℕ) → v ≢ w → place_at new.held v ≡ place_at r.held v) → Extends (List ℕ) (map_of new.machine.rows) (files_of r.store) →
      PlaceFits given_path outcome bytes jobs settings new.machine.rows new.store t.state (place_at new.held w) → ((asks : List (List ℕ)) → GivenFits old asks new.machine.rows t.state (place_at new.held w)) → IsRunning old new
  unchanged old w r new h t store others done fits given =
      let rows : all_rows new.store ≡ all_rows r.store = ap all_rows store in
      record {
        done = λ path content e. same_files r.store new.store rows path content (done path content e);
        grown = λ path content e. same_files r.store new.store rows path content (h.grown path content e);
        fit = places_after r.machine new.machine w r.held new.held r.store new.store t h.fit others (same_lacks r.machine w r.store new.store rows) fits;
        extended = extended_same old r.store new.store store h.extended;
        valid = valid_same old r.store new.store store h.valid;
        origins = ap all_origins store ∙ h.origins;
        taken = taken_after jobs settings r.machine new.machine w t h.extended.asks h.taken;
        looks = looks_after jobs settings (files_of r.store) (files_of new.store) (same_files r.store new.store rows) h.extended.asks h.looks;
        given = given_after old h.extended.asks h.extended.asks r.machine new.machine w r.held new.held t (λ p c. c) h.given others (given h.extended.asks);
      }

  pub run_turn : (w : ℕ) (r new : Moment S O G) → IsSound jobs settings r.machine → HasRun jobs settings w r new → IsQuietTurn jobs settings r.machine new.machine w
  run_turn w r new sound step = quiet_turned jobs settings r.machine new.machine w step.event sound step.quiet step.moved

  abbrev pub running_run : (old : List (ShardView S O G)) (w : ℕ) (r new : Moment S O G) → IsSound jobs settings r.machine → HasRun jobs settings w r new → IsRunning old r → IsRunning old new
  running_run old w r new sound step h =
      let q = run_turn w r new sound step in
      unchanged old w r new h q.turn step.store (λ v other. ap (λ z. place_at z v) step.held) (λ path content e. h.done path content (sym (q.same_map path) ∙ e))
      (place_free new.machine.rows new.store q.turn.state (place_at new.held w) q.not_holding) (λ asks. given_free old asks new.machine.rows q.turn.state (place_at new.held w) q.not_holding)

  -- ### A step that finds the row of a path

  -- the row was there when the run began
  pub found_before : (old : List (ShardView S O G)) (w : ℕ) (r new : Moment S O G) → IsSound jobs settings r.machine → (step : HasFound given_path outcome bytes jobs settings w r new) →
      (t : IsReadTurn jobs settings r.machine new.machine w step.content) → (h : IsRunning old r) → (had : Option (Content (List ℕ))) → files_of old step.path ≡ had → files_of old step.path ≡ Some step.content
  found_before old w r new sound step t h (Some content) e =
      let row = step.known.row in
      let differ = IsStore-differ (λ (z : KeptRow S O G). IsRow given_path outcome bytes z) r.store step.valid in
      let has : files_of r.store step.path ≡ Some step.content =
      subst (λ z. files_of r.store z ≡ Some step.content) step.known.path_is (file_map-found outcome bytes (all_rows r.store) row differ step.known.kept ∙ ap Some (sym step.known.content_is)) in
      let had : files_of r.store step.path ≡ Some content = h.grown step.path content e in
      let same_content : content ≡ step.content = cc in
      e ∙ ap Some same_content
  found_before old w r new sound step t h None e =
      let row = step.known.row in
      let rows = h.extended.rows in
      let asks = h.extended.asks in
      let lacks : LacksPath old row.path = subst (λ z. LacksPath old z) (sym step.known.path_is) (lacks_path outcome bytes (all_rows old) step.path e) in
      let added : Contains rows row = All-contains (λ (z : KeptRow S O G). LacksPath old z.path → Contains rows z) (all_rows r.store) row (extended_rows given_path given_origin old r.store h.extended) step.known.kept lacks in
      let asked : Contains asks row.path = All-contains (λ (z : KeptRow S O G). Contains asks z.path) rows row h.extended.asked added in
      let taken : IsTaken jobs settings r.machine step.path =
      subst (λ z. IsTaken jobs settings r.machine z) step.known.path_is (All-contains (λ p. IsTaken jobs settings r.machine p) asks row.path h.taken asked) in
      absurd (not_taken jobs settings r.machine w t.n t.k step.path sound t.was (read_at jobs settings r.machine new.machine w step.content step.path step.path_is t) taken)

  abbrev pub running_found : (old : List (ShardView S O G)) (w : ℕ) (r new : Moment S O G) → w < length r.held → IsSound jobs settings r.machine → HasFound given_path outcome bytes jobs settings w r new → IsRunning old r → IsRunning old new
  running_found old w r new inside sound step h =
      let t = read_turned jobs settings r.machine new.machine w step.content step.want step.moved in
      let mine = own_place w r.held new.held None step.held inside in
      let found : IsFound old new.machine.rows t.n t.k step.content = record {
        path = step.path;
        at = subst (λ z. path_at jobs settings z t.n t.k ≡ Some step.path) (sym t.same_rows) (read_at jobs settings r.machine new.machine w step.content step.path step.path_is t);
        has = found_before old w r new sound step t h (files_of old step.path) refl;
      } in
      unchanged old w r new h t.turn step.store (λ v other. other_place w v r.held new.held None step.held other)
      (λ path content e. h.done path content (ap (λ z. map_of z path) (sym t.same_rows) ∙ e))
      (subst (λ z. PlaceFits given_path outcome bytes jobs settings new.machine.rows new.store z (place_at new.held w)) (sym t.state_is)
      (subst (λ z. PlaceFits given_path outcome bytes jobs settings new.machine.rows new.store (Holding t.n t.k step.content) z) (sym mine) tt))
      (λ asks. subst (λ z. GivenFits old asks new.machine.rows z (place_at new.held w)) (sym t.state_is) (subst (λ z. GivenFits old asks new.machine.rows (Holding t.n t.k step.content) z) (sym mine) found))

  -- ### A step that reads

  abbrev pub running_read : (old : List (ShardView S O G)) (w : ℕ) (r new : Moment S O G) → w < length r.held → IsSound jobs settings r.machine →
      (step : HasRead given_path given_origin outcome bytes jobs settings w r new) → IsRunning old r → IsRunning old new
  running_read old w r new inside sound step h =
      let path = step.row.path in
      let content = row_content outcome bytes step.row in
      let t = read_turned jobs settings r.machine new.machine w content step.want step.moved in
      let at = read_at jobs settings r.machine new.machine w content path step.path t in
      let at_now : path_at jobs settings new.machine.rows t.n t.k ≡ Some path = subst (λ z. path_at jobs settings z t.n t.k ≡ Some path) (sym t.same_rows) at in
      let mine = own_place w r.held new.held (Some step.row) step.held inside in
      let asks = h.extended.asks ++ path ∷ [] in
      let rows : all_rows new.store ≡ all_rows r.store = ap all_rows step.store ∙ all_rows-asked path (shard_number path) r.store in
      let larger = same_files r.store new.store rows in
      let done : Extends (List ℕ) (map_of new.machine.rows) (files_of new.store) = λ p c e. larger p c (h.done p c (ap (λ z. map_of z p) (sym t.same_rows) ∙ e)) in
      let wider : (p : List ℕ) → Contains h.extended.asks p → Contains asks p = λ p c. Contains-append_left h.extended.asks (path ∷ []) p c in
      record {
        done = done;
        grown = λ p c e. larger p c (h.grown p c e);
        fit = places_after r.machine new.machine w r.held new.held r.store new.store t.turn h.fit (λ v other. other_place w v r.held new.held (Some step.row) step.held other) (same_lacks r.machine w r.store new.store rows)
            (subst (λ z. PlaceFits given_path outcome bytes jobs settings new.machine.rows new.store z (place_at new.held w)) (sym t.state_is)
            (subst (λ z. PlaceFits given_path outcome bytes jobs settings new.machine.rows new.store (Holding t.n t.k content) z) (sym mine) (record {
              path = at_now;
              content_is = refl;
              may = record { fits = step.may.fits; lacks = lacks_same r.store new.store path rows step.may.lacks };
            })));
        extended = extended_same old (change_at (asked_also path) (shard_number path) r.store) new.store step.store
            (extended_ask given_path given_origin old r.store path h.extended (lacked old r.store path h.grown step.may.lacks (files_of old path) refl)
            (none_taken jobs settings r.machine w t.n t.k path sound t.was at h.extended.asks h.taken));
        valid = inr step.valid;
        origins = ap all_origins step.store ∙ (all_origins-asked path (shard_number path) r.store ∙ h.origins);
        taken = All-append (λ p. IsTaken jobs settings new.machine p) h.extended.asks (path ∷ []) (taken_after jobs settings r.machine new.machine w t.turn h.extended.asks h.taken)
            (All-cons (λ p. IsTaken jobs settings new.machine p) path [] (inr (record {
              w = w;
              n = t.n;
              k = t.k;
              content = content;
              holds = turn_itself jobs settings r.machine new.machine w t.turn ∙ t.state_is;
              at = at_now;
            })) (All-nil _));
        looks = All-append (λ p. IsLookedAt (files_of new.store) settings jobs p) h.extended.asks (path ∷ []) (looks_after jobs settings (files_of r.store) (files_of new.store) larger h.extended.asks h.looks)
            (All-cons (λ p. IsLookedAt (files_of new.store) settings jobs p) path [] (looked_by jobs settings (files_of new.store) t.n t.k path new.machine.rows done at_now) (All-nil _));
        given = given_after old h.extended.asks asks r.machine new.machine w r.held new.held t.turn wider h.given (λ v other. other_place w v r.held new.held (Some step.row) step.held other)
            (subst (λ z. GivenFits old asks new.machine.rows z (place_at new.held w)) (sym t.state_is)
            (subst (λ z. GivenFits old asks new.machine.rows (Holding t.n t.k content) z) (sym mine) (
              record { path = step.given.path; origin = ap (λ z. slice_get z (shard_number path)) (sym h.origins) ∙ step.given.origin },
              Contains-push h.extended.asks path,
            )));
      }

  -- ### A step that publishes what the first store had

  -- what the worker held
  pub record HeldFound (old : List (ShardView S O G)) (m : Machine) (w : ℕ) : Type 0 where
    pub n : ℕ
    pub k : ℕ
    pub content : Content (List ℕ)
    pub holds : worker_at m w ≡ Holding n k content
    pub is : IsFound old m.rows n k content

  pub held_found : (old : List (ShardView S O G)) (w : ℕ) (r new : Moment S O G) → HasPassed jobs settings w r new → IsRunning old r → HeldFound old r.machine w
  held_found old w r new step h =
      let state = publish_is jobs settings r.machine.rows (worker_at r.machine w) step.want in
      let holds = state.1.1.1 in
      let given = subst (λ z. GivenFits old h.extended.asks r.machine.rows z (place_at r.held w)) holds (h.given w) in
      record {
        n = state.0;
        k = state.1.0;
        content = state.1.1.0;
        holds = holds;
        is = subst (λ z. GivenFits old h.extended.asks r.machine.rows (Holding state.0 state.1.0 state.1.1.0) z) step.place given;
      }

  pub passed_turned : (old : List (ShardView S O G)) (w : ℕ) (r new : Moment S O G) → IsSound jobs settings r.machine → HasPassed jobs settings w r new → (held : HeldFound old r.machine w) →
      IsPublishTurn jobs settings r.machine new.machine w held.is.path held.content
  passed_turned old w r new sound step held = publish_turned jobs settings r.machine new.machine w held.n held.k held.content held.is.path held.holds held.is.at sound step.moved

  abbrev pub running_passed : (old : List (ShardView S O G)) (w : ℕ) (r new : Moment S O G) → IsSound jobs settings r.machine → HasPassed jobs settings w r new → IsRunning old r → IsRunning old new
  running_passed old w r new sound step h =
      let held = held_found old w r new step h in
      let t = passed_turned old w r new sound step held in
      unchanged old w r new h t.turn step.store (λ v other. other_place w v r.held new.held None step.held other)
      (done_published jobs settings r.machine new.machine w held.is.path held.content (files_of r.store) (files_of r.store) t h.done (λ path content e. e) (h.grown held.is.path held.content held.is.has))
      (place_free new.machine.rows new.store t.turn.state (place_at new.held w) t.not_holding) (λ asks. given_free old asks new.machine.rows t.turn.state (place_at new.held w) t.not_holding)

  -- ### A step that adds a row

  -- what the worker held
  pub record HeldRow (old : List (ShardView S O G)) (r : Moment S O G) (asks : List (List ℕ)) (w : ℕ) (row : KeptRow S O G) : Type 0 where
    pub n : ℕ
    pub k : ℕ
    pub content : Content (List ℕ)
    pub holds : worker_at r.machine w ≡ Holding n k content
    pub is : IsRowOf given_path outcome bytes jobs settings r.machine.rows r.store n k content row
    pub given : IsGivenRow given_path given_origin old row
    pub asked : Contains asks row.path

  pub held_row : (old : List (ShardView S O G)) (w : ℕ) (r new : Moment S O G) → (step : HasPublished given_path outcome bytes jobs settings w r new) → (h : IsRunning old r) → HeldRow old r h.extended.asks w step.row
  held_row old w r new step h =
      let state = publish_is jobs settings r.machine.rows (worker_at r.machine w) step.want in
      let holds = state.1.1.1 in
      let is = subst (λ z. PlaceFits given_path outcome bytes jobs settings r.machine.rows r.store z (place_at r.held w)) holds (h.fit w) in
      let given = subst (λ z. GivenFits old h.extended.asks r.machine.rows z (place_at r.held w)) holds (h.given w) in
      let here = subst (λ z. GivenFits old h.extended.asks r.machine.rows (Holding state.0 state.1.0 state.1.1.0) z) step.place given in
      record {
        n = state.0;
        k = state.1.0;
        content = state.1.1.0;
        holds = holds;
        is = subst (λ z. PlaceFits given_path outcome bytes jobs settings r.machine.rows r.store (Holding state.0 state.1.0 state.1.1.0) z) step.place is;
        given = here.0;
        asked = here.1;
      }

  pub published_turned : (old : List (ShardView S O G)) (w : ℕ) (r new : Moment S O G) → IsSound jobs settings r.machine → (step : HasPublished given_path outcome bytes jobs settings w r new) → (h : IsRunning old r) →
      IsPublishTurn jobs settings r.machine new.machine w step.row.path (row_content outcome bytes step.row)
  published_turned old w r new sound step h =
      let held = held_row old w r new step h in
      subst (λ z. IsPublishTurn jobs settings r.machine new.machine w step.row.path z) (sym held.is.content_is)
      (publish_turned jobs settings r.machine new.machine w held.n held.k held.content step.row.path held.holds held.is.path sound step.moved)

  -- the other workers' rows are of other paths
  pub others_lack : (old : List (ShardView S O G)) (w : ℕ) (r new : Moment S O G) → IsSound jobs settings r.machine → (step : HasPublished given_path outcome bytes jobs settings w r new) → IsRunning old r → LacksOthers r.machine w r.store new.store
  others_lack old w r new sound step h v other row n k content e is =
      let held = held_row old w r new step h in
      let mine = held_claimed jobs settings r.machine w held.n held.k held.content step.row.path sound held.holds held.is.path in
      let its = held_claimed jobs settings r.machine v n k content row.path sound e is.path in
      subst (λ z. LacksPath z row.path) (sym step.store) (LacksPath-kept step.row (shard_number step.row.path) r.store row.path (held_differ jobs settings r.machine v w step.row.path row.path other mine its) is.may.lacks)

  abbrev pub running_published : (old : List (ShardView S O G)) (w : ℕ) (r new : Moment S O G) → IsSound jobs settings r.machine → HasPublished given_path outcome bytes jobs settings w r new → IsRunning old r → IsRunning old new
  running_published old w r new sound step h =
      let t = published_turned old w r new sound step h in
      let held = held_row old w r new step h in
      let row = step.row in
      let k = shard_number row.path in
      let lacks = held.is.may.lacks in
      let inside = shard_inside (λ (z : KeptRow S O G). IsRow given_path outcome bytes z) (kept_also row) row.path r.store new.store step.store step.valid in
      let larger : Extends (List ℕ) (files_of r.store) (files_of new.store) = λ path content e. ap (λ z. files_of z path) step.store ∙ kept_grows outcome bytes row k r.store inside lacks path content e in
      record {
        done = done_published jobs settings r.machine new.machine w row.path (row_content outcome bytes row) (files_of r.store) (files_of new.store) t h.done larger
            (ap (λ z. files_of z row.path) step.store ∙ kept_has outcome bytes row k r.store inside lacks);
        grown = λ path content e. larger path content (h.grown path content e);
        fit = places_after r.machine new.machine w r.held new.held r.store new.store t.turn h.fit (λ v other. other_place w v r.held new.held None step.held other) (others_lack old w r new sound step h)
            (place_free new.machine.rows new.store t.turn.state (place_at new.held w) t.not_holding);
        extended = extended_same old (change_at (kept_also row) k r.store) new.store step.store (extended_add given_path given_origin old r.store row h.extended held.asked held.given);
        valid = inr step.valid;
        origins = ap all_origins step.store ∙ (all_origins-kept row k r.store ∙ h.origins);
        taken = taken_after jobs settings r.machine new.machine w t.turn h.extended.asks h.taken;
        looks = looks_after jobs settings (files_of r.store) (files_of new.store) larger h.extended.asks h.looks;
        given = given_after old h.extended.asks h.extended.asks r.machine new.machine w r.held new.held t.turn (λ p c. c) h.given (λ v other. other_place w v r.held new.held None step.held other)
            (given_free old h.extended.asks new.machine.rows t.turn.state (place_at new.held w) t.not_holding);
      }
