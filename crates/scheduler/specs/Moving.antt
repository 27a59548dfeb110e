-- A moment of a run over a store, and what one step of a worker leaves.
use Rattle.std.specs.Prelude.{◌≡◌, ◌⊎◌, ⊤, ℕ, List, Option, Some, None, Contains, slice_index_or, slice_set}
use Rattle.scan_model.specs.declared.Outcome.{Outcome}
use Rattle.scan_model.specs.declared.command.Settings.{Settings}
use Rattle.scan_model.specs.declared.command.Job.{Job}
use Rattle.scan_model.specs.Files.{Content}
use Rattle.cache_machine.specs.Rows.{Row}
use Rattle.cache_machine.specs.Machine.{Machine, Worker, Holding, worker_at}
use Rattle.cache_machine.specs.JobLooks.{path_at}
use Rattle.cache_machine.specs.Steps.{Event, Draw, Look, Read, Publish, End, act}
use Rattle.cache_machine.specs.Wants.{Draw_wanted, Look_wanted, Read_wanted, Publish_wanted, End_wanted, wants, wanted}
use Rattle.shard_cache.specs.declared.kept_row.KeptRow.{KeptRow}
use Rattle.shard_cache.specs.Rows.{ShardView, all_rows, row_content, IsRow, change_at, asked_also, kept_also, shard_number, LacksPath, IsStore}
use Rattle.shard_cache.specs.StoreRun.{IsGivenRow}
use Rattle.scheduler.specs.Moments.{HasMoved}

-- what stands in the place of a worker
abbrev pub place_at : {R : Type 0} → List (Option R) → ℕ → Option R
place_at held w = slice_index_or held w None

-- ## What a step finds

-- the content is what the store's row of the path stands for
pub record IsKnown {S O G : Type 0} (outcome : G → Outcome) (bytes : G → List ℕ) (store : List (ShardView S O G)) (path : List ℕ) (content : Content (List ℕ)) : Type 0 where
  pub row : KeptRow S O G
  pub kept : Contains (all_rows store) row
  pub path_is : row.path ≡ path
  pub content_is : content ≡ row_content outcome bytes row

-- the row may be added to the store
pub record MayBeAdded {S O G : Type 0} (given_path : G → List ℕ) (outcome : G → Outcome) (bytes : G → List ℕ) (store : List (ShardView S O G)) (row : KeptRow S O G) : Type 0 where
  pub fits : IsRow given_path outcome bytes row
  pub lacks : LacksPath store row.path

module _ {S O G : Type 0} (given_path : G → List ℕ) (outcome : G → Outcome) (bytes : G → List ℕ) (jobs : List Job) (settings : Settings) where
  -- the row has what was read for the k-th path of job n, and may be added to the store
  pub record IsRowOf (rows : List Row) (store : List (ShardView S O G)) (n k : ℕ) (content : Content (List ℕ)) (row : KeptRow S O G) : Type 0 where
    pub path : path_at jobs settings rows n k ≡ Some row.path
    pub content_is : row_content outcome bytes row ≡ content
    pub may : MayBeAdded given_path outcome bytes store row

  -- a row in the place of a worker is that of what the worker holds
  abbrev pub PlaceFits : List Row → List (ShardView S O G) → Worker → Option (KeptRow S O G) → Type 0
  PlaceFits rows store (Holding n k content) (Some row) = IsRowOf rows store n k content row
  PlaceFits rows store worker place = ⊤

  abbrev pub PlacesFit : Machine → List (Option (KeptRow S O G)) → List (ShardView S O G) → Type 0
  PlacesFit m held store = (w : ℕ) → PlaceFits m.rows store (worker_at m w) (place_at held w)

  -- the worker is to publish, and the row in its place, if there is one, may be added to the store
  pub record WantsToPublish (m : Machine) (w : ℕ) (held : List (Option (KeptRow S O G))) (store : List (ShardView S O G)) : Type 0 where
    pub want : wants jobs settings m w ≡ Publish_wanted
    pub may : (row : KeptRow S O G) → place_at held w ≡ Some row → MayBeAdded given_path outcome bytes store row

-- the worker wants this event, which neither reads nor publishes
abbrev pub IsQuiet : List Job → Settings → Machine → ℕ → Event → Type 0
IsQuiet jobs settings m w (Draw v) = (v ≡ w) × (wants jobs settings m w ≡ Draw_wanted)
IsQuiet jobs settings m w (Look v) = (v ≡ w) × (wants jobs settings m w ≡ Look_wanted)
IsQuiet jobs settings m w (End v) = (v ≡ w) × (wants jobs settings m w ≡ End_wanted)
IsQuiet jobs settings m w event = ⊥

-- ## What a step leaves

-- a run at a moment: the machine, the rows in their places, and the store
pub record Moment (S O G : Type 0) : Type 0 where
  pub machine : Machine
  pub held : List (Option (KeptRow S O G))
  pub store : List (ShardView S O G)

-- a step that neither reads a path nor publishes one
pub record HasRun {S O G : Type 0} (jobs : List Job) (settings : Settings) (w : ℕ) (old new : Moment S O G) : Type 0 where
  pub event : Event
  pub quiet : IsQuiet jobs settings old.machine w event
  pub moved : HasMoved jobs settings event old.machine new.machine
  pub held : new.held ≡ old.held
  pub store : new.store ≡ old.store

-- what was read is published, and no row is added: the worker's place has none
pub record HasPassed {S O G : Type 0} (jobs : List Job) (settings : Settings) (w : ℕ) (old new : Moment S O G) : Type 0 where
  pub want : wants jobs settings old.machine w ≡ Publish_wanted
  pub place : place_at old.held w ≡ None
  pub moved : HasMoved jobs settings (Publish w) old.machine new.machine
  pub held : new.held ≡ slice_set old.held w None
  pub store : new.store ≡ old.store

module _ {S O G : Type 0} (given_path : G → List ℕ) (outcome : G → Outcome) (bytes : G → List ℕ) (jobs : List Job) (settings : Settings) (w : ℕ) where
  -- the store has the row of the worker's path, and the worker was told of it; no row stands in its place
  pub record HasFound (old new : Moment S O G) : Type 0 where
    pub path : List ℕ
    pub content : Content (List ℕ)
    pub want : wants jobs settings old.machine w ≡ Read_wanted
    pub path_is : wanted jobs settings old.machine w ≡ Some path
    pub known : IsKnown outcome bytes old.store path content
    pub moved : new.machine ≡ act jobs settings old.machine (Read w content)
    pub held : new.held ≡ slice_set old.held w None
    pub store : new.store ≡ old.store
    pub valid : IsStore (λ row. IsRow given_path outcome bytes row) old.store

  -- the row in the worker's place was added to the store, and is published
  pub record HasPublished (old new : Moment S O G) : Type 0 where
    pub row : KeptRow S O G
    pub want : wants jobs settings old.machine w ≡ Publish_wanted
    pub place : place_at old.held w ≡ Some row
    pub moved : HasMoved jobs settings (Publish w) old.machine new.machine
    pub held : new.held ≡ slice_set old.held w None
    pub store : new.store ≡ change_at (kept_also row) (shard_number row.path) old.store
    pub valid : IsStore (λ row. IsRow given_path outcome bytes row) new.store

module _ {S O G : Type 0} (given_path : G → List ℕ) (given_origin : G → ℕ) (outcome : G → Outcome) (bytes : G → List ℕ) (jobs : List Job) (settings : Settings) (w : ℕ) where
  -- the store lacks the worker's path, which was asked for and read; its row stands in the worker's place
  pub record HasRead (old new : Moment S O G) : Type 0 where
    pub row : KeptRow S O G
    pub want : wants jobs settings old.machine w ≡ Read_wanted
    pub path : wanted jobs settings old.machine w ≡ Some row.path
    pub may : MayBeAdded given_path outcome bytes old.store row
    pub moved : new.machine ≡ act jobs settings old.machine (Read w (row_content outcome bytes row))
    pub held : new.held ≡ slice_set old.held w (Some row)
    pub store : new.store ≡ change_at (asked_also row.path) (shard_number row.path) old.store
    pub given : IsGivenRow given_path given_origin old.store row
    pub valid : IsStore (λ row. IsRow given_path outcome bytes row) new.store

  -- one step of the worker
  abbrev pub HasStepped : Moment S O G → Moment S O G → Type 0
  HasStepped old new =
      HasRun jobs settings w old new
      ⊎ ((HasFound given_path outcome bytes jobs settings w old new ⊎ HasRead old new)
      ⊎ (HasPassed jobs settings w old new ⊎ HasPublished given_path outcome bytes jobs settings w old new))
