-- What a step finds, and what it leaves.
use Rattle.std.proofs.Common.{◌≡◌, ◌≢◌, ℕ, ◌<◌, Bool, true, false, if◌then◌else◌, List, [], ◌∷◌, length, refl, sym, ◌∙◌, subst, Option, Some, None}
use Rattle.std.specs.Prelude.{slice_index_or, All}
use Rattle.std.proofs.lemmas.List.{get_or_default}
use Rattle.std.proofs.lemmas.List.Elements.{All-nil, All-cons}
use Rattle.std.proofs.lemmas.Slice.Eq.{bytes_eq-Decides}
use Rattle.scan_model.specs.declared.Outcome.{Outcome}
use Rattle.scan_model.specs.declared.command.Settings.{Settings}
use Rattle.scan_model.specs.declared.command.Job.{Job}
use Rattle.scan_model.specs.Files.{Content}
use Rattle.scan_model.specs.TokenTests.{same}
use Rattle.cache_machine.specs.Machine.{Machine, Holding, worker_at}
use Rattle.cache_machine.specs.Wants.{Publish_wanted, wants}
use Rattle.shard_cache.specs.declared.kept_row.KeptRow.{KeptRow}
use Rattle.shard_cache.specs.Rows.{ShardView, row_content}
use Rattle.shard_cache.specs.StoreMap.{file_map}
use Rattle.scheduler.specs.Moving.{place_at, MayBeAdded, PlaceFits, PlacesFit, WantsToPublish}
use Rattle.scheduler.proofs.WantCases.{publish_is}

-- ## Paths without a row

module _ {S O G : Type 0} (outcome : G → Outcome) (bytes : G → List ℕ) where
  none_here : (row : KeptRow S O G) (path : List ℕ) (later : Option (Content (List ℕ))) → (b : Bool) → same row.path path ≡ b → (if b then Some (row_content outcome bytes row) else later) ≡ None →
      (row.path ≢ path) × (later ≡ None)
  none_here row path later true e h = cc
  none_here row path later false e h = (λ is. let t : same row.path path ≡ true = (bytes_eq-Decides row.path path).1 is in cc, h)

  -- a path that isn't in the map has no row
  pub lacks_path : (rows : List (KeptRow S O G)) (path : List ℕ) → file_map outcome bytes rows path ≡ None → All (λ row. row.path ≢ path) rows
  lacks_path [] path h = All-nil _
  lacks_path (row ∷ rows) path h =
      let here = none_here row path (file_map outcome bytes rows path) (same row.path path) refl h in
      All-cons (λ (r : KeptRow S O G). r.path ≢ path) row rows here.0 (lacks_path rows path here.1)

-- ## What a step finds

-- the row in the place of a worker that is to publish may be added
pub wants_to_publish : {S O G : Type 0} (given_path : G → List ℕ) (outcome : G → Outcome) (bytes : G → List ℕ) (jobs : List Job) (settings : Settings) (m : Machine) (held : List (Option (KeptRow S O G)))
    (store : List (ShardView S O G)) (w : ℕ) → PlacesFit given_path outcome bytes jobs settings m held store → wants jobs settings m w ≡ Publish_wanted → WantsToPublish given_path outcome bytes jobs settings m w held store
wants_to_publish given_path outcome bytes jobs settings m held store w fit want =
    let state = publish_is jobs settings m.rows (worker_at m w) want in
    let here = subst (λ z. PlaceFits given_path outcome bytes jobs settings m.rows store z (place_at held w)) state.1.1.1 (fit w) in
    record {
      want = want;
      may = λ row is. (subst (λ z. PlaceFits given_path outcome bytes jobs settings m.rows store (Holding state.0 state.1.0 state.1.1.0) z) is here).may;
    }

-- what stands in a place that is read
pub place_read : {R : Type 0} (held : List (Option R)) (w : ℕ) (was place : Option R) → w < length held → was ≡ slice_index_or held w was → was ≡ place → place_at held w ≡ place
place_read held w was place inside is has = get_or_default held w None was inside ∙ sym is ∙ has

-- so the row that was in it may be added
pub may_be_added : {S O G : Type 0} (given_path : G → List ℕ) (outcome : G → Outcome) (bytes : G → List ℕ) (jobs : List Job) (settings : Settings) (m : Machine) (held : List (Option (KeptRow S O G)))
    (store : List (ShardView S O G)) (w : ℕ) (was : Option (KeptRow S O G)) (row : KeptRow S O G) → WantsToPublish given_path outcome bytes jobs settings m w held store → w < length held → was ≡ slice_index_or held w was → was ≡ Some row →
    MayBeAdded given_path outcome bytes store row
may_be_added given_path outcome bytes jobs settings m held store w was row wanted inside is some = wanted.may row (place_read held w was (Some row) inside is some)
