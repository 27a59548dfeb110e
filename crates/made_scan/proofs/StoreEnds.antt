-- What an ended store over plain sources says of the tree that they list.
use Rattle.std.proofs.Common.{◌≡◌, ◌≢◌, ℕ, ◌≤◌, Bool, true, false, if◌then◌else◌, List, [], ◌∷◌, ◌++◌, length, refl, ap, sym, ◌∙◌, subst, Option, Some, lit<}
use Rattle.std.specs.Prelude.{All, Contains, IsSome, is_some}
use Rattle.std.proofs.lemmas.List.{length-map}
use Rattle.std.proofs.lemmas.List.Elements.{All-nil, All-head, All-tail, All-append, All-map, All-weaker, All-contains, Contains-append_left, Contains-append_right}
use Rattle.std.proofs.lemmas.Slice.Eq.{bytes_eq-Decides}
use Rattle.scan_model.specs.declared.Outcome.{Outcome}
use Rattle.scan_model.specs.declared.Outcome.TheVariants as OutcomeIs
use Rattle.scan_model.specs.declared.command.Settings.{Settings}
use Rattle.scan_model.specs.declared.command.Job.{Job}
use Rattle.scan_model.specs.declared.unit_end.UnitEnd.{UnitEnd}
use Rattle.scan_model.specs.Files.{Content, NoMemory, content}
use Rattle.scan_model.specs.TokenTests.{same}
use Rattle.file_source.specs.declared.made_file.MadeFile.{MadeFile}
use Rattle.file_source.specs.CameOf.{outcome_of, bytes_of}
use Rattle.file_source.specs.Made.{came_at}
use Rattle.big_gen.specs.MadeTexts.{made_files}
use Rattle.shard_cache.specs.declared.kept_row.KeptRow.{KeptRow}
use Rattle.shard_cache.specs.Rows.{ShardView, IsRow, IsStore, all_rows, all_asked, paths_of, row_content, stands_for}
use Rattle.shard_cache.specs.StoreMap.{file_map, AreGiven, IsOneMap}
use Rattle.shard_cache.specs.Ends.{AreEnds, IsLookedAt}
use Rattle.shard_cache.proofs.StoreLemmas.{IsStore-rows}
use Rattle.scheduler.specs.Order.{HaveMemory}
use Rattle.answer_paths.specs.LookedPaths.{HasTextsOf}
use Rattle.made_scan.specs.MadeJobs.{made_jobs}
use Rattle.made_scan.specs.MadeScans.{made_map, AreMadeEnds, IsPathCount}
use Rattle.made_scan.proofs.MadeMaps.{made_map_is}
use Rattle.made_scan.proofs.EndsOver.{ends_over, looked_there, looked_here}

-- what stands for a read stands for its outcome and bytes, unless memory was wanting for its lines
stands : (has_lines : Bool) (outcome : Outcome) (bytes : List ℕ) (c : Content (List ℕ)) → stands_for has_lines outcome bytes ≡ c → c ≢ NoMemory → content outcome bytes ≡ c
stands true outcome bytes c h memory = h
stands false OutcomeIs.Present bytes c h memory = absurd (memory (sym h))
stands false OutcomeIs.Absent bytes c h memory = h
stands false OutcomeIs.Failed bytes c h memory = h
stands false OutcomeIs.Big bytes c h memory = h
stands false OutcomeIs.NoMemory bytes c h memory = h

-- sources of these files, which are those of the tree
module _ {G : Type 0} (given_path : G → List ℕ) (given_origin : G → ℕ) (listed : List MadeFile) (n : ℕ) (listed_are : listed ≡ made_files n) (few : n ≤ 4096) where
  abbrev pub outcome : G → Outcome
  outcome given = outcome_of (came_at listed (given_path given))

  abbrev pub bytes : G → List ℕ
  bytes given = bytes_of (came_at listed (given_path given))

  module _ {S O : Type 0} where
    row_shows : (row : KeptRow S O G) → given_path row.given ≡ row.path → (c : Content (List ℕ)) → row_content outcome bytes row ≡ c → c ≢ NoMemory → made_map n row.path ≡ Some c
    row_shows row path c h memory =
        made_map_is n few row.path
        ∙ ap (λ z. Some (content (outcome_of (came_at z row.path)) (bytes_of (came_at z row.path)))) (sym listed_are)
        ∙ ap (λ p. Some (content (outcome_of (came_at listed p)) (bytes_of (came_at listed p)))) (sym path)
        ∙ ap Some (stands (is_some row.reduced) (outcome row.given) (bytes row.given) c h memory)

    row_has : (row : KeptRow S O G) (path : List ℕ) (c : Content (List ℕ)) → given_path row.given ≡ row.path → c ≢ NoMemory → (later : Option (Content (List ℕ))) → (later ≡ Some c → made_map n path ≡ Some c) →
        (b : Bool) → same row.path path ≡ b → (if b then Some (row_content outcome bytes row) else later) ≡ Some c → made_map n path ≡ Some c
    row_has row path c given memory later each false is h = each h
    row_has row path c given memory later each true is h =
        let here : row.path ≡ path = (bytes_eq-Decides row.path path).0 is in
        let shown : row_content outcome bytes row ≡ c = cc in
        ap (made_map n) (sym here) ∙ row_shows row given c shown memory

    -- the tree has what the rows say, but where memory was wanting
    map_shows : (rows : List (KeptRow S O G)) → All (λ row. IsRow given_path outcome bytes row) rows → HasTextsOf (List ℕ) (file_map outcome bytes rows) (made_map n)
    map_shows [] fit path c h memory = cc
    map_shows (row ∷ rows) fit path c h memory =
        row_has row path c (All-head (λ (r : KeptRow S O G). IsRow given_path outcome bytes r) row rows fit).given memory (file_map outcome bytes rows path)
        (λ later. map_shows rows (All-tail (λ (r : KeptRow S O G). IsRow given_path outcome bytes r) row rows fit) path c later memory) (same row.path path) refl h

    here_or : (row : KeptRow S O G) (rows : List (KeptRow S O G)) (path : List ℕ) → (IsSome (file_map outcome bytes rows path) → Contains (paths_of rows) path) →
        (b : Bool) → same row.path path ≡ b → IsSome (if b then Some (row_content outcome bytes row) else file_map outcome bytes rows path) → Contains (row.path ∷ paths_of rows) path
    here_or row rows path later true is h = Contains-append_left (row.path ∷ []) (paths_of rows) path (0, lit< tt, (bytes_eq-Decides row.path path).0 is)
    here_or row rows path later false is h = Contains-append_right (row.path ∷ []) (paths_of rows) path (later h)

    -- a path that the map has is one of a row
    row_of : (rows : List (KeptRow S O G)) (path : List ℕ) → IsSome (file_map outcome bytes rows path) → Contains (paths_of rows) path
    row_of [] path h = cc
    row_of (row ∷ rows) path h = here_or row rows path (row_of rows path) (same row.path path) refl h

    -- each row's path was asked for
    rows_asked : (shards : List (ShardView S O G)) → AreGiven given_path given_origin shards → All (λ (row : KeptRow S O G). Contains (all_asked shards) row.path) (all_rows shards)
    rows_asked [] given = All-nil _
    rows_asked (s ∷ ss) given =
        All-append (λ (row : KeptRow S O G). Contains (s.asked ++ all_asked ss) row.path) s.rows (all_rows ss)
        (All-weaker (λ (row : KeptRow S O G). Contains s.asked row.path) (λ row. Contains (s.asked ++ all_asked ss) row.path) (λ row c. Contains-append_left s.asked (all_asked ss) row.path c) s.rows given.0.asked)
        (All-weaker (λ (row : KeptRow S O G). Contains (all_asked ss) row.path) (λ row. Contains (s.asked ++ all_asked ss) row.path) (λ row c. Contains-append_right s.asked (all_asked ss) row.path c) (all_rows ss) (rows_asked ss given.1))

    module _ (settings : Settings) (jobs : List Job) (jobs_are : jobs ≡ made_jobs n) (ends : List UnitEnd) (store : List (ShardView S O G))
        (valid : IsStore (λ row. IsRow given_path outcome bytes row) store) (ended : AreEnds (file_map outcome bytes (all_rows store)) settings jobs ends) where
      are : AreEnds (file_map outcome bytes (all_rows store)) settings (made_jobs n) ends
      are = subst (λ z. AreEnds (file_map outcome bytes (all_rows store)) settings z ends) jobs_are ended

      shows : HasTextsOf (List ℕ) (file_map outcome bytes (all_rows store)) (made_map n)
      shows = map_shows (all_rows store) (IsStore-rows (λ row. IsRow given_path outcome bytes row) store valid)

      -- the ends over the rows are ends over the tree
      pub made_ends : AreMadeEnds n settings ends
      made_ends = ends_over settings (file_map outcome bytes (all_rows store)) (made_map n) shows (made_jobs n) ends are

      -- the rows are of the paths that are looked at over the tree
      pub made_paths : IsOneMap given_path given_origin store → All (λ path. IsLookedAt (file_map outcome bytes (all_rows store)) settings jobs path) (all_asked store) →
          HaveMemory ends → IsPathCount n settings (length (all_rows store))
      made_paths one looked memory = record {
        paths = paths_of (all_rows store);
        differ = one.paths_differ;
        length_is = length-map (all_rows store) (λ row. row.path);
        each = λ path. (row_looked path, λ looks. row_of (all_rows store) path (looked_here settings (file_map outcome bytes (all_rows store)) (made_map n) shows (made_jobs n) ends are memory path looks));
      }
        where
          seen : All (λ (row : KeptRow S O G). IsLookedAt (made_map n) settings (made_jobs n) row.path) (all_rows store)
          seen = All-weaker (λ (row : KeptRow S O G). Contains (all_asked store) row.path) (λ row. IsLookedAt (made_map n) settings (made_jobs n) row.path)
              (λ row c. looked_there settings (file_map outcome bytes (all_rows store)) (made_map n) shows (made_jobs n) ends are memory row.path
              (All-contains (λ path. IsLookedAt (file_map outcome bytes (all_rows store)) settings (made_jobs n) path) (all_asked store) row.path
              (subst (λ z. All (λ path. IsLookedAt (file_map outcome bytes (all_rows store)) settings z path) (all_asked store)) jobs_are looked) c)) (all_rows store) (rows_asked store one.given)

          row_looked : (path : List ℕ) → Contains (paths_of (all_rows store)) path → IsLookedAt (made_map n) settings (made_jobs n) path
          row_looked path c = All-contains (λ path. IsLookedAt (made_map n) settings (made_jobs n) path) (paths_of (all_rows store)) path
              (All-map (λ path. IsLookedAt (made_map n) settings (made_jobs n) path) (λ (row : KeptRow S O G). row.path) (all_rows store) seen) c
