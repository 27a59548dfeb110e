-- What a run leaves of a store of which nothing was asked before it.
use Rattle.std.proofs.Common.{◌≡◌, ℕ, List, [], ◌∷◌, ap, sym, ◌∙◌, subst}
use Rattle.std.specs.Prelude.{All}
use Rattle.std.proofs.lemmas.List.Elements.{All-nil}
use Rattle.scan_model.specs.declared.command.Settings.{Settings}
use Rattle.scan_model.specs.declared.command.Job.{Job}
use Rattle.scan_model.specs.Files.{FileMap}
use Rattle.shard_cache.specs.Rows.{ShardView, all_asked}
use Rattle.shard_cache.specs.StoreMap.{HaveRows, IsOneMap, IsUntouched}
use Rattle.shard_cache.specs.StoreRun.{ask_all}
use Rattle.shard_cache.specs.Ends.{IsLookedAt}
use Rattle.shard_cache.proofs.MapLemmas.{IsUntouched-IsOneMap, IsUntouched-HaveRows}
use Rattle.scheduler.specs.Asks.{AsksForLooks}
use Rattle.scheduler.proofs.StoreGrowth.{all_asked_all, asked_added}

module _ {S O G : Type 0} (old new : List (ShardView S O G)) (untouched : IsUntouched old) where
  -- the rows are one map
  pub untouched_one_map : (given_path : G → List ℕ) (given_origin : G → ℕ) → (HaveRows old → IsOneMap given_path given_origin old → IsOneMap given_path given_origin new) → IsOneMap given_path given_origin new
  untouched_one_map given_path given_origin h = h (IsUntouched-HaveRows old untouched) (IsUntouched-IsOneMap given_path given_origin old untouched)

  -- each path that was asked has its row
  pub untouched_have_rows : (HaveRows old → HaveRows new) → HaveRows new
  untouched_have_rows h = h (IsUntouched-HaveRows old untouched)

  -- each path that was asked is one that the jobs look at
  pub untouched_looked : (given_path : G → List ℕ) (given_origin : G → ℕ) (files : FileMap (List ℕ)) (jobs : List Job) (settings : Settings) → AsksForLooks given_path given_origin files jobs settings old new →
      All (λ path. IsLookedAt files settings jobs path) (all_asked new)
  untouched_looked given_path given_origin files jobs settings h =
      let P : List ℕ → Type 0 = λ path. IsLookedAt files settings jobs path in
      let asks = h.extended.asks in
      let before : All P (all_asked old) = subst (λ z. All P z) (sym untouched.nothing_asked) (All-nil P) in
      subst (λ z. All P z) (sym (ap (λ (z : List (ShardView S O G)). all_asked z) h.extended.is ∙ asked_added h.extended.rows (ask_all asks old))) (all_asked_all P asks old h.looks before)
