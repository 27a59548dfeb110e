-- What a step at a shard's lock leaves and tells.
use Rattle.std.proofs.Common.{◌≡◌, ◌≢◌, ℕ, List, [], ◌∷◌, ◌++◌, Result, Ok, Err, sym, ap, ◌∙◌, subst, append_assoc}
use Rattle.std.proofs.lemmas.List.Elements.{All-append}
use Rattle.scan_model.specs.declared.memory.NoMemory as want
use Rattle.scan_model.specs.declared.Outcome.{Outcome}
use Rattle.turn_lock.specs.Logs.{Fits}
use Rattle.shard_cache.specs.Rows.{shard_number}
use Rattle.cache_desk.specs.declared.entry.Entry.{Entry}
use Rattle.cache_desk.specs.declared.desk.Found.{Found}
use Rattle.cache_desk.specs.declared.desk.Found.TheVariants as FoundIs
use Rattle.cache_desk.specs.Log.{maker}
use Rattle.cache_desk.specs.Desk.{DeskView, Looks, log_of, fixed_of}
use Rattle.cache_desk.specs.Desk.{row_published}
use Rattle.shared_cache.specs.Cache.{LookAt, SeesLook, SeesEntry}
use Rattle.shard_cache.specs.declared.KeptRow.{KeptRow}

module _ {S O G : Type 0} (outcome : G → Outcome) (bytes : G → List ℕ) (opener_path : O → List ℕ) (opener_origin : O → ℕ) where
  pub look_sees : (path : List ℕ) (by : ℕ) (fixed : List ℕ) (x y : DeskView S O G) (r : Result (Found S O G) want.NoMemory)
      → shard_number path ≡ x.number → fixed_of x ≡ fixed → Looks outcome bytes opener_path opener_origin path by x r y → LookAt opener_path opener_origin path by fixed (log_of outcome bytes x) r (log_of outcome bytes y)
  look_sees path by fixed x y (Ok (FoundIs.Done answer)) placed is l = (ap (log_of outcome bytes) l.0, l.1)
  look_sees path by fixed x y (Ok (FoundIs.Mine claimed opener)) placed is l =
      (l.0, l.1, l.3, l.4, sym is ∙ (λ i. sym placed i ∷ sym l.5 i ∷ []))
  look_sees path by fixed x y (Ok FoundIs.Busy) placed is l = (ap (log_of outcome bytes) l.0, l.1)
  look_sees path by fixed x y (Err e) placed is l = ap (log_of outcome bytes) l

  -- the shard's number, where the fixed numbers are known
  pub number_at : (x : DeskView S O G) (fixed : List ℕ) (number origin : ℕ) → fixed_of x ≡ fixed → fixed ≡ number ∷ origin ∷ [] → number ≡ x.number
  number_at x fixed number origin is at = sym (ap first_or (is ∙ at)) where
    first_or : List ℕ → ℕ
    first_or [] = 0
    first_or (n ∷ ns) = n

  -- the same look, where the state that was shown and the one that was left are named otherwise
  pub look_sees_at : (path : List ℕ) (found_by by : ℕ) (fixed : List ℕ) (x y shown left : DeskView S O G) (r : Result (Found S O G) want.NoMemory) (after : List Entry) (origin : ℕ)
      → found_by ≡ by → shown ≡ x → left ≡ y → after ≡ log_of outcome bytes y → fixed_of x ≡ fixed → fixed ≡ shard_number path ∷ origin ∷ []
      → Looks outcome bytes opener_path opener_origin path found_by shown r left → LookAt opener_path opener_origin path by fixed (log_of outcome bytes x) r after
  look_sees_at path found_by by fixed x y shown left r after origin by_is shows leaves after_is is at looks =
      let named = subst (λ k. Looks outcome bytes opener_path opener_origin path k shown r left) by_is looks in
      let from = subst (λ z. Looks outcome bytes opener_path opener_origin path by z r left) shows named in
      let to = subst (λ z. Looks outcome bytes opener_path opener_origin path by x r z) leaves from in
      subst (λ l. LookAt opener_path opener_origin path by fixed (log_of outcome bytes x) r l) (sym after_is)
      (look_sees path by fixed x y r (number_at x fixed (shard_number path) origin is at) is to)

-- the same look and the same publication, by equal numbers and lists
pub sees_look_at : {S O G : Type 0} (op : O → List ℕ) (oo : O → ℕ) (path : List ℕ) (r : Result (Found S O G) want.NoMemory) (by by' : ℕ) (fixed fixed' : List ℕ) (before before' after after' : List Entry)
    → by ≡ by' → fixed ≡ fixed' → before ≡ before' → after ≡ after' → SeesLook op oo path by fixed before r after → SeesLook op oo path by' fixed' before' r after'
sees_look_at op oo path r by by' fixed fixed' before before' after after' b f e a sees =
    subst (λ z. SeesLook op oo path by' fixed' before' r z) a
    (subst (λ z. SeesLook op oo path by' fixed' z r after) e
    (subst (λ z. SeesLook op oo path by' z before r after) f
    (subst (λ z. SeesLook op oo path z fixed before r after) b sees)))

pub sees_row_at : {S O G : Type 0} (outcome : G → Outcome) (bytes : G → List ℕ) (row : KeptRow S O G) (by by' : ℕ) (before before' after after' : List Entry)
    → by ≡ by' → before ≡ before' → after ≡ after' → SeesEntry by before (row_published outcome bytes row by) after → SeesEntry by' before' (row_published outcome bytes row by') after'
sees_row_at outcome bytes row by by' before before' after after' b e a sees =
    subst (λ z. SeesEntry by' before' (row_published outcome bytes row by') z) a
    (subst (λ z. SeesEntry by' z (row_published outcome bytes row by') after) e
    (subst (λ z. SeesEntry z before (row_published outcome bytes row z) after) b sees))

-- a log that fits a log that fits what was seen fits what was seen
pub fits_then : (by : ℕ) (before middle log : List Entry) → Fits maker by before middle → Fits maker by middle log → Fits maker by before log
fits_then by before middle log (first, first_is, first_away) (rest, rest_is, rest_away) = (
  first ++ rest,
  rest_is ∙ (ap (λ l. l ++ rest) first_is ∙ append_assoc before first rest),
  All-append (λ e. maker e ≢ by) first rest first_away rest_away,
)

-- a look after one that found the path with others
pub sees_busy_then : {S O G : Type 0} (op : O → List ℕ) (oo : O → ℕ) (path : List ℕ) (found : Result (Found S O G) want.NoMemory) (by : ℕ) (fixed : List ℕ) (before middle after : List Entry)
    → SeesLook {S = S} {O = O} {G = G} op oo path by fixed before (Ok FoundIs.Busy) middle → SeesLook op oo path by fixed middle found after → SeesLook op oo path by fixed before found after
sees_busy_then op oo path found by fixed before middle after (first, first_fits, busy) (log, fits, looks) =
    (log, fits_then by before first log first_fits (subst (λ l. Fits maker by l log) busy.0 fits), looks)
