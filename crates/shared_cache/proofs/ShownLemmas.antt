-- What callers know of a look by what they are shown.
use Rattle.std.specs.Prelude.{slice_index_or}
use Rattle.std.proofs.Common.{◌≡◌, ℕ, List, [], Result, Ok, Err, sym, ap, ◌∙◌, subst}
use Rattle.scan_model.specs.declared.Outcome.{Outcome}
use Rattle.scan_model.specs.declared.memory.NoMemory as want
use Rattle.file_source.specs.declared.Source.{Ghosts}
use Rattle.reducer.specs.declared.Answer.{Answer}
use Rattle.reducer.specs.Answers.{content_of}
use Rattle.shard_cache.specs.Rows.{shard_number}
use Rattle.cache_desk.specs.declared.entry.Entry.{Entry}
use Rattle.cache_desk.specs.declared.desk.Found.{Found}
use Rattle.cache_desk.specs.declared.desk.Found.TheVariants as FoundIs
use Rattle.cache_desk.specs.Log.{Claimed, claim, standing}
use Rattle.cache_desk.specs.Desk.{told}
use Rattle.cache_desk.proofs.LogLemmas.{standing_now}
use Rattle.shared_cache.specs.declared.claim.Claim.{Claim}
use Rattle.shared_cache.specs.declared.looked.Looked.{Looked}
use Rattle.shared_cache.specs.declared.looked.Looked.TheVariants as LookedIs
use Rattle.shared_cache.specs.Cache.{SeesLook, HasSeen}
use Rattle.shared_cache.specs.Shared.{second, seen_of}
use Rattle.shared_cache.specs.Shown.{IsShown}
use Rattle.shared_cache.proofs.SeenLemmas.{done_is_seen}

module _ {S O G : Type 0} (opener_path : O → List ℕ) (opener_origin : O → ℕ) (path : List ℕ) (by : ℕ) (fixed : List ℕ) (before after : List Entry) where
  mine : (g : Ghosts S O G) (found : Result (Found S O G) want.NoMemory) (c : Claim S O G g)
      → IsShown {g = g} found (Ok (LookedIs.Mine c)) → SeesLook opener_path opener_origin path by fixed before found after
      → (c.path ≡ path) × (standing after c.path ≡ Claimed by) × (second fixed ≡ opener_origin c.opener)
  mine g (Ok (FoundIs.Done answer)) c shown sees = absurd shown
  mine g (Ok FoundIs.Busy) c shown sees = absurd shown
  mine g (Err e) c shown sees = absurd shown
  mine g (Ok (FoundIs.Mine claimed opener)) c shown (log, fits, looks) =
      let is : c.path ≡ path = shown.0 ∙ looks.2 in (
        is,
        ap (λ p. standing after p) is ∙ (ap (λ l. standing l path) looks.1 ∙ standing_now log (claim path by)),
        ap second looks.4 ∙ ap opener_origin (sym shown.1),
      )

  done : (g : Ghosts S O G) (found : Result (Found S O G) want.NoMemory) (answer : Answer)
      → IsShown {g = g} found (Ok (LookedIs.Done answer)) → SeesLook opener_path opener_origin path by fixed before found after
      → (o : Outcome) × (b : List ℕ) × HasSeen after path o b × (content_of answer ≡ told o b)
  done g (Ok (FoundIs.Mine claimed opener)) answer shown sees = absurd shown
  done g (Ok FoundIs.Busy) answer shown sees = absurd shown
  done g (Err e) answer shown sees = absurd shown
  done g (Ok (FoundIs.Done told_of)) answer shown (log, fits, looks) =
      let (w, o, b, is_done, content) = looks.1 in
      (o, b, subst (λ l. HasSeen l path o b) (sym looks.0) (done_is_seen log path w o b is_done), ap content_of shown ∙ content)

  module _ {g : Ghosts S O G} (found : Result (Found S O G) want.NoMemory) (looked : Looked S O G g) where
    -- a claim is of the path, which stands claimed for the passes, and its right to read is from the shard's source
    pub shown_mine : (c : Claim S O G g) → looked ≡ LookedIs.Mine c
        → IsShown found (Ok looked) → SeesLook opener_path opener_origin path by fixed before found after
        → (c.path ≡ path) × (standing after c.path ≡ Claimed by) × (second fixed ≡ opener_origin c.opener)
    shown_mine c is shown sees = mine g found c (subst (λ l. IsShown found (Ok l)) is shown) sees

    -- what was answered is what the path stands for, and its publication was seen
    pub shown_done : (answer : Answer) → looked ≡ LookedIs.Done answer
        → IsShown found (Ok looked) → SeesLook opener_path opener_origin path by fixed before found after
        → (o : Outcome) × (b : List ℕ) × HasSeen after path o b × (content_of answer ≡ told o b)
    shown_done answer is shown sees = done g found answer (subst (λ l. IsShown found (Ok l)) is shown) sees

-- a claim's row is published where it was claimed
pub claim_publishes : (seen : List (List Entry)) (row_path claim_path path : List ℕ) (number by : ℕ)
    → row_path ≡ claim_path → claim_path ≡ path → number ≡ by → standing (seen_of seen path) claim_path ≡ Claimed by
    → standing (seen_of seen row_path) row_path ≡ Claimed number
claim_publishes seen row_path claim_path path number by row claimed same is =
    ap (λ p. standing (seen_of seen p) row_path) (row ∙ claimed) ∙ (ap (λ p. standing (seen_of seen path) p) row ∙ (is ∙ ap Claimed (sym same)))

-- and what was read came from its shard's source
pub claim_is_here : (fixeds : List (List ℕ)) (row_path claim_path path : List ℕ) (given_origin opener_origin : ℕ)
    → row_path ≡ claim_path → claim_path ≡ path → given_origin ≡ opener_origin → second (slice_index_or fixeds (shard_number path) []) ≡ opener_origin
    → second (slice_index_or fixeds (shard_number row_path) []) ≡ given_origin
claim_is_here fixeds row_path claim_path path given_origin opener_origin row claimed same is =
    ap (λ p. second (slice_index_or fixeds (shard_number p) [])) (row ∙ claimed) ∙ (is ∙ sym same)
