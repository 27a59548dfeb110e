-- What a look at a path leaves.
use Rattle.std.proofs.Common.{◌≡◌, ℕ, List, [], ◌∷◌, Result, Ok, Err, sym, ap, ◌∙◌, subst}
use Rattle.std.proofs.lemmas.List.{append-nil}
use Rattle.scan_model.specs.declared.memory.NoMemory as want
use Rattle.scan_model.specs.declared.Outcome.{Outcome}
use Rattle.file_source.specs.declared.source.Source.{Ghosts}
use Rattle.reducer.specs.declared.Answer.{Answer}
use Rattle.reducer.specs.Answers.{content_of}
use Rattle.unit_laws.specs.Reduction.{Given}
use Rattle.shard_cache.specs.declared.KeptRow.{KeptRow}
use Rattle.turn_lock.specs.Logs.{Fits}
use Rattle.cache_desk.specs.declared.entry.Entry.{Entry}
use Rattle.cache_desk.specs.declared.desk.Found.{Found}
use Rattle.cache_desk.specs.declared.desk.Found.TheVariants as FoundIs
use Rattle.cache_desk.specs.Log.{claim, publication, maker, standing, Claimed}
use Rattle.cache_desk.specs.Desk.{row_outcome, row_published, AnswersRow}
use Rattle.cache_desk.proofs.LogLemmas.{standing_now}
use Rattle.shared_cache.specs.declared.claim.Claim.{Claim}
use Rattle.shared_cache.specs.declared.looked.Looked.{Looked}
use Rattle.shared_cache.specs.declared.looked.Looked.TheVariants as LookedIs
use Rattle.shared_cache.specs.Cache.{HasSeen, SeesLook, SeesEntry}
use Rattle.shared_cache.specs.Shared.{seen_of, SameElsewhere, second}
use Rattle.shared_cache.specs.Shown.{IsShown}
use Rattle.shared_cache.specs.Callers.{claimed_path, opener_of}
use Rattle.shared_cache.proofs.SeenLemmas.{done_is_seen}
use Rattle.worker.specs.Seen.{HasPublication, IsSeen, SeesFurther}
use Rattle.worker.specs.Claims.{HasClaimed, GoesOn}
use Rattle.worker.proofs.Holds.{IsHold, hold_of, hold_goes, hold_publishes, hold_claims_none, hold_further, claim_goes}
use Rattle.worker.proofs.Seeing.{published_of_seen}

none_added : (path : List ℕ) (by : ℕ) (before after : List (List Entry)) (log : List Entry) → SameElsewhere path before after → Fits maker by (seen_of before path) log → seen_of after path ≡ log →
    GoesOn by (λ other. other ≡ path) before after
none_added path by before after log elsewhere fits now =
    hold_goes by path (λ other. other ≡ path) before after (hold_of by path [] before after log elsewhere fits (now ∙ sym (append-nil log)))

module _ {S O G : Type 0} {s : Ghosts S O G} (opener_path : O → List ℕ) (opener_origin : O → ℕ) (path : List ℕ) (by : ℕ) (fixed : List ℕ) (before after : List (List Entry)) where
  -- the path is claimed for these passes, and may be read
  pub record IsMine (own : Claim S O G s) : Type 0 where
    pub hold : IsHold by path (claim path by ∷ []) before after
    pub path_is : claimed_path own ≡ path
    pub claimed : standing (seen_of after path) path ≡ Claimed by
    pub here : second fixed ≡ opener_origin (opener_of own)

  -- by what callers are shown: a content that was seen; a claim; or nothing
  abbrev pub Leaves : Result (Looked S O G s) want.NoMemory → Type 0
  Leaves (Ok (LookedIs.Done answer)) = GoesOn by (λ other. other ≡ path) before after × IsSeen after path (content_of answer)
  Leaves (Ok (LookedIs.Mine own)) = IsMine own
  Leaves (Ok (LookedIs.Busy mark)) = GoesOn by (λ other. other ≡ path) before after
  Leaves (Err none) = GoesOn by (λ other. other ≡ path) before after

  pub look_leaves : (found : Result (Found S O G) want.NoMemory) (shown : Result (Looked S O G s) want.NoMemory) → SameElsewhere path before after → IsShown found shown →
      SeesLook opener_path opener_origin path by fixed (seen_of before path) found (seen_of after path) → Leaves shown
  look_leaves (Ok (FoundIs.Done answer)) (Ok (LookedIs.Done told)) elsewhere is (log, fits, (now, (w, o, bytes, done, content))) = (
    none_added path by before after log elsewhere fits now,
    (o, bytes, subst (λ l. HasSeen l path o bytes) (sym now) (done_is_seen log path w o bytes done), ap content_of is ∙ content),
  )
  look_leaves (Ok (FoundIs.Mine claimed opener)) (Ok (LookedIs.Mine own)) elsewhere is (log, fits, (free, now, path_is, opens, fixed_is)) = record {
    hold = hold_of by path (claim path by ∷ []) before after log elsewhere fits now;
    path_is = is.0 ∙ path_is;
    claimed = ap (λ l. standing l path) now ∙ standing_now log (claim path by);
    here = ap second fixed_is ∙ sym (ap opener_origin is.1);
  }
  look_leaves (Ok FoundIs.Busy) (Ok (LookedIs.Busy mark)) elsewhere is (log, fits, (now, claimed)) = none_added path by before after log elsewhere fits now
  look_leaves (Err e) (Err f) elsewhere is (log, fits, now) = none_added path by before after log elsewhere fits now
  look_leaves (Ok (FoundIs.Done answer)) (Ok (LookedIs.Mine own)) elsewhere is sees = absurd is
  look_leaves (Ok (FoundIs.Done answer)) (Ok (LookedIs.Busy mark)) elsewhere is sees = absurd is
  look_leaves (Ok (FoundIs.Done answer)) (Err f) elsewhere is sees = absurd is
  look_leaves (Ok (FoundIs.Mine claimed opener)) (Ok (LookedIs.Done told)) elsewhere is sees = absurd is
  look_leaves (Ok (FoundIs.Mine claimed opener)) (Ok (LookedIs.Busy mark)) elsewhere is sees = absurd is
  look_leaves (Ok (FoundIs.Mine claimed opener)) (Err f) elsewhere is sees = absurd is
  look_leaves (Ok FoundIs.Busy) (Ok (LookedIs.Done told)) elsewhere is sees = absurd is
  look_leaves (Ok FoundIs.Busy) (Ok (LookedIs.Mine own)) elsewhere is sees = absurd is
  look_leaves (Ok FoundIs.Busy) (Err f) elsewhere is sees = absurd is
  look_leaves (Err e) (Ok (LookedIs.Done told)) elsewhere is sees = absurd is
  look_leaves (Err e) (Ok (LookedIs.Mine own)) elsewhere is sees = absurd is
  look_leaves (Err e) (Ok (LookedIs.Busy mark)) elsewhere is sees = absurd is

  -- the same of what a look gave, where it is this
  pub leaves_of : (result shown : Result (Looked S O G s) want.NoMemory) → result ≡ shown → SameElsewhere path before after →
      (found : Result (Found S O G) want.NoMemory) × IsShown found result × SeesLook opener_path opener_origin path by fixed (seen_of before path) found (seen_of after path) → Leaves shown
  leaves_of result shown is elsewhere (found, shows, sees) = subst (λ z. Leaves z) is (look_leaves found result elsewhere shows sees)

  -- a claim that was read and published
  pub mine_goes : (own : Claim S O G s) (later : List (List Entry)) (number : ℕ) (content : Given) → IsMine own → number ≡ by → SeesFurther after later →
      ((other : List ℕ) → HasClaimed later number other → HasClaimed after number other) → IsSeen later (claimed_path own) content → GoesOn by (λ other. other ≡ path) before later
  mine_goes own later number content mine is further claims seen =
      claim_goes by path before after later mine.hold further (subst (λ n. (other : List ℕ) → HasClaimed later n other → HasClaimed after n other) is claims)
      (subst (λ p. HasPublication later p) mine.path_is (published_of_seen later (claimed_path own) content seen))

-- ## The publication of what was read

module _ {S O G : Type 0} (outcome : G → Outcome) (bytes : G → List ℕ) (row : KeptRow S O G) (by : ℕ) (path : List ℕ) (before after : List (List Entry)) where
  its_hold : row.path ≡ path → SameElsewhere row.path before after → SeesEntry by (seen_of before row.path) (row_published outcome bytes row by) (seen_of after row.path) →
      IsHold by path (publication path by (row_outcome outcome bytes row) (bytes row.given) ∷ []) before after
  its_hold is elsewhere (log, fits, now) =
      subst (λ p. IsHold by p (publication p by (row_outcome outcome bytes row) (bytes row.given) ∷ []) before after) is
      (hold_of by row.path (row_published outcome bytes row by ∷ []) before after log elsewhere fits now)

  pub record IsRead (answer : Answer) : Type 0 where
    pub seen : IsSeen after path (content_of answer)
    pub further : SeesFurther before after
    pub claims : (other : List ℕ) → HasClaimed after by other → HasClaimed before by other

  pub publication_leaves : (answer : Answer) → row.path ≡ path → SameElsewhere row.path before after → SeesEntry by (seen_of before row.path) (row_published outcome bytes row by) (seen_of after row.path) →
      AnswersRow outcome bytes answer row → IsRead answer
  publication_leaves answer is elsewhere sees answers =
      let o = row_outcome outcome bytes row in
      let h = its_hold is elsewhere sees in
      record {
        seen = (o, bytes row.given, hold_publishes by path by o (bytes row.given) before after h, answers);
        further = hold_further by path (publication path by o (bytes row.given) ∷ []) before after h;
        claims = hold_claims_none by path by o (bytes row.given) before after h;
      }
