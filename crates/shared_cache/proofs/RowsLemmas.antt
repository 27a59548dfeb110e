-- What a legal log says of the rows of its events.
use Rattle.std.proofs.Common.{◌≡◌, ◌≢◌, ℕ, zero, suc, Bool, true, false, List, [], ◌∷◌, All, refl, sym, ap, ◌∙◌, subst, arith}
use Rattle.std.specs.Prelude.{Contains}
use Rattle.std.specs.List.{Any}
use Rattle.std.proofs.lemmas.List.Elements.{All-nil, All-cons, All-head, All-tail}
use Rattle.scan_model.specs.declared.Outcome.{Outcome}
use Rattle.scan_model.specs.TokenTests.{same}
use Rattle.shard_cache.specs.declared.KeptRow.{KeptRow}
use Rattle.shard_cache.specs.Rows.{shard_number, paths_of, AllDiffer}
use Rattle.shard_cache.proofs.PlaceLemmas.{same_itself}
use Rattle.cache_desk.specs.declared.entry.Entry.{Entry}
use Rattle.cache_desk.specs.declared.entry.Event.{Event}
use Rattle.cache_desk.specs.declared.entry.Event.TheVariants as EventIs
use Rattle.cache_desk.specs.declared.happened.Happened.{Happened}
use Rattle.cache_desk.specs.declared.happened.Happened.TheVariants as HappenedIs
use Rattle.cache_desk.specs.Log.{Standing, Free, Done, claim, publication, left_by, after, MayFollow, MayBe, IsLegalFor, IsLegal, claims, claims_and}
use Rattle.cache_desk.specs.Desk.{IsSound, row_outcome, row_published, entries, rows_in}
use Rattle.cache_desk.proofs.LogLemmas.{done_stays_from}
use Rattle.shared_cache.specs.Closing.{IsKeptIn}

further : {X : Type 0} (x y : X) (xs : List X) → Contains xs x → Contains (y ∷ xs) x
further x y xs (k, inside, at) = (suc k, omega arith, at)

any_further : {X : Type 0} (P : X → Type 0) (y : X) (xs : List X) → Any P xs → Any P (y ∷ xs)
any_further P y xs (k, x, inside, at, holds) = (suc k, x, omega arith, at, holds)

-- ## Each path is published once

abbrev published_and : Event → List ℕ → List (List ℕ) → List (List ℕ)
published_and EventIs.Claimed path later = later
published_and (EventIs.Published o b) path later = path ∷ later

-- the paths that are published, in order
abbrev published : List Entry → List (List ℕ)
published [] = []
published (e ∷ es) = published_and e.event e.path (published es)

not_again_at : (p : List ℕ) (w : ℕ) (o : Outcome) (bs : List ℕ) (e : Entry) (event : Event) (b : Bool) (s : Standing) → same e.path p ≡ b → e.event ≡ event → s ≡ Done w o bs → MayBe b s e → (later : List (List ℕ)) → All (λ q. p ≢ q) later → All (λ q. p ≢ q) (published_and event e.path later)
not_again_at p w o bs e EventIs.Claimed b s is at done may later rest = rest
not_again_at p w o bs e (EventIs.Published x y) true s is at done may later rest = absurd (subst (λ (v : Event). MayFollow (Done w o bs) e.by v) at (subst (λ (t : Standing). MayFollow t e.by e.event) done may))
not_again_at p w o bs e (EventIs.Published x y) false s is at done may later rest =
    All-cons (λ (q : List ℕ). p ≢ q) e.path later (λ same_path. false_true (sym is ∙ (ap (λ q. same q p) (sym same_path) ∙ same_itself p))) rest where
      false_true : false ≡ true → ⊥
      false_true h = cc

not_again : (p : List ℕ) (w : ℕ) (o : Outcome) (bs : List ℕ) (s : Standing) (es : List Entry) → s ≡ Done w o bs → IsLegalFor p s es → All (λ q. p ≢ q) (published es)
not_again p w o bs s [] done legal = All-nil _
not_again p w o bs s (e ∷ es) done legal =
    not_again_at p w o bs e e.event (same e.path p) s refl refl done legal.0 (published es)
    (not_again p w o bs (after (same e.path p) s e) es (done_stays_from p w o bs s (e ∷ []) done (legal.0, tt)) legal.1)

differ_at : (e : Entry) (event : Event) (es : List Entry) → e.event ≡ event → ((s : Standing) × IsLegalFor e.path s (e ∷ es)) → AllDiffer (published es) → AllDiffer (published_and event e.path (published es))
differ_at e EventIs.Claimed es at legal rest = rest
differ_at e (EventIs.Published x y) es at (s, legal) rest =
    (not_again e.path e.by x y (after (same e.path e.path) s e) es (ap (λ b. after b s e) (same_itself e.path) ∙ ap (left_by e.by) at) legal.1, rest)

differ_from : (es : List Entry) → ((p : List ℕ) → (s : Standing) × IsLegalFor p s es) → AllDiffer (published es)
differ_from [] legal = tt
differ_from (e ∷ es) legal =
    differ_at e e.event es refl (legal e.path) (differ_from es (λ p. let l = legal p in (after (same e.path p) l.0 e, l.1.1)))

-- ## Claims and rows

claim_has : (e : Entry) (event : Event) (path : List ℕ) (es : List Entry) → e.event ≡ event → Contains (claims_and event e.path (claims es)) path → (Contains (claims es) path → (by : ℕ) × Contains es (claim path by)) → (by : ℕ) × Contains (e ∷ es) (claim path by)
claim_has e EventIs.Claimed path es at (zero, inside, here) rest =
    (e.by, (0, omega arith, (λ i. record { path = here i; by = e.by; event = at i })))
claim_has e EventIs.Claimed path es at (suc k, inside, here) rest = let r = rest (k, omega arith, here) in (r.0, further (claim path r.0) e es r.1)
claim_has e (EventIs.Published o b) path es at has rest = let r = rest has in (r.0, further (claim path r.0) e es r.1)

-- a claimed path was claimed for some passes
pub claimed_by : (log : List Entry) (path : List ℕ) → Contains (claims log) path → (by : ℕ) × Contains log (claim path by)
claimed_by [] path (k, inside, at) = absurd (omega arith)
claimed_by (e ∷ log) path has = claim_has e e.event path log refl has (λ h. claimed_by log path h)

claims_has : (e : Entry) (event : Event) (path : List ℕ) (by : ℕ) (es : List Entry) → e.event ≡ event → Contains (e ∷ es) (claim path by) → (Contains es (claim path by) → Contains (claims es) path) → Contains (claims_and event e.path (claims es)) path
claims_has e EventIs.Claimed path by es at (zero, inside, here) rest = (0, omega arith, ap (λ (f : Entry). f.path) here)
claims_has e EventIs.Claimed path by es at (suc k, inside, here) rest = further path e.path (claims es) (rest (k, omega arith, here))
claims_has e (EventIs.Published o b) path by es at (zero, inside, here) rest = absurd (other (sym at ∙ ap (λ (f : Entry). f.event) here)) where
  other : EventIs.Published o b ≡ EventIs.Claimed → ⊥
  other h = cc
claims_has e (EventIs.Published o b) path by es at (suc k, inside, here) rest = rest (k, omega arith, here)

-- the path of a claim is one of those claimed
pub is_claimed : (log : List Entry) (path : List ℕ) (by : ℕ) → Contains log (claim path by) → Contains (claims log) path
is_claimed [] path by (k, inside, at) = absurd (omega arith)
is_claimed (e ∷ log) path by has = claims_has e e.event path by log refl has (λ h. is_claimed log path by h)

abbrev outcome_or : Event → Outcome → Outcome
outcome_or EventIs.Claimed d = d
outcome_or (EventIs.Published o b) d = o

abbrev bytes_or : Event → List ℕ → List ℕ
bytes_or EventIs.Claimed d = d
bytes_or (EventIs.Published o b) d = b

module _ {S O G : Type 0} (outcome : G → Outcome) (bytes : G → List ℕ) where
  published_rows : (events : List (Happened S O G)) → paths_of (rows_in events) ≡ published (entries outcome bytes events)
  published_rows [] = refl
  published_rows (HappenedIs.Claim c ∷ events) = published_rows events
  published_rows (HappenedIs.Publication p ∷ events) = ap (λ ps. p.row.path ∷ ps) (published_rows events)

  -- no two rows of a legal log have one path
  pub rows_differ : (events : List (Happened S O G)) → IsLegal (entries outcome bytes events) → AllDiffer (paths_of (rows_in events))
  rows_differ events legal = subst AllDiffer (sym (published_rows events)) (differ_from (entries outcome bytes events) (λ p. (Free, legal p)))

  -- each row was published for some passes
  pub row_is_published : (events : List (Happened S O G)) (row : KeptRow S O G) → Contains (rows_in events) row → (by : ℕ) × Contains (entries outcome bytes events) (row_published outcome bytes row by)
  row_is_published [] row (k, inside, at) = absurd (omega arith)
  row_is_published (HappenedIs.Claim c ∷ events) row has =
      let r = row_is_published events row has in (r.0, further (row_published outcome bytes row r.0) (claim c.path c.by) (entries outcome bytes events) r.1)
  row_is_published (HappenedIs.Publication p ∷ events) row (zero, inside, at) = (p.by, (0, omega arith, ap (λ (r : KeptRow S O G). row_published outcome bytes r p.by) at))
  row_is_published (HappenedIs.Publication p ∷ events) row (suc k, inside, at) =
      let r = row_is_published events row (k, omega arith, at) in (r.0, further (row_published outcome bytes row r.0) (row_published outcome bytes p.row p.by) (entries outcome bytes events) r.1)

  -- what was published is one of the rows
  pub publication_has_row : (events : List (Happened S O G)) (path : List ℕ) (by : ℕ) (o : Outcome) (b : List ℕ) → Contains (entries outcome bytes events) (publication path by o b) → IsKeptIn outcome bytes (rows_in events) path o b
  publication_has_row [] path by o b (k, inside, at) = absurd (omega arith)
  publication_has_row (HappenedIs.Claim c ∷ events) path by o b (zero, inside, at) = absurd (other (ap (λ (f : Entry). f.event) at)) where
    other : EventIs.Claimed ≡ EventIs.Published o b → ⊥
    other h = cc
  publication_has_row (HappenedIs.Claim c ∷ events) path by o b (suc k, inside, at) = publication_has_row events path by o b (k, omega arith, at)
  publication_has_row (HappenedIs.Publication p ∷ events) path by o b (zero, inside, at) =
      (0, p.row, omega arith, refl, (ap (λ (f : Entry). f.path) at, ap (λ (f : Entry). outcome_or f.event o) at, ap (λ (f : Entry). bytes_or f.event b) at))
  publication_has_row (HappenedIs.Publication p ∷ events) path by o b (suc k, inside, at) =
      any_further (λ (row : KeptRow S O G). (row.path ≡ path) × (row_outcome outcome bytes row ≡ o) × (bytes row.given ≡ b)) p.row (rows_in events)
      (publication_has_row events path by o b (k, omega arith, at))

  module _ (fits : KeptRow S O G → Type 0) (given_origin : G → ℕ) (number origin : ℕ) where
    abbrev IsSoundRow : KeptRow S O G → Type 0
    IsSoundRow row = (shard_number row.path ≡ number) × fits row × (given_origin row.given ≡ origin)

    -- each row is the shard's
    pub rows_sound : (events : List (Happened S O G)) → All (IsSound fits given_origin number origin) events → All (λ row. (shard_number row.path ≡ number) × fits row × (given_origin row.given ≡ origin)) (rows_in events)
    rows_sound [] sound = All-nil _
    rows_sound (HappenedIs.Claim c ∷ events) sound = rows_sound events (All-tail (IsSound fits given_origin number origin) (HappenedIs.Claim c) events sound)
    rows_sound (HappenedIs.Publication p ∷ events) sound =
        All-cons IsSoundRow p.row (rows_in events) (All-head (IsSound fits given_origin number origin) (HappenedIs.Publication p) events sound)
        (rows_sound events (All-tail (IsSound fits given_origin number origin) (HappenedIs.Publication p) events sound))

    -- each claimed path is the shard's
    pub claims_placed : (events : List (Happened S O G)) → All (IsSound fits given_origin number origin) events → All (λ path. shard_number path ≡ number) (claims (entries outcome bytes events))
    claims_placed [] sound = All-nil _
    claims_placed (HappenedIs.Claim c ∷ events) sound =
        All-cons (λ (path : List ℕ). shard_number path ≡ number) c.path (claims (entries outcome bytes events)) (All-head (IsSound fits given_origin number origin) (HappenedIs.Claim c) events sound)
        (claims_placed events (All-tail (IsSound fits given_origin number origin) (HappenedIs.Claim c) events sound))
    claims_placed (HappenedIs.Publication p ∷ events) sound = claims_placed events (All-tail (IsSound fits given_origin number origin) (HappenedIs.Publication p) events sound)
