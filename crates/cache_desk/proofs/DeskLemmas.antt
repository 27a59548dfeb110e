-- What a shard's state keeps.
use Rattle.std.proofs.Common.{Result, Ok, Err, ◌≡◌, ◌<◌, ◌≤◌, ◌+◌, ◌-◌, ℕ, List, [], ◌∷◌, ◌++◌, length, All, refl, sym, ap, ◌∙◌, subst, arith}
use Rattle.std.proofs.lemmas.List.{map-append, length-map, length-append}
use Rattle.std.proofs.lemmas.List.Elements.{All-push, All-weaker}
use Rattle.scan_model.specs.declared.Outcome.{Outcome}
use Rattle.scan_model.specs.TokenTests.{same}
use Rattle.shard_cache.specs.declared.KeptRow.{KeptRow}
use Rattle.shard_cache.specs.Rows.{shard_number}
use Rattle.cache_desk.specs.declared.entry.Entry.{Entry}
use Rattle.cache_desk.specs.declared.entry.Event.TheVariants as EventIs
use Rattle.cache_desk.specs.declared.happened.Happened.{Happened}
use Rattle.cache_desk.specs.declared.happened.Happened.TheVariants as HappenedIs
use Rattle.cache_desk.specs.declared.desk.Spot.{Spot}
use Rattle.cache_desk.specs.declared.desk.Spot.TheVariants as SpotIs
use Rattle.cache_desk.specs.Log.{Standing, Free, Claimed, Done, claim, standing, MayFollow, IsLegal, HasClaim, claims, still_open}
use Rattle.scan_model.specs.declared.memory.NoMemory as want
use Rattle.cache_desk.specs.declared.desk.Found.{Found}
use Rattle.cache_desk.specs.declared.desk.Found.TheVariants as FoundIs
use Rattle.cache_desk.specs.Desk.{Looks, DeskView, IsSound, IsKept, IsDesk, HasRoom, Tells, row_outcome, entry_of, entries, row_published}
use Rattle.cache_desk.proofs.LogLemmas.{legal_more, claim_stays, claims_more, open_falls, open_rises}

module _ {S O G : Type 0} (outcome : G → Outcome) (bytes : G → List ℕ) where
  entries_more : (events events' : List (Happened S O G)) (h : Happened S O G) → events' ≡ events ++ h ∷ [] → entries outcome bytes events' ≡ entries outcome bytes events ++ entry_of outcome bytes h ∷ []
  entries_more events events' h e = ap (entries outcome bytes) e ∙ map-append (entry_of outcome bytes) events (h ∷ [])

  module _ (fits : KeptRow S O G → Type 0) (given_origin : G → ℕ) where
    abbrev Desk : ℕ → List (List ℕ) → ℕ → List (Happened S O G) → Type 0
    Desk number asked origin events = IsDesk outcome bytes fits given_origin (record { number = number; asked = asked; origin = origin; events = events })

    -- a claim of a free path keeps it
    pub keeps_claim : (number origin origin' : ℕ) (asked asked' : List (List ℕ)) (events events' : List (Happened S O G)) (path : List ℕ) (by : ℕ)
        → Desk number asked origin events → standing (entries outcome bytes events) path ≡ Free → shard_number path ≡ number
        → asked' ≡ asked ++ path ∷ [] → origin' ≡ origin → events' ≡ events ++ HappenedIs.Claim (record { path = path; by = by }) ∷ [] → Desk number asked' origin' events'
    keeps_claim number origin origin' asked asked' events events' path by desk free placed asks same_origin more =
        let h : Happened S O G = HappenedIs.Claim (record { path = path; by = by }) in
        let log = entries_more events events' h more in
        record {
          legal = subst IsLegal (sym log) (legal_more (entries outcome bytes events) (claim path by) desk.legal (subst (λ s. MayFollow s by EventIs.Claimed) (sym free) tt));
          asked = asks ∙ (ap (λ ps. ps ++ path ∷ []) desk.asked ∙ (sym (claims_more (entries outcome bytes events) (claim path by)) ∙ ap claims (sym log)));
          sound = subst (λ es. All (IsSound fits given_origin number origin') es) (sym more)
              (subst (λ o. All (IsSound fits given_origin number o) (events ++ h ∷ [])) (sym same_origin) (All-push (IsSound fits given_origin number origin) events h desk.sound placed));
        }

    -- the same events of the same source keep it
    pub keeps_same : (number origin origin' : ℕ) (asked asked' : List (List ℕ)) (events events' : List (Happened S O G))
        → Desk number asked origin events → asked' ≡ asked → origin' ≡ origin → events' ≡ events → Desk number asked' origin' events'
    keeps_same number origin origin' asked asked' events events' desk a o e =
        subst (λ es. Desk number asked' origin' es) (sym e) (subst (λ n. Desk number asked' n events) (sym o) (subst (λ ps. Desk number ps origin events) (sym a) desk))

    -- and so does a publication for the passes that have the claim
    pub keeps_publication : (number origin : ℕ) (asked : List (List ℕ)) (events events' : List (Happened S O G)) (row : KeptRow S O G) (by : ℕ)
        → Desk number asked origin events → HasClaim by row.path (entries outcome bytes events) → shard_number row.path ≡ number → fits row → given_origin row.given ≡ origin
        → events' ≡ events ++ HappenedIs.Publication (record { row = row; by = by }) ∷ [] → Desk number asked origin events'
    keeps_publication number origin asked events events' row by desk has placed fit here more =
        let h : Happened S O G = HappenedIs.Publication (record { row = row; by = by }) in
        let e : Entry = row_published outcome bytes row by in
        let log = entries_more events events' h more in
        let stands : standing (entries outcome bytes events) row.path ≡ Claimed by = claim_stays by row.path (entries outcome bytes events) desk.legal has in
        record {
          legal = subst IsLegal (sym log) (legal_more (entries outcome bytes events) e desk.legal (subst (λ s. MayFollow s by e.event) (sym stands) refl));
          asked = desk.asked ∙ (sym (append-none (claims (entries outcome bytes events))) ∙ (sym (claims_more (entries outcome bytes events) e) ∙ ap claims (sym log)));
          sound = subst (λ es. All (IsSound fits given_origin number origin) es) (sym more) (All-push (IsSound fits given_origin number origin) events h desk.sound (placed, fit, here));
        } where
          append-none : (ps : List (List ℕ)) → ps ++ [] ≡ ps
          append-none [] = refl
          append-none (p ∷ ps) = ap (λ qs. p ∷ qs) (append-none ps)

    -- each event keeps a row that fits
    kept_event : (number origin : ℕ) (h : Happened S O G) → IsSound fits given_origin number origin h → IsKept fits h
    kept_event number origin (HappenedIs.Claim c) sound = tt
    kept_event number origin (HappenedIs.Publication p) sound = sound.1

    pub kept_events : (number origin : ℕ) (events : List (Happened S O G)) → All (IsSound fits given_origin number origin) events → All (IsKept fits) events
    kept_events number origin events sound = All-weaker (IsSound fits given_origin number origin) (IsKept fits) (kept_event number origin) events sound

  module _ {X : Type 0} (fits : KeptRow S O G → Type 0) (at : X → KeptRow S O G) where
    pub tells_done : (spot : Spot X) (row : X) (s : Standing) → spot ≡ SpotIs.Done row → Tells outcome bytes fits at spot s
        → (w : ℕ) × (o : Outcome) × (b : List ℕ) × (s ≡ Done w o b) × (row_outcome outcome bytes (at row) ≡ o) × (bytes (at row).given ≡ b) × fits (at row)
    tells_done spot row s is tells = at_done s (subst (λ sp. Tells outcome bytes fits at sp s) is tells) where
      at_done : (t : Standing) → Tells outcome bytes fits at (SpotIs.Done row) t → (w : ℕ) × (o : Outcome) × (b : List ℕ) × (t ≡ Done w o b) × (row_outcome outcome bytes (at row) ≡ o) × (bytes (at row).given ≡ b) × fits (at row)
      at_done Free h = absurd h
      at_done (Claimed by) h = absurd h
      at_done (Done w o b) h = (w, o, b, refl, h.0, h.1, h.2)

    pub tells_claimed : (spot : Spot X) (s : Standing) → spot ≡ SpotIs.Claimed → Tells outcome bytes fits at spot s → (w : ℕ) × (s ≡ Claimed w)
    tells_claimed spot s is tells = at_claimed s (subst (λ sp. Tells outcome bytes fits at sp s) is tells) where
      at_claimed : (t : Standing) → Tells outcome bytes fits at SpotIs.Claimed t → (w : ℕ) × (t ≡ Claimed w)
      at_claimed Free h = absurd h
      at_claimed (Claimed by) h = (by, refl)
      at_claimed (Done w o b) h = absurd h

    pub tells_free : (spot : Spot X) (s : Standing) → spot ≡ SpotIs.Free → Tells outcome bytes fits at spot s → s ≡ Free
    tells_free spot s is tells = at_free s (subst (λ sp. Tells outcome bytes fits at sp s) is tells) where
      at_free : (t : Standing) → Tells outcome bytes fits at SpotIs.Free t → t ≡ Free
      at_free Free h = refl
      at_free (Claimed by) h = absurd h
      at_free (Done w o b) h = absurd h

  -- the room of a claim
  pub room_claim : (events events' : List (Happened S O G)) (path : List ℕ) (by claimed opened places rows claimed' opened' places' rows' : ℕ)
      → HasRoom (entries outcome bytes events) claimed opened places rows → events' ≡ events ++ HappenedIs.Claim (record { path = path; by = by }) ∷ []
      → claimed' ≡ claimed + 1 → opened' ≡ opened + 1 → length events + (opened' + 1) ≤ places' → claimed' ≤ rows' → HasRoom (entries outcome bytes events') claimed' opened' places' rows'
  room_claim events events' path by claimed opened places rows claimed' opened' places' rows' room more c o p r =
      let log = entries_more events events' (HappenedIs.Claim (record { path = path; by = by })) more in
      let n : length (entries outcome bytes events') ≡ length events + 1 = length-map events' (entry_of outcome bytes) ∙ (ap length more ∙ length-append events (HappenedIs.Claim (record { path = path; by = by }) ∷ [])) in
      let cs : length (claims (entries outcome bytes events')) ≡ length (claims (entries outcome bytes events)) + 1 = ap (λ l. length (claims l)) log ∙ (ap length (claims_more (entries outcome bytes events) (claim path by)) ∙ length-append (claims (entries outcome bytes events)) (path ∷ [])) in
      let os : length (still_open (entries outcome bytes events')) ≡ length (still_open (entries outcome bytes events)) + 1 = ap (λ l. length (still_open l)) log ∙ open_rises (entries outcome bytes events) (claim path by) refl in
      let ca = room.claimed_are in let oa = room.opened_are in
      record { claimed_are = omega arith; opened_are = omega arith; for_events = omega arith; for_rows = r }

  -- there is room for a publication
  pub has_place : (events : List (Happened S O G)) (row : KeptRow S O G) (by claimed opened places rows : ℕ)
      → IsLegal (entries outcome bytes events) → HasClaim by row.path (entries outcome bytes events) → HasRoom (entries outcome bytes events) claimed opened places rows → (0 < opened) × (length events < places)
  has_place events row by claimed opened places rows legal has room =
      let stands : standing (entries outcome bytes events) row.path ≡ Claimed by = claim_stays by row.path (entries outcome bytes events) legal has in
      let e : Entry = row_published outcome bytes row by in
      let falls = open_falls by (entries outcome bytes events) e legal stands _ _ refl in
      let n = length-map events (entry_of outcome bytes) in
      let oa = room.opened_are in let fe = room.for_events in
      (omega arith, omega arith)

  pub room_publication : (events events' : List (Happened S O G)) (row : KeptRow S O G) (by claimed opened places rows : ℕ)
      → IsLegal (entries outcome bytes events) → HasClaim by row.path (entries outcome bytes events) → HasRoom (entries outcome bytes events) claimed opened places rows
      → events' ≡ events ++ HappenedIs.Publication (record { row = row; by = by }) ∷ [] → HasRoom (entries outcome bytes events') claimed (opened - 1) places rows
  room_publication events events' row by claimed opened places rows legal has room more =
      let stands : standing (entries outcome bytes events) row.path ≡ Claimed by = claim_stays by row.path (entries outcome bytes events) legal has in
      let h : Happened S O G = HappenedIs.Publication (record { row = row; by = by }) in
      let e : Entry = row_published outcome bytes row by in
      let log = entries_more events events' h more in
      let falls = open_falls by (entries outcome bytes events) e legal stands _ _ refl in
      let n : length (entries outcome bytes events') ≡ length (entries outcome bytes events) + 1 = ap length log ∙ length-append (entries outcome bytes events) (e ∷ []) in
      let cs0 : length (claims (entries outcome bytes events')) ≡ length (claims (entries outcome bytes events)) + 0 = ap (λ l. length (claims l)) log ∙ (ap length (claims_more (entries outcome bytes events) e) ∙ length-append (claims (entries outcome bytes events)) []) in
      let os : length (still_open (entries outcome bytes events')) ≡ length (still_open (entries outcome bytes events ++ e ∷ [])) = ap (λ l. length (still_open l)) log in
      let ca = room.claimed_are in let oa = room.opened_are in let fe = room.for_events in
      record { claimed_are = omega arith; opened_are = omega arith; for_events = omega arith; for_rows = room.for_rows }

  -- more room does as well
  pub room_more : (events events' : List (Happened S O G)) (claimed opened places rows places' rows' : ℕ) → events' ≡ events → places ≤ places' → rows ≤ rows'
      → HasRoom (entries outcome bytes events) claimed opened places rows → HasRoom (entries outcome bytes events') claimed opened places' rows'
  room_more events events' claimed opened places rows places' rows' e p r room =
      subst (λ es. HasRoom (entries outcome bytes es) claimed opened places' rows') (sym e)
      (let fe = room.for_events in let fr = room.for_rows in record { claimed_are = room.claimed_are; opened_are = room.opened_are; for_events = omega arith; for_rows = omega arith })

  pub room_at : (events : List (Happened S O G)) (claimed opened rows places places' : ℕ) → places ≡ places' → HasRoom (entries outcome bytes events) claimed opened places rows → HasRoom (entries outcome bytes events) claimed opened places' rows
  room_at events claimed opened rows places places' e room = subst (λ n. HasRoom (entries outcome bytes events) claimed opened n rows) e room

  -- a look leaves the shard's number
  pub number_kept : (opener_path : O → List ℕ) (opener_origin : O → ℕ) (path : List ℕ) (by : ℕ) (x y : DeskView S O G) (r : Result (Found S O G) want.NoMemory)
      → Looks outcome bytes opener_path opener_origin path by x r y → y.number ≡ x.number
  number_kept op oo path by x y (Ok (FoundIs.Done answer)) l = ap (λ (d : DeskView S O G). d.number) l.0
  number_kept op oo path by x y (Ok (FoundIs.Mine claimed opener)) l = ap first_or l.2 where
    first_or : List ℕ → ℕ
    first_or [] = 0
    first_or (n ∷ ns) = n
  number_kept op oo path by x y (Ok FoundIs.Busy) l = ap (λ (d : DeskView S O G). d.number) l.0
  number_kept op oo path by x y (Err e) l = ap (λ (d : DeskView S O G). d.number) l
