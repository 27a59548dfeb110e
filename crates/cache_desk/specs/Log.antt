-- The log of a shard: claims of paths and publications of what was read. How a path stands follows from it.
use Rattle.std.specs.Prelude.{◌≡◌, ◌≢◌, ℕ, ◌+◌, Bool, true, false, if◌then◌else◌, List, [], ◌∷◌, ◌++◌, All}
use Rattle.scan_model.specs.declared.Outcome.{Outcome}
use Rattle.scan_model.specs.TokenTests.{same}
use Rattle.turn_lock.specs.Logs.{Fits}
use Rattle.cache_desk.specs.declared.entry.Entry.{Entry}
use Rattle.cache_desk.specs.declared.entry.Event.{Event}
use Rattle.cache_desk.specs.declared.entry.Event.TheVariants as EventIs

-- how a path stands: nobody claimed it, these passes did, or they published what it stands for
pub data Standing : Type 0 where
  Free : Standing
  Claimed : ℕ → Standing
  Done : ℕ → Outcome → List ℕ → Standing

abbrev pub claim : List ℕ → ℕ → Entry
claim path by = record { path = path; by = by; event = EventIs.Claimed }

abbrev pub publication : List ℕ → ℕ → Outcome → List ℕ → Entry
publication path by outcome bytes = record { path = path; by = by; event = EventIs.Published outcome bytes }

-- the number of the passes that an entry names
abbrev pub maker : Entry → ℕ
maker e = e.by

-- how an entry leaves its path
abbrev pub left_by : ℕ → Event → Standing
left_by by EventIs.Claimed = Claimed by
left_by by (EventIs.Published outcome bytes) = Done by outcome bytes

abbrev pub after : Bool → Standing → Entry → Standing
after true s e = left_by e.by e.event
after false s e = s

-- how the path stands after these entries, where it stood so before
abbrev pub standing_from : Standing → List Entry → List ℕ → Standing
standing_from s [] path = s
standing_from s (e ∷ es) path = standing_from (after (same e.path path) s e) es path

abbrev pub standing : List Entry → List ℕ → Standing
standing log path = standing_from Free log path

-- what may happen to a path: a free one is claimed, and a claimed one is published for the passes that claimed it
abbrev pub MayFollow : Standing → ℕ → Event → Type 0
MayFollow Free by EventIs.Claimed = Unit {0}
MayFollow (Claimed owner) by (EventIs.Published outcome bytes) = by ≡ owner
MayFollow s by event = ⊥

abbrev pub MayBe : Bool → Standing → Entry → Type 0
MayBe true s e = MayFollow s e.by e.event
MayBe false s e = Unit {0}

-- each entry of the path may follow those before it
abbrev pub IsLegalFor : List ℕ → Standing → List Entry → Type 0
IsLegalFor path s [] = Unit {0}
IsLegalFor path s (e ∷ es) = MayBe (same e.path path) s e × IsLegalFor path (after (same e.path path) s e) es

-- a path is claimed at most once, and published at most once, after its claim and for the passes that it names
abbrev pub IsLegal : List Entry → Type 0
IsLegal log = (path : List ℕ) → IsLegalFor path Free log

-- these passes' entries end before the rest, and the path is claimed for them there
abbrev pub HasClaim : ℕ → List ℕ → List Entry → Type 0
HasClaim by path log = (before : List Entry) × Fits maker by before log × (standing before path ≡ Claimed by)

-- the paths that are claimed, in order
abbrev pub claims_and : Event → List ℕ → List (List ℕ) → List (List ℕ)
claims_and EventIs.Claimed path later = path ∷ later
claims_and (EventIs.Published outcome bytes) path later = later

abbrev pub claims : List Entry → List (List ℕ)
claims [] = []
claims (e ∷ es) = claims_and e.event e.path (claims es)

-- ## Claims that aren't published yet, for the room of their publications

abbrev pub one : Bool → ℕ
one true = 1
one false = 0

abbrev pub times : List ℕ → List (List ℕ) → ℕ
times path [] = 0
times path (q ∷ qs) = one (same q path) + times path qs

abbrev pub without : List ℕ → List (List ℕ) → List (List ℕ)
without path [] = []
without path (q ∷ qs) = if same q path then qs else q ∷ without path qs

abbrev pub open_after : List (List ℕ) → List ℕ → Event → List (List ℕ)
open_after os path EventIs.Claimed = path ∷ os
open_after os path (EventIs.Published outcome bytes) = without path os

abbrev pub open_from : List (List ℕ) → List Entry → List (List ℕ)
open_from os [] = os
open_from os (e ∷ es) = open_from (open_after os e.path e.event) es

abbrev pub still_open : List Entry → List (List ℕ)
still_open log = open_from [] log
