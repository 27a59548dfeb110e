-- A shard's state: a source, and what happened to its paths, in order.
use Rattle.std.specs.Prelude.{◌≡◌, ◌≤◌, ◌+◌, ◌⊎◌, ℕ, Bool, true, false, is_some, Option, Some, None, List, [], ◌∷◌, ◌++◌, map, length, All}
use Rattle.std.specs.declared.result.Result.{Result}
use Rattle.std.specs.declared.result.Result.TheVariants.{Ok, Err}
use Rattle.scan_model.specs.declared.Outcome.{Outcome}
use Rattle.scan_model.specs.declared.Outcome.TheVariants.{Present, Absent, Failed, Big, NoMemory}
use Rattle.scan_model.specs.declared.memory.NoMemory as want
use Rattle.scan_model.specs.declared.token.Line.{Line}
use Rattle.scan_model.specs.Files.{Content}
use Rattle.scan_model.specs.Files as file
use Rattle.scan_model.specs.Lines.{kept}
use Rattle.reducer.specs.declared.Answer.{Answer}
use Rattle.reducer.specs.Answers.{content_of}
use Rattle.shard_cache.specs.declared.KeptRow.{KeptRow}
use Rattle.shard_cache.specs.Rows.{ShardView, shard_number}
use Rattle.cache_desk.specs.declared.entry.Entry.{Entry}
use Rattle.cache_desk.specs.declared.happened.Happened.{Happened}
use Rattle.cache_desk.specs.declared.happened.Happened.TheVariants as HappenedIs
use Rattle.cache_desk.specs.declared.desk.Spot.{Spot}
use Rattle.cache_desk.specs.declared.desk.Spot.TheVariants as SpotIs
use Rattle.cache_desk.specs.declared.desk.Found.{Found}
use Rattle.cache_desk.specs.declared.desk.Found.TheVariants as FoundIs
use Rattle.cache_desk.specs.Log.{Standing, Free, Claimed, Done, claim, publication, standing, IsLegal, claims, still_open}

-- what the read of a row stands for: a file that was read but has no lines is want of memory
abbrev pub stood : Bool → Outcome → Outcome
stood false Present = NoMemory
stood has_lines outcome = outcome

-- what a unit is told of a file with this outcome and these bytes
abbrev pub told : Outcome → List ℕ → Content (List Line)
told Present bytes = file.Present (kept bytes)
told Absent bytes = file.Absent
told Failed bytes = file.Failed
told Big bytes = file.Big
told NoMemory bytes = file.NoMemory

-- a shard's state, with its source seen as the paths that it was asked for and its origin
pub record DeskView (S O G : Type 0) : Type 0 where
  pub number : ℕ
  pub asked : List (List ℕ)
  pub origin : ℕ
  pub events : List (Happened S O G)

module _ {S O G : Type 0} (outcome : G → Outcome) (bytes : G → List ℕ) where
  abbrev pub row_outcome : KeptRow S O G → Outcome
  row_outcome row = stood (is_some row.reduced) (outcome row.given)

  -- the publication of a row for the passes of this number
  abbrev pub row_published : KeptRow S O G → ℕ → Entry
  row_published row by = publication row.path by (row_outcome row) (bytes row.given)

  -- what the log says of an event
  abbrev pub entry_of : Happened S O G → Entry
  entry_of (HappenedIs.Claim c) = claim c.path c.by
  entry_of (HappenedIs.Publication p) = row_published p.row p.by

  abbrev pub entries : List (Happened S O G) → List Entry
  entries events = map entry_of events

  abbrev pub log_of : DeskView S O G → List Entry
  log_of d = entries d.events

-- what each event keeps: a path of this shard, and a row of a read from this origin
abbrev pub IsSound : {S O G : Type 0} → (KeptRow S O G → Type 0) → (G → ℕ) → ℕ → ℕ → Happened S O G → Type 0
IsSound fits given_origin number origin (HappenedIs.Claim c) = shard_number c.path ≡ number
IsSound fits given_origin number origin (HappenedIs.Publication p) = (shard_number p.row.path ≡ number) × fits p.row × (given_origin p.row.given ≡ origin)

abbrev pub IsKept : {S O G : Type 0} → (KeptRow S O G → Type 0) → Happened S O G → Type 0
IsKept fits (HappenedIs.Claim c) = Unit {0}
IsKept fits (HappenedIs.Publication p) = fits p.row

abbrev pub path_of : {S O G : Type 0} → Happened S O G → List ℕ
path_of (HappenedIs.Claim c) = c.path
path_of (HappenedIs.Publication p) = p.row.path

-- the row that was published
abbrev pub row_in : {S O G : Type 0} → Happened S O G → Option (KeptRow S O G)
row_in (HappenedIs.Claim c) = None
row_in (HappenedIs.Publication p) = Some p.row

abbrev pub row_and : {S O G : Type 0} → Option (KeptRow S O G) → List (KeptRow S O G) → List (KeptRow S O G)
row_and None rows = rows
row_and (Some row) rows = row ∷ rows

-- the rows that were published, in order
abbrev pub rows_in : {S O G : Type 0} → List (Happened S O G) → List (KeptRow S O G)
rows_in [] = []
rows_in (event ∷ events) = row_and (row_in event) (rows_in events)

-- what every shard's state keeps
pub record IsDesk {S O G : Type 0} (outcome : G → Outcome) (bytes : G → List ℕ) (fits : KeptRow S O G → Type 0) (given_origin : G → ℕ) (d : DeskView S O G) : Type 0 where
  pub legal : IsLegal (log_of outcome bytes d)
  pub asked : d.asked ≡ claims (log_of outcome bytes d)
  pub sound : All (IsSound fits given_origin d.number d.origin) d.events

-- the counts of claims are those of the log, and there is room for the publication of each claim, and for its row
pub record HasRoom (log : List Entry) (claimed opened places row_places : ℕ) : Type 0 where
  pub claimed_are : claimed ≡ length (claims log)
  pub opened_are : opened ≡ length (still_open log)
  pub for_events : length log + opened ≤ places
  pub for_rows : claimed ≤ row_places

-- the shard of the rows that were published
abbrev pub shard_of_desk : {S O G : Type 0} → DeskView S O G → ShardView S O G
shard_of_desk d = record { asked = d.asked; origin = d.origin; rows = rows_in d.events }

-- what is fixed of a shard: its number, and its source's origin
abbrev pub fixed_of : {S O G : Type 0} → DeskView S O G → List ℕ
fixed_of d = d.number ∷ d.origin ∷ []

-- ## What a search and the two steps tell

abbrev pub AnswersRow : {S O G : Type 0} → (G → Outcome) → (G → List ℕ) → Answer → KeptRow S O G → Type 0
AnswersRow outcome bytes answer row = content_of answer ≡ told (row_outcome outcome bytes row) (bytes row.given)

-- a spot tells how its path stands
abbrev pub Tells : {S O G X : Type 0} → (G → Outcome) → (G → List ℕ) → (KeptRow S O G → Type 0) → (X → KeptRow S O G) → Spot X → Standing → Type 0
Tells outcome bytes fits at SpotIs.Free Free = Unit {0}
Tells outcome bytes fits at SpotIs.Claimed (Claimed by) = Unit {0}
Tells outcome bytes fits at (SpotIs.Done row) (Done by o b) = (row_outcome outcome bytes (at row) ≡ o) × (bytes (at row).given ≡ b) × fits (at row)
Tells outcome bytes fits at spot s = ⊥

-- what a look tells and leaves: a done row's answer, with nothing changed; a claim, with its path asked for; or a claim of
-- others, with nothing changed. Want of memory changes nothing.
abbrev pub Looks : {S O G : Type 0} → (G → Outcome) → (G → List ℕ) → (O → List ℕ) → (O → ℕ) → List ℕ → ℕ → DeskView S O G → Result (Found S O G) want.NoMemory → DeskView S O G → Type 0
Looks outcome bytes opener_path opener_origin path by old (Ok (FoundIs.Done answer)) new =
    (new ≡ old) × ((w : ℕ) × (o : Outcome) × (b : List ℕ) × (standing (log_of outcome bytes old) path ≡ Done w o b) × (content_of answer ≡ told o b))
Looks outcome bytes opener_path opener_origin path by old (Ok (FoundIs.Mine claimed opener)) new =
    (standing (log_of outcome bytes old) path ≡ Free) × (log_of outcome bytes new ≡ log_of outcome bytes old ++ claim path by ∷ [])
    × (fixed_of new ≡ fixed_of old) × (claimed ≡ path) × (opener_path opener ≡ path) × (opener_origin opener ≡ old.origin)
Looks outcome bytes opener_path opener_origin path by old (Ok FoundIs.Busy) new =
    (new ≡ old) × ((w : ℕ) × (standing (log_of outcome bytes old) path ≡ Claimed w))
Looks outcome bytes opener_path opener_origin path by old (Err _) new = new ≡ old
