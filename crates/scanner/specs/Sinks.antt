-- What a call did to a sink.
use Rattle.std.specs.Prelude.{◌≡◌, ◌≢◌, ◌⊎◌, ℕ, List, [], Option}
use Rattle.file_source.specs.Sinks.{Rose, Adds, AddsPrefix, next_count}

-- What the sink held, where it tells that, how often it had failed and how many pieces were put to it, before and after.
pub record Change : Type 0 where
  pub held_before : Option (List ℕ)
  pub held_after : Option (List ℕ)
  pub faults_before : ℕ
  pub faults_after : ℕ
  pub puts_before : ℕ
  pub puts_after : ℕ

-- the change of a sink that tells of itself so
abbrev pub put_to : {K : Type 0} → (K → Option (List ℕ)) → (K → ℕ) → (K → ℕ) → K → K → Change
put_to held faults puts before after = record {
  held_before = held before;
  held_after = held after;
  faults_before = faults before;
  faults_after = faults after;
  puts_before = puts before;
  puts_after = puts after;
}

-- a put failed
abbrev pub HasFailed : Change → Type 0
HasFailed sink = Rose sink.faults_before sink.faults_after

-- one piece was put
abbrev pub HasOnePut : Change → Type 0
HasOnePut sink = sink.puts_after ≡ next_count sink.puts_before

-- nothing was put
pub record GotNothing (sink : Change) : Type 0 where
  pub same : sink.held_after ≡ sink.held_before
  pub fine : ¬ (HasFailed sink)
  pub no_put : sink.puts_after ≡ sink.puts_before

-- the whole text was put, as one piece
pub record GotAll (text : List ℕ) (sink : Change) : Type 0 where
  pub added : Adds sink.held_before text sink.held_after
  pub fine : ¬ (HasFailed sink)
  pub once : HasOnePut sink

-- the text was put as one piece, and the put failed after some beginning of it
pub record GotPart (text : List ℕ) (sink : Change) : Type 0 where
  pub begun : AddsPrefix sink.held_before text sink.held_after
  pub failed : HasFailed sink
  pub once : HasOnePut sink

-- the text was put as one piece
abbrev pub GotPut : List ℕ → Change → Type 0
GotPut text sink = GotAll text sink ⊎ GotPart text sink

-- the whole text was put as one piece, where there is any
abbrev pub GotAny : List ℕ → Change → Type 0
GotAny text sink = ((text ≡ []) × GotNothing sink) ⊎ ((text ≢ []) × GotAll text sink)
