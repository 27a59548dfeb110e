-- What a put does to a sink, and what none does.
use Rattle.std.proofs.Common.{◌≡◌, ◌<◌, ◌^◌, ◌-◌, ℕ, List, Option, Result, Ok, Err, OnOk, OnErr, inl, inr, arith}
use Rattle.file_source.specs.Sinks.{Rose, Adds, AddsPrefix, next_count}
use Rattle.scanner.specs.Sinks.{put_to, GotAll, GotPart, GotPut}

stays_fine : (before after : ℕ) → before < 2 ^ 64 - 1 → after ≡ before → ¬ (Rose before after)
stays_fine before after few same rose = omega (arith, few, same, rose)

module _ {K : Type 0} (held : K → Option (List ℕ)) (faults puts : K → ℕ) where
  module _ {T E : Type 0} (before after : K) (text : List ℕ) where
    pub all_put : (r : Result T E) → faults before < 2 ^ 64 - 1 → OnOk r (Adds (held before) text (held after)) → OnOk r (faults after ≡ faults before) → puts after ≡ next_count (puts before) → OnOk r (GotAll text (put_to held faults puts before after))
    all_put (Ok x) few added fine once = record { added = added; fine = stays_fine (faults before) (faults after) few fine; once = once }
    all_put (Err x) few added fine once = tt

    pub part_put : (r : Result T E) → OnErr r (AddsPrefix (held before) text (held after)) → OnErr r (Rose (faults before) (faults after)) → puts after ≡ next_count (puts before) → OnErr r (GotPart text (put_to held faults puts before after))
    part_put (Ok x) begun rose once = tt
    part_put (Err x) begun rose once = record { begun = begun; failed = rose; once = once }

    pub either_put : (r : Result T E) → OnOk r (GotAll text (put_to held faults puts before after)) → OnErr r (GotPart text (put_to held faults puts before after)) → GotPut text (put_to held faults puts before after)
    either_put (Ok x) all part = inl all
    either_put (Err x) all part = inr part
