-- Ends and looks of jobs over a map that has all that another one has, but where memory was wanting for that.
use Rattle.std.proofs.Common.{◌≡◌, ◌≢◌, ◌⊎◌, inl, inr, ℕ, List, [], ◌∷◌, refl, sym, subst, ⊎_elim}
use Rattle.std.specs.Prelude.{All, Contains, IsSome}
use Rattle.std.proofs.lemmas.List.Elements.{All-nil, All-cons, All-head, All-tail, All-contains}
use Rattle.scan_model.specs.declared.command.Settings.{Settings}
use Rattle.scan_model.specs.declared.command.Job.{Job}
use Rattle.scan_model.specs.declared.unit_end.UnitEnd.{UnitEnd}
use Rattle.scan_model.specs.declared.unit_end.UnitEnd.TheVariants as Ends
use Rattle.scan_model.specs.Lines.{lines}
use Rattle.scan_model.specs.Files.{FileMap}
use Rattle.scan_model.specs.Answer.{answer, looked}
use Rattle.shard_cache.specs.Ends.{IsEnd, AreEnds, IsLookedAt}
use Rattle.scheduler.specs.Order.{HaveMemory}
use Rattle.answer_paths.specs.LookedPaths.{HasTextsOf}
use Rattle.answer_paths.proofs.LookedRuns.{end_has_paths}
use Rattle.answer_paths.proofs.TextAnswers.{end_is_of_texts}

memory_or_none : (end : UnitEnd) → (end ≢ Ends.NoMemory) ⊎ (end ≡ Ends.NoMemory)
memory_or_none (Ends.Record made) = inl (λ e. cc)
memory_or_none (Ends.Stopped fault) = inl (λ e. cc)
memory_or_none (Ends.Refused fault) = inl (λ e. cc)
memory_or_none Ends.NoMemory = inr refl

module _ (settings : Settings) (files other : FileMap (List ℕ)) (has : HasTextsOf (List ℕ) files other) where
  end_over : (job : Job) (end : UnitEnd) → IsEnd files settings job end → IsEnd other settings job end
  unfolding answer looked
  end_over job end (inr none) = inr none
  end_over job end (inl known) =
      ⊎_elim (λ memory. inl (end_is_of_texts (List ℕ) lines files other settings job end has known memory).0) (λ none. inr none) (memory_or_none end)

  -- the ends over the first map are ends over the other
  pub ends_over : (jobs : List Job) (ends : List UnitEnd) → AreEnds files settings jobs ends → AreEnds other settings jobs ends
  ends_over [] [] h = tt
  ends_over [] (e ∷ es) h = absurd h
  ends_over (j ∷ js) [] h = absurd h
  ends_over (j ∷ js) (e ∷ es) h = (end_over j e h.0, ends_over js es h.1)

  -- the first map has what the job looks at, and over the other one it looks at the same
  record LooksAlike (job : Job) : Type 0 where
    same : looked other settings job ≡ looked files settings job
    had : (path : List ℕ) → Contains (looked files settings job) path → IsSome (files path)

  looks_alike : (job : Job) (end : UnitEnd) → IsEnd files settings job end → end ≢ Ends.NoMemory → LooksAlike job
  unfolding answer looked
  looks_alike job end (inr none) memory = absurd (memory none)
  looks_alike job end (inl known) memory = record {
    same = (end_is_of_texts (List ℕ) lines files other settings job end has known memory).1;
    had = end_has_paths (List ℕ) lines files settings job end known;
  }

  all_alike : (jobs : List Job) (ends : List UnitEnd) → AreEnds files settings jobs ends → HaveMemory ends → All LooksAlike jobs
  all_alike [] [] h memory = All-nil _
  all_alike [] (e ∷ es) h memory = absurd h
  all_alike (j ∷ js) [] h memory = absurd h
  all_alike (j ∷ js) (e ∷ es) h memory =
      All-cons LooksAlike j js (looks_alike j e h.0 (All-head (λ end. end ≢ Ends.NoMemory) e es memory)) (all_alike js es h.1 (All-tail (λ end. end ≢ Ends.NoMemory) e es memory))

  module _ (jobs : List Job) (ends : List UnitEnd) (are : AreEnds files settings jobs ends) (memory : HaveMemory ends) (path : List ℕ) where
    alike : (job : Job) → Contains jobs job → LooksAlike job
    alike job here = All-contains LooksAlike jobs job (all_alike jobs ends are memory) here

    pub looked_there : IsLookedAt files settings jobs path → IsLookedAt other settings jobs path
    looked_there (k, job, inside, at, looks) = (k, job, inside, at, subst (λ z. Contains z path) (sym (alike job (k, inside, at)).same) looks)

    pub looked_here : IsLookedAt other settings jobs path → IsSome (files path)
    looked_here (k, job, inside, at, looks) = let like = alike job (k, inside, at) in like.had path (subst (λ z. Contains z path) like.same looks)
