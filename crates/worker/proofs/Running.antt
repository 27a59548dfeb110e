-- What holds while a unit runs over the cache.
use Rattle.std.proofs.Common.{◌≡◌, ℕ, List, [], ◌∷◌, ◌++◌, Contains, refl, sym, ◌∙◌, subst, inl, inr}
use Rattle.std.proofs.lemmas.List.{append-nil, map-append}
use Rattle.std.proofs.lemmas.List.Elements.{Contains-append_left, Contains-push}
use Rattle.scan_model.specs.declared.command.Settings.{Settings}
use Rattle.scan_model.specs.declared.command.Command.{Command}
use Rattle.scan_model.specs.declared.command.Job.{Job}
use Rattle.scan_model.specs.declared.command.Job.TheVariants.{Run, Refused}
use Rattle.scan_model.specs.declared.command.CommandFault.{CommandFault}
use Rattle.scan_model.specs.declared.unit_end.UnitEnd.TheVariants as Ends
use Rattle.scan_model.specs.Files.{FileMap, Present, Absent, Failed, Big, NoMemory}
use Rattle.scan_model.specs.Answer.{answer, looked}
use Rattle.unit_laws.specs.Reduction.{Given}
use Rattle.unit_laws.specs.Growth.{Begins}
use Rattle.unit_laws.specs.KnownAnswers.{Agrees, asked}
use Rattle.unit_laws.proofs.GrowingAnswers.{begins_longer}
use Rattle.unit_steps.specs.UnitView.{UnitView, Phase, Runs, Asks, Over, Spent, IsAsking, IsReady, IsOver, IsSameScan, Fits, FitsPhase, told, phase_after, given, asked_by, end_of_phase}
use Rattle.shard_cache.specs.Ends.{IsEnd}
use Rattle.cache_desk.specs.declared.entry.Entry.{Entry}
use Rattle.worker.specs.Seen.{IsSeen, AreSeen}
use Rattle.worker.specs.Claims.{GoesOn}
use Rattle.worker.specs.Work.{IsEndOver, IsLooked}
use Rattle.worker.proofs.Seeing.{agrees_of_seen, answers_further, answers_more, goes_chain, goes_wider}

contains_begun : (paths others : List (List ℕ)) (path : List ℕ) → Begins paths others → Contains paths path → Contains others path
contains_begun paths others path begins c =
    let more = begins_longer paths others begins in
    subst (λ z. Contains z path) (sym more.1) (Contains-append_left paths more.0 path c)

-- the path that is waiting
path_waits : (phase : Phase) (path : List ℕ) → IsAsking phase → asked_by phase ≡ path ∷ [] → phase ≡ Asks path
path_waits (Asks p) path asks e = cc
path_waits Runs path asks e = absurd asks
path_waits (Over end) path asks e = absurd asks
path_waits Spent path asks e = absurd asks

-- at its end a unit has begun all that is looked at
looks_at_end : (settings : Settings) (command : Command) (answers : List (List ℕ × Given)) (phase : Phase) (files : FileMap (List ℕ)) → IsOver phase → FitsPhase settings command answers phase → Agrees files answers →
    (path : List ℕ) → Contains (asked answers) path → Contains (looked files settings (Run command)) path
looks_at_end settings command answers (Over end) files over fits agrees path c = subst (λ z. Contains z path) (sym (fits files agrees).1) c
looks_at_end settings command answers Spent files over fits agrees path c = contains_begun (asked answers) _ path (subst (λ z. Begins z (looked files settings (Run command))) (append-nil (asked answers)) (fits files agrees)) c
looks_at_end settings command answers Runs files over fits agrees path c = absurd over
looks_at_end settings command answers (Asks p) files over fits agrees path c = absurd over

-- and has its end
end_at_end : (settings : Settings) (command : Command) (answers : List (List ℕ × Given)) (phase : Phase) (files : FileMap (List ℕ)) → IsOver phase → FitsPhase settings command answers phase → Agrees files answers →
    IsEnd files settings (Run command) (end_of_phase phase)
end_at_end settings command answers (Over end) files over fits agrees = inl (fits files agrees).0
end_at_end settings command answers Spent files over fits agrees = inr refl
end_at_end settings command answers Runs files over fits agrees = absurd over
end_at_end settings command answers (Asks p) files over fits agrees = absurd over

-- a job that is refused ends so
pub refused_end : (settings : Settings) (job : Job) (seen : List (List Entry)) (fault : CommandFault) → job ≡ Refused fault → IsEndOver settings job seen (Ends.Refused fault)
unfolding answer
refused_end settings job seen fault is files rows = rw is (inl refl)

-- in a unit that was given an answer no path is waiting
ready_after : (content : Given) → IsReady (phase_after content)
ready_after (Present ls) = tt
ready_after Absent = tt
ready_after Failed = tt
ready_after Big = tt
ready_after NoMemory = tt

pub given_is_ready : (u v : UnitView) (content : Given) → v ≡ given u content → IsReady v.phase
given_is_ready u v content is = subst (λ z. IsReady z.phase) (sym is) (ready_after content)

-- What the unit was given was seen, and only its paths were claimed since it began.
pub record HasRun (by : ℕ) (answers : List (List ℕ × Given)) (began now : List (List Entry)) : Type 0 where
  pub seen : AreSeen now answers
  pub goes : GoesOn by (λ path. Contains (asked answers) path) began now

-- it asks for a path, and is given what was seen of that
given_more : (by : ℕ) (answers : List (List ℕ × Given)) (path : List ℕ) (content : Given) (began before now : List (List Entry)) → HasRun by answers began before →
    GoesOn by (λ other. other ≡ path) before now → IsSeen now path content → HasRun by (answers ++ (path, content) ∷ []) began now
given_more by answers path content began before now h goes is =
    let more = answers ++ (path, content) ∷ [] in
    let paths : asked more ≡ asked answers ++ path ∷ [] = map-append (λ (a : List ℕ × Given). a.0) answers ((path, content) ∷ []) in
    record {
      seen = answers_more now answers path content (answers_further before now answers goes.further h.seen) is;
      goes =
          goes_chain by (λ p. Contains (asked more) p) began before now
          (goes_wider by (λ p. Contains (asked answers) p) (λ p. Contains (asked more) p) began before (λ p c. subst (λ z. Contains z p) (sym paths) (Contains-append_left (asked answers) (path ∷ []) p c)) h.goes)
          (goes_wider by (λ p. p ≡ path) (λ p. Contains (asked more) p) before now (λ p e. subst (λ z. Contains z p) (sym paths) (subst (λ q. Contains (asked answers ++ path ∷ []) q) (sym e) (Contains-push (asked answers) path))) goes);
    }

module _ (settings : Settings) (command : Command) (by : ℕ) where
  -- the unit scans the command
  pub record IsRunning (u : UnitView) (began now : List (List Entry)) : Type 0 where
    pub command_is : u.command ≡ command
    pub settings_is : u.settings ≡ settings
    pub run : HasRun by u.answers began now

  -- a turn asks nothing of the cache
  pub running_turned : (u v : UnitView) (began now : List (List Entry)) → IsSameScan u v → IsRunning u began now → IsRunning v began now
  running_turned u v began now same h = record {
    command_is = same.command ∙ h.command_is;
    settings_is = same.settings ∙ h.settings_is;
    run = subst (λ z. HasRun by z began now) (sym same.answers) h.run;
  }

  -- an answer that was seen
  pub running_given : (u v : UnitView) (path : List ℕ) (content : Given) (began before now : List (List Entry)) → IsRunning u began before → IsAsking u.phase → asked_by u.phase ≡ path ∷ [] →
      GoesOn by (λ other. other ≡ path) before now → IsSeen now path content → v ≡ given u content → IsRunning v began now
  running_given u v path content began before now h asks waits goes is gives = subst (λ z. IsRunning z began now) (sym gives) record {
    command_is = h.command_is;
    settings_is = h.settings_is;
    run =
        subst (λ z. HasRun by (u.answers ++ told z content) began now) (sym (path_waits u.phase path asks waits))
        (given_more by u.answers path content began before now h.run goes is);
  }

  -- what the unit's command looks at, the command looks at
  looked_by_it : (u : UnitView) (began now : List (List Entry)) → IsRunning u began now → (files : FileMap (List ℕ)) (path : List ℕ) → Contains (looked files u.settings (Run u.command)) path → Contains (looked files settings (Run command)) path
  looked_by_it u began now h files path c =
      subst (λ z. Contains (looked files z (Run command)) path) h.settings_is (subst (λ z. Contains (looked files u.settings (Run z)) path) h.command_is c)

  -- while a path is waiting, only paths were claimed that the command looks at
  pub looks_while_waiting : (u : UnitView) (path : List ℕ) (began before now : List (List Entry)) → IsRunning u began before → Fits u → IsAsking u.phase → asked_by u.phase ≡ path ∷ [] →
      GoesOn by (λ other. other ≡ path) before now → GoesOn by (IsLooked settings (Run command) now) began now
  looks_while_waiting u path began before now h fits asks waits goes =
      let fit : FitsPhase u.settings u.command u.answers (Asks path) = subst (λ z. FitsPhase u.settings u.command u.answers z) (path_waits u.phase path asks waits) fits in
      let seen : AreSeen now u.answers = answers_further before now u.answers goes.further h.run.seen in
      let looks : (p : List ℕ) → Contains (asked u.answers ++ path ∷ []) p → IsLooked settings (Run command) now p =
      λ p c files rows. looked_by_it u began before h files p
      (contains_begun (asked u.answers ++ path ∷ []) (looked files u.settings (Run u.command)) p (fit.0 files (agrees_of_seen files now u.answers rows seen)) c) in
      goes_chain by (IsLooked settings (Run command) now) began before now
      (goes_wider by (λ p. Contains (asked u.answers) p) (IsLooked settings (Run command) now) began before (λ p c. looks p (Contains-append_left (asked u.answers) (path ∷ []) p c)) h.run.goes)
      (goes_wider by (λ p. p ≡ path) (IsLooked settings (Run command) now) before now (λ p e. looks p (subst (λ q. Contains (asked u.answers ++ path ∷ []) q) (sym e) (Contains-push (asked u.answers) path))) goes)

  -- and so at the unit's end
  pub looks_over : (u : UnitView) (began now : List (List Entry)) → IsRunning u began now → Fits u → IsOver u.phase → GoesOn by (IsLooked settings (Run command) now) began now
  looks_over u began now h fits over =
      goes_wider by (λ p. Contains (asked u.answers) p) (IsLooked settings (Run command) now) began now
      (λ p c files rows. looked_by_it u began now h files p (looks_at_end u.settings u.command u.answers u.phase files over fits (agrees_of_seen files now u.answers rows h.run.seen) p c))
      h.run.goes

  -- which is the command's
  pub end_over : (u : UnitView) (began now : List (List Entry)) → IsRunning u began now → Fits u → IsOver u.phase → IsEndOver settings (Run command) now (end_of_phase u.phase)
  end_over u began now h fits over files rows =
      subst (λ z. IsEnd files z (Run command) (end_of_phase u.phase)) h.settings_is
      (subst (λ z. IsEnd files u.settings (Run z) (end_of_phase u.phase)) h.command_is
      (end_at_end u.settings u.command u.answers u.phase files over fits (agrees_of_seen files now u.answers rows h.run.seen)))
