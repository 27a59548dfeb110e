-- Small runs computed: each theorem is what its name says.
use Rattle.std.proofs.Common.{◌≡◌, ℕ, List, [], ◌∷◌, ◌++◌, refl, Some, None, codes}
use Prim.Native.String.{String}
use Rattle.scan_model.specs.declared.command.Job.{Job}
use Rattle.scan_model.specs.declared.command.Job.TheVariants as JobIs
use Rattle.scan_model.specs.declared.command.CommandFault.{CommandFault}
use Rattle.scan_model.specs.declared.unit_end.FaultKind.TheVariants as FaultIs
use Rattle.scan_model.specs.declared.unit_end.UnitEnd.TheVariants as Ends
use Rattle.scan_model.specs.Files.{Content, Present, Absent}
use Rattle.unit_laws.proofs.Computing.{running}
use Rattle.unit_laws.proofs.UnitForms.{plain, no_settings, requiring, stops}
use Rattle.cache_machine.specs.Rows.{Held, Claimed, Done, Row}
use Rattle.cache_machine.specs.Machine.{Machine, Idle, At, Claiming, Spent, Over}
use Rattle.cache_machine.specs.JobLooks.{end_in}
use Rattle.cache_machine.specs.Steps.{Draw, Look, Read, Publish, End}
use Rattle.cache_machine.specs.Runs.{Move, Goes, Fails, start, run}
use Rattle.cache_machine.specs.Wants.{Waits, wants, wanted}

abbrev row : String → Held → Row
row path held = record { path = codes path; held = held }

abbrev text : String → Content (List ℕ)
text words = Present (codes words)

-- two commands that scan the same file
abbrev two_jobs : List Job
two_jobs = JobIs.Run plain ∷ JobIs.Run plain ∷ []

-- where these moves lead with so many workers
abbrev after : List Job → ℕ → List Move → Machine
after jobs workers moves = run jobs no_settings moves (start jobs workers)

-- ## Two workers that meet at a path

abbrev meeting : List Move
meeting = Goes (Draw 0) ∷ Goes (Draw 1) ∷ Goes (Look 0) ∷ Goes (Look 1) ∷ []

a_claimed_path_is_waited_for : after two_jobs 2 meeting ≡ record {
  rows = row "/p/u.cpp" (Claimed 0) ∷ [];
  next = 2;
  workers = Claiming 0 0 ∷ At 1 0 ∷ [];
  ends = None ∷ None ∷ [];
}
unfolding running
a_claimed_path_is_waited_for = refl

the_other_worker_waits : wants two_jobs no_settings (after two_jobs 2 meeting) 1 ≡ Waits
unfolding running
the_other_worker_waits = refl

it_waits_for_this_path : wanted two_jobs no_settings (after two_jobs 2 meeting) 1 ≡ Some (codes "/p/u.cpp")
unfolding running
it_waits_for_this_path = refl

-- the row is done, and the look of the other worker finds it so
abbrev publishing : List Move
publishing = meeting ++ Goes (Read 0 (text "import a;\n")) ∷ Goes (Publish 0) ∷ Goes (Look 1) ∷ []

a_done_row_answers_the_other_worker : after two_jobs 2 publishing ≡ record {
  rows = row "/p/u.cpp" (Done (text "import a;\n")) ∷ [];
  next = 2;
  workers = At 0 1 ∷ At 1 1 ∷ [];
  ends = None ∷ None ∷ [];
}
unfolding running
a_done_row_answers_the_other_worker = refl

each_job_has_its_end_whoever_read : after two_jobs 2 (publishing ++ Goes (End 1) ∷ Goes (End 0) ∷ Goes (Draw 0) ∷ Goes (Draw 1) ∷ []) ≡ record {
  rows = row "/p/u.cpp" (Done (text "import a;\n")) ∷ [];
  next = 4;
  workers = Over ∷ Over ∷ [];
  ends = end_in (requiring ("a" ∷ [])) ∷ end_in (requiring ("a" ∷ [])) ∷ [];
}
unfolding running
each_job_has_its_end_whoever_read = refl

-- ## Outcomes, and jobs that look at nothing

a_path_that_is_absent_has_its_row : after (JobIs.Run plain ∷ []) 1
    (Goes (Draw 0) ∷ Goes (Look 0) ∷ Goes (Read 0 (text "#include \"/x.h\"\n")) ∷ Goes (Publish 0) ∷ Goes (Look 0) ∷ Goes (Read 0 Absent) ∷ Goes (Publish 0) ∷ Goes (End 0) ∷ []) ≡ record {
      rows = row "/p/u.cpp" (Done (text "#include \"/x.h\"\n")) ∷ row "/x.h" (Done Absent) ∷ [];
      next = 1;
      workers = Idle ∷ [];
      ends = end_in (stops FaultIs.IncludeNotFound 1) ∷ [];
    }
unfolding running
a_path_that_is_absent_has_its_row = refl

a_refused_job_ends_at_once : (fault : CommandFault) → after (JobIs.Refused fault ∷ []) 1 (Goes (Draw 0) ∷ Goes (End 0) ∷ []) ≡ record {
  rows = [];
  next = 1;
  workers = Idle ∷ [];
  ends = Some (Ends.Refused fault) ∷ [];
}
unfolding running
a_refused_job_ends_at_once fault = refl

-- ## Want of memory

abbrev wanting : List Move
wanting = Goes (Draw 0) ∷ Goes (Look 0) ∷ Goes (Read 0 (text "import a;\n")) ∷ Fails (Publish 0) ∷ Goes (End 0) ∷ []

a_row_is_done_though_its_worker_found_no_memory : after two_jobs 1 wanting ≡ record {
  rows = row "/p/u.cpp" (Done (text "import a;\n")) ∷ [];
  next = 1;
  workers = Idle ∷ [];
  ends = Some Ends.NoMemory ∷ None ∷ [];
}
unfolding running
a_row_is_done_though_its_worker_found_no_memory = refl

the_next_job_finds_that_row_and_has_its_end : after two_jobs 1 (wanting ++ Goes (Draw 0) ∷ Goes (Look 0) ∷ Goes (End 0) ∷ []) ≡ record {
  rows = row "/p/u.cpp" (Done (text "import a;\n")) ∷ [];
  next = 2;
  workers = Idle ∷ [];
  ends = Some Ends.NoMemory ∷ end_in (requiring ("a" ∷ [])) ∷ [];
}
unfolding running
the_next_job_finds_that_row_and_has_its_end = refl

a_look_without_memory_claims_nothing : after two_jobs 1 (Goes (Draw 0) ∷ Fails (Look 0) ∷ []) ≡ record {
  rows = [];
  next = 1;
  workers = Spent 0 ∷ [];
  ends = None ∷ None ∷ [];
}
unfolding running
a_look_without_memory_claims_nothing = refl

-- ## Moves that nobody wants

a_move_that_its_worker_does_not_want_changes_nothing : after two_jobs 1 (Goes (Look 0) ∷ Goes (Read 0 Absent) ∷ Goes (Publish 0) ∷ Goes (End 0) ∷ Goes (Draw 1) ∷ Fails (Look 0) ∷ []) ≡ start two_jobs 1
unfolding running
a_move_that_its_worker_does_not_want_changes_nothing = refl
