-- The run over the store goes the way of the schedule.
use Rattle.std.proofs.Common.{◌≡◌, inl, inr, ℕ, ◌<◌, List, [], ◌∷◌, ◌++◌, length, refl, ap, sym, ◌∙◌, subst, Option, Some, append-nil}
use Rattle.std.specs.Prelude.{Bool, true, false, if◌then◌else◌}
use Rattle.std.proofs.lemmas.List.{map-append}
use Rattle.std.proofs.lemmas.List.Elements.{All-contains, filter-append}
use Rattle.scan_model.specs.declared.Outcome.{Outcome}
use Rattle.scan_model.specs.declared.command.Settings.{Settings}
use Rattle.scan_model.specs.declared.command.Job.{Job}
use Rattle.scan_model.specs.Files.{FileMap, Content}
use Rattle.cache_machine.specs.Machine.{Machine}
use Rattle.cache_machine.specs.Steps.{Event, Draw, Look, Read, Publish, End, act}
use Rattle.cache_machine.specs.Wants.{Read_wanted, Publish_wanted, wants, wanted_as, wanted}
use Rattle.cache_machine.specs.JobLooks.{path_at}
use Rattle.cache_machine.proofs.Sound.{IsSound}
use Rattle.shard_cache.specs.declared.kept_row.KeptRow.{KeptRow}
use Rattle.shard_cache.specs.Rows.{ShardView, paths_of, row_content, LacksPath}
use Rattle.scheduler.specs.Schedule.{next_number, chosen, movers, published_by, content_or, read_in, event_for, wanted_event}
use Rattle.scheduler.specs.Moments.{HasMoved, HaveRead}
use Rattle.scheduler.specs.Moving.{IsQuiet, Moment, HasRun, HasFound, HasRead, HasPassed, HasPublished, HasStepped}
use Rattle.scheduler.specs.Order.{has_row, without_row}
use Rattle.scheduler.proofs.Turns.{IsTurn, turn_itself, IsReadTurn}
use Rattle.scheduler.proofs.Following.{IsFollowing, following_more}
use Rattle.scheduler.proofs.StoreSteps.{has_no_row, has_its_row}
use Rattle.scheduler.proofs.Running.{IsRunning, read_turned, read_at, run_turn, running_run, running_found, running_read, held_found, passed_turned, running_passed, held_row, published_turned, running_published}

module _ (jobs : List Job) (settings : Settings) (files : FileMap (List ℕ)) (m : Machine) (w : ℕ) where
  -- the schedule has the event that the worker wants
  quiet_event : (event : Event) → IsQuiet jobs settings m w event → wanted_event jobs settings files m w ≡ Some event
  quiet_event (Draw v) q = ap (λ z. event_for jobs settings files w (wanted jobs settings m w) z) q.1 ∙ ap (λ z. Some (Draw z)) (sym q.0)
  quiet_event (Look v) q = ap (λ z. event_for jobs settings files w (wanted jobs settings m w) z) q.1 ∙ ap (λ z. Some (Look z)) (sym q.0)
  quiet_event (End v) q = ap (λ z. event_for jobs settings files w (wanted jobs settings m w) z) q.1 ∙ ap (λ z. Some (End z)) (sym q.0)
  quiet_event (Read v content) q = absurd q
  quiet_event (Publish v) q = absurd q

  read_event : (path : List ℕ) (content : Content (List ℕ)) → wants jobs settings m w ≡ Read_wanted → wanted jobs settings m w ≡ Some path → files path ≡ Some content → wanted_event jobs settings files m w ≡ Some (Read w content)
  read_event path content want at has =
      ap (λ z. event_for jobs settings files w (wanted jobs settings m w) z) want ∙ ap (λ z. Some (Read w (read_in jobs settings files z))) at ∙ ap (λ z. Some (Read w (content_or z))) has

  publish_event : wants jobs settings m w ≡ Publish_wanted → wanted_event jobs settings files m w ≡ Some (Publish w)
  publish_event want = ap (λ z. event_for jobs settings files w (wanted jobs settings m w) z) want

-- a step that is no publication adds none
none_published : (jobs : List Job) (settings : Settings) (m : Machine) (w : ℕ) (event : Event) (path : Option (List ℕ)) → IsQuiet jobs settings m w event → published_by event path ≡ []
none_published jobs settings m w (Draw v) path q = refl
none_published jobs settings m w (Look v) path q = refl
none_published jobs settings m w (End v) path q = refl
none_published jobs settings m w (Read v content) path q = absurd q
none_published jobs settings m w (Publish v) path q = absurd q

-- what was read and is held stands in the files
held_in_files : (jobs : List Job) (settings : Settings) (files : FileMap (List ℕ)) (m new : Machine) (w : ℕ) (content : Content (List ℕ)) (path : List ℕ) → wanted jobs settings m w ≡ Some path → IsReadTurn jobs settings m new w content →
    HaveRead jobs settings files new → files path ≡ Some content
held_in_files jobs settings files m new w content path is t read =
    read.held w t.n t.k content path (turn_itself jobs settings m new w t.turn ∙ t.state_is) (subst (λ z. path_at jobs settings z t.n t.k ≡ Some path) (sym t.same_rows) (read_at jobs settings m new w content path is t))

-- a step that reads goes the way of the schedule, whatever tells what was read
read_follows : (jobs : List Job) (settings : Settings) (workers number : ℕ) (m new : Machine) (x w : ℕ) (published : List (List ℕ)) (content : Content (List ℕ)) (path : List ℕ) → chosen (movers jobs settings m) (next_number x) ≡ Some w →
    wants jobs settings m w ≡ Read_wanted → wanted jobs settings m w ≡ Some path → new ≡ act jobs settings m (Read w content) → IsFollowing jobs settings workers number m x published → IsFollowing jobs settings workers number new (next_number x) published
read_follows jobs settings workers number m new x w published content path c want is moved f =
    let t = read_turned jobs settings m new w content want moved in
    subst (λ z. IsFollowing jobs settings workers number new (next_number x) z) (append-nil published)
    (following_more jobs settings workers number m new x w published (Read w content) f c
    (λ files read. read_event jobs settings files m w path content want is (held_in_files jobs settings files m new w content path is t read)) t.turn (inl moved))

-- so does a step that publishes
publish_follows : (jobs : List Job) (settings : Settings) (workers number : ℕ) (m new : Machine) (x w : ℕ) (published : List (List ℕ)) (path : List ℕ) → chosen (movers jobs settings m) (next_number x) ≡ Some w →
    wants jobs settings m w ≡ Publish_wanted → wanted jobs settings m w ≡ Some path → IsTurn jobs settings m new w → HasMoved jobs settings (Publish w) m new → IsFollowing jobs settings workers number m x published →
    IsFollowing jobs settings workers number new (next_number x) (published ++ path ∷ [])
publish_follows jobs settings workers number m new x w published path c want is t moved f =
    subst (λ z. IsFollowing jobs settings workers number new (next_number x) (published ++ published_by (Publish w) z)) is
    (following_more jobs settings workers number m new x w published (Publish w) f c (λ files read. publish_event jobs settings files m w want) t moved)

module _ {S O G : Type 0} where
  one_kept : (old : List (ShardView S O G)) (path : List ℕ) (b : Bool) → has_row old path ≡ b → without_row old (path ∷ []) ≡ (if b then [] else path ∷ [])
  one_kept old path true e = rw e refl
  one_kept old path false e = rw e refl

  -- a path that had a row adds none
  without_had : (old : List (ShardView S O G)) (paths : List (List ℕ)) (path : List ℕ) → has_row old path ≡ true → without_row old (paths ++ path ∷ []) ≡ without_row old paths
  without_had old paths path e =
      filter-append (λ path. if has_row old path then false else true) paths (path ∷ []) ∙ (ap (λ z. without_row old paths ++ z) (one_kept old path true e) ∙ append-nil (without_row old paths))

  without_lacked : (old : List (ShardView S O G)) (paths : List (List ℕ)) (path : List ℕ) → has_row old path ≡ false → without_row old (paths ++ path ∷ []) ≡ without_row old paths ++ path ∷ []
  without_lacked old paths path e =
      filter-append (λ path. if has_row old path then false else true) paths (path ∷ []) ∙ ap (λ z. without_row old paths ++ z) (one_kept old path false e)

module _ {S O G : Type 0} (given_path : G → List ℕ) (given_origin : G → ℕ) (outcome : G → Outcome) (bytes : G → List ℕ) (jobs : List Job) (settings : Settings) (workers number : ℕ) where
  -- at this moment, with this number of the schedule
  pub record IsScheduled (old : List (ShardView S O G)) (x : ℕ) (r : Moment S O G) : Type 0 where
    pub running : IsRunning given_path given_origin outcome bytes jobs settings old r
    pub published : List (List ℕ)
    pub in_order : paths_of running.extended.rows ≡ without_row old published
    pub following : IsFollowing jobs settings workers number r.machine x published

  scheduled_run : (old : List (ShardView S O G)) (x w : ℕ) (r new : Moment S O G) → IsSound jobs settings r.machine → chosen (movers jobs settings r.machine) (next_number x) ≡ Some w →
      HasRun jobs settings w r new → IsScheduled old x r → IsScheduled old (next_number x) new
  scheduled_run old x w r new sound c step h =
      let same_paths : h.published ++ published_by step.event (wanted jobs settings r.machine w) ≡ h.published =
      ap (λ z. h.published ++ z) (none_published jobs settings r.machine w step.event (wanted jobs settings r.machine w) step.quiet) ∙ append-nil h.published in
      record {
        running = running_run given_path given_origin outcome bytes jobs settings old w r new sound step h.running;
        published = h.published;
        in_order = h.in_order;
        following = subst (λ z. IsFollowing jobs settings workers number new.machine (next_number x) z) same_paths
            (following_more jobs settings workers number r.machine new.machine x w h.published step.event h.following c (λ files read. quiet_event jobs settings files r.machine w step.event step.quiet)
            (run_turn given_path given_origin outcome bytes jobs settings w r new sound step).turn step.moved);
      }

  scheduled_found : (old : List (ShardView S O G)) (x w : ℕ) (r new : Moment S O G) → w < length r.held → IsSound jobs settings r.machine → chosen (movers jobs settings r.machine) (next_number x) ≡ Some w →
      HasFound given_path outcome bytes jobs settings w r new → IsScheduled old x r → IsScheduled old (next_number x) new
  scheduled_found old x w r new inside sound c step h = record {
    running = running_found given_path given_origin outcome bytes jobs settings old w r new inside sound step h.running;
    published = h.published;
    in_order = h.in_order;
    following = read_follows jobs settings workers number r.machine new.machine x w h.published step.content step.path c step.want step.path_is step.moved h.following;
  }

  scheduled_read : (old : List (ShardView S O G)) (x w : ℕ) (r new : Moment S O G) → w < length r.held → IsSound jobs settings r.machine → chosen (movers jobs settings r.machine) (next_number x) ≡ Some w →
      HasRead given_path given_origin outcome bytes jobs settings w r new → IsScheduled old x r → IsScheduled old (next_number x) new
  scheduled_read old x w r new inside sound c step h = record {
    running = running_read given_path given_origin outcome bytes jobs settings old w r new inside sound step h.running;
    published = h.published;
    in_order = h.in_order;
    following = read_follows jobs settings workers number r.machine new.machine x w h.published (row_content outcome bytes step.row) step.row.path c step.want step.path step.moved h.following;
  }

  scheduled_passed : (old : List (ShardView S O G)) (x w : ℕ) (r new : Moment S O G) → IsSound jobs settings r.machine → chosen (movers jobs settings r.machine) (next_number x) ≡ Some w →
      HasPassed jobs settings w r new → IsScheduled old x r → IsScheduled old (next_number x) new
  scheduled_passed old x w r new sound c step h =
      let held = held_found given_path given_origin outcome bytes jobs settings old w r new step h.running in
      let path = held.is.path in
      let wants_it : wanted jobs settings r.machine w ≡ Some path = ap (λ z. wanted_as jobs settings r.machine.rows z) held.holds ∙ held.is.at in
      record {
        running = running_passed given_path given_origin outcome bytes jobs settings old w r new sound step h.running;
        published = h.published ++ path ∷ [];
        in_order = h.in_order ∙ sym (without_had old h.published path (has_its_row outcome bytes old path held.content held.is.has));
        following = publish_follows jobs settings workers number r.machine new.machine x w h.published path c step.want wants_it
            (passed_turned given_path given_origin outcome bytes jobs settings old w r new sound step held).turn step.moved h.following;
      }

  scheduled_published : (old : List (ShardView S O G)) (x w : ℕ) (r new : Moment S O G) → IsSound jobs settings r.machine → chosen (movers jobs settings r.machine) (next_number x) ≡ Some w →
      HasPublished given_path outcome bytes jobs settings w r new → IsScheduled old x r → IsScheduled old (next_number x) new
  scheduled_published old x w r new sound c step h =
      let held = held_row given_path given_origin outcome bytes jobs settings old w r new step h.running in
      let path = step.row.path in
      let rows = h.running.extended.rows in
      let wants_it : wanted jobs settings r.machine w ≡ Some path = ap (λ z. wanted_as jobs settings r.machine.rows z) held.holds ∙ held.is.path in
      let lacks : LacksPath old path = All-contains (λ q. LacksPath old q) h.running.extended.asks path h.running.extended.fresh held.asked in
      record {
        running = running_published given_path given_origin outcome bytes jobs settings old w r new sound step h.running;
        published = h.published ++ path ∷ [];
        in_order = map-append (λ (row : KeptRow S O G). row.path) rows (step.row ∷ []) ∙ (ap (λ z. z ++ path ∷ []) h.in_order ∙ sym (without_lacked old h.published path (has_no_row old path lacks)));
        following = publish_follows jobs settings workers number r.machine new.machine x w h.published path c step.want wants_it
            (published_turned given_path given_origin outcome bytes jobs settings old w r new sound step h.running).turn step.moved h.following;
      }

  -- each step of the chosen worker
  pub scheduled_more : (old : List (ShardView S O G)) (x w : ℕ) (r new : Moment S O G) → w < length r.held → IsSound jobs settings r.machine → chosen (movers jobs settings r.machine) (next_number x) ≡ Some w →
      HasStepped given_path given_origin outcome bytes jobs settings w r new → IsScheduled old x r → IsScheduled old (next_number x) new
  scheduled_more old x w r new inside sound c (inl step) h = scheduled_run old x w r new sound c step h
  scheduled_more old x w r new inside sound c (inr (inl (inl step))) h = scheduled_found old x w r new inside sound c step h
  scheduled_more old x w r new inside sound c (inr (inl (inr step))) h = scheduled_read old x w r new inside sound c step h
  scheduled_more old x w r new inside sound c (inr (inr (inl step))) h = scheduled_passed old x w r new sound c step h
  scheduled_more old x w r new inside sound c (inr (inr (inr step))) h = scheduled_published old x w r new sound c step h
