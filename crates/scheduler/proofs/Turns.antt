-- One step of one worker: what it leaves of the others, and what it makes of the rows.
use Rattle.std.proofs.Common.{◌≡◌, ◌≢◌, ◌⊎◌, inl, inr, ℕ, zero, suc, ◌+◌, ◌<◌, Bool, true, false, ◌==◌, nat_lt, if◌then◌else◌, List, [], ◌∷◌, ◌++◌, map, length, slice_get, refl, ap, sym, ◌∙◌, subst, Option, Some, None, arith}
use Rattle.std.specs.Prelude.{⊤, slice_index_or, slice_set}
use Rattle.std.specs.Option.{option_map}
use Rattle.std.proofs.lemmas.Bool.{cases_eq, eqb-true}
use Rattle.scan_model.specs.declared.command.Settings.{Settings}
use Rattle.scan_model.specs.declared.command.Job.{Job}
use Rattle.scan_model.specs.declared.unit_end.UnitEnd.{UnitEnd}
use Rattle.scan_model.specs.declared.unit_end.UnitEnd.TheVariants as Ends
use Rattle.scan_model.specs.Files.{FileMap, Content}
use Rattle.scan_model.specs.TokenTests.{same}
use Rattle.cache_machine.specs.Rows.{Held, Claimed, Done, Row, held_at, done_of, map_of, published_held, published}
use Rattle.cache_machine.specs.Machine.{Machine, Worker, Idle, At, Claiming, Holding, Spent, Over, worker_at, with_worker}
use Rattle.cache_machine.specs.JobLooks.{path_at, answer_at, end_in}
use Rattle.cache_machine.specs.Steps.{Draw, Look, Read, Publish, End, drawn, draw, claim, look_held, look_path, look, read, publish_as, publish, record_end, end_path, end, act}
use Rattle.cache_machine.specs.Spending.{draw_spent, look_spent, publish_spent, spend}
use Rattle.cache_machine.specs.RowGrowth.{RowsGrow}
use Rattle.cache_machine.specs.Numbers.{has_number, ended}
use Rattle.cache_machine.proofs.Sound.{IsSound}
use Rattle.cache_machine.proofs.NumberLemmas.{if_true, drawn_within, drawn_at_most}
use Rattle.cache_machine.proofs.RowLemmas.{grows_refl, grows_append, grows_published, held_published, extends}
use Rattle.cache_machine.proofs.JobLemmas.{path_stays}
use Rattle.cache_machine.proofs.WorkerLemmas.{count_at, set_get_same, set_get_other}
use Rattle.cache_machine.proofs.Changes.{claimant_as, fits_as}
use Rattle.scan_core.specs.Events.{IsSpent}
use Rattle.scheduler.specs.Moments.{IsShort, HaveRead}
use Rattle.scheduler.proofs.WantCases.{LooksAt}

-- ## Lists of workers

others_stay : (ws : List Worker) (w v : ℕ) (s : Worker) → v ≢ w → slice_index_or (slice_set ws w s) v Over ≡ slice_index_or ws v Over
others_stay [] w v s differ = refl
others_stay (x ∷ ws) zero zero s differ = absurd (differ refl)
others_stay (x ∷ ws) zero (suc v) s differ = refl
others_stay (x ∷ ws) (suc w) zero s differ = refl
others_stay (x ∷ ws) (suc w) (suc v) s differ = others_stay ws w v s (λ e. differ (ap suc e))

itself_now : (ws : List Worker) (w : ℕ) (s : Worker) → (slice_index_or ws w Over ≡ Over → ⊥) → slice_index_or (slice_set ws w s) w Over ≡ s
itself_now [] w s there = absurd (there refl)
itself_now (x ∷ ws) zero s there = refl
itself_now (x ∷ ws) (suc w) s there = itself_now ws w s there

abbrev pub IsHolding : Worker → Type 0
IsHolding (Holding n k content) = ⊤
IsHolding worker = ⊥

-- ## Rows

claimed_if : (held : Held) (later more : Option Held) → done_of more ≡ done_of later → (b : Bool) → done_of (if b then Some held else more) ≡ done_of (if b then Some held else later)
claimed_if held later more e true = refl
claimed_if held later more e false = e

nothing_if : (w : ℕ) (b : Bool) → done_of (if b then Some (Claimed w) else None) ≡ None
nothing_if w true = refl
nothing_if w false = refl

-- a claim tells nothing of any path
map_claimed : (rows : List Row) (claimed : List ℕ) (w : ℕ) (path : List ℕ) → map_of (rows ++ record { path = claimed; held = Claimed w } ∷ []) path ≡ map_of rows path
map_claimed [] claimed w path = nothing_if w (same claimed path)
map_claimed (row ∷ rows) claimed w path =
    claimed_if row.held (held_at rows path) (held_at (rows ++ record { path = claimed; held = Claimed w } ∷ []) path) (map_claimed rows claimed w path) (same row.path path)

module _ (jobs : List Job) (settings : Settings) where
  -- ## A step

  pub record IsTurn (m new : Machine) (w : ℕ) : Type 0 where
    pub state : Worker
    pub workers : new.workers ≡ slice_set m.workers w state
    pub there : worker_at m w ≡ Over → ⊥
    pub grow : RowsGrow m.rows new.rows
    pub short : IsShort m → IsShort new
    -- what the worker held is done
    pub done : (n k : ℕ) (content : Content (List ℕ)) (path : List ℕ) → worker_at m w ≡ Holding n k content → path_at jobs settings m.rows n k ≡ Some path → map_of new.rows path ≡ Some content

  pub turn_other : (m new : Machine) (w : ℕ) → IsTurn m new w → (v : ℕ) → v ≢ w → worker_at new v ≡ worker_at m v
  turn_other m new w t v differ = ap (λ z. slice_index_or z v Over) t.workers ∙ others_stay m.workers w v t.state differ

  pub turn_itself : (m new : Machine) (w : ℕ) → (t : IsTurn m new w) → worker_at new w ≡ t.state
  turn_itself m new w t = ap (λ z. slice_index_or z w Over) t.workers ∙ itself_now m.workers w t.state t.there

  -- files that have what was read after the step have what was read before
  pub read_before : (files : FileMap (List ℕ)) (m new : Machine) (w : ℕ) → IsTurn m new w → HaveRead jobs settings files new → HaveRead jobs settings files m
  read_before files m new w t h = record {
    done = λ path content e. h.done path content (extends m.rows new.rows t.grow path content e);
    held = λ v n k content path e at. elim (cases_eq v w) [
      | inl here ↦ h.done path content (t.done n k content path (ap (λ z. worker_at m z) (sym here) ∙ e) at)
      | inr other ↦ h.held v n k content path (turn_other m new w t v other ∙ e) (path_stays jobs settings m.rows new.rows n k path t.grow at)
    ];
  }

  short_stays : (m new : Machine) (w : ℕ) (s : Worker) → new.workers ≡ slice_set m.workers w s → new.ends ≡ m.ends → ((n : ℕ) → worker_at m w ≡ Spent n → ⊥) → IsShort m → IsShort new
  short_stays m new w s workers ends had (n, inl e) = (n, inl (ap (λ z. slice_get z n) ends ∙ e))
  short_stays m new w s workers ends had (n, inr (v, e)) = elim (cases_eq v w) [
    | inl here ↦ absurd (had n (ap (λ z. worker_at m z) (sym here) ∙ e))
    | inr other ↦ (n, inr (v, ap (λ z. slice_index_or z v Over) workers ∙ others_stay m.workers w v s other ∙ e))
  ]

  -- ## Steps that read and publish nothing

  pub record IsQuietTurn (m new : Machine) (w : ℕ) : Type 0 where
    pub turn : IsTurn m new w
    pub same_map : (path : List ℕ) → map_of new.rows path ≡ map_of m.rows path
    pub not_holding : IsHolding turn.state → ⊥
    pub was_not : IsHolding (worker_at m w) → ⊥

  quiet : (m new : Machine) (w : ℕ) (was s : Worker) → worker_at m w ≡ was → (was ≡ Over → ⊥) → (IsHolding was → ⊥) → (IsHolding s → ⊥) → new.workers ≡ slice_set m.workers w s → RowsGrow m.rows new.rows →
      ((path : List ℕ) → map_of new.rows path ≡ map_of m.rows path) → (IsShort m → IsShort new) → IsQuietTurn m new w
  quiet m new w was s e there not_before not_now workers grow same_map short = record {
    turn = record {
      state = s;
      workers = workers;
      there = λ o. there (sym e ∙ o);
      grow = grow;
      short = short;
      done = λ n k content path h at. absurd (not_before (subst IsHolding (sym h ∙ e) tt));
    };
    same_map = same_map;
    not_holding = not_now;
    was_not = λ h. not_before (subst IsHolding e h);
  }

  drawn_quiet : (m : Machine) (w : ℕ) → worker_at m w ≡ Idle → (s : Worker) → (IsHolding s → ⊥) → IsQuietTurn m (record m { next = m.next + 1; workers = slice_set m.workers w s }) w
  drawn_quiet m w e s not_now =
      quiet m (record m { next = m.next + 1; workers = slice_set m.workers w s }) w Idle s e (λ o. cc) (λ h. h) not_now refl (grows_refl m.rows) (λ path. refl)
      (short_stays m (record m { next = m.next + 1; workers = slice_set m.workers w s }) w s refl refl (λ n h. let no : Idle ≡ Spent n = sym e ∙ h in cc))

  drawn_not : (n : ℕ) (b : Bool) → IsHolding (if b then At n 0 else Over) → ⊥
  drawn_not n true h = h
  drawn_not n false h = h

  pub draw_quiet : (m : Machine) (w : ℕ) → worker_at m w ≡ Idle → IsQuietTurn m (act jobs settings m (Draw w)) w
  draw_quiet m w e =
      subst (λ z. IsQuietTurn m (draw jobs m w z) w) (sym e) (drawn_quiet m w e (drawn jobs m.next) (drawn_not m.next (nat_lt m.next (length jobs))))

  draw_spent_if : (m : Machine) (w : ℕ) → worker_at m w ≡ Idle → (b : Bool) → IsSpent (if b then record m { next = m.next + 1; workers = slice_set m.workers w (Spent m.next) } else m) w →
      IsQuietTurn m (if b then record m { next = m.next + 1; workers = slice_set m.workers w (Spent m.next) } else m) w
  draw_spent_if m w e true h = drawn_quiet m w e (Spent m.next) (λ no. no)
  draw_spent_if m w e false h = let no : Idle ≡ Spent h.0 = sym e ∙ h.1 in cc

  pub draw_spent_quiet : (m : Machine) (w : ℕ) → worker_at m w ≡ Idle → IsSpent (spend jobs m (Draw w)) w → IsQuietTurn m (spend jobs m (Draw w)) w
  draw_spent_quiet m w e h =
      subst (λ z. IsQuietTurn m (draw_spent jobs m w z) w) (sym e)
      (draw_spent_if m w e (nat_lt m.next (length jobs)) (subst (λ z. IsSpent (draw_spent jobs m w z) w) e h))

  at_not_spent : (m : Machine) (w n k : ℕ) → worker_at m w ≡ At n k → (i : ℕ) → worker_at m w ≡ Spent i → ⊥
  at_not_spent m w n k e i h = let no : At n k ≡ Spent i = sym e ∙ h in cc

  moved_on : (m : Machine) (w n k : ℕ) (s : Worker) → worker_at m w ≡ At n k → (IsHolding s → ⊥) → IsQuietTurn m (with_worker m w s) w
  moved_on m w n k s e not_now =
      quiet m (with_worker m w s) w (At n k) s e (λ o. cc) (λ h. h) not_now refl (grows_refl m.rows) (λ path. refl)
      (short_stays m (with_worker m w s) w s refl refl (at_not_spent m w n k e))

  look_held_quiet : (m : Machine) (w n k : ℕ) (path : List ℕ) → worker_at m w ≡ At n k → (held_at m.rows path ≡ None) ⊎ ((content : Content (List ℕ)) × (held_at m.rows path ≡ Some (Done content))) →
      IsQuietTurn m (look_held m w n k path (held_at m.rows path)) w
  look_held_quiet m w n k path e (inl none) = subst (λ z. IsQuietTurn m (look_held m w n k path z) w) (sym none)
      (quiet m (claim m w n k path) w (At n k) (Claiming n k) e (λ o. cc) (λ h. h) (λ h. h) refl (grows_append m.rows (record { path = path; held = Claimed w } ∷ [])) (map_claimed m.rows path w)
      (short_stays m (claim m w n k path) w (Claiming n k) refl refl (at_not_spent m w n k e)))
  look_held_quiet m w n k path e (inr (content, done)) = subst (λ z. IsQuietTurn m (look_held m w n k path z) w) (sym done) (moved_on m w n k (At n (k + 1)) e (λ h. h))

  pub look_quiet : (m : Machine) (w n k : ℕ) → worker_at m w ≡ At n k → LooksAt m.rows (path_at jobs settings m.rows n k) → IsQuietTurn m (act jobs settings m (Look w)) w
  look_quiet m w n k e (path, (at, held)) =
      subst (λ z. IsQuietTurn m (look jobs settings m w z) w) (sym e)
      (subst (λ z. IsQuietTurn m (look_path m w n k z) w) (sym at) (look_held_quiet m w n k path e held))

  pub look_spent_quiet : (m : Machine) (w n k : ℕ) → worker_at m w ≡ At n k → IsQuietTurn m (spend jobs m (Look w)) w
  look_spent_quiet m w n k e = subst (λ z. IsQuietTurn m (look_spent m w z) w) (sym e) (moved_on m w n k (Spent n) e (λ h. h))

  -- ## Ends

  -- the job of a worker has no end yet
  no_end_yet : (m : Machine) (w n : ℕ) (end : UnitEnd) → IsSound jobs settings m → has_number n (worker_at m w) ≡ true → slice_get m.ends n ≡ Some (Some end) → ⊥
  no_end_yet m w n end sound here e =
      let a = count_at n m.workers w here in
      let b = sound.numbers n in
      let c : ended (slice_get m.ends n) ≡ 1 = ap ended e in
      let d = drawn_at_most m.next n (length jobs) in
      absurd (omega arith)

  ended_short : (m : Machine) (w n k : ℕ) (end : Option UnitEnd) → worker_at m w ≡ At n k → IsSound jobs settings m → IsShort m → IsShort (record_end m w n end)
  ended_short m w n k end e sound (i, inl short) = elim (cases_eq i n) [
    | inl here ↦ absurd (no_end_yet m w i Ends.NoMemory sound (ap (λ z. has_number i z) e ∙ if_true n i (sym here)) short)
    | inr other ↦ (i, inl (set_get_other m.ends n i end other ∙ short))
  ]
  ended_short m w n k end e sound (i, inr (v, spent)) = elim (cases_eq v w) [
    | inl here ↦ absurd (at_not_spent m w n k e i (ap (λ z. worker_at m z) (sym here) ∙ spent))
    | inr other ↦ (i, inr (v, others_stay m.workers w v Idle other ∙ spent))
  ]

  end_at_quiet : (m : Machine) (w n k : ℕ) → worker_at m w ≡ At n k → path_at jobs settings m.rows n k ≡ None → IsSound jobs settings m → IsQuietTurn m (act jobs settings m (End w)) w
  end_at_quiet m w n k e none sound =
      let told : Option UnitEnd = end_in (answer_at jobs settings m.rows n) in
      subst (λ z. IsQuietTurn m (end jobs settings m w z) w) (sym e)
      (subst (λ z. IsQuietTurn m (end_path jobs settings m w n z) w) (sym none)
      (quiet m (record_end m w n told) w (At n k) Idle e (λ o. cc) (λ h. h) (λ h. h) refl (grows_refl m.rows) (λ path. refl) (ended_short m w n k told e sound)))

  -- a job that is out of memory ends so
  spent_ends : (m : Machine) (w n : ℕ) → worker_at m w ≡ Spent n → IsSound jobs settings m → IsShort (record_end m w n (Some Ends.NoMemory))
  spent_ends m w n e sound =
      let a = count_at n m.workers w (ap (λ z. has_number n z) e ∙ if_true n n refl) in
      let b = sound.numbers n in
      let inside : n < length jobs = drawn_within m.next n (length jobs) (omega arith) in
      (n, inl (set_get_same m.ends n (Some Ends.NoMemory) (subst (λ z. n < z) (sym sound.jobs_ends) inside)))

  end_spent_quiet : (m : Machine) (w n : ℕ) → worker_at m w ≡ Spent n → IsSound jobs settings m → IsQuietTurn m (act jobs settings m (End w)) w
  end_spent_quiet m w n e sound =
      subst (λ z. IsQuietTurn m (end jobs settings m w z) w) (sym e)
      (quiet m (record_end m w n (Some Ends.NoMemory)) w (Spent n) Idle e (λ o. cc) (λ h. h) (λ h. h) refl (grows_refl m.rows) (λ path. refl) (λ was. spent_ends m w n e sound))

  pub end_quiet : (m : Machine) (w : ℕ) → ((n : ℕ) × ((k : ℕ) × ((worker_at m w ≡ At n k) × (path_at jobs settings m.rows n k ≡ None)))) ⊎ ((n : ℕ) × (worker_at m w ≡ Spent n)) → IsSound jobs settings m →
      IsQuietTurn m (act jobs settings m (End w)) w
  end_quiet m w (inl (n, (k, (e, none)))) sound = end_at_quiet m w n k e none sound
  end_quiet m w (inr (n, e)) sound = end_spent_quiet m w n e sound

  -- ## Reads

  pub record IsReadTurn (m new : Machine) (w : ℕ) (content : Content (List ℕ)) : Type 0 where
    pub turn : IsTurn m new w
    pub n : ℕ
    pub k : ℕ
    pub was : worker_at m w ≡ Claiming n k
    pub state_is : turn.state ≡ Holding n k content
    pub same_rows : new.rows ≡ m.rows

  read_as : (m : Machine) (w n k : ℕ) (content : Content (List ℕ)) → worker_at m w ≡ Claiming n k → IsReadTurn m (with_worker m w (Holding n k content)) w content
  read_as m w n k content e = record {
    turn = record {
      state = Holding n k content;
      workers = refl;
      there = λ o. let no : Claiming n k ≡ Over = sym e ∙ o in cc;
      grow = grows_refl m.rows;
      short = short_stays m (with_worker m w (Holding n k content)) w (Holding n k content) refl refl (λ i h. let no : Claiming n k ≡ Spent i = sym e ∙ h in cc);
      done = λ i j before path h at. let no : Claiming n k ≡ Holding i j before = sym e ∙ h in cc;
    };
    n = n;
    k = k;
    was = e;
    state_is = refl;
    same_rows = refl;
  }

  pub read_turn : (m : Machine) (w n k : ℕ) (content : Content (List ℕ)) → worker_at m w ≡ Claiming n k → IsReadTurn m (act jobs settings m (Read w content)) w content
  read_turn m w n k content e = subst (λ z. IsReadTurn m (read m w content z) w content) (sym e) (read_as m w n k content e)

  -- ## Publications

  -- the content's path has it now, and the others have what they had
  pub record IsPublishTurn (m new : Machine) (w : ℕ) (path : List ℕ) (content : Content (List ℕ)) : Type 0 where
    pub turn : IsTurn m new w
    pub not_holding : IsHolding turn.state → ⊥
    pub has : map_of new.rows path ≡ Some content
    pub others : (other : List ℕ) → path ≢ other → map_of new.rows other ≡ map_of m.rows other

  own_done : (w : ℕ) (content : Content (List ℕ)) (b : Bool) → (w == w) ≡ b → done_of (Some (if b then Done content else Claimed w)) ≡ Some content
  own_done w content true e = refl
  own_done w content false e = let t : (w == w) ≡ true = if_true w w refl in cc

  other_not : (w v : ℕ) (content : Content (List ℕ)) → v ≢ w → (b : Bool) → (v == w) ≡ b → done_of (Some (if b then Done content else Claimed v)) ≡ None
  other_not w v content differ true e = absurd (differ (let t = e in eqb-true v w t))
  other_not w v content differ false e = refl

  module _ (m : Machine) (w n k : ℕ) (content : Content (List ℕ)) (path : List ℕ) (e : worker_at m w ≡ Holding n k content) (at : path_at jobs settings m.rows n k ≡ Some path) (sound : IsSound jobs settings m) where
    abbrev rows_now : List Row
    rows_now = map (published w content) m.rows

    published_has : map_of rows_now path ≡ Some content
    published_has =
        let claim = (fits_as jobs settings m w (Holding n k content) e sound).1 in
        let same_path : claim.path ≡ path = let a = claim.kth in cc in
        let claimed : held_at m.rows path ≡ Some (Claimed w) = subst (λ z. held_at m.rows z ≡ Some (Claimed w)) same_path claim.claimed in
        ap done_of (held_published w content m.rows path ∙ ap (λ z. option_map (published_held w content) z) claimed) ∙ own_done w content (w == w) refl

    other_held : (other : List ℕ) → path ≢ other → (held : Option Held) → held_at m.rows other ≡ held → done_of (option_map (published_held w content) held) ≡ done_of held
    other_held other differ None h = refl
    other_held other differ (Some (Done before)) h = refl
    other_held other differ (Some (Claimed v)) h =
        other_not w v content
        (λ same_worker.
        let claimed : held_at m.rows other ≡ Some (Claimed w) = h ∙ ap (λ z. Some (Claimed z)) same_worker in
        let looked : path_at jobs settings m.rows n k ≡ Some other = claimant_as jobs settings m w (Holding n k content) e sound other claimed in
        differ (let a = at in cc)) (v == w) refl

    published_others : (other : List ℕ) → path ≢ other → map_of rows_now other ≡ map_of m.rows other
    published_others other differ = ap done_of (held_published w content m.rows other) ∙ other_held other differ (held_at m.rows other) refl

    publish_as_turn : (s : Worker) → (IsHolding s → ⊥) → IsPublishTurn m (publish_as m w content s) w path content
    publish_as_turn s not_now = record {
      turn = record {
        state = s;
        workers = refl;
        there = λ o. let no : Holding n k content ≡ Over = sym e ∙ o in cc;
        grow = grows_published w content m.rows;
        short = short_stays m (publish_as m w content s) w s refl refl (λ i h. let no : Holding n k content ≡ Spent i = sym e ∙ h in cc);
        done = λ i j before other h held_at_other.
            let is : Holding n k content ≡ Holding i j before = sym e ∙ h in
            let n_is : n ≡ i = cc in
            let k_is : k ≡ j = cc in
            let content_is : content ≡ before = cc in
            let there : path_at jobs settings m.rows n k ≡ Some other = subst (λ z. path_at jobs settings m.rows z k ≡ Some other) (sym n_is) (subst (λ z. path_at jobs settings m.rows i z ≡ Some other) (sym k_is) held_at_other) in
            let path_is : path ≡ other = let a = at in cc in
            subst (λ z. map_of rows_now z ≡ Some before) path_is (published_has ∙ ap Some content_is);
      };
      not_holding = not_now;
      has = published_has;
      others = published_others;
    }

    pub publish_turn : IsPublishTurn m (act jobs settings m (Publish w)) w path content
    publish_turn = subst (λ z. IsPublishTurn m (publish m w z) w path content) (sym e) (publish_as_turn (At n (k + 1)) (λ h. h))

    pub publish_spent_turn : IsPublishTurn m (spend jobs m (Publish w)) w path content
    publish_spent_turn = subst (λ z. IsPublishTurn m (publish_spent m w z) w path content) (sym e) (publish_as_turn (Spent n) (λ h. h))
