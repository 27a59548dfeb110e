-- Each step keeps what every moment has.
use Rattle.std.proofs.Common.{◌≡◌, ◌≢◌, ◌⊎◌, inl, inr, ℕ, ◌+◌, ◌<◌, Bool, true, false, ◌==◌, nat_lt, if◌then◌else◌, List, [], ◌∷◌, ◌++◌, map, length, slice_get, refl, ap, sym, ◌∙◌, subst, Option, Some, None, arith}
use Rattle.std.specs.Prelude.{slice_set, is_some, min}
use Rattle.std.specs.Option.{option_map}
use Rattle.std.proofs.Math.ListN.{length-set}
use Rattle.std.proofs.lemmas.Bool.Decides.{nat_tests}
use Rattle.scan_model.specs.declared.command.Settings.{Settings}
use Rattle.scan_model.specs.declared.command.Job.{Job}
use Rattle.scan_model.specs.declared.unit_end.UnitEnd.{UnitEnd}
use Rattle.scan_model.specs.declared.unit_end.UnitEnd.TheVariants as Ends
use Rattle.scan_model.specs.Files.{Content}
use Rattle.cache_machine.specs.Rows.{Held, Claimed, Done, Row, held_at, done_of, map_of, published_held, published}
use Rattle.cache_machine.specs.Machine.{Machine, Worker, Idle, At, Claiming, Holding, Spent, Over, worker_at}
use Rattle.cache_machine.specs.JobLooks.{path_at, answer_at, end_in}
use Rattle.cache_machine.specs.Steps.{Event, Draw, Look, Read, Publish, End, draw, claim, look_held, look_path, look, read, publish_as, publish, record_end, end_path, end, act}
use Rattle.cache_machine.specs.Spending.{draw_spent, look_spent, publish_spent, spend}
use Rattle.cache_machine.specs.WorkerRows.{IsAnswered, WorkerFits, IsClaimant}
use Rattle.cache_machine.specs.Numbers.{has_number, one_if, ended, drawn_once, is_over}
use Rattle.cache_machine.specs.Laws.{IsEndAt}
use Rattle.cache_machine.proofs.Sound.{IsSound}
use Rattle.cache_machine.proofs.NumberLemmas.{if_false, if_true, draw_number, draw_none, drawn_within, drawn_at_most, draw_not_over, draw_over}
use Rattle.cache_machine.proofs.RowLemmas.{held_before, held_new, held_stays, differ_append, held_published, differ_published, grows_append, grows_published}
use Rattle.cache_machine.proofs.JobLemmas.{path_stays, end_stays, answered_stays, answered_more, end_known}
use Rattle.cache_machine.proofs.WorkerLemmas.{count_at, set_get_same, set_get_other, get_there}
use Rattle.cache_machine.proofs.Changes.{changed, turned, goes_on, claimant_as, fits_as}

module _ (jobs : List Job) (settings : Settings) where
  -- ## Draw

  starts_with_nothing : (rows : List Row) (n : ℕ) → IsAnswered jobs settings rows n 0
  starts_with_nothing rows n = record { paths = []; number = refl; begin = refl; done = tt }

  -- an idle worker has no claim
  idle_draws : (m : Machine) (w : ℕ) (s : Worker) → worker_at m w ≡ Idle → IsSound jobs settings m → WorkerFits jobs settings m.rows w s →
      ((n : ℕ) → one_if (has_number n s) + drawn_once jobs m.next n ≡ drawn_once jobs (m.next + 1) n) →
      one_if (is_over s) + m.next + min (m.next + 1) (length jobs) ≡ m.next + 1 + min m.next (length jobs) →
      IsSound jobs settings (record m { next = m.next + 1; workers = slice_set m.workers w s })
  idle_draws m w s e h fits numbers over =
      turned jobs settings m w (m.next + 1) s m.ends h (λ o. let no : Idle ≡ Over = sym e ∙ o in cc) fits (λ path claimed. absurd (claimant_as jobs settings m w Idle e h path claimed))
      (λ n. let k = numbers n in let idle : one_if (has_number n (worker_at m w)) ≡ 0 = ap (λ z. one_if (has_number n z)) e in omega arith)
      (let was : one_if (is_over (worker_at m w)) ≡ 0 = ap (λ z. one_if (is_over z)) e in omega arith) h.ends h.jobs_ends

  draw_as : (m : Machine) (w : ℕ) → worker_at m w ≡ Idle → IsSound jobs settings m → (b : Bool) → nat_lt m.next (length jobs) ≡ b →
      IsSound jobs settings (record m { next = m.next + 1; workers = slice_set m.workers w (if b then At m.next 0 else Over) })
  draw_as m w e h true k = idle_draws m w (At m.next 0) e h (starts_with_nothing m.rows m.next) (λ n. draw_number m.next n (length jobs) k) (let over = draw_not_over m.next (length jobs) k in omega arith)
  draw_as m w e h false k = idle_draws m w Over e h tt (λ n. let k' = draw_none m.next n (length jobs) k in omega arith) (draw_over m.next (length jobs) k)

  draw_sound : (m : Machine) (w : ℕ) (s : Worker) → worker_at m w ≡ s → IsSound jobs settings m → IsSound jobs settings (draw jobs m w s)
  draw_sound m w Idle e h = draw_as m w e h (nat_lt m.next (length jobs)) refl
  draw_sound m w (At n k) e h = h
  draw_sound m w (Claiming n k) e h = h
  draw_sound m w (Holding n k content) e h = h
  draw_sound m w (Spent n) e h = h
  draw_sound m w Over e h = h

  draw_spent_as : (m : Machine) (w : ℕ) → worker_at m w ≡ Idle → IsSound jobs settings m → (b : Bool) → nat_lt m.next (length jobs) ≡ b →
      IsSound jobs settings (if b then record m { next = m.next + 1; workers = slice_set m.workers w (Spent m.next) } else m)
  draw_spent_as m w e h true k = idle_draws m w (Spent m.next) e h tt (λ n. draw_number m.next n (length jobs) k) (let over = draw_not_over m.next (length jobs) k in omega arith)
  draw_spent_as m w e h false k = h

  draw_spent_sound : (m : Machine) (w : ℕ) (s : Worker) → worker_at m w ≡ s → IsSound jobs settings m → IsSound jobs settings (draw_spent jobs m w s)
  draw_spent_sound m w Idle e h = draw_spent_as m w e h (nat_lt m.next (length jobs)) refl
  draw_spent_sound m w (At n k) e h = h
  draw_spent_sound m w (Claiming n k) e h = h
  draw_spent_sound m w (Holding n k content) e h = h
  draw_spent_sound m w (Spent n) e h = h
  draw_spent_sound m w Over e h = h

  -- ## Look

  claim_sound : (m : Machine) (w n k : ℕ) (path : List ℕ) → worker_at m w ≡ At n k → IsSound jobs settings m → path_at jobs settings m.rows n k ≡ Some path → held_at m.rows path ≡ None →
      IsSound jobs settings (claim m w n k path)
  claim_sound m w n k path e h at none =
      let row : Row = record { path = path; held = Claimed w } in
      let rows = m.rows ++ row ∷ [] in
      let grow = grows_append m.rows (row ∷ []) in
      let before : (other : List ℕ) (v : ℕ) → held_at rows other ≡ Some (Claimed v) → (held_at m.rows other ≡ Some (Claimed v)) ⊎ ((path ≡ other) × (Claimed w ≡ Claimed v)) =
      λ other v claimed. held_before m.rows row other (Claimed v) claimed in
      changed jobs settings m w rows m.next (Claiming n k) m.ends h (record {
        there = λ o. let no : At n k ≡ Over = sym e ∙ o in cc;
        differ = differ_append m.rows row h.differ none;
        grow = grow;
        kept = λ other v differ claimed. held_stays m.rows (row ∷ []) other (Claimed v) claimed;
        before = λ other v differ claimed. elim (before other v claimed) [ inl was ↦ was | inr new ↦ absurd (differ (let k : w ≡ v = let c = new.1 in cc in sym k)) ];
        fits = (
          answered_stays jobs settings m.rows rows n k grow (fits_as jobs settings m w (At n k) e h),
          record { path = path; kth = path_stays jobs settings m.rows rows n k path grow at; claimed = held_new m.rows row none },
        );
        claims = λ other claimed. elim (before other w claimed) [
          | inl was ↦ absurd (claimant_as jobs settings m w (At n k) e h other was)
          | inr new ↦ subst (λ z. path_at jobs settings rows n k ≡ Some z) new.0 (path_stays jobs settings m.rows rows n k path grow at)
        ];
        numbers = λ i. let k : has_number i (Claiming n k) ≡ has_number i (worker_at m w) = ap (λ z. has_number i z) (sym e) in
            ap (λ z. one_if z + ended (slice_get m.ends i) + drawn_once jobs m.next i) k;
        over = let was : is_over (worker_at m w) ≡ false = ap is_over e in ap (λ z. one_if z + m.next + min m.next (length jobs)) (sym was);
        ends_fit = λ i end recorded. elim (h.ends i end recorded) [ inl lost ↦ inl lost | inr known ↦ inr (end_stays jobs settings m.rows rows i end grow known) ];
        jobs_ends = h.jobs_ends;
      })

  look_held_sound : (m : Machine) (w n k : ℕ) (path : List ℕ) → worker_at m w ≡ At n k → IsSound jobs settings m → path_at jobs settings m.rows n k ≡ Some path → (held : Option Held) →
      held_at m.rows path ≡ held → IsSound jobs settings (look_held m w n k path held)
  look_held_sound m w n k path e h at None k' = claim_sound m w n k path e h at k'
  look_held_sound m w n k path e h at (Some (Claimed v)) k' = h
  look_held_sound m w n k path e h at (Some (Done content)) k' =
      goes_on jobs settings m w (At n k) (At n (k + 1)) e (λ o. cc) h
      (answered_more jobs settings m.rows n k path (fits_as jobs settings m w (At n k) e h) at (let t : map_of m.rows path ≡ Some content = ap (λ z. done_of z) k' in ap is_some t))
      (λ other no. no) (λ i. refl) refl

  look_path_sound : (m : Machine) (w n k : ℕ) → worker_at m w ≡ At n k → IsSound jobs settings m → (path : Option (List ℕ)) → path_at jobs settings m.rows n k ≡ path →
      IsSound jobs settings (look_path m w n k path)
  look_path_sound m w n k e h None at = h
  look_path_sound m w n k e h (Some path) at = look_held_sound m w n k path e h at (held_at m.rows path) refl

  look_sound : (m : Machine) (w : ℕ) (s : Worker) → worker_at m w ≡ s → IsSound jobs settings m → IsSound jobs settings (look jobs settings m w s)
  look_sound m w Idle e h = h
  look_sound m w (At n k) e h = look_path_sound m w n k e h (path_at jobs settings m.rows n k) refl
  look_sound m w (Claiming n k) e h = h
  look_sound m w (Holding n k content) e h = h
  look_sound m w (Spent n) e h = h
  look_sound m w Over e h = h

  look_spent_sound : (m : Machine) (w : ℕ) (s : Worker) → worker_at m w ≡ s → IsSound jobs settings m → IsSound jobs settings (look_spent m w s)
  look_spent_sound m w Idle e h = h
  look_spent_sound m w (At n k) e h = goes_on jobs settings m w (At n k) (Spent n) e (λ o. cc) h tt (λ path no. no) (λ i. refl) refl
  look_spent_sound m w (Claiming n k) e h = h
  look_spent_sound m w (Holding n k content) e h = h
  look_spent_sound m w (Spent n) e h = h
  look_spent_sound m w Over e h = h

  -- ## Read

  read_sound : (m : Machine) (w : ℕ) (content : Content (List ℕ)) (s : Worker) → worker_at m w ≡ s → IsSound jobs settings m → IsSound jobs settings (read m w content s)
  read_sound m w content Idle e h = h
  read_sound m w content (At n k) e h = h
  read_sound m w content (Claiming n k) e h =
      goes_on jobs settings m w (Claiming n k) (Holding n k content) e (λ o. cc) h (fits_as jobs settings m w (Claiming n k) e h) (λ path at. at) (λ i. refl) refl
  read_sound m w content (Holding n k before) e h = h
  read_sound m w content (Spent n) e h = h
  read_sound m w content Over e h = h

  -- ## Publish

  -- a row that is claimed then was claimed before, by another worker
  claimed_if : (w v u : ℕ) (content : Content (List ℕ)) → (b : Bool) → (u == w) ≡ b → Some (if b then Done content else Claimed u) ≡ Some (Claimed v) →
      (Some (Claimed u) ≡ Some (Claimed v)) × (v ≢ w)
  claimed_if w v u content true e k = cc
  claimed_if w v u content false e k = (k, λ same. let t : (u == w) ≡ true = if_true u w (let z : u ≡ v = cc in z ∙ same) in cc)

  claimed_before : (w v : ℕ) (content : Content (List ℕ)) (held : Option Held) → option_map (published_held w content) held ≡ Some (Claimed v) →
      (held ≡ Some (Claimed v)) × (v ≢ w)
  claimed_before w v content None k = cc
  claimed_before w v content (Some (Done before)) k = cc
  claimed_before w v content (Some (Claimed u)) k = claimed_if w v u content (u == w) refl k

  published_claim : (w v : ℕ) (content : Content (List ℕ)) → v ≢ w → published_held w content (Claimed v) ≡ Claimed v
  published_claim w v content differ = ap (λ z. if z then Done content else Claimed v) (if_false v w differ)

  pub published_own : (w : ℕ) (content : Content (List ℕ)) → published_held w content (Claimed w) ≡ Done content
  published_own w content = ap (λ z. if z then Done content else Claimed w) (if_true w w refl)

  publish_as_sound : (m : Machine) (w n k : ℕ) (content : Content (List ℕ)) (s : Worker) → worker_at m w ≡ Holding n k content → IsSound jobs settings m →
      WorkerFits jobs settings (map (published w content) m.rows) w s → ((i : ℕ) → has_number i s ≡ (n == i)) → is_over s ≡ false → IsSound jobs settings (publish_as m w content s)
  publish_as_sound m w n k content s e h fits numbers running =
      let rows = map (published w content) m.rows in
      let grow = grows_published w content m.rows in
      changed jobs settings m w rows m.next s m.ends h (record {
        there = λ o. let no : Holding n k content ≡ Over = sym e ∙ o in cc;
        differ = differ_published w content m.rows h.differ;
        grow = grow;
        kept = λ other v differ claimed. held_published w content m.rows other ∙ ap (λ z. option_map (published_held w content) z) claimed ∙ ap (λ z. Some z) (published_claim w v content differ);
        before = λ other v differ claimed. (claimed_before w v content (held_at m.rows other) (sym (held_published w content m.rows other) ∙ claimed)).0;
        fits = fits;
        claims = λ other claimed. absurd ((claimed_before w w content (held_at m.rows other) (sym (held_published w content m.rows other) ∙ claimed)).1 refl);
        numbers = λ i. let k : has_number i s ≡ has_number i (worker_at m w) = numbers i ∙ ap (λ z. has_number i z) (sym e) in
            ap (λ z. one_if z + ended (slice_get m.ends i) + drawn_once jobs m.next i) k;
        over = let was : is_over (worker_at m w) ≡ false = ap is_over e in ap (λ z. one_if z + m.next + min m.next (length jobs)) (running ∙ sym was);
        ends_fit = λ i end recorded. elim (h.ends i end recorded) [ inl lost ↦ inl lost | inr known ↦ inr (end_stays jobs settings m.rows rows i end grow known) ];
        jobs_ends = h.jobs_ends;
      })

  -- the path that it claimed is done, so its look is answered
  published_fits : (m : Machine) (w n k : ℕ) (content : Content (List ℕ)) → worker_at m w ≡ Holding n k content → IsSound jobs settings m →
      IsAnswered jobs settings (map (published w content) m.rows) n (k + 1)
  published_fits m w n k content e h =
      let rows = map (published w content) m.rows in
      let grow = grows_published w content m.rows in
      let fits = fits_as jobs settings m w (Holding n k content) e h in
      let done : held_at rows fits.1.path ≡ Some (Done content) =
      held_published w content m.rows fits.1.path ∙ ap (λ z. option_map (published_held w content) z) fits.1.claimed ∙ ap (λ z. Some z) (published_own w content) in
      let there : map_of rows fits.1.path ≡ Some content = ap done_of done in
      answered_more jobs settings rows n k fits.1.path (answered_stays jobs settings m.rows rows n k grow fits.0)
      (path_stays jobs settings m.rows rows n k fits.1.path grow fits.1.kth) (ap is_some there)

  publish_sound : (m : Machine) (w : ℕ) (s : Worker) → worker_at m w ≡ s → IsSound jobs settings m → IsSound jobs settings (publish m w s)
  publish_sound m w Idle e h = h
  publish_sound m w (At n k) e h = h
  publish_sound m w (Claiming n k) e h = h
  publish_sound m w (Holding n k content) e h = publish_as_sound m w n k content (At n (k + 1)) e h (published_fits m w n k content e h) (λ i. refl) refl
  publish_sound m w (Spent n) e h = h
  publish_sound m w Over e h = h

  publish_spent_sound : (m : Machine) (w : ℕ) (s : Worker) → worker_at m w ≡ s → IsSound jobs settings m → IsSound jobs settings (publish_spent m w s)
  publish_spent_sound m w Idle e h = h
  publish_spent_sound m w (At n k) e h = h
  publish_spent_sound m w (Claiming n k) e h = h
  publish_spent_sound m w (Holding n k content) e h = publish_as_sound m w n k content (Spent n) e h tt (λ i. refl) refl
  publish_spent_sound m w (Spent n) e h = h
  publish_spent_sound m w Over e h = h

  -- ## End

  -- a worker's command is a job
  pub job_of : (m : Machine) (w n : ℕ) (s : Worker) → worker_at m w ≡ s → IsSound jobs settings m → has_number n s ≡ true → n < length jobs
  job_of m w n s e h is =
      let count = count_at n m.workers w (ap (λ z. has_number n z) e ∙ is) in
      let number = h.numbers n in
      drawn_within m.next n (length jobs) (omega arith)

  -- and it has no end yet
  not_ended : (m : Machine) (w n : ℕ) (s : Worker) → worker_at m w ≡ s → IsSound jobs settings m → has_number n s ≡ true → ended (slice_get m.ends n) ≡ 0
  not_ended m w n s e h is =
      let count = count_at n m.workers w (ap (λ z. has_number n z) e ∙ is) in
      let number = h.numbers n in
      let most = drawn_at_most m.next n (length jobs) in omega arith

  recorded_number : (m : Machine) (w n : ℕ) (s : Worker) (end : UnitEnd) → worker_at m w ≡ s → IsSound jobs settings m → ((i : ℕ) → has_number i s ≡ (n == i)) → (i : ℕ) →
      (b : Bool) → (n == i) ≡ b → ended (slice_get (slice_set m.ends n (Some end)) i) ≡ one_if (has_number i s) + ended (slice_get m.ends i)
  recorded_number m w n s end e h numbers i true k =
      let same : n ≡ i = grind (arith, nat_tests) in
      let none = not_ended m w n s e h (numbers n ∙ if_true n n refl) in
      let room : n < length m.ends = subst (λ z. n < z) (sym h.jobs_ends) (job_of m w n s e h (numbers n ∙ if_true n n refl)) in
      let at : ended (slice_get (slice_set m.ends n (Some end)) n) ≡ 1 = ap ended (set_get_same m.ends n (Some end) room) in
      let one : one_if (has_number n s) ≡ 1 = ap one_if (numbers n ∙ if_true n n refl) in
      let here : ended (slice_get (slice_set m.ends n (Some end)) n) ≡ one_if (has_number n s) + ended (slice_get m.ends n) = omega arith in
      subst (λ z. ended (slice_get (slice_set m.ends n (Some end)) z) ≡ one_if (has_number z s) + ended (slice_get m.ends z)) same here
  recorded_number m w n s end e h numbers i false k =
      let zero_here : one_if (has_number i s) ≡ 0 = ap one_if (numbers i ∙ k) in
      let other : slice_get (slice_set m.ends n (Some end)) i ≡ slice_get m.ends i =
      set_get_other m.ends n i (Some end) (λ same. let t : (n == i) ≡ true = if_true n i (sym same) in cc) in
      let as_before : ended (slice_get (slice_set m.ends n (Some end)) i) ≡ ended (slice_get m.ends i) = ap ended other in omega arith

  recorded_fits : (m : Machine) (n : ℕ) (end : UnitEnd) → IsSound jobs settings m → IsEndAt jobs settings m.rows n end → n < length m.ends → (i : ℕ) (other : UnitEnd) →
      (b : Bool) → (n == i) ≡ b → slice_get (slice_set m.ends n (Some end)) i ≡ Some (Some other) → IsEndAt jobs settings m.rows i other
  recorded_fits m n end h fits room i other true k recorded =
      let same : n ≡ i = grind (arith, nat_tests) in
      let at : slice_get (slice_set m.ends n (Some end)) i ≡ Some (Some end) = subst (λ z. slice_get (slice_set m.ends n (Some end)) z ≡ Some (Some end)) same (set_get_same m.ends n (Some end) room) in
      let is : end ≡ other = cc in
      subst (λ z. IsEndAt jobs settings m.rows z other) same (subst (λ z. IsEndAt jobs settings m.rows n z) is fits)
  recorded_fits m n end h fits room i other false k recorded =
      h.ends i other (sym (set_get_other m.ends n i (Some end) (λ same. let t : (n == i) ≡ true = if_true n i (sym same) in cc)) ∙ recorded)

  recorded : (m : Machine) (w n : ℕ) (s : Worker) (end : UnitEnd) → worker_at m w ≡ s → (s ≡ Over → ⊥) → ((path : List ℕ) → IsClaimant jobs settings m.rows path s → ⊥) →
      ((i : ℕ) → has_number i s ≡ (n == i)) → is_over s ≡ false → IsSound jobs settings m → IsEndAt jobs settings m.rows n end → IsSound jobs settings (record_end m w n (Some end))
  recorded m w n s end e there claimless numbers running h fits =
      let room : n < length m.ends = subst (λ z. n < z) (sym h.jobs_ends) (job_of m w n s e h (numbers n ∙ if_true n n refl)) in
      turned jobs settings m w m.next Idle (slice_set m.ends n (Some end)) h (λ o. there (sym e ∙ o)) tt (λ path claimed. absurd (claimless path (claimant_as jobs settings m w s e h path claimed)))
      (λ i. let k = recorded_number m w n s end e h numbers i (n == i) refl in
      let was : one_if (has_number i (worker_at m w)) ≡ one_if (has_number i s) = ap (λ z. one_if (has_number i z)) e in omega arith)
      (let was : is_over (worker_at m w) ≡ false = ap is_over e ∙ running in ap (λ z. one_if z + m.next + min m.next (length jobs)) (sym was))
      (λ i other at. recorded_fits m n end h fits room i other (n == i) refl at) (length-set m.ends n (Some end) ∙ h.jobs_ends)

  end_at : (m : Machine) (w n k : ℕ) → worker_at m w ≡ At n k → IsSound jobs settings m → path_at jobs settings m.rows n k ≡ None →
      IsSound jobs settings (record_end m w n (end_in (answer_at jobs settings m.rows n)))
  end_at m w n k e h none =
      let number : (i : ℕ) → has_number i (At n k) ≡ (n == i) = λ i. refl in
      let job = get_there jobs n (job_of m w n (At n k) e h (if_true n n refl)) in
      let known = end_known jobs settings m.rows n k job.0 job.1 (fits_as jobs settings m w (At n k) e h) none in
      subst (λ z. IsSound jobs settings (record_end m w n z)) (ap (λ z. end_in z) (sym known.1))
      (recorded m w n (At n k) known.0 e (λ o. cc) (λ path no. no) number refl h (inr known.1))

  end_path_sound : (m : Machine) (w n k : ℕ) → worker_at m w ≡ At n k → IsSound jobs settings m → (path : Option (List ℕ)) → path_at jobs settings m.rows n k ≡ path →
      IsSound jobs settings (end_path jobs settings m w n path)
  end_path_sound m w n k e h None at = end_at m w n k e h at
  end_path_sound m w n k e h (Some path) at = h

  end_sound : (m : Machine) (w : ℕ) (s : Worker) → worker_at m w ≡ s → IsSound jobs settings m → IsSound jobs settings (end jobs settings m w s)
  end_sound m w Idle e h = h
  end_sound m w (At n k) e h = end_path_sound m w n k e h (path_at jobs settings m.rows n k) refl
  end_sound m w (Claiming n k) e h = h
  end_sound m w (Holding n k content) e h = h
  end_sound m w (Spent n) e h = recorded m w n (Spent n) Ends.NoMemory e (λ o. cc) (λ path no. no) (λ i. refl) refl h (inl refl)
  end_sound m w Over e h = h

  -- ## The step

  pub act_sound : (m : Machine) (e : Event) → IsSound jobs settings m → IsSound jobs settings (act jobs settings m e)
  act_sound m (Draw w) h = draw_sound m w (worker_at m w) refl h
  act_sound m (Look w) h = look_sound m w (worker_at m w) refl h
  act_sound m (Read w content) h = read_sound m w content (worker_at m w) refl h
  act_sound m (Publish w) h = publish_sound m w (worker_at m w) refl h
  act_sound m (End w) h = end_sound m w (worker_at m w) refl h

  pub spend_sound : (m : Machine) (e : Event) → IsSound jobs settings m → IsSound jobs settings (spend jobs m e)
  spend_sound m (Draw w) h = draw_spent_sound m w (worker_at m w) refl h
  spend_sound m (Look w) h = look_spent_sound m w (worker_at m w) refl h
  spend_sound m (Read w content) h = h
  spend_sound m (Publish w) h = publish_spent_sound m w (worker_at m w) refl h
  spend_sound m (End w) h = h
