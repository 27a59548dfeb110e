-- What jobs look at and answer as rows grow, and as looks are answered.
use Rattle.std.proofs.Common.{◌≡◌, ℕ, zero, suc, ◌+◌, ◌≤◌, List, [], ◌∷◌, ◌++◌, length, slice_get, refl, ap, sym, ◌∙◌, subst, Option, Some, None, append-nil, append_assoc, length-append, arith}
use Rattle.std.specs.Prelude.{IsTrue, is_some}
use Rattle.std.specs.List.{AllByRecursion}
use Rattle.scan_model.specs.declared.command.Settings.{Settings}
use Rattle.scan_model.specs.declared.command.Job.{Job}
use Rattle.scan_model.specs.declared.unit_end.UnitEnd.{UnitEnd}
use Rattle.scan_model.specs.Files.{FileMap, Content}
use Rattle.scan_model.specs.Lines.{lines}
use Rattle.scan_model.specs.Answer.{Answer, Known, Unread, answer, looked}
use Rattle.unit_laws.specs.Growth.{Extends, Begins}
use Rattle.unit_laws.proofs.GrowthLemmas.{Longer, longer_trans}
use Rattle.unit_laws.proofs.GrowingAnswers.{longer_begins, begins_longer, answer_stays, looked_grows, needs_last}
use Rattle.cache_machine.specs.Rows.{Row, map_of}
use Rattle.cache_machine.specs.JobLooks.{looked_by_job, answer_by_job, looks_of, path_at, answer_at}
use Rattle.cache_machine.specs.RowGrowth.{RowsGrow}
use Rattle.cache_machine.specs.WorkerRows.{IsAnswered}
use Rattle.cache_machine.proofs.RowLemmas.{extends}

-- ## Lists

pub get_append : {A : Type 0} (xs ys : List A) (k : ℕ) (x : A) → slice_get xs k ≡ Some x → slice_get (xs ++ ys) k ≡ Some x
get_append [] ys k x h = cc
get_append (y ∷ xs) ys zero x h = h
get_append (y ∷ xs) ys (suc k) x h = get_append xs ys k x h

all_append : {A : Type 0} (P : A → Type 0) (xs ys : List A) → AllByRecursion P xs → AllByRecursion P ys → AllByRecursion P (xs ++ ys)
all_append P [] ys h k = k
all_append P (x ∷ xs) ys h k = (h.0, all_append P xs ys h.1 k)

all_last : {A : Type 0} (P : A → Type 0) (xs : List A) (x : A) → AllByRecursion P (xs ++ x ∷ []) → P x
all_last P [] x h = h.0
all_last P (y ∷ xs) x h = all_last P xs x h.1

all_mono : {A : Type 0} (P Q : A → Type 0) → ((x : A) → P x → Q x) → (xs : List A) → AllByRecursion P xs → AllByRecursion Q xs
all_mono P Q each [] h = tt
all_mono P Q each (x ∷ xs) h = (each x h.0, all_mono P Q each xs h.1)

-- what stands at the length of the first list begins the second
rest_of : {A : Type 0} (xs rest : List A) (x : A) → slice_get (xs ++ rest) (length xs) ≡ Some x → (more : List A) × (rest ≡ x ∷ more)
rest_of [] [] x h = cc
rest_of [] (y ∷ rest) x h = (rest, cc)
rest_of (y ∷ xs) rest x h = rest_of xs rest x h

get_last : {A : Type 0} (xs : List A) (x : A) → slice_get (xs ++ x ∷ []) (length xs) ≡ Some x
get_last [] x = refl
get_last (y ∷ xs) x = get_last xs x

no_rest : {A : Type 0} (xs rest : List A) → slice_get (xs ++ rest) (length xs) ≡ None → rest ≡ []
no_rest [] [] h = refl
no_rest [] (y ∷ rest) h = cc
no_rest (y ∷ xs) rest h = no_rest xs rest h

-- ## What commands look at

module _ (jobs : List Job) (settings : Settings) where
  job_looks : (files more : FileMap (List ℕ)) (job : Option Job) → Extends (List ℕ) files more → Begins (looked_by_job settings files job) (looked_by_job settings more job)
  unfolding looked
  job_looks files more None h = refl
  job_looks files more (Some job) h = looked_grows (List ℕ) lines files more settings job h

  pub looks_longer : (rows more : List Row) (n : ℕ) → RowsGrow rows more → Longer (looks_of jobs settings rows n) (looks_of jobs settings more n)
  looks_longer rows more n grow =
      begins_longer (looks_of jobs settings rows n) (looks_of jobs settings more n) (job_looks (map_of rows) (map_of more) (slice_get jobs n) (extends rows more grow))

  pub path_stays : (rows more : List Row) (n k : ℕ) (path : List ℕ) → RowsGrow rows more → path_at jobs settings rows n k ≡ Some path → path_at jobs settings more n k ≡ Some path
  path_stays rows more n k path grow h =
      let longer = looks_longer rows more n grow in
      subst (λ z. slice_get z k ≡ Some path) (sym longer.1) (get_append (looks_of jobs settings rows n) longer.0 k path h)

  job_end : (files more : FileMap (List ℕ)) (job : Option Job) (end : UnitEnd) → Extends (List ℕ) files more → answer_by_job settings files job ≡ Known end →
      answer_by_job settings more job ≡ Known end
  unfolding answer
  job_end files more None end h k = cc
  job_end files more (Some job) end h k = (answer_stays (List ℕ) lines files more settings job end h k).0

  pub end_stays : (rows more : List Row) (n : ℕ) (end : UnitEnd) → RowsGrow rows more → answer_at jobs settings rows n ≡ Known end → answer_at jobs settings more n ≡ Known end
  end_stays rows more n end grow h = job_end (map_of rows) (map_of more) (slice_get jobs n) end (extends rows more grow) h

  there_stays : (files more : FileMap (List ℕ)) → Extends (List ℕ) files more → (path : List ℕ) (content : Option (Content (List ℕ))) → files path ≡ content →
      IsTrue (is_some content) → IsTrue (is_some (more path))
  there_stays files more h path None e k = cc
  there_stays files more h path (Some content) e k = subst (λ z. IsTrue (is_some z)) (sym (h path content e)) refl

  pub answered_stays : (rows more : List Row) (n k : ℕ) → RowsGrow rows more → IsAnswered jobs settings rows n k → IsAnswered jobs settings more n k
  answered_stays rows more n k grow h = record {
    paths = h.paths;
    number = h.number;
    begin = longer_begins h.paths (looks_of jobs settings more n)
        (longer_trans h.paths (looks_of jobs settings rows n) (looks_of jobs settings more n) (begins_longer h.paths (looks_of jobs settings rows n) h.begin) (looks_longer rows more n grow));
    done = all_mono (λ path. IsTrue (is_some (map_of rows path))) (λ path. IsTrue (is_some (map_of more path)))
        (λ path there. there_stays (map_of rows) (map_of more) (extends rows more grow) path (map_of rows path) refl there) h.paths h.done;
  }

  -- one look more is answered
  pub answered_more : (rows : List Row) (n k : ℕ) (path : List ℕ) → IsAnswered jobs settings rows n k → path_at jobs settings rows n k ≡ Some path →
      IsTrue (is_some (map_of rows path)) → IsAnswered jobs settings rows n (k + 1)
  answered_more rows n k path h at there =
      let longer = begins_longer h.paths (looks_of jobs settings rows n) h.begin in
      let found : slice_get (h.paths ++ longer.0) (length h.paths) ≡ Some path = ap (λ z. slice_get z (length h.paths)) (sym longer.1) ∙ ap (λ z. slice_get (looks_of jobs settings rows n) z) h.number ∙ at in
      let rest = rest_of h.paths longer.0 path found in
      record {
        paths = h.paths ++ path ∷ [];
        number = length-append h.paths (path ∷ []) ∙ ap (λ z. z + 1) h.number;
        begin = longer_begins (h.paths ++ path ∷ []) (looks_of jobs settings rows n)
            (rest.0, longer.1 ∙ ap (λ z. h.paths ++ z) rest.1 ∙ sym (append_assoc h.paths (path ∷ []) rest.0));
        done = all_append (λ path. IsTrue (is_some (map_of rows path))) h.paths (path ∷ []) h.done (there, tt);
      }

  -- where there is no further look, the answer is an end
  known_by : (files : FileMap (List ℕ)) (job : Job) → AllByRecursion (λ path. IsTrue (is_some (files path))) (looked files settings job) →
      (a : Answer) → answer files settings job ≡ a → (end : UnitEnd) × (answer files settings job ≡ Known end)
  unfolding answer looked
  known_by files job there (Known end) e = (end, e)
  known_by files job there (Unread path) e =
      let needed = needs_last (List ℕ) lines files settings job path e in
      let last : IsTrue (is_some (files path)) = all_last (λ path. IsTrue (is_some (files path))) needed.1.0 path (subst (λ z. AllByRecursion (λ path. IsTrue (is_some (files path))) z) needed.1.1 there) in
      let no : IsTrue (is_some {T = Content (List ℕ)} None) = subst (λ z. IsTrue (is_some z)) needed.0 last in cc

  pub end_known : (rows : List Row) (n k : ℕ) (job : Job) → slice_get jobs n ≡ Some job → IsAnswered jobs settings rows n k → path_at jobs settings rows n k ≡ None →
      (end : UnitEnd) × (answer_at jobs settings rows n ≡ Known end)
  end_known rows n k job at h none =
      let longer = begins_longer h.paths (looks_of jobs settings rows n) h.begin in
      let nothing : longer.0 ≡ [] = no_rest h.paths longer.0 (ap (λ z. slice_get z (length h.paths)) (sym longer.1) ∙ ap (λ z. slice_get (looks_of jobs settings rows n) z) h.number ∙ none) in
      let all : looks_of jobs settings rows n ≡ h.paths = longer.1 ∙ ap (λ z. h.paths ++ z) nothing ∙ append-nil h.paths in
      let there : AllByRecursion (λ path. IsTrue (is_some (map_of rows path))) (looks_of jobs settings rows n) = subst (λ z. AllByRecursion (λ path. IsTrue (is_some (map_of rows path))) z) (sym all) h.done in
      let by_job : AllByRecursion (λ path. IsTrue (is_some (map_of rows path))) (looked (map_of rows) settings job) =
      subst (λ z. AllByRecursion (λ path. IsTrue (is_some (map_of rows path))) (looked_by_job settings (map_of rows) z)) at there in
      let known = known_by (map_of rows) job by_job (answer (map_of rows) settings job) refl in
      (known.0, ap (λ z. answer_by_job settings (map_of rows) z) at ∙ known.1)

  -- where the answer needs a path, it is the last that is looked at, and behind those that were answered
  needed_later : (files : FileMap (List ℕ)) (paths rest before : List (List ℕ)) (path : List ℕ) → paths ++ rest ≡ before ++ path ∷ [] →
      AllByRecursion (λ path. IsTrue (is_some (files path))) paths → files path ≡ None → length paths ≤ length before
  needed_later files paths [] before path e there none =
      let same : paths ≡ before ++ path ∷ [] = sym (append-nil paths) ∙ e in
      let last : IsTrue (is_some (files path)) = all_last (λ path. IsTrue (is_some (files path))) before path (subst (λ z. AllByRecursion (λ path. IsTrue (is_some (files path))) z) same there) in
      let no : IsTrue (is_some {T = Content (List ℕ)} None) = subst (λ z. IsTrue (is_some z)) none last in cc
  needed_later files paths (r ∷ rest) before path e there none =
      let a = length-append paths (r ∷ rest) in
      let b = length-append before (path ∷ []) in
      let c : length (paths ++ r ∷ rest) ≡ length (before ++ path ∷ []) = ap length e in omega arith

  job_needs : (files : FileMap (List ℕ)) (job : Job) (path : List ℕ) → answer files settings job ≡ Unread path →
      (files path ≡ None) × ((before : List (List ℕ)) × (looked files settings job ≡ before ++ path ∷ []))
  unfolding answer looked
  job_needs files job path h = needs_last (List ℕ) lines files settings job path h

  pub needed_to_come : (rows : List Row) (n k : ℕ) (job : Job) (path : List ℕ) → slice_get jobs n ≡ Some job → IsAnswered jobs settings rows n k → answer_at jobs settings rows n ≡ Unread path →
      (later : ℕ) × ((k ≤ later) × ((path_at jobs settings rows n later ≡ Some path) × (map_of rows path ≡ None)))
  needed_to_come rows n k job path at h needs =
      let last = job_needs (map_of rows) job path (sym (ap (λ z. answer_by_job settings (map_of rows) z) at) ∙ needs) in
      let before = last.1.0 in
      let looks : looks_of jobs settings rows n ≡ before ++ path ∷ [] = ap (λ z. looked_by_job settings (map_of rows) z) at ∙ last.1.1 in
      let longer = begins_longer h.paths (looks_of jobs settings rows n) h.begin in
      let behind = needed_later (map_of rows) h.paths longer.0 before path (sym longer.1 ∙ looks) h.done last.0 in (
        length before,
        (
          subst (λ z. z ≤ length before) h.number behind,
          (ap (λ z. slice_get z (length before)) looks ∙ get_last before path, last.0),
        ),
      )
