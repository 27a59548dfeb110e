-- The place in the chain of folders that a found file has.
use Rattle.std.proofs.Common.{◌≡◌, ℕ, zero, suc, ◌+◌, ◌<◌, ◌≤◌, Bool, true, false, if◌then◌else◌, List, [], ◌∷◌, ◌++◌, map, take, drop, length, slice_get, refl, ap, sym, ◌∙◌, subst, arith, length-append, length-drop}
use Rattle.std.proofs.lemmas.List.{length-map}
use Rattle.std.proofs.lemmas.Option.{slice_get_within}
use Rattle.std.specs.Prelude.{Some, None}
use Rattle.std.specs.List.{AllByRecursion}
use Rattle.scan_model.specs.declared.token.Line.{Line}
use Rattle.scan_model.specs.declared.command.Form.{Form}
use Rattle.scan_model.specs.declared.command.SearchList.{SearchList}
use Rattle.scan_model.specs.declared.unit_end.Place.{Place}
use Rattle.scan_model.specs.HeaderName.{Named}
use Rattle.scan_model.specs.Candidates.{candidates, angled_folders, chain, folders, place}
use Rattle.scan_model.specs.Paths.{is_absolute, normal, join}
use Rattle.scan_model.specs.declared.command.Command.{Command}
use Rattle.scan_model.specs.declared.command.Settings.{Settings}
use Rattle.scan_model.specs.declared.command.Form.TheVariants.{Quoted, Angled, Next}
use Rattle.scan_model.specs.Files.{FileMap, Present, Absent, At, found_at, and_later, find, looked_at}
use Rattle.scan_model.specs.State.{Setup}
use Rattle.scan_model.specs.Effect.{Enters}
use Rattle.scan_model.specs.Search.{searched, place_searched}
use Rattle.unit_laws.specs.Reduction.{Given}
use Rattle.unit_laws.proofs.ChainLemmas.{found_place}
use Rattle.unit_steps.specs.Searches.{Aim, Included, name_search, on_absent, on_present, on_given}
use Rattle.unit_steps.specs.Moments.{Moment, core_at}
use Rattle.scan_model.specs.Fits.{CommandFits, SettingsFit}
use Rattle.unit_steps.specs.Stands.{AreKept, Agree, AreAbsent, Acts, Stands, IsCandidate}
use Rattle.unit_laws.specs.KnownAnswers.{asked}
use Rattle.unit_steps.proofs.Reaching.{all_parts, all_one, drop_at, drop_beyond}
use Rattle.unit_steps.proofs.Steps.{same_effect}
use Rattle.unit_steps.specs.UnitView.{Asks, FitsPhase}
use Rattle.unit_steps.proofs.Looks.{asks_fits}
use Rattle.unit_steps.proofs.Answers.{answer_acts, search_over, absent_goes_on, include_enters}

-- ## Those that were absent

next_taken : {X : Type 0} (all : List X) (k : ℕ) (p : X) → slice_get all k ≡ Some p → take (suc k) all ≡ take k all ++ p ∷ []
next_taken [] k p h = absurd (cc)
next_taken (x ∷ xs) zero p h = let same : x ≡ p = cc in ap (λ z. z ∷ []) same
next_taken (x ∷ xs) (suc k) p h = ap (x ∷◌) (next_taken xs k p h)

-- none was asked
pub absent_first : (answers : List (List ℕ × Given)) (all : List (List ℕ)) → AreAbsent answers (take 0 all)
absent_first answers all files kept agree = tt

-- one more answer is Absent
pub absent_next : (answers : List (List ℕ × Given)) (all : List (List ℕ)) (k : ℕ) (p : List ℕ) → slice_get all k ≡ Some p →
    AreAbsent answers (take k all) → AreAbsent (answers ++ (p, Absent) ∷ []) (take (k + 1) all)
absent_next answers all k p there absent files kept agree =
    let parts = all_parts (λ a. files a.0 ≡ Some a.1) answers ((p, Absent) ∷ []) agree in
    let one : suc k ≡ k + 1 = omega arith in
    subst (λ z. AllByRecursion (λ path. files path ≡ Some Absent) z) (sym (next_taken all k p there) ∙ ap (λ n. take n all) one)
    (all_one (λ path. files path ≡ Some Absent) (take k all) p (absent files kept parts.0) parts.1.0)

-- with further answers they stay so
pub absent_stays : (answers more : List (List ℕ × Given)) (paths : List (List ℕ)) → AreAbsent answers paths → AreAbsent (answers ++ more) paths
absent_stays answers more paths absent files kept agree = absent files kept (all_parts (λ a. files a.0 ≡ Some a.1) answers more agree).0

-- ## The one that is there

found_there : (files : FileMap (List Line)) (all : List (List ℕ)) (k : ℕ) (p : List ℕ) (text : List Line) → AllByRecursion (λ path. files path ≡ Some Absent) (take k all) →
    slice_get all k ≡ Some p → files p ≡ Some (Present text) → (find files all ≡ At p (Present text)) × (length (looked_at files all) ≡ suc k)
unfolding find looked_at
found_there files [] k p text absent there given = absurd (cc)
found_there files (x ∷ xs) zero p text absent there given =
    let same : p ≡ x = cc in
    let here = ap files (sym same) ∙ given in (
      ap (λ o. found_at x o (find files xs)) here ∙ ap (λ z. At z (Present text)) (sym same),
      ap (λ o. length (x ∷ and_later o (looked_at files xs))) here,
    )
found_there files (x ∷ xs) (suc k) p text absent there given =
    let later = found_there files xs k p text absent.1 there given in (
      ap (λ o. found_at x o (find files xs)) absent.0 ∙ later.0,
      ap (λ o. length (x ∷ and_later o (looked_at files xs))) absent.0 ∙ ap (λ n. suc n) later.1,
    )

-- its place is the one that the candidate of its number gives
pub found_has_place : (setup : Setup) (answers : List (List ℕ × Given)) (n : Named) (from : List ℕ) (k : ℕ) (p : List ℕ) (text : List Line) →
    IsCandidate setup answers n from k p → (files : FileMap (List Line)) → AreKept files → Agree files (answers ++ (p, Present text) ∷ []) →
    place_searched setup n from p ≡ place setup.command.search n.form n.name k
found_has_place setup answers n from k p text candidate files kept agree =
    let parts = all_parts (λ a. files a.0 ≡ Some a.1) answers ((p, Present text) ∷ []) agree in
    let found = found_there files (searched setup n from) k p text (candidate.absent files kept parts.0) candidate.there parts.1.0 in
    let one : suc k ≡ k + 1 = omega arith in
    found_place (List Line) files setup.command.search setup.settings.program n.form from n.name p (Present text) k found.0 (found.1 ∙ one)

-- so it is entered with that place, where it isn't in the once set
pub include_enters_at : (setup : Setup) (m : Moment) (answers : List (List ℕ × Given)) (fault_place : Place) (n : Named) (from : List ℕ) (k : ℕ) (p : List ℕ) (text : List Line) →
    IsCandidate setup answers n from k p → m.once p ≡ false →
    Acts setup m (answers ++ (p, Present text) ∷ []) (λ files c. on_present files setup (Included (place_searched setup n from)) fault_place p text c) →
    Acts setup m (answers ++ (p, Present text) ∷ []) (λ files c. Enters fault_place p (place setup.command.search n.form n.name k) text c)
include_enters_at setup m answers fault_place n from k p text candidate once acts =
    let told = answers ++ (p, Present text) ∷ [] in
    let c = core_at m (asked told) in
    same_effect setup m.top m.frames m.builder told
    (λ files. Enters fault_place p (place_searched setup n from p) text c) (λ files. Enters fault_place p (place setup.command.search n.form n.name k) text c)
    (λ files kept agree. ap (λ z. Enters fault_place p z text c) (found_has_place setup answers n from k p text candidate files kept agree))
    (include_enters setup m told (place_searched setup n from) fault_place p text acts once)

-- ## A search for a name, candidate by candidate

module _ (setup : Setup) (n : Named) (from : List ℕ) where
  pub candidate_first : (answers : List (List ℕ × Given)) (p : List ℕ) → slice_get (searched setup n from) 0 ≡ Some p → IsCandidate setup answers n from 0 p
  candidate_first answers p there = record { there = there; absent = absent_first answers (searched setup n from) }

  pub candidate_next : (answers : List (List ℕ × Given)) (k : ℕ) (p q : List ℕ) → IsCandidate setup answers n from k p → slice_get (searched setup n from) (k + 1) ≡ Some q →
      IsCandidate setup (answers ++ (p, Absent) ∷ []) n from (k + 1) q
  candidate_next answers k p q candidate there = record { there = there; absent = absent_next answers (searched setup n from) k p candidate.there candidate.absent }

  module _ (m : Moment) (answers : List (List ℕ × Given)) (aim : Aim) (fault_place : Place) (k : ℕ) (looking : m.search ≡ Some (name_search aim setup fault_place n from k)) (stands : Stands setup m answers) where
    -- the candidate is the first path that is left
    pub candidate_paths : (p : List ℕ) → IsCandidate setup answers n from k p → (name_search aim setup fault_place n from k).paths ≡ p ∷ drop (k + 1) (searched setup n from)
    candidate_paths p candidate = drop_at (searched setup n from) k p candidate.there

    -- it is asked
    pub candidate_asked : (p : List ℕ) → IsCandidate setup answers n from k p → FitsPhase setup.settings setup.command answers (Asks p)
    candidate_asked p candidate =
        asks_fits setup m answers (name_search aim setup fault_place n from k) p (drop (k + 1) (searched setup n from)) looking (candidate_paths p candidate) stands

    -- it has an answer
    pub candidate_answered : (p : List ℕ) (content : Given) → IsCandidate setup answers n from k p →
        Acts setup m (answers ++ (p, content) ∷ []) (λ files c. on_given files setup aim fault_place p (drop (k + 1) (searched setup n from)) content c)
    candidate_answered p content candidate =
        answer_acts setup m answers (name_search aim setup fault_place n from k) p (drop (k + 1) (searched setup n from)) content looking (candidate_paths p candidate) stands

    -- there is none of this number
    pub candidates_over : slice_get (searched setup n from) k ≡ None → Acts setup m answers (λ files c. on_absent files setup aim fault_place c)
    candidates_over none = search_over setup m answers (name_search aim setup fault_place n from k) looking (drop_beyond (searched setup n from) k none) stands

  -- an absent one leaves those behind it
  pub candidate_absent : (m : Moment) (answers : List (List ℕ × Given)) (aim : Aim) (fault_place : Place) (k : ℕ) (p : List ℕ) →
      Acts setup m answers (λ files c. on_given files setup aim fault_place p (drop (k + 1) (searched setup n from)) Absent c) →
      Stands setup (record m { search = Some (name_search aim setup fault_place n from (k + 1)) }) answers
  candidate_absent m answers aim fault_place k p acts = absent_goes_on setup m answers aim fault_place p (drop (k + 1) (searched setup n from)) acts

-- ## How many candidates and folders there are

-- as many for each folder that a name is looked for from
pub as_many_candidates : (list : SearchList) (program : List (List ℕ)) (form : Form) (from other name : List ℕ) →
    length (candidates list program form from name) ≡ length (candidates list program form other name)
unfolding candidates
as_many_candidates list program form from other name = by_kind (is_absolute name) where
  as_many : (form : Form) → length (folders list program form from) ≡ length (folders list program form other)
  as_many Angled = refl
  as_many Quoted = refl
  as_many (Next n) = refl

  by_kind : (b : Bool) → length (if b then normal name ∷ [] else map (λ folder. join folder name) (folders list program form from))
      ≡ length (if b then normal name ∷ [] else map (λ folder. join folder name) (folders list program form other))
  by_kind true = refl
  by_kind false = length-map (folders list program form from) (λ folder. join folder name) ∙ as_many form ∙ sym (length-map (folders list program form other) (λ folder. join folder name))

pub candidate_there : (list : SearchList) (program : List (List ℕ)) (form : Form) (from name : List ℕ) (k : ℕ) (p : List ℕ) →
    slice_get (candidates list program form from name) k ≡ Some p → (other : List ℕ) → k < length (candidates list program form other name)
candidate_there list program form from name k p there other =
    subst (λ n. k < n) (as_many_candidates list program form from other name) (slice_get_within (candidates list program form from name) k p there)

-- one more than the folders of the chain at most
pub few_candidates : (list : SearchList) (program : List (List ℕ)) (form : Form) (from name : List ℕ) →
    length (candidates list program form from name) ≤ length (chain list program) + 1
unfolding candidates
few_candidates list program form from name = by_kind (is_absolute name) where
  few : (form : Form) → length (folders list program form from) ≤ length (chain list program) + 1
  few Angled = let split = length-append list.quote (angled_folders list program) in omega (arith, split)
  few Quoted = omega arith
  few (Next n) = let less = length-drop n (chain list program) in omega (arith, less)

  by_kind : (b : Bool) → length (if b then normal name ∷ [] else map (λ folder. join folder name) (folders list program form from)) ≤ length (chain list program) + 1
  by_kind true = omega arith
  by_kind false = let same = length-map (folders list program form from) (λ folder. join folder name) in omega (arith, same, few form)

chain_sum : (chain angled three two q a s p after settings forced : ℕ) → chain ≡ q + angled → angled ≡ three + after → three ≡ two + p → two ≡ a + s →
    settings + forced + q + a + s + after ≤ 33554432 → p ≤ 33554432 → chain ≤ 67108864
chain_sum chain angled three two q a s p after settings forced h k l m n o = omega (arith, h, k, l, m, n, o)

-- the folders of a command and settings that fit
pub few_folders : (command : Command) (settings : Settings) → CommandFits command → SettingsFit settings → length (chain command.search settings.program) ≤ 67108864
few_folders command settings fits fit =
    let list = command.search in
    let program = settings.program in
    let a : length (chain list program) ≡ length list.quote + length (angled_folders list program) = length-append list.quote (angled_folders list program) in
    let b : length (angled_folders list program) ≡ length (list.angled ++ list.system ++ program) + length list.after = length-append (list.angled ++ list.system ++ program) list.after in
    let c : length (list.angled ++ list.system ++ program) ≡ length (list.angled ++ list.system) + length program = length-append (list.angled ++ list.system) program in
    let d : length (list.angled ++ list.system) ≡ length list.angled + length list.system = length-append list.angled list.system in
    chain_sum _ _ _ _ (length list.quote) (length list.angled) (length list.system) (length program) (length list.after) (length command.settings) (length command.forced) a b c d fits.number fit

-- so the number of a place is a u32
pub chain_fits : (command : Command) (settings : Settings) → CommandFits command → SettingsFit settings → length (chain command.search settings.program) < 4294967295
chain_fits command settings fits fit = omega (arith, few_folders command settings fits fit)
