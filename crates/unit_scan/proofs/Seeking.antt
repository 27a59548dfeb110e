-- A search goes on to its next candidate.
use Rattle.std.proofs.Common.{◌≡◌, ℕ, ◌+◌, ◌-◌, ◌<◌, Bool, false, List, [], ◌∷◌, ◌++◌, reverse, drop, length, slice_get, refl, ap, sym, ◌∙◌, subst, arith, length-append, vec_len, vec_capacity}
use Rattle.std.specs.Prelude.{Some, None, IsTrue, is_some, IfOk, OnOk}
use Rattle.std.specs.declared.result.Result.{Result}
use Rattle.std.specs.declared.result.Result.TheVariants.{Ok, Err}
use Rattle.scan_model.specs.declared.memory.NoMemory.{NoMemory}
use Rattle.std.specs.Option.{option_map}
use Rattle.std.specs.Global.{Vec}
use Rattle.std.proofs.lemmas.List.{reverse-append}
use Rattle.scan_model.specs.declared.unit_end.FaultKind.TheVariants as FaultIs
use Rattle.scan_model.specs.declared.token.Tok.{Tok}
use Rattle.scan_model.specs.HeaderName.{Term, terms}
use Rattle.scan_model.specs.Search.{searched, place_searched}
use Rattle.scan_model.specs.State.{Setup}
use Rattle.scan_model.specs.Conditionals.{Opening, opening_of}
use Rattle.if_values.specs.Known.{has_count}
use Rattle.plain_lines.specs.Conditions.{test_count}
use Rattle.unit_steps.specs.Stack.{current}
use Rattle.unit_steps.specs.Searches.{Search, on_absent, with_terms}
use Rattle.unit_steps.specs.Stands.{Acts, Stands, IsCandidate}
use Rattle.unit_steps.specs.Work.{rank, lines_left, not_begun}
use Rattle.unit_steps.proofs.Reaching.{drop_at}
use Rattle.unit_steps.proofs.Places.{candidates_over}
use Rattle.unit_steps.proofs.Answers.{include_missing}
use Rattle.unit_steps.proofs.Ranks.{candidates_fall}
use Rattle.unit_scan.specs.declared.parts.Answered.{Answered}
use Rattle.unit_scan.specs.declared.parts.Run.{Run}
use Rattle.unit_scan.specs.declared.stage.FirstFile.{FirstFile}
use Rattle.unit_scan.specs.declared.stage.Testing.{Testing}
use Rattle.unit_scan.specs.declared.stage.Name.{Name}
use Rattle.unit_scan.specs.declared.stage.Purpose.{Purpose}
use Rattle.unit_scan.specs.declared.stage.Purpose.TheVariants as PurposeIs
use Rattle.unit_scan.specs.declared.stage.Lookup.{Lookup}
use Rattle.unit_scan.specs.declared.stage.Lookup.TheVariants.{First, Named as ByName}
use Rattle.unit_scan.specs.declared.stage.Blame.TheVariants as BlameIs
use Rattle.unit_scan.specs.declared.stage.Stage.{Stage}
use Rattle.unit_scan.specs.declared.stage.Stage.TheVariants as StageIs
use Rattle.unit_scan.specs.Parts.{Sound, frames_of, present, told, top_of, moment_of, work_of}
use Rattle.unit_scan.specs.Lookups.{IsTesting, IsAsked, named, aim_of, opening, first_path, paths_after, so_far, terms_from}
use Rattle.unit_scan.specs.Standing.{Seeking, Conditional, Follows, IsAnswered, stopped, blamed, search_now}
use Rattle.unit_scan.proofs.Same.{told_same, frames_again, sound_again, search_again, stands_again, lookup_again}
use Rattle.unit_scan.proofs.Falling.{rank_falls, order_falls}

-- ## A path waits

-- the next candidate, which has these after it
module _ (setup : Setup) (run : Run) (lookup : Lookup) (path : List ℕ) (h : Seeking setup run lookup) (asked : IsAsked setup (told run) lookup path) (paths : (search_now setup run lookup).paths ≡ path ∷ paths_after setup lookup) where
  pub some_candidate : 0 < run.candidates
  some_candidate = let all = h.candidates ∙ ap length paths in omega (arith, all)

  pub asks : (log : Vec Answered) → log.items ≡ run.log.items → vec_len log < vec_capacity log →
      Follows setup run 4 (record run { log = log; candidates = run.candidates - 1 }) (StageIs.Asks lookup path)
  asks log same room =
      let k = run.candidates - 1 in
      let run' : Run = record run { log = log; candidates = k } in
      let all = h.candidates ∙ ap length paths in
      let small = h.sound.candidates in
      let less : rank (work_of setup run') < rank (work_of setup run) =
      candidates_fall (work_of setup run') (work_of setup run) refl (ap (λ z. lines_left z + not_begun setup (top_of setup.command run.left)) (frames_again setup run log k same)) refl (omega (arith, all)) in
      record {
        holds = record {
          sound = sound_again setup run log k same h.sound (omega (arith, small));
          sought = lookup_again setup run log k same lookup h.sought;
          asked = subst (λ z. IsAsked setup z lookup path) (sym (told_same setup run log k same)) asked;
          candidates = let e : k ≡ length (paths_after setup lookup) = omega (arith, all) in e;
          paths = ap (λ (s : Search). s.paths) (search_again setup run log k same lookup) ∙ paths;
          stands = subst (λ s. Stands setup (moment_of setup run' (Some s)) (told run')) (sym (search_again setup run log k same lookup))
              (stands_again setup run log k same (Some (search_now setup run lookup)) h.stands);
          room = room;
        };
        less = rank_falls setup run run' 4 0 less h.sound.depth (omega arith);
        proceeds = less;
      }

-- a first file
module _ (setup : Setup) (run : Run) (first : FirstFile) (h : Seeking setup run (First first)) where
  pub first_some : 0 < run.candidates
  first_some = some_candidate setup run (First first) (first_path setup first) h refl refl

  pub first_asks : (path : List ℕ) → path ≡ first_path setup first → (log : Vec Answered) → log.items ≡ run.log.items → vec_len log < vec_capacity log →
      Follows setup run 4 (record run { log = log; candidates = run.candidates - 1 }) (StageIs.Asks (First first) path)
  first_asks path is log same room =
      asks setup run (First first) path h is (ap (λ z. z ∷ []) (sym is)) log same room

-- a name
module _ (setup : Setup) (run : Run) (n : Name) (purpose : Purpose) (h : Seeking setup run (ByName n purpose)) where
  abbrev all_paths : List (List ℕ)
  all_paths = searched setup (named n) n.from

  -- this candidate is there
  module _ (path : List ℕ) (there : slice_get all_paths n.next ≡ Some path) where
    candidate_is : IsCandidate setup (told run) (named n) n.from n.next path
    candidate_is = record { there = there; absent = h.absent }

    pub name_some : 0 < run.candidates
    name_some = some_candidate setup run (ByName n purpose) path h candidate_is (drop_at all_paths n.next path there)

    pub name_asks : (log : Vec Answered) → log.items ≡ run.log.items → vec_len log < vec_capacity log →
        Follows setup run 4 (record run { log = log; candidates = run.candidates - 1 }) (StageIs.Asks (ByName n purpose) path)
    name_asks log same room = asks setup run (ByName n purpose) path h candidate_is (drop_at all_paths n.next path there) log same room

  -- or none is left
  module _ (none : slice_get all_paths n.next ≡ None) where
    over : Acts setup (moment_of setup run None) (told run)
        (λ files c. on_absent files setup (search_now setup run (ByName n purpose)).aim (search_now setup run (ByName n purpose)).place c)
    over = candidates_over setup (named n) n.from (moment_of setup run (Some (search_now setup run (ByName n purpose)))) (told run)
        (search_now setup run (ByName n purpose)).aim (search_now setup run (ByName n purpose)).place n.next refl h.stands none

    pub none_ends : purpose ≡ PurposeIs.Included →
        Follows setup run 4 run (StageIs.Over (stopped FaultIs.IncludeNotFound (blamed setup run (BlameIs.Here n.line))))
    none_ends is = record {
      holds = include_missing setup (moment_of setup run None) (told run) (place_searched setup (named n) n.from) (blamed setup run (BlameIs.Here n.line))
          (subst (λ p. Acts setup (moment_of setup run None) (told run) (λ files c. on_absent files setup (aim_of setup (frames_of (told run) run.stack.items) (present (told run) run.stack.items) n p) (blamed setup run (BlameIs.Here n.line)) c)) is over);
      less = order_falls setup run 0 4 (omega arith);
      proceeds = tt;
    }

-- ## A test has its answer

first_more : (items : List Bool) (b : Bool) → reverse (items ++ b ∷ []) ≡ b ∷ reverse items
first_more items b = reverse-append items (b ∷ [])

module _ (setup : Setup) (run : Run) (t t' : Testing) (there : Bool) (after : IsAnswered t there t') where
  pub testing_after : IsTesting run t 1 → IsTesting run t' 0
  testing_after h = record {
    taken = h.taken;
    within = let e = after.next in let f = ap length after.toks in let w = h.within in omega (arith, e, f, w);
    formed = subst (λ ts. IsTrue (is_some (terms (drop t'.next ts)))) (sym after.toks) (subst (λ k. IsTrue (is_some (terms (drop k t.toks)))) (sym after.next) h.formed);
    entries =
        let count : length t'.so_far.items ≡ length t.so_far.items + 1 = ap length after.so_far ∙ length-append t.so_far.items (there ∷ []) in
        let left : has_count (terms_from t'.toks t'.next) ≡ has_count (terms_from t.toks t.next) =
        ap (λ ts. has_count (terms_from ts t'.next)) after.toks ∙ ap (λ k. has_count (terms_from t.toks k)) after.next in
        let sum : length t.so_far.items + 1 + has_count (terms_from t.toks t.next) ≡ length t'.so_far.items + 0 + has_count (terms_from t'.toks t'.next) = omega (arith, count, left) in
        ap (λ ts. option_map has_count (terms ts)) after.toks ∙ h.entries ∙ ap (λ n. Some n) sum;
    tests = h.tests ∙ ap (λ ts. test_count (terms_from ts t.next)) (sym after.toks) ∙ ap (λ k. test_count (terms_from t'.toks k)) (sym after.next);
  }

  terms_after : terms_from t.toks t.next ≡ terms_from t'.toks t'.next
  terms_after = ap (λ ts. terms_from ts t.next) (sym after.toks) ∙ ap (λ k. terms_from t'.toks k) (sym after.next)

  so_far_after : there ∷ so_far t ≡ so_far t'
  so_far_after = sym (ap reverse after.so_far ∙ first_more t.so_far.items there)

  opening_after : opening (frames_of (told run) run.stack.items) t ≡ opening (frames_of (told run) run.stack.items) t'
  opening_after = ap (λ b. opening_of b (current (frames_of (told run) run.stack.items)).groups) (sym after.is_elif)

  abbrev Left : Opening → List Bool → List Term → List Tok → Type 0
  Left o has ts toks = Acts setup (moment_of setup run None) (told run) (λ files c. with_terms files setup (present (told run) run.stack.items) o has ts toks c)

  -- the terms after it are left
  pub test_goes_on : Sound setup run → IsTesting run t 1 → Left (opening (frames_of (told run) run.stack.items) t) (there ∷ so_far t) (terms_from t.toks t.next) t.toks → Conditional setup run t'
  test_goes_on sound h acts = record {
    sound = sound;
    testing = testing_after h;
    acts =
        let fs = frames_of (told run) run.stack.items in
        let a = subst (λ o. Left o (there ∷ so_far t) (terms_from t.toks t.next) t.toks) opening_after acts in
        let b = subst (λ has. Left (opening fs t') has (terms_from t.toks t.next) t.toks) so_far_after a in
        let c = subst (λ ts. Left (opening fs t') (so_far t') ts t.toks) terms_after b in
        subst (λ toks. Left (opening fs t') (so_far t') (terms_from t'.toks t'.next) toks) (sym after.toks) c;
  }

-- no file is there for it
pub none_tests : (setup : Setup) (run : Run) (n : Name) (t t' : Testing) → Seeking setup run (ByName n (PurposeIs.Tested t)) → slice_get (searched setup (named n) n.from) n.next ≡ None →
    IsAnswered t false t' → Follows setup run 4 run (StageIs.Tests t')
none_tests setup run n t t' h none after = record {
  holds = test_goes_on setup run t t' false after h.sound h.sought.0 (over setup run n (PurposeIs.Tested t) h none);
  less = order_falls setup run 3 4 (omega arith);
  proceeds = tt;
}

-- ## What the calls answer

-- a path was asked, where there was memory
module _ (setup : Setup) (run run' : Run) (lookup : Lookup) (path : List ℕ) (same : run'.log.items ≡ run.log.items) (asking : (log : Vec Answered) → log.items ≡ run.log.items → vec_len log < vec_capacity log → Follows setup run 4 (record run { log = log; candidates = run.candidates - 1 }) (StageIs.Asks lookup path)) where
  pub asked_follows : (r : Result Stage NoMemory) → IfOk r (λ stage. stage ≡ StageIs.Asks lookup path) → OnOk r (run' ≡ record run { log = run'.log; candidates = run.candidates - 1 }) →
      OnOk r (vec_len run'.log < vec_capacity run'.log) → IfOk r (λ stage. Follows setup run 4 run' stage)
  asked_follows (Ok stage) is after room =
      subst (λ s. Follows setup run 4 run' s) (sym is) (subst (λ z. Follows setup run 4 z (StageIs.Asks lookup path)) (sym after) (asking run'.log same room))
  asked_follows (Err e) is after room = tt

-- a test has its answer, where there was memory
pub answered_follows : (setup : Setup) (run run' : Run) (n : ℕ) (t : Testing) (there : Bool) → ((t' : Testing) → IsAnswered t there t' → Follows setup run n run' (StageIs.Tests t')) →
    (r : Result Stage NoMemory) → IfOk r (λ stage. (t' : Testing) × ((stage ≡ StageIs.Tests t') × IsAnswered t there t')) → IfOk r (λ stage. Follows setup run n run' stage)
answered_follows setup run run' n t there further (Ok stage) h = subst (λ s. Follows setup run n run' s) (sym h.1.0) (further h.0 h.1.1)
answered_follows setup run run' n t there further (Err e) h = tt
