-- A jump over the lines of a group that isn't taken.
use Rattle.std.proofs.Common.{◌≡◌, ℕ, zero, suc, ◌+◌, ◌-◌, ◌<◌, Bool, true, ◌≢◌, if◌then◌else◌, List, [], ◌∷◌, drop, length, refl, ap, ◌∙◌, subst, arith}
use Rattle.std.proofs.lemmas.List.{drop-drop}
use Rattle.std.specs.Prelude.{None}
use Rattle.std.specs.List.{list_all}
use Rattle.std.specs.declared.result.Result.TheVariants.{Ok}
use Rattle.std.proofs.lemmas.Bool.{and_parts}
use Rattle.scan_model.specs.declared.token.Line.{Line}
use Rattle.scan_model.specs.declared.skip.Skip.{Skip}
use Rattle.scan_model.specs.declared.skip.Skip.TheVariants.{Partner, Broken, Open}
use Rattle.scan_model.specs.Lines.{is_directive}
use Rattle.scan_model.specs.ModuleLines.{Builder, new}
use Rattle.scan_model.specs.Files.{FileMap}
use Rattle.scan_model.specs.State.{Setup, State, Reached, Going, Stopped, then_go}
use Rattle.scan_model.specs.Stream.{Piece, read_stream, take_lines}
use Rattle.scan_model.specs.Conditionals.{is_skipped}
use Rattle.scan_model.specs.Skips.{skip}
use Rattle.scan_model.specs.WholeFile.{end_run, full_lines, at_file_end}
use Rattle.scan_model.specs.Answer.{Known, answer_of, end_of, looks_of, fault_or, looked_of}
use Rattle.unit_laws.specs.Reduction.{Given, SameSent, Alike}
use Rattle.unit_laws.specs.KnownAnswers.{asked}
use Rattle.unit_laws.specs.Skipping.{line_at, unbalanced, ended, Tells}
use Rattle.unit_laws.proofs.SkipLemmas.{skip_tells}
use Rattle.unit_steps.specs.Stack.{Frame, current, within, rest_of_all, entering, closing}
use Rattle.unit_steps.specs.Jumps.{IsBehind, unbalanced_at, left_open}
use Rattle.unit_steps.specs.Laws.{SkipLeaves, JumpsStand}
use Rattle.unit_steps.specs.Moments.{Moment, core_at, with_rest}
use Rattle.unit_steps.specs.Stands.{AreDirectives, IsReached, StandsOver, Stands, StandsAtEnd}
use Rattle.unit_steps.proofs.Reaching.{go_alike, two_within}
use Rattle.unit_steps.proofs.Steps.{reached_in_file}
use Rattle.unit_steps.proofs.Entering.{same_end}
use Rattle.unit_steps.proofs.Steps.{core_in_file}
use Rattle.unit_steps.proofs.SkipRanges.{skip_behind}

-- ## Lists

all_after : {X : Type 0} (p : X → Bool) (n : ℕ) (xs : List X) → list_all p xs ≡ true → list_all p (drop n xs) ≡ true
all_after p zero xs h = h
all_after p (suc n) [] h = refl
all_after p (suc n) (x ∷ xs) h = all_after p n xs (and_parts (p x) (list_all p xs) h).1

-- ## Streams

same_reads : (setup : Setup) (stream other : List Piece) (b : Builder) → SameSent stream other → read_stream setup.command other ≡ Ok b → read_stream setup.command stream ≡ Ok b
unfolding read_stream
same_reads setup stream other b same reads = ap (λ z. take_lines z (new setup.command.output setup.command.source)) same ∙ reads

-- ## A stop

stops_unbalanced : (setup : Setup) (b : Builder) (s : State) (path : List ℕ) (line : ℕ) (looked : List (List ℕ)) (g : State → Reached) → s.core.path ≡ path → s.core.looked ≡ looked →
    read_stream setup.command s.stream ≡ Ok b → (r : Reached) → Alike r (unbalanced s line) →
    (end_of setup.command (then_go g r) ≡ Known (unbalanced_at path line)) × (looks_of setup.command (then_go g r) ≡ looked)
stops_unbalanced setup b s path line looked g at looks reads (Going r) h = absurd h
stops_unbalanced setup b s path line looked g at looks reads (Stopped t) h =
    let read = same_reads setup t.stream s.stream b h.2 reads in (
      ap (fault_or (answer_of t.cause)) read ∙ ap answer_of h.0 ∙ ap (λ z. Known (unbalanced_at z line)) at,
      ap (looked_of t.looked) read ∙ h.1 ∙ looks,
    )

-- ## The jumps

-- A file is at the top, with the lines after the place k left of these lines. Its innermost conditional isn't live.
module _ (setup : Setup) (m : Moment) (answers : List (List ℕ × Given)) (f : Frame) (fs : List Frame) (ls : List Line) (k : ℕ) (frames : m.frames ≡ f ∷ fs) (rest : f.rest ≡ drop (k + 1) ls) (skipped : is_skipped f.groups ≡ true) (looking : m.search ≡ None) (stands : Stands setup m answers) where
  tells : (files : FileMap (List Line)) (h : StandsOver files setup m (asked answers)) (told : Skip) → skip ls k setup.command.dialect ≡ told →
      Tells (List Line) (entering files setup m.top (f ∷ fs)) files setup ls k h.state told
  tells files h told is = subst (λ z. Tells (List Line) (entering files setup m.top (f ∷ fs)) files setup ls k h.state z) is
      (skip_tells (List Line) (entering files setup m.top (f ∷ fs)) files setup ls k h.state
      (ap (λ c. is_skipped c.stack) h.core ∙ ap (λ z. is_skipped (current z).groups) frames ∙ skipped))

  reached_after : (files : FileMap (List Line)) (h : StandsOver files setup m (asked answers)) →
      IsReached files setup (then_go (rest_of_all files setup m.top fs) (then_go (closing files setup fs) (full_lines (entering files setup m.top (f ∷ fs)) files setup (drop (k + 1) ls) h.state)))
  reached_after files h =
      subst (λ z. IsReached files setup (then_go (rest_of_all files setup m.top fs) (then_go (closing files setup fs) (full_lines (entering files setup m.top (f ∷ fs)) files setup z h.state)))) rest
      (reached_in_file files setup m (asked answers) f fs frames looking h)

  path_is : (s : State) → s.core ≡ core_at m (asked answers) → s.core.path ≡ f.path
  path_is s core = ap (λ c. c.path) core ∙ ap (λ z. (current z).path) frames

  -- to the next group of the same conditional, or its end
  pub jump_to_partner : (j : ℕ) → k < length ls → skip ls k setup.command.dialect ≡ Partner j → Stands setup (with_rest m f fs (drop j ls)) answers
  jump_to_partner j there is files kept agree =
      let h = stands files kept agree in
      let R = rest_of_all files setup m.top fs in
      let C = closing files setup fs in
      let told = tells files h (Partner j) is in
      let dirs = subst AreDirectives frames h.directives in
      let behind = subst (λ z. IsBehind k (length ls) z) is (skip_behind ls k setup.command.dialect there) in
      let far : (k + 1) + (j - (k + 1)) ≡ j = omega (arith, behind.0) in
      let left = all_after is_directive (j - (k + 1)) (drop (k + 1) ls) (subst (λ z. list_all is_directive z ≡ true) rest dirs.0) in
      record {
        state = told.0;
        core = told.1.0 ∙ h.core ∙ core_in_file m (asked answers) f fs (drop j ls) frames;
        reads = same_reads setup told.0.stream h.state.stream m.builder told.1.1 h.reads;
        directives = (subst (λ z. list_all is_directive z ≡ true) (drop-drop (j - (k + 1)) (k + 1) ls ∙ ap (λ n. drop n ls) far) left, dirs.1);
        reached = subst (λ z. IsReached files setup (then_go R (then_go C z))) told.2 (reached_after files h);
      }

  -- over a conditional that is broken at the place j
  pub jump_to_broken : (j : ℕ) → skip ls k setup.command.dialect ≡ Broken j → StandsAtEnd setup (unbalanced_at f.path (line_at ls j)) answers
  jump_to_broken j is files kept agree =
      let h = stands files kept agree in
      let E = entering files setup m.top (f ∷ fs) in
      let R = rest_of_all files setup m.top fs in
      let C = closing files setup fs in
      let r = full_lines E files setup (drop (k + 1) ls) h.state in
      let reached = subst (λ z. IsReached files setup z) (two_within R C r) (reached_after files h) in
      let there = stops_unbalanced setup m.builder h.state f.path (line_at ls j) (asked answers) (λ s. then_go R (C s)) (path_is h.state h.core) (ap (λ c. c.looked) h.core) h.reads
      r (tells files h (Broken j) is) in
      (reached.0 ∙ there.0, reached.1 ∙ there.1)

  -- over one that is open at the file's end
  pub jump_to_open : (n : ℕ) → skip ls k setup.command.dialect ≡ Open n → StandsAtEnd setup (unbalanced_at f.path (left_open ls k n f.groups)) answers
  jump_to_open n is files kept agree =
      let h = stands files kept agree in
      let E = entering files setup m.top (f ∷ fs) in
      let R = rest_of_all files setup m.top fs in
      let r = full_lines E files setup (drop (k + 1) ls) h.state in
      let includer = within (current fs) h.state.core in
      let same = go_alike (closing files setup fs) (λ last. at_file_end includer (end_run last) last.core.stack)
      (λ last. same_end (within (current fs) last.core) includer (end_run last) last.core.stack refl) r in
      let reached = subst (λ z. IsReached files setup (then_go R z)) same (reached_after files h) in
      let groups = ap (λ c. c.stack) h.core ∙ ap (λ z. (current z).groups) frames in
      let told = subst (λ z. Alike (ended includer r) (unbalanced h.state (left_open ls k n z))) groups (tells files h (Open n) is includer) in
      let there = stops_unbalanced setup m.builder h.state f.path (left_open ls k n f.groups) (asked answers) R (path_is h.state h.core) (ap (λ c. c.looked) h.core) h.reads
      (ended includer r) told in
      (reached.0 ∙ there.0, reached.1 ∙ there.1)

  -- whatever the skip tells
  by_skip : k < length ls → (told : Skip) → skip ls k setup.command.dialect ≡ told → SkipLeaves setup m answers f fs ls k told
  by_skip there (Partner j) is = jump_to_partner j there is
  by_skip there (Broken j) is = jump_to_broken j is
  by_skip there (Open n) is = jump_to_open n is

pub jumps_stand : JumpsStand
jumps_stand setup m answers f fs ls k frames rest skipped looking there stands =
    by_skip setup m answers f fs ls k frames rest skipped looking stands there (skip ls k setup.command.dialect) refl

-- ## The line of an open conditional
