-- What the effect of a line, or of a condition, makes of the moment, by what it is.
use Rattle.std.proofs.Common.{◌≡◌, ℕ, List, [], ◌∷◌, ◌++◌, refl, ap, sym, ◌∙◌, subst}
use Rattle.std.specs.Prelude.{Some, None}
use Rattle.std.specs.Option.{option_map_or}
use Rattle.std.specs.declared.result.Result.TheVariants.{Ok, Err}
use Rattle.scan_model.specs.declared.token.Tok.{Tok}
use Rattle.scan_model.specs.declared.token.Line.{Line}
use Rattle.scan_model.specs.declared.module_line.ModuleFault.{ModuleFault}
use Rattle.scan_model.specs.declared.unit_end.Place.{Place}
use Rattle.scan_model.specs.declared.unit_end.UnitEnd.{UnitEnd}
use Rattle.scan_model.specs.declared.unit_end.UnitEnd.TheVariants as Ends
use Rattle.scan_model.specs.declared.unit_end.FaultKind.{FaultKind}
use Rattle.scan_model.specs.HeaderName.{Term, Named, terms}
use Rattle.scan_model.specs.Files.{FileMap}
use Rattle.scan_model.specs.ModuleLines.{Builder, take, new}
use Rattle.scan_model.specs.Stream.{ModuleLine, Piece, Sent, fault_kind, module_lines, module_stop, read_stream, take_lines, after_take}
use Rattle.scan_model.specs.State.{Setup, Core, State, Cause}
use Rattle.scan_model.specs.Effect.{Effect, Now, Sends, Halts, fault, stop_at}
use Rattle.scan_model.specs.Search.{searched, place_searched}
use Rattle.scan_model.specs.Includes.{include}
use Rattle.scan_model.specs.Answer.{Known, answer_of}
use Rattle.scan_model.specs.Conditionals.{Opening}
use Rattle.unit_laws.specs.Reduction.{Given}
use Rattle.unit_laws.specs.KnownAnswers.{asked}
use Rattle.unit_laws.proofs.GrowthLemmas.{lines_of_append}
use Rattle.unit_laws.proofs.GrowingAnswers.{lines_go_on, read_kept, end_by_fault}
use Rattle.unit_steps.specs.Stack.{Frame, Top, rest_of_all}
use Rattle.unit_steps.specs.Searches.{include_search, with_terms}
use Rattle.unit_steps.specs.Moments.{Moment, core_at, after_line}
use Rattle.unit_steps.specs.Stands.{EndsOver, StandsOver, AreKept, Agree, ActsOver, Acts, Stands, StandsAtEnd}
use Rattle.unit_steps.proofs.Growing.{rest_onward}
use Rattle.unit_steps.proofs.Steps.{own_over, done_over, stop_over, search_begins}

-- ## Module lines

sent_reads : (setup : Setup) (stream : List Piece) (b : Builder) (l : ModuleLine) → read_stream setup.command stream ≡ Ok b →
    read_stream setup.command (stream ++ Sent l ∷ []) ≡ take_lines (l ∷ []) b
unfolding read_stream
sent_reads setup stream b l reads =
    ap (λ z. take_lines z (new setup.command.output setup.command.source)) (lines_of_append stream (Sent l ∷ []))
    ∙ lines_go_on (module_lines stream) (l ∷ []) (new setup.command.output setup.command.source) b reads

-- a module line is taken
taken_over : (files : FileMap (List Line)) (setup : Setup) (m : Moment) (looked : List (List ℕ)) (l : ModuleLine) (b : Builder) →
    take m.builder l.exported l.keyword l.toks ≡ Ok b → ActsOver files setup m.top m.frames m.builder (Sends l (core_at m looked)) →
    StandsOver files setup (record m { search = None; builder = b }) looked
taken_over files setup m looked l b taken h = record {
  state = record h.state { core = core_at m looked; stream = h.state.stream ++ Sent l ∷ [] };
  core = refl;
  reads = sent_reads setup h.state.stream m.builder l h.reads ∙ ap (after_take (take_lines []) l) taken;
  directives = h.directives;
  reached = h.reached;
}

-- a module line is at fault: that is the end, whatever follows
refused_over : (files : FileMap (List Line)) (setup : Setup) (top : Top) (fs : List Frame) (b : Builder) (looked : List (List ℕ)) (l : ModuleLine) (c : Core) (x : ModuleFault) →
    l.looked ≡ looked → take b l.exported l.keyword l.toks ≡ Err x → ActsOver files setup top fs b (Sends l c) → EndsOver files setup (Ends.Stopped (module_stop l x).fault) looked
refused_over files setup top fs b looked l c x looks refused h =
    let s : State = record h.state { core = c; stream = h.state.stream ++ Sent l ∷ [] } in
    let reads = sent_reads setup h.state.stream b l h.reads ∙ ap (after_take (take_lines []) l) refused in
    let on = rest_onward files setup top fs s in
    let there = end_by_fault setup.command (rest_of_all files setup top fs s) (module_stop l x) (read_kept setup.command c.looked s.stream _ (module_stop l x) on.1 reads) in
    (h.reached.0 ∙ there.0, h.reached.1 ∙ there.1 ∙ looks)

-- ## In a file

-- the file f is at the top, over the files fs, and this effect takes place
module _ (setup : Setup) (m : Moment) (answers : List (List ℕ × Given)) (f : Frame) (fs : List Frame) (e : FileMap (List Line) → Core → Effect (List Line)) (frames : m.frames ≡ f ∷ fs) (acts : Acts setup m answers e) where
  -- what directives see there
  abbrev pub here : Core
  here = core_at (record m { frames = f ∷ fs }) (asked answers)

  acts_here : (files : FileMap (List Line)) → AreKept files → Agree files answers → ActsOver files setup m.top (f ∷ fs) m.builder (e files here)
  acts_here files kept agree =
      subst (λ z. ActsOver files setup m.top z m.builder (e files (core_at (record m { frames = z }) (asked answers)))) frames (acts files kept agree)

  acts_as : (a : Effect (List Line)) (files : FileMap (List Line)) → AreKept files → Agree files answers → e files here ≡ a → ActsOver files setup m.top (f ∷ fs) m.builder a
  acts_as a files kept agree is = subst (λ z. ActsOver files setup m.top (f ∷ fs) m.builder z) is (acts_here files kept agree)

  -- it changes what directives see
  module _ (c : Core) (looks : c.looked ≡ asked answers) where
    abbrev after : Moment
    after = after_line m fs f.rest c

    changed : (a : Core → Effect (List Line)) (files : FileMap (List Line)) → AreKept files → Agree files answers → e files here ≡ a c →
        ActsOver files setup m.top after.frames m.builder (a (core_at after (asked answers)))
    changed a files kept agree is =
        own_over files setup m.top f (record { path = c.path; site = c.site; chain_place = c.chain_place; groups = c.stack; rest = f.rest }) fs m.builder (a (core_at after (asked answers))) refl
        (acts_as (a (core_at after (asked answers))) files kept agree (is ∙ ap (λ z. a (core_at after z)) looks))

    pub effect_goes : ((files : FileMap (List Line)) → e files here ≡ Now c) → Stands setup after answers
    effect_goes does files kept agree = done_over files setup after (asked answers) (changed Now files kept agree (does files))

    -- and is a module line that is taken
    pub effect_sends : (b : Builder) →
        ((files : FileMap (List Line)) → (l : ModuleLine) × ((e files here ≡ Sends l c) × (take m.builder l.exported l.keyword l.toks ≡ Ok b))) →
        Stands setup (record after { builder = b }) answers
    effect_sends b does files kept agree =
        let sent = does files in
        taken_over files setup after (asked answers) sent.0 b sent.1.1 (changed (Sends sent.0) files kept agree sent.1.0)

  -- it is a module line at fault
  pub effect_refused : (place : Place) (x : ModuleFault) →
      ((files : FileMap (List Line)) → (l : ModuleLine) × ((c : Core) × (
      (e files here ≡ Sends l c) × (take m.builder l.exported l.keyword l.toks ≡ Err x)
      × (l.path ≡ place.path) × (l.line ≡ place.line) × (l.looked ≡ asked answers)
      ))) → StandsAtEnd setup (Ends.Stopped (record { kind = fault_kind x; place = place })) answers
  effect_refused place x does files kept agree =
      let sent = does files in
      let is = sent.1.1 in
      let end = refused_over files setup m.top (f ∷ fs) m.builder (asked answers) sent.0 sent.1.0 x is.4 is.1 (acts_as (Sends sent.0 sent.1.0) files kept agree is.0) in
      (end.0 ∙ (λ i. Known (Ends.Stopped (record { kind = fault_kind x; place = record { path = is.2 i; line = is.3 i } }))), end.1)

  -- it stops the unit
  pub effect_halts : (cause : Cause) (c : Core) (end : UnitEnd) → c.looked ≡ asked answers → answer_of cause ≡ Known end →
      ((files : FileMap (List Line)) → e files here ≡ Halts cause c) → StandsAtEnd setup end answers
  effect_halts cause c end looks is does files kept agree =
      stop_over files setup m.top (f ∷ fs) m.builder (asked answers) cause c end looks is (acts_as (Halts cause c) files kept agree (does files))

  -- by a fault
  pub effect_faulty_here : (kind : FaultKind) (place : Place) → ((files : FileMap (List Line)) → e files here ≡ stop_at kind place here) →
      StandsAtEnd setup (Ends.Stopped (record { kind = kind; place = place })) answers
  effect_faulty_here kind place does = effect_halts (fault kind place) here (Ends.Stopped (record { kind = kind; place = place })) refl refl does

  -- it includes a file, whose search begins
  pub effect_includes : (place : Place) (n : Named) (from : List ℕ) →
      ((files : FileMap (List Line)) → e files here ≡ include files place (searched setup n from) (place_searched setup n from) here) →
      Stands setup (record m { frames = f ∷ fs; search = Some (include_search setup place n from 0) }) answers
  effect_includes place n from does =
      search_begins setup (record m { frames = f ∷ fs }) answers (include_search setup place n from 0)
      (λ files kept agree. acts_as (include files place (searched setup n from) (place_searched setup n from) here) files kept agree (does files))

  -- it is a condition, whose terms come next
  pub effect_tests : (l : Line) (opening : Opening) (toks : List Tok) (ts : List Term) → terms toks ≡ Some ts →
      ((files : FileMap (List Line)) → (us : List Term) × ((terms toks ≡ Some us) × (e files here ≡ with_terms files setup l opening [] us toks here))) →
      Acts setup (record m { frames = f ∷ fs }) answers (λ files c. with_terms files setup l opening [] ts toks c)
  effect_tests l opening toks ts some does files kept agree =
      let found = does files in
      let same : found.0 ≡ ts = ap (λ o. option_map_or (λ us. us) o []) (sym found.1.0 ∙ some) in
      acts_as (with_terms files setup l opening [] ts toks here) files kept agree (found.1.1 ∙ ap (λ us. with_terms files setup l opening [] us toks here) same)
