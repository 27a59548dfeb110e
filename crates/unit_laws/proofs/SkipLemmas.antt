-- The lines that a skip passes over leave the core and the module and import lines.
use Rattle.std.proofs.Common.{◌≡◌, ◌<◌, ℕ, ◌+◌, ◌==◌, Bool, true, false, ◌&&◌, ◌||◌, if◌then◌else◌, List, [], ◌∷◌, ◌++◌, map, drop, refl, ap, sym, ◌∙◌, subst, arith}
use Rattle.std.proofs.lemmas.Bool.{ne_eqb, eq-eqb}
use Rattle.std.proofs.lemmas.List.{drop-drop}
use Rattle.scan_model.specs.declared.token.Tok.{Tok}
use Rattle.scan_model.specs.declared.token.Line.{Line}
use Rattle.scan_model.specs.declared.command.Dialect.{Dialect}
use Rattle.scan_model.specs.declared.skip.Skip.{Skip}
use Rattle.scan_model.specs.declared.skip.Skip.TheVariants.{Partner, Broken, Open}
use Rattle.scan_model.specs.declared.unit_end.FaultKind.TheVariants as FaultIs
use Rattle.scan_model.specs.Spelling.{spells, is_one_of}
use Rattle.scan_model.specs.Lines.{is_module_line, begins_directive, is_directive}
use Rattle.scan_model.specs.Files.{FileMap}
use Rattle.scan_model.specs.State.{Group, Setup, Core, State, Reached, Going, Stopped, then_go}
use Rattle.scan_model.specs.Effect.{Effect, Now, Enter, done, fault, stop}
use Rattle.scan_model.specs.Conditionals.{is_skipped, opened_skipped, with_group}
use Rattle.scan_model.specs.declared.directive.Directive.{Directive}
use Rattle.scan_model.specs.declared.directive.Directive.TheVariants.{If, Ifdef, Ifndef, Elif, Elifdef, Elifndef, Else, Endif, Define, Undef, Include, IncludeNext, Renumber, Error, Pragma, Nothing, Unknown}
use Rattle.scan_model.specs.Directives.{directive_of, hash_line}
use Rattle.scan_model.specs.KeywordLines.{module_line}
use Rattle.scan_model.specs.DirectiveLines.{effect_of, effect}
use Rattle.scan_model.specs.Skips.{Nested, Step, Leaves, Ends, step, directive_in, at_end, after_step, skip_from, skip}
use Rattle.scan_model.specs.WholeFile.{end_run, full_line, full_lines, at_file_end}
use Rattle.unit_laws.specs.Reduction.{SameSent, Similar, Alike}
use Rattle.unit_laws.specs.Skipping.{first_line, line_at, opening_line, unbalanced, ended, SkipTells}
use Rattle.unit_laws.proofs.ReductionLemmas.{run_keeps, line_of_directive, line_of_text}

-- ## One line

-- a line that is no directive has none
no_directive : (dialect : Dialect) (ts : List Tok) → begins_directive ts ≡ false → directive_in dialect ts ≡ Nothing
no_directive dialect [] h = refl
no_directive dialect (t ∷ ts) h = by_hash (is_one_of ("#" ∷ "%:" ∷ []) t.text) (is_module_line (t ∷ ts)) (spells "export" t.text && is_module_line ts) h where
  by_hash : (b c d : Bool) → (b || c || d) ≡ false → (if b then directive_of dialect ts else Nothing) ≡ Nothing
  by_hash true c d h = absurd (cc)
  by_hash false c d h = refl

module _ (X : Type 0) (e : Enter X) (files : FileMap X) (setup : Setup) where
  nothing_here : (c : Core) (l : Line) (ts : List Tok) → is_skipped c.stack ≡ true → hash_line files setup c l ts Nothing ≡ Now c
  nothing_here c l ts h = rw h refl

  -- in a skipped group a line acts by its directive alone
  by_directive : (c : Core) (l : Line) → is_skipped c.stack ≡ true → (toks : List Tok) →
      (ts : List Tok) × (effect_of files setup c l toks ≡ hash_line files setup c l ts (directive_in setup.command.dialect toks))
  by_directive c l h [] = ([], sym (nothing_here c l [] h))
  by_directive c l h (t ∷ ts) = by_hash (is_one_of ("#" ∷ "%:" ∷ []) t.text) where
    by_hash : (b : Bool) → (us : List Tok) × ((if b then hash_line files setup c l (drop 1 ts) (directive_of setup.command.dialect ts) else if is_skipped c.stack then Now c else module_line c l (t ∷ ts))
        ≡ hash_line files setup c l us (if b then directive_of setup.command.dialect ts else Nothing))
    by_hash true = (drop 1 ts, refl)
    by_hash false = ([], rw h refl)

  effect_acts : (c : Core) (l : Line) → is_skipped c.stack ≡ true → (ts : List Tok) × (effect files setup c l ≡ hash_line files setup c l ts (directive_in setup.command.dialect l.toks))
  unfolding effect
  effect_acts c l h = by_directive c l h l.toks

  text_acts : (s : State) (l : Line) → is_skipped s.core.stack ≡ true → is_directive l ≡ false →
      done e s (hash_line files setup s.core l [] (directive_in setup.command.dialect l.toks)) ≡ Going s
  unfolding is_directive
  text_acts s l h d =
      ap (λ z. done e s (hash_line files setup s.core l [] z)) (no_directive setup.command.dialect l.toks d) ∙ ap (done e s) (nothing_here s.core l [] h)

  -- the run may end first
  abbrev LineActs : State → Line → Type 0
  LineActs s l = (r : State) × Similar r s × ((ts : List Tok) × (full_line e files setup s l ≡ done e r (hash_line files setup s.core l ts (directive_in setup.command.dialect l.toks))))

  line_acts : (s : State) (l : Line) → is_skipped s.core.stack ≡ true → LineActs s l
  line_acts s l h = by_kind (is_directive l) refl where
    text_stays : (b : Bool) (r : Reached) → b ≡ true → (if b then Going s else r) ≡ Going s
    text_stays true r h = refl
    text_stays false r h = absurd (cc)

    by_kind : (b : Bool) → is_directive l ≡ b → LineActs s l
    by_kind true d = let f = effect_acts s.core l h in (end_run s, run_keeps s, (f.0, line_of_directive X e files setup s l d ∙ ap (done e (end_run s)) f.1))
    by_kind false d = (s, (refl, refl), ([], line_of_text X e files setup s l d ∙ text_stays (is_skipped s.core.stack) _ h ∙ sym (text_acts s l h d)))

  -- ## All lines, from the one at the place k on, which begins a skip at the state b

  module _ (all : List Line) (k : ℕ) (b : State) (skipped : is_skipped b.core.stack ≡ true) where
    abbrev number : ℕ → ℕ
    number m = if m == k then opening_line b.core.stack else line_at all m

    abbrev group_of : Nested → Group
    group_of n = record { line = number n.opener; live = false; taken = true; past_else = n.past_else }

    abbrev core_with : List Nested → Core
    core_with inside = record b.core { stack = map group_of inside ++ b.core.stack }

    -- these conditionals are open inside
    abbrev Inside : List Nested → State → Type 0
    Inside inside s = (s.core ≡ core_with inside) × SameSent s.stream b.stream

    still_skipped : (inside : List Nested) → is_skipped (core_with inside).stack ≡ true
    still_skipped [] = skipped
    still_skipped (n ∷ ns) = refl

    -- what a line at the place j does, beside its step
    abbrev Stepped : List Nested → ℕ → Reached → Step → Type 0
    Stepped inside j reached (Leaves after) = (s : State) × Inside after s × (reached ≡ Going s)
    Stepped inside j reached (Ends (Partner i)) = (i ≡ j) × (inside ≡ [])
    Stepped inside j reached (Ends (Broken i)) = Alike reached (unbalanced b (line_at all i))
    Stepped inside j reached (Ends (Open m)) = ⊥

    module _ (r : State) (j : ℕ) (l : Line) (numbered : number j ≡ l.line) (here : line_at all j ≡ l.line) where
      skips : (inside : List Nested) (f g : Effect X) (t : Step) → Stepped inside j (done e r f) t → Stepped inside j (done e r (if is_skipped (core_with inside).stack then f else g)) t
      skips inside f g t h = subst (λ q. Stepped inside j (done e r (if q then f else g)) t) (sym (still_skipped inside)) h

      opens : (inside : List Nested) (f : Effect X) → SameSent r.stream b.stream →
          Stepped inside j (done e r (if is_skipped (core_with inside).stack then opened_skipped l (core_with inside) else f)) (Leaves (record { opener = j; past_else = false } ∷ inside))
      opens inside f sent = skips inside (opened_skipped l (core_with inside)) f (Leaves (record { opener = j; past_else = false } ∷ inside)) (
        record r { core = record b.core { stack = record { line = l.line; live = false; taken = true; past_else = false } ∷ (map group_of inside ++ b.core.stack) } },
        (ap (λ line. record b.core { stack = record { line = line; live = false; taken = true; past_else = false } ∷ (map group_of inside ++ b.core.stack) }) (sym numbered), sent),
        refl,
      )

      goes : (inside : List Nested) (f : Effect X) → SameSent r.stream b.stream →
          Stepped inside j (done e r (if is_skipped (core_with inside).stack then Now (core_with inside) else f)) (Leaves inside)
      goes inside f sent = skips inside (Now (core_with inside)) f (Leaves inside) (record r { core = core_with inside }, (refl, sent), refl)

      -- a next group of an open conditional, which leaves n
      follows : (m n : Nested) (ns : List Nested) (q : Bool) → SameSent r.stream b.stream →
          Stepped (m ∷ ns) j (done e r (if q then stop FaultIs.Unbalanced (core_with (m ∷ ns)) l else with_group (group_of n) (map group_of ns ++ b.core.stack) (core_with (m ∷ ns))))
          (if q then Ends (Broken j) else Leaves (n ∷ ns))
      follows m n ns true sent = (ap (λ line. fault FaultIs.Unbalanced (record { path = b.core.path; line = line })) (sym here), refl, sent)
      follows m n ns false sent = (record r { core = core_with (n ∷ ns) }, (refl, sent), refl)

      stepped : (inside : List Nested) (ts : List Tok) (d : Directive) → SameSent r.stream b.stream →
          Stepped inside j (done e r (hash_line files setup (core_with inside) l ts d)) (step j inside d)
      stepped inside ts If sent = opens inside _ sent
      stepped inside ts Ifdef sent = opens inside _ sent
      stepped inside ts Ifndef sent = opens inside _ sent
      stepped [] ts Elif sent = (refl, refl)
      stepped [] ts Elifdef sent = (refl, refl)
      stepped [] ts Elifndef sent = (refl, refl)
      stepped [] ts Else sent = (refl, refl)
      stepped [] ts Endif sent = (refl, refl)
      stepped (n ∷ ns) ts Elif sent = follows n n ns n.past_else sent
      stepped (n ∷ ns) ts Elifdef sent = follows n n ns n.past_else sent
      stepped (n ∷ ns) ts Elifndef sent = follows n n ns n.past_else sent
      stepped (n ∷ ns) ts Else sent = follows n (record n { past_else = true }) ns n.past_else sent
      stepped (n ∷ ns) ts Endif sent = (record r { core = core_with ns }, (refl, sent), refl)
      stepped inside ts Define sent = goes inside _ sent
      stepped inside ts Undef sent = goes inside _ sent
      stepped inside ts Include sent = goes inside _ sent
      stepped inside ts IncludeNext sent = goes inside _ sent
      stepped inside ts Renumber sent = goes inside _ sent
      stepped inside ts Error sent = goes inside _ sent
      stepped inside ts Pragma sent = goes inside _ sent
      stepped inside ts Nothing sent = goes inside _ sent
      stepped inside ts Unknown sent = goes inside _ sent

    -- what a skip tells of what is reached
    abbrev Told : Reached → Skip → Type 0
    Told reached (Partner i) = (r : State) × Similar r b × (reached ≡ full_lines e files setup (drop i all) r)
    Told reached (Broken i) = Alike reached (unbalanced b (line_at all i))
    Told reached (Open m) = (includer : Core) → Alike (ended includer reached) (unbalanced b (number m))

    stopped_then : (g : State → Reached) (f : Reached) (line : ℕ) → Alike f (unbalanced b line) → Alike (then_go g f) (unbalanced b line)
    stopped_then g (Going s) line h = absurd h
    stopped_then g (Stopped stop) line h = h

    file_end : (includer : Core) (s : State) (gs : List Group) (line : ℕ) → is_skipped gs ≡ true → s.core.path ≡ b.core.path → s.core.looked ≡ b.core.looked →
        SameSent s.stream b.stream → opening_line gs ≡ line → Alike (at_file_end includer s gs) (unbalanced b line)
    file_end includer s [] line h p q sent o = absurd (cc)
    file_end includer s (g ∷ gs) line h p q sent o = ((λ i. fault FaultIs.Unbalanced (record { path = p i; line = o i })), q, sent)

    is_itself : (k == k) ≡ true
    is_itself = eq-eqb k k refl

    -- the end of the lines
    lines_end : (inside : List Nested) (s : State) (line : ℕ) → Inside inside s → opening_line (core_with inside).stack ≡ line →
        (includer : Core) → Alike (ended includer (Going s)) (unbalanced b line)
    lines_end inside s line h o includer =
        file_end includer (end_run s) s.core.stack line
        (ap (λ c. is_skipped c.stack) h.0 ∙ still_skipped inside)
        (ap (λ c. c.path) ((run_keeps s).0 ∙ h.0)) (ap (λ c. c.looked) ((run_keeps s).0 ∙ h.0)) ((run_keeps s).1 ∙ h.1)
        (ap (λ c. opening_line c.stack) h.0 ∙ o)

    own_number : opening_line b.core.stack ≡ number k
    own_number = rw is_itself refl

    at_end_told : (inside : List Nested) (s : State) → Inside inside s → Told (Going s) (at_end k inside)
    at_end_told [] s h = lines_end [] s (number k) h own_number
    at_end_told (n ∷ ns) s h = lines_end (n ∷ ns) s (number n.opener) h refl

    abbrev TellsFrom : List Line → Type 0
    TellsFrom ls = (j : ℕ) (inside : List Nested) (s : State) → drop j all ≡ ls → k < j → Inside inside s →
        Told (full_lines e files setup ls s) (skip_from setup.command.dialect k j inside ls)

    after : (l : Line) (ls : List Line) (j : ℕ) (inside : List Nested) (s : State) → TellsFrom ls → drop j all ≡ l ∷ ls → k < j → Inside inside s →
        (t : Step) → Stepped inside j (full_line e files setup s l) t →
        Told (full_lines e files setup (l ∷ ls) s) (after_step (λ inside. skip_from setup.command.dialect k (j + 1) inside ls) t)
    after l ls j inside s further at later h (Leaves open_then) st =
        subst (λ q. Told q (skip_from setup.command.dialect k (j + 1) open_then ls)) (sym (ap (then_go (full_lines e files setup ls)) st.2))
        (further (j + 1) open_then st.0 (sym (drop-drop 1 j all) ∙ ap (drop 1) at) (omega (arith, later)) st.1)
    after l ls j inside s further at later h (Ends (Partner i)) st = (
      s,
      (h.0 ∙ ap core_with st.1, h.1),
      ap (λ z. full_lines e files setup z s) (sym at ∙ ap (λ z. drop z all) (sym st.0)),
    )
    after l ls j inside s further at later h (Ends (Broken i)) st = stopped_then (full_lines e files setup ls) (full_line e files setup s l) (line_at all i) st
    after l ls j inside s further at later h (Ends (Open m)) st = absurd st

    one_line_told : (l : Line) (ls : List Line) → TellsFrom ls → TellsFrom (l ∷ ls)
    one_line_told l ls further j inside s at later h =
        let acts = line_acts s l (ap (λ c. is_skipped c.stack) h.0 ∙ still_skipped inside) in
        let here : line_at all j ≡ l.line = ap first_line at in
        let numbered : number j ≡ l.line = ap (λ q. if q then opening_line b.core.stack else line_at all j) (ne_eqb j k (λ same. absurd (omega (arith, later, same)))) ∙ here in
        let d = directive_in setup.command.dialect l.toks in
        let acted : full_line e files setup s l ≡ done e acts.0 (hash_line files setup (core_with inside) l acts.2.0 d) =
        acts.2.1 ∙ ap (λ c. done e acts.0 (hash_line files setup c l acts.2.0 d)) h.0 in
        after l ls j inside s further at later h (step j inside d)
        (subst (λ q. Stepped inside j q (step j inside d)) (sym acted) (stepped acts.0 j l numbered here inside acts.2.0 d (acts.1.1 ∙ h.1)))

    tell : (ls : List Line) → TellsFrom ls
    tell [] j inside s at later h = at_end_told inside s h
    tell (l ∷ ls) j inside s at later h = one_line_told l ls (tell ls) j inside s at later h

-- in a group that isn't live
pub skip_tells : (X : Type 0) → SkipTells X
unfolding skip
skip_tells X e files setup ls k s h = tell X e files setup ls k s h (drop (k + 1) ls) (k + 1) [] s refl (omega arith) (refl, refl)
