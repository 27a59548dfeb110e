-- The stream of a unit has keywords in its module and import lines alone, so read token by token it gives its record.
use Rattle.std.proofs.Common.{◌≡◌, ℕ, zero, suc, ◌+◌, ◌-◌, nat_le, Bool, true, false, ◌&&◌, ◌||◌, ◌==◌, if◌then◌else◌, List, [], ◌∷◌, ◌++◌, length, drop, refl, ◌∙◌, Option, Some, None, codes}
use Rattle.std.specs.List.{AllByRecursion}
use Rattle.scan_model.specs.declared.token.Tok.{Tok}
use Rattle.scan_model.specs.declared.token.Line.{Line}
use Rattle.scan_model.specs.declared.command.Form.TheVariants.{Quoted}
use Rattle.scan_model.specs.declared.command.Setting.{Setting}
use Rattle.scan_model.specs.declared.command.Setting.TheVariants as SettingIs
use Rattle.scan_model.specs.declared.expansion.Mode.TheVariants as ModeIs
use Rattle.scan_model.specs.declared.expansion.Expanded.{Expanded}
use Rattle.scan_model.specs.declared.expansion.Expanded.TheVariants as Gives
use Rattle.scan_model.specs.declared.unit_end.Place.{Place}
use Rattle.scan_model.specs.declared.unit_end.FaultKind.{FaultKind}
use Rattle.scan_model.specs.declared.unit_end.FaultKind.TheVariants as FaultIs
use Rattle.scan_model.specs.Spelling.{spells, is_one_of}
use Rattle.scan_model.specs.Lines.{is_directive, is_import, is_module, is_module_line, begins_directive, lines}
use Rattle.scan_model.specs.Expansion.{expand}
use Rattle.scan_model.specs.Files.{FileMap}
use Rattle.scan_model.specs.Stream.{Piece, Run, Sent}
use Rattle.scan_model.specs.State.{Group, Setup, Core, State, Reached, Going, Stopped, then_go}
use Rattle.scan_model.specs.Effect.{Effect, Now, Enters, Sends, Halts, Enter, done, fault, halted, stop_at}
use Rattle.scan_model.specs.Search.{searched, place_searched, with_found}
use Rattle.scan_model.specs.HeaderName.{Named}
use Rattle.scan_model.specs.Includes.{include}
use Rattle.scan_model.specs.Conditionals.{is_skipped}
use Rattle.scan_model.specs.Directives.{hash_line, directive_of}
use Rattle.scan_model.specs.KeywordLines.{module_line}
use Rattle.scan_model.specs.DirectiveLines.{effect_of, effect}
use Rattle.scan_model.specs.WholeFile.{View, run_done, end_run, joined, full_line, full_lines, at_file_start, at_file_end, full_file, entered_limit, enter}
use Rattle.scan_model.specs.WholeUnit.{first_state, command_place, first_file, predefines, setting_text, set_first, set_all, force, force_all, full}
use Rattle.unit_laws.specs.Streams.{KeywordsInPlace, stream_of, UnitsHaveKeywordsInPlace, UnitsReadByTokens}
use Rattle.unit_laws.proofs.PlainText.{StartsAs, ArePlainLines, lines_plain, BeginsAs, FirstBegins, hash_first}
use Rattle.unit_laws.proofs.Parts.{all_append}
use Rattle.unit_laws.proofs.PlainMacros.{PlainTok, PlainToks}
use Rattle.unit_laws.proofs.PlainExpansion.{PlainAnswer, expand_plain}
use Rattle.unit_laws.proofs.PlainEffects.{no_stream_kind, line_toks, PlainCore, PlainEffect, first_macros_plain, with_found_plain, include_plain, drop_plain, hash_plain, effect_plain}
use Rattle.unit_laws.proofs.StreamLemmas.{read_by_tokens}

abbrev InPlace : List Piece → Type 0
InPlace pieces = AllByRecursion KeywordsInPlace pieces

abbrev PlainState : State → Type 0
PlainState s = PlainCore s.core × PlainToks s.run × InPlace s.stream

abbrev PlainReached : Reached → Type 0
PlainReached (Going s) = PlainState s
PlainReached (Stopped stop) = InPlace stop.stream

reached_if : (b : Bool) (r q : Reached) → PlainReached r → PlainReached q → PlainReached (if b then r else q)
reached_if true r q h k = h
reached_if false r q h k = k

then_plain : (further : State → Reached) (r : Reached) → PlainReached r → ((s : State) → PlainState s → PlainReached (further s)) → PlainReached (then_go further r)
then_plain further (Going s) h each = each s h
then_plain further (Stopped stop) h each = h

-- ## Runs

run_done_plain : (s : State) (answer : Expanded) → PlainState s → PlainAnswer answer → PlainState (run_done s answer)
run_done_plain s (Gives.Done ts counter) h k = (h.0, tt, all_append KeywordsInPlace s.stream (Run s.core.path ts ∷ []) h.2 (no_stream_kind ts k, tt))
run_done_plain s Gives.Bad h k = (h.0, tt, all_append KeywordsInPlace s.stream (Run s.core.path s.run ∷ []) h.2 (no_stream_kind s.run h.1, tt))
run_done_plain s Gives.TooLong h k = (h.0, tt, all_append KeywordsInPlace s.stream (Run s.core.path s.run ∷ []) h.2 (no_stream_kind s.run h.1, tt))
run_done_plain s Gives.Counter h k = (h.0, tt, all_append KeywordsInPlace s.stream (Run s.core.path s.run ∷ []) h.2 (no_stream_kind s.run h.1, tt))

end_run_plain : (s : State) → PlainState s → PlainState (end_run s)
unfolding end_run
end_run_plain s h =
    run_done_plain s (expand s.core.macros.defs s.core.site (ModeIs.Text s.counter) s.run) h
    (expand_plain s.core.macros.defs s.core.site (ModeIs.Text s.counter) s.run h.0.0 h.1)

module _ (X : Type 0) where
  abbrev EntersPlain : Enter X → Type 0
  EntersPlain e = (place : Place) (path : List ℕ) (chain_place : Option ℕ) (text : X) (s : State) → PlainState s → PlainReached (e place path chain_place text s)

  done_plain : (e : Enter X) (s : State) (f : Effect X) → EntersPlain e → PlainState s → PlainEffect X f → PlainReached (done e s f)
  done_plain e s (Now c) enters h k = (k, h.1, h.2)
  done_plain e s (Enters place path chain_place text c) enters h k = enters place path chain_place text (record s { core = c }) (k, h.1, h.2)
  done_plain e s (Sends l c) enters h k = (k.1, h.1, all_append KeywordsInPlace s.stream (Sent l ∷ []) h.2 (k.0, tt))
  done_plain e s (Halts cause c) enters h k = h.2

  joined_plain : (s : State) (l : Line) → PlainState s → PlainToks l.toks → PlainState (joined s l)
  joined_plain s l h k = (h.0, all_append PlainTok s.run l.toks h.1 k, h.2)

  module _ (files : FileMap X) (setup : Setup) where
    -- a line, given what its directive does
    line_acts : (b : Bool) (e : Enter X) (s : State) (l : Line) → EntersPlain e → PlainState s → PlainToks l.toks → (is_directive l ≡ b → b ≡ true → PlainEffect X (effect files setup s.core l)) →
        is_directive l ≡ b → PlainReached (if b then done e (end_run s) (effect files setup s.core l) else if is_skipped s.core.stack then Going s else Going (joined s l))
    line_acts true e s l enters h k acts d = done_plain e (end_run s) (effect files setup s.core l) enters (end_run_plain s h) (acts d refl)
    line_acts false e s l enters h k acts d = reached_if (is_skipped s.core.stack) (Going s) (Going (joined s l)) h (joined_plain s l h k)

    line_plain : (e : Enter X) (s : State) (l : Line) → EntersPlain e → PlainState s → PlainToks l.toks → (is_directive l ≡ true → PlainEffect X (effect files setup s.core l)) →
        PlainReached (full_line e files setup s l)
    unfolding full_line
    line_plain e s l enters h k acts = line_acts (is_directive l) e s l enters h k (λ d t. acts (d ∙ t)) refl

    lines_go : (e : Enter X) (ls : List Line) (s : State) → EntersPlain e → ArePlainLines ls → PlainState s → PlainReached (full_lines e files setup ls s)
    lines_go e [] s enters k h = h
    lines_go e (l ∷ ls) s enters k h =
        then_plain (full_lines e files setup ls) (full_line e files setup s l)
        (line_plain e s l enters h (line_toks l.line l.toks k.0) (λ d. effect_plain X files setup s.core l h.0 k.0))
        (λ s h. lines_go e ls s enters k.1 h)

    -- ## The lines of `-D` and `-U`, which begin with `#`

    no_word : (s : List ℕ) → StartsAs 35 s → (spells "import" s ≡ false) × (spells "module" s ≡ false) × (spells "export" s ≡ false)
    no_word [] h = (refl, refl, refl)
    no_word (c ∷ s) h = (rw h refl, rw h refl, rw h refl)

    no_import : (t : Tok) (ts : List Tok) → spells "import" t.text ≡ false → is_import (t ∷ ts) ≡ false
    no_import t [] h = refl
    no_import t (u ∷ ts) h = rw h refl

    no_module : (t : Tok) (ts : List Tok) → spells "module" t.text ≡ false → is_module (t ∷ ts) ≡ false
    no_module t [] h = refl
    no_module t (u ∷ ts) h = rw h refl

    hash_alone : (t : Tok) (ts : List Tok) → StartsAs 35 t.text → begins_directive (t ∷ ts) ≡ true → is_one_of ("#" ∷ "%:" ∷ []) t.text ≡ true
    hash_alone t ts h d =
        let no = no_word t.text h in
        let import : is_import (t ∷ ts) ≡ false = no_import t ts no.0 in
        let module_ : is_module (t ∷ ts) ≡ false = no_module t ts no.1 in
        let export : spells "export" t.text ≡ false = no.2 in
        either_hash (is_one_of ("#" ∷ "%:" ∷ []) t.text) (is_import (t ∷ ts)) (is_module (t ∷ ts)) (spells "export" t.text) (is_module_line ts) import module_ export d where
          either_hash : (a b c d e : Bool) → b ≡ false → c ≡ false → d ≡ false → (a || (b || c) || (d && e)) ≡ true → a ≡ true
          either_hash true b c d e p q r h = refl
          either_hash false true c d e p q r h = absurd (cc)
          either_hash false false true d e p q r h = absurd (cc)
          either_hash false false false true e p q r h = absurd (cc)
          either_hash false false false false e p q r h = absurd (cc)

    hash_if : (b : Bool) (c : Core) (l : Line) (t : Tok) (ts : List Tok) → b ≡ true → PlainCore c → PlainToks ts →
        PlainEffect X (if b then hash_line files setup c l (drop 1 ts) (directive_of setup.command.dialect ts) else if is_skipped c.stack then Now c else module_line c l (t ∷ ts))
    hash_if true c l t ts e h k = hash_plain X files setup c l (drop 1 ts) (directive_of setup.command.dialect ts) h (drop_plain ts k)
    hash_if false c l t ts e h k = absurd (cc)

    hash_effect : (c : Core) (l : Line) (ts : List Tok) → PlainCore c → PlainToks ts → BeginsAs 35 ts → begins_directive ts ≡ true → PlainEffect X (effect_of files setup c l ts)
    hash_effect c l [] h k b d = h
    hash_effect c l (t ∷ ts) h k b d = hash_if (is_one_of ("#" ∷ "%:" ∷ []) t.text) c l t ts (hash_alone t ts b d) h k.1

    set_effect : (c : Core) (l : Line) → PlainCore c → PlainToks l.toks → BeginsAs 35 l.toks → is_directive l ≡ true → PlainEffect X (effect files setup c l)
    unfolding effect is_directive
    set_effect c l h k b d = hash_effect c l l.toks h k b d

    set_first_plain : (number : ℕ) (ls : List Line) (s : State) → ArePlainLines ls → FirstBegins 35 ls → PlainState s → PlainReached (set_first files setup number ls s)
    set_first_plain number [] s k b h = h
    set_first_plain number (l ∷ ls) s k b h =
        let numbered : Line = record l { line = number; next = number + 1 } in
        line_plain (λ place path chain_place text s. Going s) s numbered (λ place path chain_place text s h. h) h (line_toks l.line l.toks k.0)
        (λ d. set_effect s.core numbered h.0 (line_toks l.line l.toks k.0) b d)

    setting_first : (setting : Setting) → FirstBegins 35 (lines (setting_text setting))
    setting_first (SettingIs.Define text) = hash_first (codes "define " ++ text)
    setting_first (SettingIs.Undef text) = hash_first (codes "undef " ++ text)

    set_all_plain : (number : ℕ) (settings : List Setting) (s : State) → PlainState s → PlainReached (set_all files setup number settings s)
    set_all_plain number [] s h = h
    set_all_plain number (setting ∷ rest) s h =
        then_plain (set_all files setup (number + 1) rest) (set_first files setup number (lines (setting_text setting)) s)
        (set_first_plain number (lines (setting_text setting)) s (lines_plain (setting_text setting)) (setting_first setting) h)
        (λ s h. set_all_plain (number + 1) rest s h)

    -- ## Files

    file_end_plain : (includer : Core) (s : State) (gs : List Group) → PlainState s → PlainReached (at_file_end includer s gs)
    file_end_plain includer s [] h = h
    file_end_plain includer s (g ∷ gs) h = h.2

    module _ (view : View X) (views : (x : X) → ArePlainLines (view x)) where
      file_plain : (e : Enter X) (path : List ℕ) (chain_place : Option ℕ) (text : X) (s : State) → EntersPlain e → PlainState s → PlainReached (full_file view e files setup path chain_place text s)
      unfolding full_file
      file_plain e path chain_place text s enters h =
          then_plain (λ last. at_file_end s.core (end_run last) last.core.stack) (full_lines e files setup (view text) (record s { core = at_file_start path chain_place s.core }))
          (lines_go e (view text) (record s { core = at_file_start path chain_place s.core }) enters (views text) h)
          (λ last k. file_end_plain s.core (end_run last) last.core.stack (end_run_plain last k))

      enter_plain : (n : ℕ) → EntersPlain (enter view files setup n)
      unfolding enter
      enter_plain zero place path chain_place text s h = h.2
      enter_plain (suc n) place path chain_place text s h =
          reached_if (nat_le entered_limit s.core.entered) (halted (fault FaultIs.TooManyEntered place) s.core.looked s) _ h.2
          (file_plain (enter view files setup n) path chain_place text s (enter_plain n) h)

      -- ## The unit

      first_file_plain : (missing : FaultKind) (path : List ℕ) (s : State) → PlainState s → PlainReached (first_file view files setup missing path s)
      first_file_plain missing path s h =
          let place : Place = record { path = path; line = 0 } in
          done_plain (enter view files setup (201 - 0)) s (with_found files place (path ∷ []) s.core (stop_at missing place) (λ path. Enters place path None)) (enter_plain (201 - 0)) h
          (with_found_plain X files place (path ∷ []) s.core (stop_at missing place) (λ path. Enters place path None) h.0 (λ c k. tt) (λ path text c k. k))

      predefines_plain : (path : Option (List ℕ)) (s : State) → PlainState s → PlainReached (predefines view files setup path s)
      predefines_plain None s h = h
      predefines_plain (Some path) s h = first_file_plain FaultIs.IncludeNotFound path s h

      force_plain : (number : ℕ) (name : List ℕ) (s : State) → PlainState s → PlainReached (force view files setup number name s)
      force_plain number name s h =
          let named : Named = record { form = Quoted; name = name; after = [] } in
          let paths = searched setup named setup.command.directory in
          let places = place_searched setup named setup.command.directory in
          reached_if (length name == 0) (halted (fault FaultIs.IncludeSyntax (command_place number)) s.core.looked s) _ h.2
          (done_plain (enter view files setup (201 - 1)) s (include files (command_place number) paths places s.core) (enter_plain (201 - 1)) h
          (include_plain X files (command_place number) paths places s.core h.0))

      force_all_plain : (number : ℕ) (names : List (List ℕ)) (s : State) → PlainState s → PlainReached (force_all view files setup number names s)
      force_all_plain number [] s h = h
      force_all_plain number (name ∷ names) s h =
          then_plain (force_all view files setup (number + 1) names) (force view files setup number name s) (force_plain number name s h)
          (λ s h. force_all_plain (number + 1) names s h)

      full_plain : PlainReached (full view files setup)
      unfolding full
      full_plain =
          let c = setup.command in
          then_plain (first_file view files setup FaultIs.MainMissing c.main) _
          (then_plain (force_all view files setup (length c.settings + 1) c.forced) _
          (then_plain (set_all files setup 1 c.settings) _
          (predefines_plain setup.settings.predefines (first_state c.dialect) (first_macros_plain c.dialect, tt, tt))
          (λ s h. set_all_plain 1 c.settings s h))
          (λ s h. force_all_plain (length c.settings + 1) c.forced s h))
          (λ s h. first_file_plain FaultIs.MainMissing c.main s h)

in_place_of : (r : Reached) → PlainReached r → InPlace (stream_of r)
in_place_of (Going s) h = h.2
in_place_of (Stopped stop) h = h

pub units_in_place : UnitsHaveKeywordsInPlace
units_in_place files setup = in_place_of (full lines files setup) (full_plain (List ℕ) files setup lines lines_plain)

pub units_read_by_tokens : UnitsReadByTokens
units_read_by_tokens files setup = read_by_tokens setup.command (stream_of (full lines files setup)) (units_in_place files setup)
