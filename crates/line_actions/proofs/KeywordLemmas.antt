-- Module and import lines ([cpp.module], [cpp.import]).
use Rattle.std.proofs.Common.{◌≡◌, ℕ, Bool, true, false, cond, List, [], ◌∷◌, ◌++◌, drop, refl, ap, sym, ◌∙◌}
use Rattle.std.specs.declared.result.Result.TheVariants.{Ok}
use Rattle.std.proofs.Math.Logic.{∥∥₁_map}
use Rattle.std.proofs.lemmas.Str.{IsUtf8-had}
use Rattle.scan_model.specs.declared.token.Kind.TheVariants.{ExportKw}
use Rattle.scan_model.specs.declared.token.Tok.{Tok}
use Rattle.scan_model.specs.declared.token.Line.{Line}
use Rattle.scan_model.specs.declared.expansion.Site.{Site}
use Rattle.scan_model.specs.declared.expansion.Mode.TheVariants as ModeIs
use Rattle.scan_model.specs.declared.expansion.Expanded.{Expanded}
use Rattle.scan_model.specs.declared.expansion.Expanded.TheVariants as Gives
use Rattle.scan_model.specs.declared.unit_end.FaultKind.TheVariants as FaultIs
use Rattle.scan_model.specs.Spelling.{spells}
use Rattle.scan_model.specs.Expansion.{expand}
use Rattle.scan_model.specs.Macros.{Macros}
use Rattle.scan_model.specs.State.{Core}
use Rattle.scan_model.specs.Stream.{ModuleLine}
use Rattle.scan_model.specs.Effect.{Effect, Sends, stop}
use Rattle.scan_model.specs.Replacing.{with_replaced}
use Rattle.scan_model.specs.KeywordLines.{is_object_like, as_keyword, keyword_of, keyword_kind, sent, keyword_line, module_line}
use Rattle.scan_model.specs.Utf8Names.{HaveUtf8Names}
use Rattle.macro_table.specs.Table.{macros_of}
use Rattle.replaced_names.specs.Names.{IsUtf8Map}
use Rattle.replaced_names.proofs.Expansions.{names_stay}
use Rattle.plain_lines.specs.declared.action.Action.{Action}
use Rattle.plain_lines.specs.declared.action.Action.TheVariants.{Goes, Skips, Sent, Refused, Stops, Includes, Tests}
use Rattle.plain_lines.specs.declared.kept_line.KeptLine.{KeptLine}
use Rattle.plain_lines.specs.declared.state.FileState.{FileState}
use Rattle.plain_lines.specs.declared.state.UnitState.{UnitState}
use Rattle.plain_lines.specs.States.{core_of}
use Rattle.plain_lines.specs.Lines.{line_of}
use Rattle.plain_lines.specs.Actions.{Acts}
use Rattle.plain_lines.proofs.ActLemmas.{acts_as, acts_stops}
use Rattle.line_actions.specs.Replaced.{outcome}
use Rattle.line_actions.specs.Sent.{IsSent}

-- ## The names that are sent

done_by : (out : List Tok) (x : Expanded) → Ok out ≡ outcome x → (counter : ℕ) × (x ≡ Gives.Done out counter)
done_by out (Gives.Done toks counter) e = let same : out ≡ toks = cc in (counter, ap (λ ts. Gives.Done ts counter) (sym same))
done_by out Gives.Bad e = cc
done_by out Gives.TooLong e = cc
done_by out Gives.Counter e = cc

pub sent_names : (m : Macros) (site : Site) (toks out : List Tok) → ∥ IsUtf8Map m ∥₁ → HaveUtf8Names toks → Ok out ≡ outcome (expand m.defs site ModeIs.Line toks) → HaveUtf8Names out
sent_names m site toks out utf8 names e = λ k d inside ident. let by = done_by out (expand m.defs site ModeIs.Line toks) e in
    IsUtf8-had _ (∥∥₁_map utf8 (λ (h : IsUtf8Map m). names_stay m.defs site ModeIs.Line toks out by.0 h.current names by.1 k d inside ident))

-- ## What is sent

abbrev sends : ModuleLine → Core → Effect (List Line)
sends m c = Sends m c

module _ (at : KeptLine) (exported : Bool) (before : List Tok) (t : Tok) where
  -- the line that these tokens make
  abbrev line_sent : Core → List Tok → ModuleLine
  line_sent c toks = record {
    path = c.path;
    line = at.head.line;
    exported = exported;
    keyword = keyword_of t;
    words = before ++ as_keyword (keyword_kind (keyword_of t)) t ∷ [];
    toks = toks;
    looked = c.looked;
  }

  pub sent_acts : (toks : List Tok) (file : FileState) (unit unit' : UnitState) (action : Action) →
      ((entered : ℕ) (looked : List (List ℕ)) → core_of at.path.now entered looked file unit' ≡ core_of at.path.now entered looked file unit) →
      IsSent exported (keyword_of t) toks unit.builder unit'.builder action → Acts at (λ files setup c. sent c (line_of at) exported before t toks) file unit file unit' action
  sent_acts toks file unit unit' Sent same h = λ files setup d entered looked. let c = core_of at.path.now entered looked file unit in
      (line_sent c toks, (ap (sends (line_sent c toks)) (sym (same entered looked)), h, (refl, refl, refl)))
  sent_acts toks file unit unit' (Refused fault) same h = λ files setup d entered looked. let c = core_of at.path.now entered looked file unit in
      (line_sent c toks, (refl, h.0, (refl, refl, refl), (same entered looked, h.1)))
  sent_acts toks file unit unit' Goes same h = absurd h
  sent_acts toks file unit unit' Skips same h = absurd h
  sent_acts toks file unit unit' (Stops kind) same h = absurd h
  sent_acts toks file unit unit' (Includes form name) same h = absurd h
  sent_acts toks file unit unit' (Tests condition) same h = absurd h

  -- ## The keyword

  module _ (toks ts : List Tok) (is : toks ≡ t ∷ ts) (file : FileState) (unit : UnitState) where
    by_test : (c : Core) → keyword_line {X = List Line} c (line_of at) exported before toks
        ≡ cond (is_object_like (c.macros.defs t.text)) (stop FaultIs.KeywordIsMacro c (line_of at)) (with_replaced ModeIs.Line c (line_of at) ts (sent c (line_of at) exported before t))
    by_test c = ap (keyword_line c (line_of at) exported before) is

    pub keyword_stops : is_object_like ((macros_of unit.macros).defs t.text) ≡ true → Acts at (λ files setup c. keyword_line c (line_of at) exported before toks) file unit file unit (Stops FaultIs.KeywordIsMacro)
    keyword_stops e = acts_stops at (λ files setup c. keyword_line c (line_of at) exported before toks) file unit FaultIs.KeywordIsMacro
        (λ files setup d entered looked. let c = core_of at.path.now entered looked file unit in
        by_test c ∙ ap (λ b. cond b (stop FaultIs.KeywordIsMacro c (line_of at)) (with_replaced ModeIs.Line c (line_of at) ts (sent c (line_of at) exported before t))) e)

    pub keyword_acts : (file' : FileState) (unit' : UnitState) (action : Action) → is_object_like ((macros_of unit.macros).defs t.text) ≡ false →
        Acts at (λ files setup c. with_replaced ModeIs.Line c (line_of at) ts (sent c (line_of at) exported before t)) file unit file' unit' action →
        Acts at (λ files setup c. keyword_line c (line_of at) exported before toks) file unit file' unit' action
    keyword_acts file' unit' action e = acts_as at (λ files setup c. keyword_line c (line_of at) exported before toks) (λ files setup c. with_replaced ModeIs.Line c (line_of at) ts (sent c (line_of at) exported before t)) file unit file' unit' action
        (λ files setup d entered looked. let c = core_of at.path.now entered looked file unit in
        by_test c ∙ ap (λ b. cond b (stop FaultIs.KeywordIsMacro c (line_of at)) (with_replaced ModeIs.Line c (line_of at) ts (sent c (line_of at) exported before t))) e)

-- ## The whole line

module _ (c : Core) (l : Line) (t : Tok) where
  pub module_plain : (toks ts : List Tok) → toks ≡ t ∷ ts → spells "export" t.text ≡ false → module_line {X = List Line} c l toks ≡ keyword_line c l false [] toks
  module_plain [] ts is e = cc
  module_plain (u ∷ us) ts is e = let same : u ≡ t = cc in let f : spells "export" u.text ≡ false = ap (λ (v : Tok). spells "export" v.text) same ∙ e in rw f refl

  pub module_exported : (toks ts : List Tok) → toks ≡ t ∷ ts → spells "export" t.text ≡ true → is_object_like (c.macros.defs t.text) ≡ false → module_line {X = List Line} c l toks ≡ keyword_line c l true (as_keyword ExportKw t ∷ []) (drop 1 toks)
  module_exported toks ts is e m = ap (module_line c l) is ∙ by ∙ ap (λ us. keyword_line c l true (as_keyword ExportKw t ∷ []) (drop 1 us)) (sym is) where
    by : module_line {X = List Line} c l (t ∷ ts) ≡ keyword_line c l true (as_keyword ExportKw t ∷ []) ts
    by = rw (e, m) refl
