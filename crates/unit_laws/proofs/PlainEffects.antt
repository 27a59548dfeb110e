-- What a directive does brings no keyword into the macros, and into the stream those of its own line alone.
use Rattle.std.proofs.Common.{◌≡◌, ℕ, Bool, true, false, not, ◌&&◌, if◌then◌else◌, List, [], ◌∷◌, ◌++◌, drop, refl, ap, Option, Some, None, codes}
use Rattle.std.specs.Prelude.{⊤, is_some}
use Rattle.std.specs.Option.{option_and_then}
use Rattle.std.specs.List.{AllByRecursion, list_any}
use Rattle.std.specs.declared.result.Result.{Result}
use Rattle.std.specs.declared.result.Result.TheVariants.{Ok, Err}
use Rattle.scan_model.specs.declared.token.Kind.TheVariants.{Ident, Header, ExportKw}
use Rattle.scan_model.specs.declared.token.Tok.{Tok}
use Rattle.scan_model.specs.declared.token.Line.{Line}
use Rattle.scan_model.specs.declared.macros.Def.{Def}
use Rattle.scan_model.specs.declared.command.Dialect.{Dialect}
use Rattle.scan_model.specs.declared.command.Dialect.TheVariants.{Cxx20, Cxx23}
use Rattle.scan_model.specs.declared.expansion.Mode.{Mode}
use Rattle.scan_model.specs.declared.expansion.Mode.TheVariants as ModeIs
use Rattle.scan_model.specs.declared.expansion.Expanded.{Expanded}
use Rattle.scan_model.specs.declared.expansion.Expanded.TheVariants as Gives
use Rattle.scan_model.specs.declared.condition.CondValue.{CondValue}
use Rattle.scan_model.specs.declared.condition.CondFault.{CondFault}
use Rattle.scan_model.specs.declared.unit_end.Place.{Place}
use Rattle.scan_model.specs.declared.unit_end.FaultKind.TheVariants as FaultIs
use Rattle.scan_model.specs.Spelling.{spells, is_one_of}
use Rattle.scan_model.specs.TokenTests.{is_of, same, is_word, is_plain_string}
use Rattle.scan_model.specs.Macros.{Macros, put, built_ins, cplusplus_23, first_macros, undef, push, restored, pop}
use Rattle.scan_model.specs.MacroDefinition.{read_define}
use Rattle.scan_model.specs.Expansion.{expand}
use Rattle.scan_model.specs.HeaderName.{Named, Term, Plain, Has, terms, name_of, nonempty, header}
use Rattle.scan_model.specs.Condition.{value}
use Rattle.scan_model.specs.ConditionValue.{is_nonzero}
use Rattle.scan_model.specs.Paths.{folder}
use Rattle.scan_model.specs.Files.{Present, Absent, Failed, Big, NoMemory, FileMap, Found, At, Unread, Nowhere, find, looked_at}
use Rattle.scan_model.specs.State.{Group, Setup, Core}
use Rattle.scan_model.specs.Stream.{Sent}
use Rattle.scan_model.specs.Effect.{Effect, Now, Enters, Sends, Halts, place_of, stop, stop_at}
use Rattle.scan_model.specs.Replacing.{on_expanded, with_replaced}
use Rattle.scan_model.specs.Search.{on_found, with_found, searched, place_searched, search_form}
use Rattle.scan_model.specs.Includes.{unless_once, include, include_by, include_named, include_line}
use Rattle.scan_model.specs.Conditionals.{with_has_values, on_value, on_terms, with_condition, with_defined, is_skipped, opened, opened_skipped, with_group, next_group, elif_line, elifdef_line, elifndef_line, else_line, endif_line}
use Rattle.scan_model.specs.declared.directive.Directive.{Directive}
use Rattle.scan_model.specs.declared.directive.Directive.TheVariants.{If, Ifdef, Ifndef, Elif, Elifdef, Elifndef, Else, Endif, Define, Undef, Include, IncludeNext, Renumber, Error, Pragma, Nothing, Unknown}
use Rattle.scan_model.specs.Directives.{directive_of, defined, undef_line, numbered, is_line_number, line_set, quoted_name, with_macros, pragma_line, plain_line, hash_line}
use Rattle.scan_model.specs.KeywordLines.{is_object_like, as_keyword, sent, keyword_line, export_line, module_line}
use Rattle.scan_model.specs.DirectiveLines.{effect_of, effect}
use Rattle.unit_laws.specs.Streams.{is_stream_kind, KeywordsInPlace}
use Rattle.unit_laws.proofs.PlainText.{OnLine, IsPlainLine}
use Rattle.unit_laws.proofs.Parts.{OnSome, some_if}
use Rattle.unit_laws.proofs.PlainMacros.{PlainToks, PlainDef, PlainDefined, define_plain}
use Rattle.unit_laws.proofs.PlainExpansion.{PlainDefs, PlainAnswer, expand_plain}

pub no_stream_kind : (ts : List Tok) → PlainToks ts → list_any (λ t. is_stream_kind t.kind) ts ≡ false
no_stream_kind [] h = refl
no_stream_kind (t ∷ ts) h = rw h.0 (no_stream_kind ts h.1)

pub line_toks : (line : ℕ) (ts : List Tok) → OnLine line ts → PlainToks ts
line_toks line [] h = tt
line_toks line (t ∷ ts) h = (h.0.0, line_toks line ts h.1)

pub drop_plain : (ts : List Tok) → PlainToks ts → PlainToks (drop 1 ts)
drop_plain [] h = tt
drop_plain (t ∷ ts) h = h.1

-- ## Macros

abbrev pub PlainMacros : Macros → Type 0
PlainMacros m = PlainDefs m.defs × ((name : List ℕ) → AllByRecursion (OnSome PlainDef) (m.saved name))

put_plain : (defs : List ℕ → Option Def) (name : List ℕ) (def : Option Def) → PlainDefs defs → OnSome PlainDef def → PlainDefs (put defs name def)
put_plain defs name def h k other = some_if PlainDef (same name other) def (defs other) k (h other)

saved_plain : (saved : List ℕ → List (Option Def)) (name : List ℕ) (list : List (Option Def)) → ((name : List ℕ) → AllByRecursion (OnSome PlainDef) (saved name)) →
    AllByRecursion (OnSome PlainDef) list → (other : List ℕ) → AllByRecursion (OnSome PlainDef) (put saved name list other)
saved_plain saved name list h k other = put_one (same name other) where
  put_one : (b : Bool) → AllByRecursion (OnSome PlainDef) (if b then list else saved other)
  put_one true = k
  put_one false = h other

restored_plain : (m : Macros) (name : List ℕ) (list : List (Option Def)) → PlainMacros m → AllByRecursion (OnSome PlainDef) list → PlainMacros (restored m name list)
restored_plain m name [] h k = h
restored_plain m name (def ∷ list) h k = (put_plain m.defs name def h.0 k.0, saved_plain m.saved name list h.1 k.1)

pub built_ins_plain : PlainMacros built_ins
unfolding built_ins
built_ins_plain = (
  λ name. some_if PlainDef (spells "__FILE__" name) _ _ tt (some_if PlainDef (spells "__LINE__" name) _ _ tt (some_if PlainDef (spells "__DATE__" name) _ _ tt
      (some_if PlainDef (spells "__TIME__" name) _ _ tt (some_if PlainDef (spells "__COUNTER__" name) _ _ tt (some_if PlainDef (spells "__cplusplus" name) _ _ tt
      (some_if PlainDef (spells "__has_include" name) _ _ tt (some_if PlainDef (spells "__has_include_next" name) _ _ tt
      (some_if PlainDef (spells "__has_cpp_attribute" name) _ None tt tt)))))))),
  λ name. tt,
)

pub first_macros_plain : (dialect : Dialect) → PlainMacros (first_macros dialect)
first_macros_plain Cxx20 = built_ins_plain
first_macros_plain Cxx23 = (put_plain built_ins.defs (codes "__cplusplus") (Some cplusplus_23) built_ins_plain.0 (refl, tt), built_ins_plain.1)

-- ## Effects

abbrev pub PlainCore : Core → Type 0
PlainCore c = PlainMacros c.macros

module _ (X : Type 0) where
  abbrev pub PlainEffect : Effect X → Type 0
  PlainEffect (Now c) = PlainCore c
  PlainEffect (Enters place path chain_place text c) = PlainCore c
  PlainEffect (Sends l c) = KeywordsInPlace (Sent l) × PlainCore c
  PlainEffect (Halts cause c) = ⊤

  effect_if : (b : Bool) (e f : Effect X) → PlainEffect e → PlainEffect f → PlainEffect (if b then e else f)
  effect_if true e f h k = h
  effect_if false e f h k = k

  on_expanded_plain : (c : Core) (l : Line) (further : List Tok → Effect X) (answer : Expanded) → PlainAnswer answer → ((ts : List Tok) → PlainToks ts → PlainEffect (further ts)) →
      PlainEffect (on_expanded c l further answer)
  on_expanded_plain c l further (Gives.Done ts counter) h each = each ts h
  on_expanded_plain c l further Gives.Bad h each = tt
  on_expanded_plain c l further Gives.TooLong h each = tt
  on_expanded_plain c l further Gives.Counter h each = tt

  replaced_plain : (mode : Mode) (c : Core) (l : Line) (ts : List Tok) (further : List Tok → Effect X) → PlainCore c → PlainToks ts →
      ((ts : List Tok) → PlainToks ts → PlainEffect (further ts)) → PlainEffect (with_replaced mode c l ts further)
  replaced_plain mode c l ts further h k each = on_expanded_plain c l further (expand c.macros.defs c.site mode ts) (expand_plain c.macros.defs c.site mode ts h.0 k) each

  -- ## Files

  abbrev AbsentPlain : (Core → Effect X) → Type 0
  AbsentPlain absent = (c : Core) → PlainCore c → PlainEffect (absent c)

  abbrev PresentPlain : (List ℕ → X → Core → Effect X) → Type 0
  PresentPlain present = (path : List ℕ) (text : X) (c : Core) → PlainCore c → PlainEffect (present path text c)

  on_found_plain : (place : Place) (c : Core) (absent : Core → Effect X) (present : List ℕ → X → Core → Effect X) (found : Found X) → PlainCore c →
      AbsentPlain absent → PresentPlain present → PlainEffect (on_found place c absent present found)
  on_found_plain place c absent present Nowhere h a p = a c h
  on_found_plain place c absent present (Unread path) h a p = tt
  on_found_plain place c absent present (At path (Present text)) h a p = p path text c h
  on_found_plain place c absent present (At path Absent) h a p = a c h
  on_found_plain place c absent present (At path Failed) h a p = tt
  on_found_plain place c absent present (At path Big) h a p = tt
  on_found_plain place c absent present (At path NoMemory) h a p = tt

  module _ (files : FileMap X) where
    pub with_found_plain : (place : Place) (paths : List (List ℕ)) (c : Core) (absent : Core → Effect X) (present : List ℕ → X → Core → Effect X) → PlainCore c →
        AbsentPlain absent → PresentPlain present → PlainEffect (with_found files place paths c absent present)
    with_found_plain place paths c absent present h a p =
        on_found_plain place (record c { looked = c.looked ++ looked_at files paths }) absent present (find files paths) h a p

    pub include_plain : (place : Place) (paths : List (List ℕ)) (places : List ℕ → Option ℕ) (c : Core) → PlainCore c → PlainEffect (include files place paths places c)
    include_plain place paths places c h =
        with_found_plain place paths c (stop_at FaultIs.IncludeNotFound place) (unless_once place places) h (λ c k. tt)
        (λ path text c k. effect_if (c.once path) (Now c) (Enters place path (places path) text c) k k)

    module _ (setup : Setup) where
      by_plain : (c : Core) (l : Line) (n : Named) → PlainCore c → PlainEffect (include_by files setup c l n)
      by_plain c l n h = include_plain (place_of c l) (searched setup n (folder c.path)) (place_searched setup n (folder c.path)) c h

      named_plain : (next : Bool) (c : Core) (l : Line) (n : Option Named) → PlainCore c → PlainEffect (include_named next files setup c l n)
      named_plain next c l None h = tt
      named_plain next c l (Some n) h = by_plain c l (record n { form = search_form next c.chain_place n.form }) h

      include_line_plain : (next : Bool) (c : Core) (l : Line) (ts : List Tok) → PlainCore c → PlainToks ts → PlainEffect (include_line next files setup c l ts)
      include_line_plain next c l [] h k =
          replaced_plain ModeIs.Line c l [] (λ ts. include_named next files setup c l (option_and_then nonempty (name_of ts))) h tt
          (λ ts p. named_plain next c l (option_and_then nonempty (name_of ts)) h)
      include_line_plain next c l (t ∷ ts) h k =
          effect_if (is_of Header t) (include_named next files setup c l (nonempty (header t ts))) _ (named_plain next c l (nonempty (header t ts)) h)
          (replaced_plain ModeIs.Line c l (t ∷ ts) (λ ts. include_named next files setup c l (option_and_then nonempty (name_of ts))) h k
          (λ ts p. named_plain next c l (option_and_then nonempty (name_of ts)) h))

      -- ## Conditions

      has_values_plain : (l : Line) (ts : List Term) (c : Core) (further : List Bool → Core → Effect X) → PlainCore c →
          ((has : List Bool) (c : Core) → PlainCore c → PlainEffect (further has c)) → PlainEffect (with_has_values files setup l ts c further)
      has_values_plain l [] c further h each = each [] c h
      has_values_plain l (Plain t ∷ ts) c further h each = has_values_plain l ts c further h each
      has_values_plain l (Has next form name ∷ ts) c further h each =
          with_found_plain (place_of c l) (searched setup (record { form = search_form next c.chain_place form; name = name; after = [] }) (folder c.path)) c
          (λ c. with_has_values files setup l ts c (λ has. further (false ∷ has))) (λ path text c. with_has_values files setup l ts c (λ has. further (true ∷ has))) h
          (λ c k. has_values_plain l ts c (λ has. further (false ∷ has)) k (λ has c p. each (false ∷ has) c p))
          (λ path text c k. has_values_plain l ts c (λ has. further (true ∷ has)) k (λ has c p. each (true ∷ has) c p))

      abbrev FurtherPlain : (Bool → Core → Effect X) → Type 0
      FurtherPlain further = (b : Bool) (c : Core) → PlainCore c → PlainEffect (further b c)

      on_value_plain : (l : Line) (further : Bool → Core → Effect X) (v : Result CondValue CondFault) (c : Core) → FurtherPlain further → PlainCore c →
          PlainEffect (on_value l further v c)
      on_value_plain l further (Ok v) c each h = each (is_nonzero v) c h
      on_value_plain l further (Err fault) c each h = tt

      on_terms_plain : (c : Core) (l : Line) (toks : List Tok) (further : Bool → Core → Effect X) (ts : Option (List Term)) → FurtherPlain further → PlainCore c →
          PlainEffect (on_terms files setup c l toks further ts)
      on_terms_plain c l toks further None each h = tt
      on_terms_plain c l toks further (Some ts) each h =
          has_values_plain l ts c (λ has. on_value l further (value toks has)) h (λ has c k. on_value_plain l further (value toks has) c each k)

      condition_plain : (c : Core) (l : Line) (toks : List Tok) (further : Bool → Core → Effect X) → FurtherPlain further → PlainCore c → PlainToks toks →
          PlainEffect (with_condition files setup c l toks further)
      condition_plain c l toks further each h k =
          replaced_plain ModeIs.Condition c l toks (λ ts. on_terms files setup c l ts further (terms ts)) h k (λ ts p. on_terms_plain c l ts further (terms ts) each h)

      defined_plain : (c : Core) (l : Line) (ts : List Tok) (further : Bool → Core → Effect X) → FurtherPlain further → PlainCore c → PlainEffect (with_defined c l ts further)
      defined_plain c l [] further each h = tt
      defined_plain c l (t ∷ ts) further each h =
          effect_if (is_of Ident t) (further (is_some (c.macros.defs t.text)) c) (stop FaultIs.BadCondition c l) (each (is_some (c.macros.defs t.text)) c h) tt

      group_plain : (c : Core) (l : Line) (condition : (Bool → Core → Effect X) → Effect X) → ((further : Bool → Core → Effect X) → FurtherPlain further → PlainEffect (condition further)) →
          (gs : List Group) → PlainCore c → PlainEffect (next_group c l condition gs)
      group_plain c l condition each [] h = tt
      group_plain c l condition each (g ∷ gs) h =
          effect_if g.past_else (stop FaultIs.Unbalanced c l) _ tt
          (effect_if g.taken (with_group (record g { live = false }) gs c) _ h
          (each (λ yields. with_group (record g { live = yields; taken = yields }) gs) (λ b c p. p)))

      elif_plain : (c : Core) (l : Line) (ts : List Tok) (gs : List Group) → PlainCore c → PlainToks ts → PlainEffect (elif_line files setup c l ts gs)
      elif_plain c l ts gs h k = group_plain c l (with_condition files setup c l ts) (λ further each. condition_plain c l ts further each h k) gs h

      elifdef_plain : (c : Core) (l : Line) (ts : List Tok) (gs : List Group) → PlainCore c → PlainEffect (elifdef_line c l ts gs)
      elifdef_plain c l ts gs h = group_plain c l (with_defined c l ts) (λ further each. defined_plain c l ts further each h) gs h

      elifndef_plain : (c : Core) (l : Line) (ts : List Tok) (gs : List Group) → PlainCore c → PlainEffect (elifndef_line c l ts gs)
      elifndef_plain c l ts gs h =
          group_plain c l (λ further. with_defined c l ts (λ yields. further (not yields)))
          (λ further each. defined_plain c l ts (λ yields. further (not yields)) (λ b c p. each (not b) c p) h) gs h

      else_plain : (c : Core) (l : Line) (gs : List Group) → PlainCore c → PlainEffect (else_line c l gs)
      else_plain c l [] h = tt
      else_plain c l (g ∷ gs) h =
          effect_if g.past_else (stop FaultIs.Unbalanced c l) (with_group (record g { live = not g.taken; taken = true; past_else = true }) gs c) tt h

      endif_plain : (c : Core) (l : Line) (gs : List Group) → PlainCore c → PlainEffect (endif_line c l gs)
      endif_plain c l [] h = tt
      endif_plain c l (g ∷ gs) h = h

      -- ## Other directives

      define_effect : (c : Core) (l : Line) (found : Option (List ℕ × Def)) → OnSome PlainDefined found → PlainCore c → PlainEffect (defined c l found)
      define_effect c l None k h = tt
      define_effect c l (Some found) k h = (put_plain c.macros.defs found.0 (Some found.1) h.0 k, h.1)

      undef_plain : (c : Core) (l : Line) (ts : List Tok) → PlainCore c → PlainEffect (undef_line c l ts)
      undef_plain c l [] h = tt
      undef_plain c l (t ∷ ts) h =
          effect_if (is_of Ident t) (Now (record c { macros = undef c.macros t.text })) (stop FaultIs.BadDefine c l) (put_plain c.macros.defs t.text None h.0 tt, h.1) tt

      line_set_plain : (c : Core) (l : Line) (ts : List Tok) → PlainCore c → PlainEffect (line_set c l ts)
      line_set_plain c l [] h = tt
      line_set_plain c l (t ∷ []) h = effect_if (is_line_number t) (numbered c l t.text c.site.file) (stop FaultIs.BadLine c l) h tt
      line_set_plain c l (t ∷ u ∷ ts) h = effect_if (is_line_number t && is_plain_string u) (numbered c l t.text u.text) (stop FaultIs.BadLine c l) h tt

      push_plain : (c : Core) (name : Option (List ℕ)) → PlainCore c → PlainEffect (with_macros c push name)
      push_plain c None h = h
      push_plain c (Some name) h = (h.0, saved_plain c.macros.saved name (c.macros.defs name ∷ c.macros.saved name) h.1 (h.0 name, h.1 name))

      pop_plain : (c : Core) (name : Option (List ℕ)) → PlainCore c → PlainEffect (with_macros c pop name)
      pop_plain c None h = h
      pop_plain c (Some name) h = restored_plain c.macros name (c.macros.saved name) h (h.1 name)

      pragma_plain : (c : Core) (ts : List Tok) → PlainCore c → PlainEffect (pragma_line c ts)
      pragma_plain c [] h = h
      pragma_plain c (t ∷ ts) h =
          effect_if (is_word "once" t) _ _ h
          (effect_if (is_word "push_macro" t) _ _ (push_plain c (quoted_name ts) h)
          (effect_if (is_word "pop_macro" t) _ (Now c) (pop_plain c (quoted_name ts) h) h))

      plain_line_plain : (c : Core) (l : Line) (ts : List Tok) (d : Directive) → PlainCore c → PlainToks ts → PlainEffect (plain_line files setup c l ts d)
      plain_line_plain c l ts Define h k = define_effect c l (read_define ts) (define_plain ts k) h
      plain_line_plain c l ts Undef h k = undef_plain c l ts h
      plain_line_plain c l ts Include h k = include_line_plain false c l ts h k
      plain_line_plain c l ts IncludeNext h k = include_line_plain true c l ts h k
      plain_line_plain c l ts Renumber h k = replaced_plain ModeIs.Line c l ts (line_set c l) h k (λ ts p. line_set_plain c l ts h)
      plain_line_plain c l ts Error h k = tt
      plain_line_plain c l ts Pragma h k = pragma_plain c ts h
      plain_line_plain c l ts Unknown h k = tt
      plain_line_plain c l ts If h k = h
      plain_line_plain c l ts Ifdef h k = h
      plain_line_plain c l ts Ifndef h k = h
      plain_line_plain c l ts Elif h k = h
      plain_line_plain c l ts Elifdef h k = h
      plain_line_plain c l ts Elifndef h k = h
      plain_line_plain c l ts Else h k = h
      plain_line_plain c l ts Endif h k = h
      plain_line_plain c l ts Nothing h k = h

      skips_plain : (c : Core) (l : Line) (ts : List Tok) (d : Directive) → PlainCore c → PlainToks ts → PlainEffect (if is_skipped c.stack then Now c else plain_line files setup c l ts d)
      skips_plain c l ts d h k = effect_if (is_skipped c.stack) (Now c) (plain_line files setup c l ts d) h (plain_line_plain c l ts d h k)

      pub hash_plain : (c : Core) (l : Line) (ts : List Tok) (d : Directive) → PlainCore c → PlainToks ts → PlainEffect (hash_line files setup c l ts d)
      hash_plain c l ts If h k = effect_if (is_skipped c.stack) (opened_skipped l c) _ h (condition_plain c l ts (opened l) (λ b c p. p) h k)
      hash_plain c l ts Ifdef h k = effect_if (is_skipped c.stack) (opened_skipped l c) _ h (defined_plain c l ts (opened l) (λ b c p. p) h)
      hash_plain c l ts Ifndef h k = effect_if (is_skipped c.stack) (opened_skipped l c) _ h (defined_plain c l ts (λ yields. opened l (not yields)) (λ b c p. p) h)
      hash_plain c l ts Elif h k = elif_plain c l ts c.stack h k
      hash_plain c l ts Elifdef h k = elifdef_plain c l ts c.stack h
      hash_plain c l ts Elifndef h k = elifndef_plain c l ts c.stack h
      hash_plain c l ts Else h k = else_plain c l c.stack h
      hash_plain c l ts Endif h k = endif_plain c l c.stack h
      hash_plain c l ts Define h k = skips_plain c l ts Define h k
      hash_plain c l ts Undef h k = skips_plain c l ts Undef h k
      hash_plain c l ts Include h k = skips_plain c l ts Include h k
      hash_plain c l ts IncludeNext h k = skips_plain c l ts IncludeNext h k
      hash_plain c l ts Renumber h k = skips_plain c l ts Renumber h k
      hash_plain c l ts Error h k = skips_plain c l ts Error h k
      hash_plain c l ts Pragma h k = skips_plain c l ts Pragma h k
      hash_plain c l ts Nothing h k = skips_plain c l ts Nothing h k
      hash_plain c l ts Unknown h k = skips_plain c l ts Unknown h k

      -- ## Module and import lines

      keyword_plain : (c : Core) (l : Line) (ts : List Tok) → PlainCore c → OnLine l.line ts → PlainEffect (keyword_line c l false [] ts)
      keyword_plain c l [] h k = h
      keyword_plain c l (t ∷ ts) h k =
          effect_if (is_object_like (c.macros.defs t.text)) (stop FaultIs.KeywordIsMacro c l) _ tt
          (replaced_plain ModeIs.Line c l ts (sent c l false [] t) h (line_toks l.line ts k.1)
          (λ ts p. ((no_stream_kind ts p, refl, ap (◌∷ []) k.0.1), h)))

      exported_plain : (c : Core) (l : Line) (x : Tok) (ts : List Tok) → PlainCore c → x.line ≡ l.line → OnLine l.line ts → PlainEffect (keyword_line c l true (as_keyword ExportKw x ∷ []) ts)
      exported_plain c l x [] h e k = h
      exported_plain c l x (t ∷ ts) h e k =
          let lines : x.line ∷ t.line ∷ [] ≡ l.line ∷ l.line ∷ [] = two k.0.1 in
          effect_if (is_object_like (c.macros.defs t.text)) (stop FaultIs.KeywordIsMacro c l) _ tt
          (replaced_plain ModeIs.Line c l ts (sent c l true (as_keyword ExportKw x ∷ []) t) h (line_toks l.line ts k.1)
          (λ ts p. ((no_stream_kind ts p, refl, lines), h))) where
            two : t.line ≡ l.line → x.line ∷ t.line ∷ [] ≡ l.line ∷ l.line ∷ []
            two d = cc

      module_plain : (c : Core) (l : Line) (ts : List Tok) → PlainCore c → OnLine l.line ts → PlainEffect (module_line c l ts)
      module_plain c l [] h k = h
      module_plain c l (t ∷ ts) h k =
          effect_if (spells "export" t.text) (export_line c l t ts) (keyword_line c l false [] (t ∷ ts))
          (effect_if (is_object_like (c.macros.defs t.text)) (stop FaultIs.KeywordIsMacro c l) _ tt (exported_plain c l t ts h k.0.1 k.1))
          (keyword_plain c l (t ∷ ts) h k)

      -- ## Lines

      of_plain : (c : Core) (l : Line) (ts : List Tok) → PlainCore c → OnLine l.line ts → PlainEffect (effect_of files setup c l ts)
      of_plain c l [] h k = h
      of_plain c l (t ∷ ts) h k =
          effect_if (is_one_of ("#" ∷ "%:" ∷ []) t.text) (hash_line files setup c l (drop 1 ts) (directive_of setup.command.dialect ts)) _
          (hash_plain c l (drop 1 ts) (directive_of setup.command.dialect ts) h (drop_plain ts (line_toks l.line ts k.1)))
          (effect_if (is_skipped c.stack) (Now c) (module_line c l (t ∷ ts)) h (module_plain c l (t ∷ ts) h k))

      pub effect_plain : (c : Core) (l : Line) → PlainCore c → IsPlainLine l → PlainEffect (effect files setup c l)
      unfolding effect
      effect_plain c l h k = of_plain c l l.toks h k
