-- Files with the same directives act alike, whatever text stands between these.
use Rattle.std.proofs.Common.{◌≡◌, ℕ, zero, suc, Bool, true, false, cond, not, ◌&&◌, nat_le, if◌then◌else◌, List, [], ◌∷◌, ◌++◌, drop, refl, ap, sym, ◌∙◌, subst}
use Rattle.std.specs.Prelude.{⊤, Option, Some, None, is_some}
use Rattle.std.specs.Option.{option_and_then}
use Rattle.std.specs.List.{filter}
use Rattle.std.specs.declared.result.Result.{Result}
use Rattle.std.specs.declared.result.Result.TheVariants.{Ok, Err}
use Rattle.scan_model.specs.declared.token.Kind.TheVariants.{Ident, Header, ExportKw}
use Rattle.scan_model.specs.declared.token.Tok.{Tok}
use Rattle.scan_model.specs.declared.token.Line.{Line}
use Rattle.scan_model.specs.declared.macros.Def.{Def}
use Rattle.scan_model.specs.declared.unit_end.Place.{Place}
use Rattle.scan_model.specs.declared.expansion.Mode.{Mode}
use Rattle.scan_model.specs.declared.expansion.Mode.TheVariants as ModeIs
use Rattle.scan_model.specs.declared.expansion.Expanded.{Expanded}
use Rattle.scan_model.specs.declared.expansion.Expanded.TheVariants as Gives
use Rattle.scan_model.specs.declared.condition.CondValue.{CondValue}
use Rattle.scan_model.specs.declared.condition.CondFault.{CondFault}
use Rattle.scan_model.specs.declared.unit_end.FaultKind.TheVariants as FaultIs
use Rattle.scan_model.specs.Spelling.{spells, is_one_of}
use Rattle.scan_model.specs.Lines.{is_directive}
use Rattle.scan_model.specs.TokenTests.{is_of, is_word, is_plain_string}
use Rattle.scan_model.specs.Macros.{Macros, push, pop}
use Rattle.scan_model.specs.MacroDefinition.{read_define}
use Rattle.scan_model.specs.Expansion.{expand}
use Rattle.scan_model.specs.HeaderName.{Named, Term, Plain, Has, terms, name_of, nonempty, header}
use Rattle.scan_model.specs.Condition.{value}
use Rattle.scan_model.specs.ConditionValue.{is_nonzero}
use Rattle.scan_model.specs.Paths.{folder}
use Rattle.scan_model.specs.Files.{Content, Present, Absent, Failed, Big, NoMemory, FileMap, Found, At, Unread, Nowhere, found_at, find, and_later, looked_at}
use Rattle.scan_model.specs.Effect.{halted, fault, Effect, Now, Enters, Sends, Halts, Enter, done, place_of, stop, stop_at}
use Rattle.scan_model.specs.State.{Group, Setup, Core, State, Needs, Reached, Going, Stopped, then_go}
use Rattle.scan_model.specs.Stream.{ModuleLine, Piece, Run, Sent, module_lines}
use Rattle.scan_model.specs.Replacing.{on_expanded, with_replaced}
use Rattle.scan_model.specs.Search.{on_found, with_found, searched, place_searched, search_form}
use Rattle.scan_model.specs.Includes.{unless_once, include, include_by, include_named, include_line}
use Rattle.scan_model.specs.Conditionals.{with_has_values, on_value, on_terms, with_condition, with_defined, is_skipped, opened, with_group, next_group, elif_line, elifdef_line, elifndef_line, else_line, endif_line}
use Rattle.scan_model.specs.declared.directive.Directive.{Directive}
use Rattle.scan_model.specs.declared.directive.Directive.TheVariants.{If, Ifdef, Ifndef, Elif, Elifdef, Elifndef, Else, Endif, Define, Undef, Include, IncludeNext, Renumber, Error, Pragma, Nothing, Unknown}
use Rattle.scan_model.specs.Directives.{directive_of, plain_line, hash_line, defined, undef_line, line_set, pragma_line, with_macros, quoted_name, is_line_number}
use Rattle.scan_model.specs.KeywordLines.{module_line, keyword_line, is_object_like, as_keyword, sent}
use Rattle.scan_model.specs.DirectiveLines.{effect_of, effect}
use Rattle.scan_model.specs.WholeFile.{View, entered_limit, end_run, run_done, full_line, full_lines, full_file, enter, at_file_end, at_file_start, back_in, joined}
use Rattle.unit_laws.specs.Reduction.{Similar, Alike, RunKeepsCore, SameContent, SameFiles, LinesAlike, FileAlike, TextKeepsCore}

-- ## The stream

run_unsent : (ps : List Piece) (path : List ℕ) (toks : List Tok) → module_lines (ps ++ Run path toks ∷ []) ≡ module_lines ps
run_unsent [] path toks = refl
run_unsent (Run p ts ∷ ps) path toks = run_unsent ps path toks
run_unsent (Sent l ∷ ps) path toks = ap (l ∷◌) (run_unsent ps path toks)

one_sent : (ps : List Piece) (l : ModuleLine) → module_lines (ps ++ Sent l ∷ []) ≡ module_lines ps ++ l ∷ []
one_sent [] l = refl
one_sent (Run p ts ∷ ps) l = one_sent ps l
one_sent (Sent m ∷ ps) l = ap (m ∷◌) (one_sent ps l)

run_done_keeps : (s : State) (answer : Expanded) → Similar (run_done s answer) s
run_done_keeps s (Gives.Done toks counter) = (refl, run_unsent s.stream s.core.path toks)
run_done_keeps s Gives.Bad = (refl, run_unsent s.stream s.core.path s.run)
run_done_keeps s Gives.TooLong = (refl, run_unsent s.stream s.core.path s.run)
run_done_keeps s Gives.Counter = (refl, run_unsent s.stream s.core.path s.run)

pub run_keeps : RunKeepsCore
unfolding end_run
run_keeps s = run_done_keeps s (expand s.core.macros.defs s.core.site (ModeIs.Text s.counter) s.run)

-- ## Effects

module _ (X Y : Type 0) (view : View X) (other : View Y) where
  abbrev pub SameText : X → Y → Type 0
  SameText x y = filter is_directive (view x) ≡ filter is_directive (other y)

  abbrev pub SameEffect : Effect X → Effect Y → Type 0
  SameEffect (Now c) (Now d) = c ≡ d
  SameEffect (Enters place path chain_place x c) (Enters place' path' chain_place' y d) = (place ≡ place') × (path ≡ path') × (chain_place ≡ chain_place') × SameText x y × (c ≡ d)
  SameEffect (Sends l c) (Sends m d) = (l ≡ m) × (c ≡ d)
  SameEffect (Halts cause c) (Halts cause' d) = (cause ≡ cause') × (c ≡ d)
  SameEffect e f = ⊥

  same_if : (b : Bool) (e e' : Effect X) (f f' : Effect Y) → SameEffect e f → SameEffect e' f' → SameEffect (if b then e else e') (if b then f else f')
  same_if true e e' f f' h h' = h
  same_if false e e' f f' h h' = h'

  same_expanded : (c : Core) (l : Line) (g : List Tok → Effect X) (h : List Tok → Effect Y) → ((ts : List Tok) → SameEffect (g ts) (h ts)) →
      (answer : Expanded) → SameEffect (on_expanded c l g answer) (on_expanded c l h answer)
  same_expanded c l g h each (Gives.Done toks counter) = each toks
  same_expanded c l g h each Gives.Bad = (refl, refl)
  same_expanded c l g h each Gives.TooLong = (refl, refl)
  same_expanded c l g h each Gives.Counter = (refl, refl)

  same_replaced : (mode : Mode) (c : Core) (l : Line) (ts : List Tok) (g : List Tok → Effect X) (h : List Tok → Effect Y) → ((ts : List Tok) → SameEffect (g ts) (h ts)) →
      SameEffect (with_replaced mode c l ts g) (with_replaced mode c l ts h)
  same_replaced mode c l ts g h each = same_expanded c l g h each (expand c.macros.defs c.site mode ts)

  -- ## Files

  abbrev pub SameFound : Found X → Found Y → Type 0
  SameFound (At path content) (At path' content') = (path ≡ path') × SameContent X Y view other (Some content) (Some content')
  SameFound (Unread path) (Unread path') = path ≡ path'
  SameFound Nowhere Nowhere = ⊤
  SameFound e f = ⊥

  same_found_at : (path : List ℕ) (content : Option (Content X)) (content' : Option (Content Y)) (later : Found X) (later' : Found Y) →
      SameContent X Y view other content content' → SameFound later later' → SameFound (found_at path content later) (found_at path content' later')
  same_found_at path None None later later' h r = refl
  same_found_at path (Some (Present x)) (Some (Present y)) later later' h r = (refl, h)
  same_found_at path (Some Absent) (Some Absent) later later' h r = r
  same_found_at path (Some Failed) (Some Failed) later later' h r = (refl, tt)
  same_found_at path (Some Big) (Some Big) later later' h r = (refl, tt)
  same_found_at path (Some NoMemory) (Some NoMemory) later later' h r = (refl, tt)
  same_found_at path content another later later' h r = absurd h

  same_later : (content : Option (Content X)) (content' : Option (Content Y)) (later later' : List (List ℕ)) →
      SameContent X Y view other content content' → later ≡ later' → and_later content later ≡ and_later content' later'
  same_later None None later later' h r = refl
  same_later (Some Absent) (Some Absent) later later' h r = r
  same_later (Some (Present x)) (Some (Present y)) later later' h r = refl
  same_later (Some Failed) (Some Failed) later later' h r = refl
  same_later (Some Big) (Some Big) later later' h r = refl
  same_later (Some NoMemory) (Some NoMemory) later later' h r = refl
  same_later content another later later' h r = absurd h

  -- ## What looks at files

  same_on_found : (place : Place) (c : Core) (a : Core → Effect X) (b : Core → Effect Y) (p : List ℕ → X → Core → Effect X) (q : List ℕ → Y → Core → Effect Y) →
      ((c : Core) → SameEffect (a c) (b c)) → ((path : List ℕ) (x : X) (y : Y) (c : Core) → SameText x y → SameEffect (p path x c) (q path y c)) →
      (f : Found X) (g : Found Y) → SameFound f g → SameEffect (on_found place c a p f) (on_found place c b q g)
  same_on_found place c a b p q k m Nowhere Nowhere h = k c
  same_on_found place c a b p q k m (Unread path) (Unread path') h = (ap Needs h, refl)
  same_on_found place c a b p q k m (At path (Present x)) (At path' (Present y)) h =
      subst (λ z. SameEffect (p path x c) (q z y c)) h.0 (m path x y c h.1)
  same_on_found place c a b p q k m (At path Absent) (At path' Absent) h = k c
  same_on_found place c a b p q k m (At path Failed) (At path' Failed) h = (refl, refl)
  same_on_found place c a b p q k m (At path Big) (At path' Big) h = (refl, refl)
  same_on_found place c a b p q k m (At path NoMemory) (At path' NoMemory) h = (refl, refl)
  same_on_found place c a b p q k m (At path content) (At path' another) h = absurd h.1
  same_on_found place c a b p q k m found another h = absurd h

  same_unless_once : (place : Place) (places : List ℕ → Option ℕ) (path : List ℕ) (x : X) (y : Y) (c : Core) → SameText x y →
      SameEffect (unless_once place places path x c) (unless_once place places path y c)
  same_unless_once place places path x y c h =
      same_if (c.once path) (Now c) (Enters place path (places path) x c) (Now c) (Enters place path (places path) y c) refl (refl, refl, refl, h, refl)

  module _ (files : FileMap X) (others : FileMap Y) (same : SameFiles X Y view other files others) where
    same_find : (paths : List (List ℕ)) → SameFound (find files paths) (find others paths)
    unfolding find
    same_find [] = tt
    same_find (p ∷ ps) = same_found_at p (files p) (others p) (find files ps) (find others ps) (same p) (same_find ps)

    same_looked : (paths : List (List ℕ)) → looked_at files paths ≡ looked_at others paths
    unfolding looked_at
    same_looked [] = refl
    same_looked (p ∷ ps) = ap (p ∷◌) (same_later (files p) (others p) (looked_at files ps) (looked_at others ps) (same p) (same_looked ps))

    pub same_with_found : (place : Place) (paths : List (List ℕ)) (c : Core) (a : Core → Effect X) (b : Core → Effect Y) (p : List ℕ → X → Core → Effect X) (q : List ℕ → Y → Core → Effect Y) →
        ((c : Core) → SameEffect (a c) (b c)) → ((path : List ℕ) (x : X) (y : Y) (c : Core) → SameText x y → SameEffect (p path x c) (q path y c)) →
        SameEffect (with_found files place paths c a p) (with_found others place paths c b q)
    same_with_found place paths c a b p q k m =
        subst (λ l. SameEffect (with_found files place paths c a p) (on_found place (record c { looked = c.looked ++ l }) b q (find others paths))) (same_looked paths)
        (same_on_found place (record c { looked = c.looked ++ looked_at files paths }) a b p q k m (find files paths) (find others paths) (same_find paths))

    pub same_include : (place : Place) (paths : List (List ℕ)) (places : List ℕ → Option ℕ) (c : Core) →
        SameEffect (include files place paths places c) (include others place paths places c)
    same_include place paths places c =
        same_with_found place paths c (stop_at FaultIs.IncludeNotFound place) (stop_at FaultIs.IncludeNotFound place) (unless_once place places) (unless_once place places)
        (λ c. (refl, refl)) (λ path x y c h. same_unless_once place places path x y c h)

    module _ (setup : Setup) where
      same_has_values : (l : Line) (ts : List Term) (c : Core) (g : List Bool → Core → Effect X) (h : List Bool → Core → Effect Y) →
          ((bs : List Bool) (c : Core) → SameEffect (g bs c) (h bs c)) → SameEffect (with_has_values files setup l ts c g) (with_has_values others setup l ts c h)
      same_has_values l [] c g h each = each [] c
      same_has_values l (Plain t ∷ ts) c g h each = same_has_values l ts c g h each
      same_has_values l (Has next form name ∷ ts) c g h each =
          same_with_found (place_of c l) (searched setup (record { form = search_form next c.chain_place form; name = name; after = [] }) (folder c.path)) c
          (λ c. with_has_values files setup l ts c (λ has. g (false ∷ has))) (λ c. with_has_values others setup l ts c (λ has. h (false ∷ has)))
          (λ path x c. with_has_values files setup l ts c (λ has. g (true ∷ has))) (λ path x c. with_has_values others setup l ts c (λ has. h (true ∷ has)))
          (λ c. same_has_values l ts c (λ has. g (false ∷ has)) (λ has. h (false ∷ has)) (λ bs c. each (false ∷ bs) c))
          (λ path x y c k. same_has_values l ts c (λ has. g (true ∷ has)) (λ has. h (true ∷ has)) (λ bs c. each (true ∷ bs) c))

      abbrev SameFurther : (Bool → Core → Effect X) → (Bool → Core → Effect Y) → Type 0
      SameFurther g h = (b : Bool) (c : Core) → SameEffect (g b c) (h b c)

      same_on_value : (l : Line) (g : Bool → Core → Effect X) (h : Bool → Core → Effect Y) → SameFurther g h →
          (v : Result CondValue CondFault) (c : Core) → SameEffect (on_value l g v c) (on_value l h v c)
      same_on_value l g h each (Ok v) c = each (is_nonzero v) c
      same_on_value l g h each (Err fault) c = (refl, refl)

      same_on_terms : (c : Core) (l : Line) (toks : List Tok) (g : Bool → Core → Effect X) (h : Bool → Core → Effect Y) → SameFurther g h →
          (ts : Option (List Term)) → SameEffect (on_terms files setup c l toks g ts) (on_terms others setup c l toks h ts)
      same_on_terms c l toks g h each None = (refl, refl)
      same_on_terms c l toks g h each (Some ts) =
          same_has_values l ts c (λ has. on_value l g (value toks has)) (λ has. on_value l h (value toks has)) (λ has c. same_on_value l g h each (value toks has) c)

      same_condition : (c : Core) (l : Line) (toks : List Tok) (g : Bool → Core → Effect X) (h : Bool → Core → Effect Y) → SameFurther g h →
          SameEffect (with_condition files setup c l toks g) (with_condition others setup c l toks h)
      same_condition c l toks g h each =
          same_replaced ModeIs.Condition c l toks (λ ts. on_terms files setup c l ts g (terms ts)) (λ ts. on_terms others setup c l ts h (terms ts))
          (λ ts. same_on_terms c l ts g h each (terms ts))

      same_defined : (c : Core) (l : Line) (ts : List Tok) (g : Bool → Core → Effect X) (h : Bool → Core → Effect Y) → SameFurther g h →
          SameEffect (with_defined c l ts g) (with_defined c l ts h)
      same_defined c l [] g h each = (refl, refl)
      same_defined c l (t ∷ ts) g h each =
          same_if (is_of Ident t) (g (is_some (c.macros.defs t.text)) c) (stop FaultIs.BadCondition c l) (h (is_some (c.macros.defs t.text)) c) (stop FaultIs.BadCondition c l)
          (each (is_some (c.macros.defs t.text)) c) (refl, refl)

      same_group : (c : Core) (l : Line) (p : (Bool → Core → Effect X) → Effect X) (q : (Bool → Core → Effect Y) → Effect Y) →
          ((g : Bool → Core → Effect X) (h : Bool → Core → Effect Y) → SameFurther g h → SameEffect (p g) (q h)) → (gs : List Group) →
          SameEffect (next_group c l p gs) (next_group c l q gs)
      same_group c l p q each [] = (refl, refl)
      same_group c l p q each (g ∷ gs) =
          same_if g.past_else _ _ _ _ (refl, refl) (same_if g.taken _ _ _ _ refl
          (each (λ yields. with_group (record g { live = yields; taken = yields }) gs) (λ yields. with_group (record g { live = yields; taken = yields }) gs) (λ b c. refl)))

      same_elif : (c : Core) (l : Line) (ts : List Tok) (gs : List Group) → SameEffect (elif_line files setup c l ts gs) (elif_line others setup c l ts gs)
      same_elif c l ts gs = same_group c l (with_condition files setup c l ts) (with_condition others setup c l ts) (same_condition c l ts) gs

      same_elifdef : (c : Core) (l : Line) (ts : List Tok) (gs : List Group) → SameEffect (elifdef_line c l ts gs) (elifdef_line c l ts gs)
      same_elifdef c l ts gs = same_group c l (with_defined c l ts) (with_defined c l ts) (same_defined c l ts) gs

      same_elifndef : (c : Core) (l : Line) (ts : List Tok) (gs : List Group) → SameEffect (elifndef_line c l ts gs) (elifndef_line c l ts gs)
      same_elifndef c l ts gs =
          same_group c l (λ further. with_defined c l ts (λ yields. further (not yields))) (λ further. with_defined c l ts (λ yields. further (not yields)))
          (λ g h each. same_defined c l ts (λ yields. g (not yields)) (λ yields. h (not yields)) (λ b c. each (not b) c)) gs

      same_else : (c : Core) (l : Line) (gs : List Group) → SameEffect (else_line c l gs) (else_line c l gs)
      same_else c l [] = (refl, refl)
      same_else c l (g ∷ gs) = same_if g.past_else _ _ _ _ (refl, refl) refl

      same_endif : (c : Core) (l : Line) (gs : List Group) → SameEffect (endif_line c l gs) (endif_line c l gs)
      same_endif c l [] = (refl, refl)
      same_endif c l (g ∷ gs) = refl

      same_included_by : (c : Core) (l : Line) (n : Named) → SameEffect (include_by files setup c l n) (include_by others setup c l n)
      same_included_by c l n = same_include (place_of c l) (searched setup n (folder c.path)) (place_searched setup n (folder c.path)) c

      same_included : (next : Bool) (c : Core) (l : Line) (n : Option Named) → SameEffect (include_named next files setup c l n) (include_named next others setup c l n)
      same_included next c l None = (refl, refl)
      same_included next c l (Some n) = same_included_by c l (record n { form = search_form next c.chain_place n.form })

      same_include_line : (next : Bool) (c : Core) (l : Line) (ts : List Tok) → SameEffect (include_line next files setup c l ts) (include_line next others setup c l ts)
      same_include_line next c l [] = same_replaced ModeIs.Line c l [] _ _ (λ toks. same_included next c l (option_and_then nonempty (name_of toks)))
      same_include_line next c l (t ∷ ts) = same_if (is_of Header t) _ _ _ _ (same_included next c l (nonempty (header t ts)))
          (same_replaced ModeIs.Line c l (t ∷ ts) _ _ (λ toks. same_included next c l (option_and_then nonempty (name_of toks))))

      -- ## The other directives

      same_define : (c : Core) (l : Line) (found : Option (List ℕ × Def)) → SameEffect (defined c l found) (defined c l found)
      same_define c l None = (refl, refl)
      same_define c l (Some found) = refl

      same_undef : (c : Core) (l : Line) (ts : List Tok) → SameEffect (undef_line c l ts) (undef_line c l ts)
      same_undef c l [] = (refl, refl)
      same_undef c l (t ∷ ts) = same_if (is_of Ident t) _ _ _ _ refl (refl, refl)

      same_line_set : (c : Core) (l : Line) (ts : List Tok) → SameEffect (line_set c l ts) (line_set c l ts)
      same_line_set c l [] = (refl, refl)
      same_line_set c l (t ∷ []) = same_if (is_line_number t) _ _ _ _ refl (refl, refl)
      same_line_set c l (t ∷ u ∷ ts) = same_if (is_line_number t && is_plain_string u) _ _ _ _ refl (refl, refl)

      same_macros : (c : Core) (change : Macros → List ℕ → Macros) (name : Option (List ℕ)) → SameEffect (with_macros c change name) (with_macros c change name)
      same_macros c change None = refl
      same_macros c change (Some name) = refl

      same_pragma : (c : Core) (ts : List Tok) → SameEffect (pragma_line c ts) (pragma_line c ts)
      same_pragma c [] = refl
      same_pragma c (t ∷ ts) =
          same_if (is_word "once" t) _ _ _ _ refl (same_if (is_word "push_macro" t) _ _ _ _ (same_macros c push (quoted_name ts))
          (same_if (is_word "pop_macro" t) _ _ _ _ (same_macros c pop (quoted_name ts)) refl))

      same_plain : (c : Core) (l : Line) (ts : List Tok) (d : Directive) → SameEffect (plain_line files setup c l ts d) (plain_line others setup c l ts d)
      same_plain c l ts Define = same_define c l (read_define ts)
      same_plain c l ts Undef = same_undef c l ts
      same_plain c l ts Include = same_include_line false c l ts
      same_plain c l ts IncludeNext = same_include_line true c l ts
      same_plain c l ts Renumber = same_replaced ModeIs.Line c l ts (line_set c l) (line_set c l) (same_line_set c l)
      same_plain c l ts Error = (refl, refl)
      same_plain c l ts Pragma = same_pragma c ts
      same_plain c l ts Unknown = (refl, refl)
      same_plain c l ts If = refl
      same_plain c l ts Ifdef = refl
      same_plain c l ts Ifndef = refl
      same_plain c l ts Elif = refl
      same_plain c l ts Elifdef = refl
      same_plain c l ts Elifndef = refl
      same_plain c l ts Else = refl
      same_plain c l ts Endif = refl
      same_plain c l ts Nothing = refl

      same_hash : (c : Core) (l : Line) (ts : List Tok) (d : Directive) → SameEffect (hash_line files setup c l ts d) (hash_line others setup c l ts d)
      same_hash c l ts If = same_if (is_skipped c.stack) _ _ _ _ refl (same_condition c l ts (opened l) (opened l) (λ b c. refl))
      same_hash c l ts Ifdef = same_if (is_skipped c.stack) _ _ _ _ refl (same_defined c l ts (opened l) (opened l) (λ b c. refl))
      same_hash c l ts Ifndef = same_if (is_skipped c.stack) _ _ _ _ refl
          (same_defined c l ts (λ yields. opened l (not yields)) (λ yields. opened l (not yields)) (λ b c. refl))
      same_hash c l ts Elif = same_elif c l ts c.stack
      same_hash c l ts Elifdef = same_elifdef c l ts c.stack
      same_hash c l ts Elifndef = same_elifndef c l ts c.stack
      same_hash c l ts Else = same_else c l c.stack
      same_hash c l ts Endif = same_endif c l c.stack
      same_hash c l ts Define = same_if (is_skipped c.stack) _ _ _ _ refl (same_plain c l ts Define)
      same_hash c l ts Undef = same_if (is_skipped c.stack) _ _ _ _ refl (same_plain c l ts Undef)
      same_hash c l ts Include = same_if (is_skipped c.stack) _ _ _ _ refl (same_plain c l ts Include)
      same_hash c l ts IncludeNext = same_if (is_skipped c.stack) _ _ _ _ refl (same_plain c l ts IncludeNext)
      same_hash c l ts Renumber = same_if (is_skipped c.stack) _ _ _ _ refl (same_plain c l ts Renumber)
      same_hash c l ts Error = same_if (is_skipped c.stack) _ _ _ _ refl (same_plain c l ts Error)
      same_hash c l ts Pragma = same_if (is_skipped c.stack) _ _ _ _ refl (same_plain c l ts Pragma)
      same_hash c l ts Nothing = same_if (is_skipped c.stack) _ _ _ _ refl (same_plain c l ts Nothing)
      same_hash c l ts Unknown = same_if (is_skipped c.stack) _ _ _ _ refl (same_plain c l ts Unknown)

      same_keyword : (c : Core) (l : Line) (exported : Bool) (before ts : List Tok) → SameEffect (keyword_line c l exported before ts) (keyword_line c l exported before ts)
      same_keyword c l exported before [] = refl
      same_keyword c l exported before (t ∷ ts) = same_if (is_object_like (c.macros.defs t.text)) _ _ _ _ (refl, refl)
          (same_replaced ModeIs.Line c l ts (sent c l exported before t) (sent c l exported before t) (λ toks. (refl, refl)))

      same_module : (c : Core) (l : Line) (ts : List Tok) → SameEffect (module_line c l ts) (module_line c l ts)
      same_module c l [] = refl
      same_module c l (t ∷ ts) = same_if (spells "export" t.text) _ _ _ _
          (same_if (is_object_like (c.macros.defs t.text)) _ _ _ _ (refl, refl) (same_keyword c l true (as_keyword ExportKw t ∷ []) ts))
          (same_keyword c l false [] (t ∷ ts))

      same_effect_of : (c : Core) (l : Line) (ts : List Tok) → SameEffect (effect_of files setup c l ts) (effect_of others setup c l ts)
      same_effect_of c l [] = refl
      same_effect_of c l (t ∷ ts) = same_if (is_one_of ("#" ∷ "%:" ∷ []) t.text) _ _ _ _ (same_hash c l (drop 1 ts) (directive_of setup.command.dialect ts))
          (same_if (is_skipped c.stack) _ _ _ _ refl (same_module c l (t ∷ ts)))

      -- the effect of a line depends on the core, and of the files on their directives alone
      same_effect : (c : Core) (l : Line) → SameEffect (effect files setup c l) (effect others setup c l)
      unfolding effect
      same_effect c l = same_effect_of c l l.toks

-- ## Runs of lines

pub alike_if : (b : Bool) (e e' f f' : Reached) → Alike e f → Alike e' f' → Alike (if b then e else e') (if b then f else f')
alike_if true e e' f f' h h' = h
alike_if false e e' f f' h h' = h'

pub alike_go : (g h : State → Reached) → ((s r : State) → Similar s r → Alike (g s) (h r)) → (e f : Reached) → Alike e f → Alike (then_go g e) (then_go h f)
alike_go g h each (Going s) (Going r) k = each s r k
alike_go g h each (Stopped s) (Stopped r) k = k
alike_go g h each (Going s) (Stopped r) k = absurd k
alike_go g h each (Stopped s) (Going r) k = absurd k

alike_sym : (e f : Reached) → Alike e f → Alike f e
alike_sym (Going s) (Going r) k = (sym k.0, sym k.1)
alike_sym (Stopped s) (Stopped r) k = (sym k.0, sym k.1, sym k.2)
alike_sym (Going s) (Stopped r) k = absurd k
alike_sym (Stopped s) (Going r) k = absurd k

alike_trans : (e f g : Reached) → Alike e f → Alike f g → Alike e g
alike_trans (Going s) (Going r) (Going q) k m = (k.0 ∙ m.0, k.1 ∙ m.1)
alike_trans (Stopped s) (Stopped r) (Stopped q) k m = (k.0 ∙ m.0, k.1 ∙ m.1, k.2 ∙ m.2)
alike_trans (Going s) (Going r) (Stopped q) k m = absurd m
alike_trans (Stopped s) (Stopped r) (Going q) k m = absurd m
alike_trans (Going s) (Stopped r) g k m = absurd k
alike_trans (Stopped s) (Going r) g k m = absurd k

module _ (X Y : Type 0) (view : View X) (other : View Y) (e : Enter X) (f : Enter Y) where
  abbrev pub EntersAlike : Type 0
  EntersAlike = (place : Place) (path : List ℕ) (chain_place : Option ℕ) (x : X) (y : Y) (s r : State) → SameText X Y view other x y → Similar s r →
      Alike (e place path chain_place x s) (f place path chain_place y r)

  pub done_alike : EntersAlike → (s r : State) → Similar s r → (a : Effect X) (b : Effect Y) → SameEffect X Y view other a b → Alike (done e s a) (done f r b)
  done_alike each s r k (Now c) (Now d) h = (h, k.1)
  done_alike each s r k (Enters place path chain_place x c) (Enters place' path' chain_place' y d) h =
      subst (λ z. Alike (done e s (Enters place path chain_place x c)) (f z path' chain_place' y (record r { core = d }))) h.0
      (subst (λ z. Alike (done e s (Enters place path chain_place x c)) (f place z chain_place' y (record r { core = d }))) h.1
      (subst (λ z. Alike (done e s (Enters place path chain_place x c)) (f place path z y (record r { core = d }))) h.2
      (each place path chain_place x y (record s { core = c }) (record r { core = d }) h.3 (h.4, k.1))))
  done_alike each s r k (Sends l c) (Sends m d) h =
      (h.1, one_sent s.stream l ∙ ap (λ ls. ls ++ l ∷ []) k.1 ∙ ap (λ m. module_lines r.stream ++ m ∷ []) h.0 ∙ sym (one_sent r.stream m))
  done_alike each s r k (Halts cause c) (Halts cause' d) h = (h.0, ap (λ c. c.looked) h.1, k.1)
  done_alike each s r k effect another h = absurd h

similar_trans : (s r q : State) → Similar s r → Similar r q → Similar s q
similar_trans s r q k m = (k.0 ∙ m.0, k.1 ∙ m.1)

similar_sym : (s r : State) → Similar s r → Similar r s
similar_sym s r k = (sym k.0, sym k.1)

runs_similar : (s r : State) → Similar s r → Similar (end_run s) (end_run r)
runs_similar s r k = similar_trans (end_run s) s (end_run r) (run_keeps s) (similar_trans s r (end_run r) k (similar_sym (end_run r) r (run_keeps r)))

pub line_of_directive : (X : Type 0) (e : Enter X) (files : FileMap X) (setup : Setup) (s : State) (l : Line) → is_directive l ≡ true →
    full_line e files setup s l ≡ done e (end_run s) (effect files setup s.core l)
unfolding full_line
line_of_directive X e files setup s l h = rw h refl

pub line_of_text : (X : Type 0) (e : Enter X) (files : FileMap X) (setup : Setup) (s : State) (l : Line) → is_directive l ≡ false →
    full_line e files setup s l ≡ (if is_skipped s.core.stack then Going s else Going (joined s l))
unfolding full_line
line_of_text X e files setup s l h = rw h refl

pub text_keeps : (X : Type 0) → TextKeepsCore X
text_keeps X e files setup s l h = by_skipped (is_skipped s.core.stack) (line_of_text X e files setup s l h)
  where
    by_skipped : (b : Bool) → full_line e files setup s l ≡ (if b then Going s else Going (joined s l)) → (run : List Tok) × (full_line e files setup s l ≡ Going (record s { run = run }))
    by_skipped true h = (s.run, h)
    by_skipped false h = (s.run ++ l.toks, h)

text_skipped : (g : State → Reached) (R : Reached) (s : State) (l : Line) (b : Bool) → ((s' : State) → Similar s' s → Alike (g s') R) →
    Alike (then_go g (if b then Going s else Going (joined s l))) R
text_skipped g R s l true k = k s (refl, refl)
text_skipped g R s l false k = k (joined s l) (refl, refl)

module _ (X Y : Type 0) (view : View X) (other : View Y) (e : Enter X) (f : Enter Y) (files : FileMap X) (others : FileMap Y)
    (same : SameFiles X Y view other files others) (setup : Setup) (each : EntersAlike X Y view other e f) where
  pub directive_alike : (l : Line) → is_directive l ≡ true → (s r : State) → Similar s r → Alike (full_line e files setup s l) (full_line f others setup r l)
  directive_alike l h s r k =
      subst (λ q. Alike q (full_line f others setup r l)) (sym (line_of_directive X e files setup s l h))
      (subst (λ q. Alike (done e (end_run s) (effect files setup s.core l)) q) (sym (line_of_directive Y f others setup r l h))
      (done_alike X Y view other e f each (end_run s) (end_run r) (runs_similar s r k) (effect files setup s.core l) (effect others setup r.core l)
      (subst (λ c. SameEffect X Y view other (effect files setup s.core l) (effect others setup c l)) k.0 (same_effect X Y view other files others same setup s.core l))))

  text_alike : (l : Line) → is_directive l ≡ false → (g : State → Reached) (R : Reached) (s : State) → ((s' : State) → Similar s' s → Alike (g s') R) →
      Alike (then_go g (full_line e files setup s l)) R
  text_alike l h g R s k = subst (λ q. Alike (then_go g q) R) (sym (line_of_text X e files setup s l h)) (text_skipped g R s l (is_skipped s.core.stack) k)

  abbrev KeptAlike : List Line → Type 0
  KeptAlike ls = (s r : State) → Similar s r → Alike (full_lines e files setup ls s) (full_lines f others setup (filter is_directive ls) r)

  one_line : (l : Line) (ls : List Line) (b : Bool) → is_directive l ≡ b → KeptAlike ls → (s r : State) → Similar s r →
      Alike (full_lines e files setup (l ∷ ls) s) (full_lines f others setup (cond b (l ∷ filter is_directive ls) (filter is_directive ls)) r)
  one_line l ls true h ih s r k =
      alike_go (full_lines e files setup ls) (full_lines f others setup (filter is_directive ls)) ih (full_line e files setup s l) (full_line f others setup r l) (directive_alike l h s r k)
  one_line l ls false h ih s r k =
      text_alike l h (full_lines e files setup ls) (full_lines f others setup (filter is_directive ls) r) s (λ s' m. ih s' r (similar_trans s' s r m k))

  kept_alike : (ls : List Line) → KeptAlike ls
  kept_alike [] s r k = k
  kept_alike (l ∷ ls) s r k = one_line l ls (is_directive l) refl (kept_alike ls) s r k

same_content_refl : (Y : Type 0) (other : View Y) (content : Option (Content Y)) → SameContent Y Y other other content content
same_content_refl Y other None = tt
same_content_refl Y other (Some (Present y)) = refl
same_content_refl Y other (Some Absent) = tt
same_content_refl Y other (Some Failed) = tt
same_content_refl Y other (Some Big) = tt
same_content_refl Y other (Some NoMemory) = tt

module _ (X Y : Type 0) (view : View X) (other : View Y) (e : Enter X) (f : Enter Y) (files : FileMap X) (others : FileMap Y)
    (same : SameFiles X Y view other files others) (setup : Setup) (each : EntersAlike X Y view other e f) (self : EntersAlike Y Y other other f f) where
  lines_alike : (ls ms : List Line) (s r : State) → filter is_directive ls ≡ filter is_directive ms → Similar s r →
      Alike (full_lines e files setup ls s) (full_lines f others setup ms r)
  lines_alike ls ms s r h k =
      alike_trans (full_lines e files setup ls s) (full_lines f others setup (filter is_directive ls) r) (full_lines f others setup ms r)
      (kept_alike X Y view other e f files others same setup each ls s r k)
      (alike_sym (full_lines f others setup ms r) (full_lines f others setup (filter is_directive ls) r)
      (subst (λ ds. Alike (full_lines f others setup ms r) (full_lines f others setup ds r)) (sym h)
      (kept_alike Y Y other other f f others others (λ path. same_content_refl Y other (others path)) setup self ms r r (refl, refl))))

  end_groups : (c d : Core) → c ≡ d → (s r : State) → Similar s r → (gs : List Group) → Alike (at_file_end c s gs) (at_file_end d r gs)
  end_groups c d h s r k [] = ((λ i. back_in (h i) (k.0 i)), k.1)
  end_groups c d h s r k (g ∷ gs) = (ap (λ c. fault FaultIs.Unbalanced (record { path = c.path; line = g.line })) k.0, ap (λ c. c.looked) k.0, k.1)

  end_alike : (c d : Core) → c ≡ d → (s r : State) → Similar s r → Alike (at_file_end c (end_run s) s.core.stack) (at_file_end d (end_run r) r.core.stack)
  end_alike c d h s r k =
      subst (λ q. Alike (at_file_end c (end_run s) s.core.stack) (at_file_end d (end_run r) q.stack)) k.0
      (end_groups c d h (end_run s) (end_run r) (runs_similar s r k) s.core.stack)

  file_alike : (path : List ℕ) (chain_place : Option ℕ) (x : X) (y : Y) (s r : State) → SameText X Y view other x y → Similar s r →
      Alike (full_file view e files setup path chain_place x s) (full_file other f others setup path chain_place y r)
  unfolding full_file
  file_alike path chain_place x y s r h k =
      alike_go (λ last. at_file_end s.core (end_run last) last.core.stack) (λ last. at_file_end r.core (end_run last) last.core.stack)
      (λ last last' m. end_alike s.core r.core k.0 last last' m)
      (full_lines e files setup (view x) (record s { core = at_file_start path chain_place s.core })) (full_lines f others setup (other y) (record r { core = at_file_start path chain_place r.core }))
      (lines_alike (view x) (other y) (record s { core = at_file_start path chain_place s.core }) (record r { core = at_file_start path chain_place r.core }) h (ap (at_file_start path chain_place) k.0, k.1))

pub enter_alike : (setup : Setup) (n : ℕ) (X Y : Type 0) (view : View X) (other : View Y) (files : FileMap X) (others : FileMap Y) → SameFiles X Y view other files others →
    EntersAlike X Y view other (enter view files setup n) (enter other others setup n)
unfolding enter
enter_alike setup zero X Y view other files others same place path chain_place x y s r h k = (refl, ap (λ c. c.looked) k.0, k.1)
enter_alike setup (suc n) X Y view other files others same place path chain_place x y s r h k =
    subst (λ c. Alike (enter view files setup (suc n) place path chain_place x s)
    (if nat_le entered_limit c.entered then halted (fault FaultIs.TooManyEntered place) r.core.looked r else full_file other (enter other others setup n) others setup path chain_place y r)) k.0
    (alike_if (nat_le entered_limit s.core.entered)
    (halted (fault FaultIs.TooManyEntered place) s.core.looked s) (full_file view (enter view files setup n) files setup path chain_place x s)
    (halted (fault FaultIs.TooManyEntered place) r.core.looked r) (full_file other (enter other others setup n) others setup path chain_place y r)
    (refl, ap (λ c. c.looked) k.0, k.1)
    (file_alike X Y view other (enter view files setup n) (enter other others setup n) files others same setup
    (enter_alike setup n X Y view other files others same)
    (enter_alike setup n Y Y other other others others (λ path. same_content_refl Y other (others path))) path chain_place x y s r h k))

-- whole files with the same directives are gone through alike
pub reduction_of_files : (X Y : Type 0) (view : View X) (other : View Y) → FileAlike X Y view other
reduction_of_files X Y view other files others setup n place path chain_place x y s r same h k =
    enter_alike setup n X Y view other files others same place path chain_place x y s r h k

-- and so are lists of lines
pub reduction_of_lines : (X Y : Type 0) (view : View X) (other : View Y) → LinesAlike X Y view other
reduction_of_lines X Y view other files others setup n ls ms s r same h k =
    lines_alike X Y view other (enter view files setup n) (enter other others setup n) files others same setup
    (enter_alike setup n X Y view other files others same) (enter_alike setup n Y Y other other others others (λ path. same_content_refl Y other (others path))) ls ms s r h k
