-- What the effect of one line has of the paths that were looked at.
use Rattle.std.proofs.Common.{◌≡◌, ℕ, Bool, true, false, not, ◌&&◌, if◌then◌else◌, List, [], ◌∷◌, ◌++◌, drop, refl, sym, subst}
use Rattle.std.specs.Prelude.{⊤, Option, Some, None, is_some}
use Rattle.std.specs.List.{AllByRecursion}
use Rattle.std.specs.Option.{option_and_then}
use Rattle.std.specs.declared.result.Result.{Result}
use Rattle.std.specs.declared.result.Result.TheVariants.{Ok, Err}
use Rattle.scan_model.specs.declared.token.Kind.TheVariants.{Ident, Header, ExportKw}
use Rattle.scan_model.specs.declared.token.Tok.{Tok}
use Rattle.scan_model.specs.declared.token.Line.{Line}
use Rattle.scan_model.specs.declared.macros.Def.{Def}
use Rattle.scan_model.specs.declared.unit_end.Place.{Place}
use Rattle.scan_model.specs.declared.expansion.Mode.{Mode}
use Rattle.scan_model.specs.declared.expansion.Mode.TheVariants as ModeIs
use Rattle.scan_model.specs.declared.expansion.Expanded.{Expanded}
use Rattle.scan_model.specs.declared.expansion.Expanded.TheVariants as Gives
use Rattle.scan_model.specs.declared.condition.CondValue.{CondValue}
use Rattle.scan_model.specs.declared.condition.CondFault.{CondFault}
use Rattle.scan_model.specs.declared.unit_end.FaultKind.TheVariants as FaultIs
use Rattle.scan_model.specs.Spelling.{spells, is_one_of}
use Rattle.scan_model.specs.TokenTests.{is_of, is_word, is_plain_string}
use Rattle.scan_model.specs.Macros.{Macros, push, pop}
use Rattle.scan_model.specs.MacroDefinition.{read_define}
use Rattle.scan_model.specs.Expansion.{expand}
use Rattle.scan_model.specs.HeaderName.{Named, Term, Plain, Has, terms, name_of, nonempty, header}
use Rattle.scan_model.specs.Condition.{value}
use Rattle.scan_model.specs.ConditionValue.{is_nonzero}
use Rattle.scan_model.specs.Paths.{folder}
use Rattle.scan_model.specs.Files.{Content, Present, Absent, Failed, Big, NoMemory, FileMap, Found, At, Unread, Nowhere, found_at, find, and_later, looked_at}
use Rattle.scan_model.specs.State.{Group, Setup, Core, Cause, Faulty, OutOfMemory, Needs}
use Rattle.scan_model.specs.Effect.{Effect, Now, Enters, Sends, Halts, place_of, stop, stop_at}
use Rattle.scan_model.specs.Replacing.{on_expanded, with_replaced}
use Rattle.scan_model.specs.Search.{on_found, with_found, searched, place_searched, search_form}
use Rattle.scan_model.specs.Includes.{unless_once, include, include_named, include_line}
use Rattle.scan_model.specs.Conditionals.{with_has_values, on_value, on_terms, with_condition, with_defined, is_skipped, opened, with_group, next_group, else_line, endif_line}
use Rattle.scan_model.specs.declared.directive.Directive.{Directive}
use Rattle.scan_model.specs.declared.directive.Directive.TheVariants.{If, Ifdef, Ifndef, Elif, Elifdef, Elifndef, Else, Endif, Define, Undef, Include, IncludeNext, Renumber, Error, Pragma, Nothing, Unknown}
use Rattle.scan_model.specs.Directives.{directive_of, plain_line, hash_line, defined, undef_line, line_set, pragma_line, with_macros, quoted_name, is_line_number}
use Rattle.scan_model.specs.KeywordLines.{module_line, keyword_line, export_line, is_object_like, as_keyword, sent}
use Rattle.scan_model.specs.DirectiveLines.{effect_of, effect}

-- what a map has shows the file, or that there is none
abbrev pub IsShown : {X : Type 0} → Option (Content X) → Type 0
IsShown None = ⊥
IsShown (Some NoMemory) = ⊥
IsShown (Some content) = ⊤

abbrev pub IsHad : {X : Type 0} → Option (Content X) → Type 0
IsHad None = ⊥
IsHad (Some content) = ⊤

pub shown_had : {X : Type 0} (o : Option (Content X)) → IsShown o → IsHad o
shown_had None h = absurd h
shown_had (Some NoMemory) h = absurd h
shown_had (Some (Present x)) h = tt
shown_had (Some Absent) h = tt
shown_had (Some Failed) h = tt
shown_had (Some Big) h = tt

module _ (X : Type 0) (files : FileMap X) where
  -- each of these paths is shown
  abbrev pub Seen : List (List ℕ) → Type 0
  Seen paths = AllByRecursion (λ path. IsShown (files path)) paths

  -- the map has each of these paths
  abbrev pub Had : List (List ℕ) → Type 0
  Had paths = AllByRecursion (λ path. IsHad (files path)) paths

  pub seen_had : (paths : List (List ℕ)) → Seen paths → Had paths
  seen_had [] h = tt
  seen_had (p ∷ ps) h = (shown_had (files p) h.0, seen_had ps h.1)

  pub seen_append : (ps qs : List (List ℕ)) → Seen ps → Seen qs → Seen (ps ++ qs)
  seen_append [] qs h k = k
  seen_append (p ∷ ps) qs h k = (h.0, seen_append ps qs h.1 k)

  pub had_append : (ps qs : List (List ℕ)) → Had ps → Had qs → Had (ps ++ qs)
  had_append [] qs h k = k
  had_append (p ∷ ps) qs h k = (h.0, had_append ps qs h.1 k)

  -- what was looked at where a unit stops for this cause
  abbrev pub StopSees : Cause → List (List ℕ) → Type 0
  StopSees (Faulty x) looked = Seen looked
  StopSees OutOfMemory looked = Had looked
  StopSees (Needs path) looked = ⊤

  -- what an effect has of the paths that were looked at
  abbrev pub Sees : Effect X → Type 0
  Sees (Now c) = Seen c.looked
  Sees (Enters place path chain_place x c) = Seen c.looked
  Sees (Sends l c) = Seen c.looked × Seen l.looked
  Sees (Halts cause c) = StopSees cause c.looked

  sees_if : (b : Bool) (e f : Effect X) → Sees e → Sees f → Sees (if b then e else f)
  sees_if true e f h k = h
  sees_if false e f h k = k

  -- what goes on from a state whose paths were seen
  abbrev pub GoesOn : (Core → Effect X) → Type 0
  GoesOn further = (c : Core) → Seen c.looked → Sees (further c)

  sees_expanded : (c : Core) (l : Line) (g : List Tok → Effect X) → Seen c.looked → ((ts : List Tok) → Sees (g ts)) → (answer : Expanded) → Sees (on_expanded c l g answer)
  sees_expanded c l g seen each (Gives.Done toks counter) = each toks
  sees_expanded c l g seen each Gives.Bad = seen
  sees_expanded c l g seen each Gives.TooLong = seen
  sees_expanded c l g seen each Gives.Counter = seen

  sees_replaced : (mode : Mode) (c : Core) (l : Line) (ts : List Tok) (g : List Tok → Effect X) → Seen c.looked → ((ts : List Tok) → Sees (g ts)) → Sees (with_replaced mode c l ts g)
  sees_replaced mode c l ts g seen each = sees_expanded c l g seen each (expand c.macros.defs c.site mode ts)

  -- ## Files

  -- what was looked at to find this
  abbrev FoundSees : Found X → List (List ℕ) → Type 0
  FoundSees Nowhere looked = Seen looked
  FoundSees (Unread path) looked = ⊤
  FoundSees (At path NoMemory) looked = Had looked
  FoundSees (At path content) looked = Seen looked

  found_later : (p : List ℕ) → files p ≡ Some Absent → (f : Found X) (looked : List (List ℕ)) → FoundSees f looked → FoundSees f (p ∷ looked)
  found_later p e Nowhere looked h = (subst (λ z. IsShown z) (sym e) tt, h)
  found_later p e (Unread path) looked h = tt
  found_later p e (At path NoMemory) looked h = (subst (λ z. IsHad z) (sym e) tt, h)
  found_later p e (At path (Present x)) looked h = (subst (λ z. IsShown z) (sym e) tt, h)
  found_later p e (At path Absent) looked h = (subst (λ z. IsShown z) (sym e) tt, h)
  found_later p e (At path Failed) looked h = (subst (λ z. IsShown z) (sym e) tt, h)
  found_later p e (At path Big) looked h = (subst (λ z. IsShown z) (sym e) tt, h)

  found_sees : (p : List ℕ) (o : Option (Content X)) → files p ≡ o → (f : Found X) (looked : List (List ℕ)) → FoundSees f looked → FoundSees (found_at p o f) (p ∷ and_later o looked)
  found_sees p None e f looked h = tt
  found_sees p (Some Absent) e f looked h = found_later p e f looked h
  found_sees p (Some (Present x)) e f looked h = (subst (λ z. IsShown z) (sym e) tt, tt)
  found_sees p (Some Failed) e f looked h = (subst (λ z. IsShown z) (sym e) tt, tt)
  found_sees p (Some Big) e f looked h = (subst (λ z. IsShown z) (sym e) tt, tt)
  found_sees p (Some NoMemory) e f looked h = (subst (λ z. IsHad z) (sym e) tt, tt)

  find_sees : (paths : List (List ℕ)) → FoundSees (find files paths) (looked_at files paths)
  unfolding find looked_at
  find_sees [] = tt
  find_sees (p ∷ ps) = found_sees p (files p) refl (find files ps) (looked_at files ps) (find_sees ps)

  abbrev after_looks : Core → List (List ℕ) → Core
  after_looks c looked = record c { looked = c.looked ++ looked }

  on_found_sees : (place : Place) (c : Core) (a : Core → Effect X) (p : List ℕ → X → Core → Effect X) → GoesOn a → ((path : List ℕ) (x : X) → GoesOn (p path x)) → Seen c.looked →
      (looked : List (List ℕ)) (f : Found X) → FoundSees f looked → Sees (on_found place (after_looks c looked) a p f)
  on_found_sees place c a p k m seen looked Nowhere h = k (after_looks c looked) (seen_append c.looked looked seen h)
  on_found_sees place c a p k m seen looked (Unread path) h = tt
  on_found_sees place c a p k m seen looked (At path (Present x)) h = m path x (after_looks c looked) (seen_append c.looked looked seen h)
  on_found_sees place c a p k m seen looked (At path Absent) h = k (after_looks c looked) (seen_append c.looked looked seen h)
  on_found_sees place c a p k m seen looked (At path Failed) h = seen_append c.looked looked seen h
  on_found_sees place c a p k m seen looked (At path Big) h = seen_append c.looked looked seen h
  on_found_sees place c a p k m seen looked (At path NoMemory) h = had_append c.looked looked (seen_had c.looked seen) h

  pub sees_with_found : (place : Place) (paths : List (List ℕ)) (c : Core) (a : Core → Effect X) (p : List ℕ → X → Core → Effect X) → GoesOn a → ((path : List ℕ) (x : X) → GoesOn (p path x)) →
      Seen c.looked → Sees (with_found files place paths c a p)
  sees_with_found place paths c a p k m seen = on_found_sees place c a p k m seen (looked_at files paths) (find files paths) (find_sees paths)

  pub sees_include : (place : Place) (paths : List (List ℕ)) (places : List ℕ → Option ℕ) (c : Core) → Seen c.looked → Sees (include files place paths places c)
  sees_include place paths places c seen =
      sees_with_found place paths c (stop_at FaultIs.IncludeNotFound place) (unless_once place places) (λ c seen. seen)
      (λ path x c seen. sees_if (c.once path) (Now c) (Enters place path (places path) x c) seen seen) seen

  module _ (setup : Setup) where
    sees_has_values : (l : Line) (ts : List Term) (c : Core) (g : List Bool → Core → Effect X) → ((bs : List Bool) → GoesOn (g bs)) → Seen c.looked → Sees (with_has_values files setup l ts c g)
    sees_has_values l [] c g each seen = each [] c seen
    sees_has_values l (Plain t ∷ ts) c g each seen = sees_has_values l ts c g each seen
    sees_has_values l (Has next form name ∷ ts) c g each seen =
        sees_with_found (place_of c l) (searched setup (record { form = search_form next c.chain_place form; name = name; after = [] }) (folder c.path)) c
        (λ c. with_has_values files setup l ts c (λ has. g (false ∷ has)))
        (λ path x c. with_has_values files setup l ts c (λ has. g (true ∷ has)))
        (λ c seen. sees_has_values l ts c (λ has. g (false ∷ has)) (λ bs. each (false ∷ bs)) seen)
        (λ path x c seen. sees_has_values l ts c (λ has. g (true ∷ has)) (λ bs. each (true ∷ bs)) seen) seen

    abbrev FurtherSees : (Bool → Core → Effect X) → Type 0
    FurtherSees g = (b : Bool) → GoesOn (g b)

    sees_on_value : (l : Line) (g : Bool → Core → Effect X) → FurtherSees g → (v : Result CondValue CondFault) → GoesOn (on_value l g v)
    sees_on_value l g each (Ok v) c seen = each (is_nonzero v) c seen
    sees_on_value l g each (Err x) c seen = seen

    sees_on_terms : (c : Core) (l : Line) (toks : List Tok) (g : Bool → Core → Effect X) → FurtherSees g → Seen c.looked → (ts : Option (List Term)) → Sees (on_terms files setup c l toks g ts)
    sees_on_terms c l toks g each seen None = seen
    sees_on_terms c l toks g each seen (Some ts) = sees_has_values l ts c (λ has. on_value l g (value toks has)) (λ has. sees_on_value l g each (value toks has)) seen

    sees_condition : (c : Core) (l : Line) (toks : List Tok) → Seen c.looked → (g : Bool → Core → Effect X) → FurtherSees g → Sees (with_condition files setup c l toks g)
    sees_condition c l toks seen g each =
        sees_replaced ModeIs.Condition c l toks (λ ts. on_terms files setup c l ts g (terms ts)) seen (λ ts. sees_on_terms c l ts g each seen (terms ts))

    sees_defined : (c : Core) (l : Line) (ts : List Tok) → Seen c.looked → (g : Bool → Core → Effect X) → FurtherSees g → Sees (with_defined c l ts g)
    sees_defined c l [] seen g each = seen
    sees_defined c l (t ∷ ts) seen g each =
        sees_if (is_of Ident t) (g (is_some (c.macros.defs t.text)) c) (stop FaultIs.BadCondition c l) (each (is_some (c.macros.defs t.text)) c seen) seen

    sees_group : (c : Core) (l : Line) (p : (Bool → Core → Effect X) → Effect X) → Seen c.looked → ((g : Bool → Core → Effect X) → FurtherSees g → Sees (p g)) →
        (gs : List Group) → Sees (next_group c l p gs)
    sees_group c l p seen each [] = seen
    sees_group c l p seen each (g ∷ gs) =
        sees_if g.past_else _ _ seen (sees_if g.taken _ _ seen (each (λ yields. with_group (record g { live = yields; taken = yields }) gs) (λ b d seen. seen)))

    sees_else : (c : Core) (l : Line) (gs : List Group) → Seen c.looked → Sees (else_line c l gs)
    sees_else c l [] seen = seen
    sees_else c l (g ∷ gs) seen = sees_if g.past_else _ _ seen seen

    sees_endif : (c : Core) (l : Line) (gs : List Group) → Seen c.looked → Sees (endif_line c l gs)
    sees_endif c l [] seen = seen
    sees_endif c l (g ∷ gs) seen = seen

    sees_included : (next : Bool) (c : Core) (l : Line) (n : Option Named) → Seen c.looked → Sees (include_named next files setup c l n)
    sees_included next c l None seen = seen
    sees_included next c l (Some n) seen = let m : Named = record n { form = search_form next c.chain_place n.form } in
        sees_include (place_of c l) (searched setup m (folder c.path)) (place_searched setup m (folder c.path)) c seen

    sees_include_line : (next : Bool) (c : Core) (l : Line) (ts : List Tok) → Seen c.looked → Sees (include_line next files setup c l ts)
    sees_include_line next c l [] seen = sees_replaced ModeIs.Line c l [] _ seen (λ toks. sees_included next c l (option_and_then nonempty (name_of toks)) seen)
    sees_include_line next c l (t ∷ ts) seen = sees_if (is_of Header t) _ _ (sees_included next c l (nonempty (header t ts)) seen)
        (sees_replaced ModeIs.Line c l (t ∷ ts) _ seen (λ toks. sees_included next c l (option_and_then nonempty (name_of toks)) seen))

    sees_define : (c : Core) (l : Line) (found : Option (List ℕ × Def)) → Seen c.looked → Sees (defined c l found)
    sees_define c l None seen = seen
    sees_define c l (Some found) seen = seen

    sees_undef : (c : Core) (l : Line) (ts : List Tok) → Seen c.looked → Sees (undef_line c l ts)
    sees_undef c l [] seen = seen
    sees_undef c l (t ∷ ts) seen = sees_if (is_of Ident t) _ _ seen seen

    sees_line_set : (c : Core) (l : Line) (ts : List Tok) → Seen c.looked → Sees (line_set c l ts)
    sees_line_set c l [] seen = seen
    sees_line_set c l (t ∷ []) seen = sees_if (is_line_number t) _ _ seen seen
    sees_line_set c l (t ∷ u ∷ ts) seen = sees_if (is_line_number t && is_plain_string u) _ _ seen seen

    sees_macros : (c : Core) (change : Macros → List ℕ → Macros) (name : Option (List ℕ)) → Seen c.looked → Sees (with_macros c change name)
    sees_macros c change None seen = seen
    sees_macros c change (Some name) seen = seen

    sees_pragma : (c : Core) (ts : List Tok) → Seen c.looked → Sees (pragma_line c ts)
    sees_pragma c [] seen = seen
    sees_pragma c (t ∷ ts) seen =
        sees_if (is_word "once" t) _ _ seen (sees_if (is_word "push_macro" t) _ _ (sees_macros c push (quoted_name ts) seen)
        (sees_if (is_word "pop_macro" t) _ _ (sees_macros c pop (quoted_name ts) seen) seen))

    sees_plain : (c : Core) (l : Line) (ts : List Tok) (d : Directive) → Seen c.looked → Sees (plain_line files setup c l ts d)
    sees_plain c l ts Define seen = sees_define c l (read_define ts) seen
    sees_plain c l ts Undef seen = sees_undef c l ts seen
    sees_plain c l ts Include seen = sees_include_line false c l ts seen
    sees_plain c l ts IncludeNext seen = sees_include_line true c l ts seen
    sees_plain c l ts Renumber seen = sees_replaced ModeIs.Line c l ts (line_set c l) seen (λ toks. sees_line_set c l toks seen)
    sees_plain c l ts Error seen = seen
    sees_plain c l ts Pragma seen = sees_pragma c ts seen
    sees_plain c l ts Unknown seen = seen
    sees_plain c l ts If seen = seen
    sees_plain c l ts Ifdef seen = seen
    sees_plain c l ts Ifndef seen = seen
    sees_plain c l ts Elif seen = seen
    sees_plain c l ts Elifdef seen = seen
    sees_plain c l ts Elifndef seen = seen
    sees_plain c l ts Else seen = seen
    sees_plain c l ts Endif seen = seen
    sees_plain c l ts Nothing seen = seen

    skipped_or : (c : Core) (e f : Effect X) → Sees e → Sees f → Sees (if is_skipped c.stack then e else f)
    skipped_or c e f h k = sees_if (is_skipped c.stack) e f h k

    sees_hash : (c : Core) (l : Line) (ts : List Tok) (d : Directive) → Seen c.looked → Sees (hash_line files setup c l ts d)
    sees_hash c l ts If seen = skipped_or c _ _ seen (sees_condition c l ts seen (opened l) (λ b d seen. seen))
    sees_hash c l ts Ifdef seen = skipped_or c _ _ seen (sees_defined c l ts seen (opened l) (λ b d seen. seen))
    sees_hash c l ts Ifndef seen = skipped_or c _ _ seen (sees_defined c l ts seen (λ yields. opened l (not yields)) (λ b d seen. seen))
    sees_hash c l ts Elif seen = sees_group c l (with_condition files setup c l ts) seen (sees_condition c l ts seen) c.stack
    sees_hash c l ts Elifdef seen = sees_group c l (with_defined c l ts) seen (sees_defined c l ts seen) c.stack
    sees_hash c l ts Elifndef seen = sees_group c l (λ further. with_defined c l ts (λ yields. further (not yields))) seen
        (λ g each. sees_defined c l ts seen (λ yields. g (not yields)) (λ b. each (not b))) c.stack
    sees_hash c l ts Else seen = sees_else c l c.stack seen
    sees_hash c l ts Endif seen = sees_endif c l c.stack seen
    sees_hash c l ts Define seen = skipped_or c _ _ seen (sees_plain c l ts Define seen)
    sees_hash c l ts Undef seen = skipped_or c _ _ seen (sees_plain c l ts Undef seen)
    sees_hash c l ts Include seen = skipped_or c _ _ seen (sees_plain c l ts Include seen)
    sees_hash c l ts IncludeNext seen = skipped_or c _ _ seen (sees_plain c l ts IncludeNext seen)
    sees_hash c l ts Renumber seen = skipped_or c _ _ seen (sees_plain c l ts Renumber seen)
    sees_hash c l ts Error seen = skipped_or c _ _ seen (sees_plain c l ts Error seen)
    sees_hash c l ts Pragma seen = skipped_or c _ _ seen (sees_plain c l ts Pragma seen)
    sees_hash c l ts Nothing seen = skipped_or c _ _ seen (sees_plain c l ts Nothing seen)
    sees_hash c l ts Unknown seen = skipped_or c _ _ seen (sees_plain c l ts Unknown seen)

    sees_keyword : (c : Core) (l : Line) (exported : Bool) (before ts : List Tok) → Seen c.looked → Sees (keyword_line c l exported before ts)
    sees_keyword c l exported before [] seen = seen
    sees_keyword c l exported before (t ∷ ts) seen =
        sees_if (is_object_like (c.macros.defs t.text)) _ _ seen (sees_replaced ModeIs.Line c l ts (sent c l exported before t) seen (λ toks. (seen, seen)))

    sees_export : (c : Core) (l : Line) (t : Tok) (ts : List Tok) → Seen c.looked → Sees (export_line c l t ts)
    sees_export c l t ts seen = sees_if (is_object_like (c.macros.defs t.text)) _ _ seen (sees_keyword c l true (as_keyword ExportKw t ∷ []) ts seen)

    sees_module : (c : Core) (l : Line) (ts : List Tok) → Seen c.looked → Sees (module_line c l ts)
    sees_module c l [] seen = seen
    sees_module c l (t ∷ ts) seen = sees_if (spells "export" t.text) _ _ (sees_export c l t ts seen) (sees_keyword c l false [] (t ∷ ts) seen)

    sees_effect_of : (c : Core) (l : Line) (ts : List Tok) → Seen c.looked → Sees (effect_of files setup c l ts)
    sees_effect_of c l [] seen = seen
    sees_effect_of c l (t ∷ ts) seen = sees_if (is_one_of ("#" ∷ "%:" ∷ []) t.text) _ _ (sees_hash c l (drop 1 ts) (directive_of setup.command.dialect ts) seen)
        (skipped_or c _ _ seen (sees_module c l (t ∷ ts) seen))

    -- the effect of a line
    pub sees_effect : (l : Line) → GoesOn (λ c. effect files setup c l)
    unfolding effect
    sees_effect l c seen = sees_effect_of c l l.toks seen
