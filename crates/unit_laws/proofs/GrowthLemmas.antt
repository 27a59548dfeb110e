-- A larger file map gives what a smaller one gave, or, where that needs a path, goes on from there.
use Rattle.std.proofs.Common.{◌≡◌, ℕ, zero, suc, Bool, true, false, not, ◌&&◌, nat_le, if◌then◌else◌, List, [], ◌∷◌, ◌++◌, drop, refl, ap, sym, ◌∙◌, subst, append_assoc, append-nil}
use Rattle.std.specs.Prelude.{⊤, Option, Some, None, is_some}
use Rattle.std.specs.List.{AllByRecursion}
use Rattle.std.specs.Option.{option_and_then}
use Rattle.std.specs.declared.result.Result.{Result}
use Rattle.std.specs.declared.result.Result.TheVariants.{Ok, Err}
use Rattle.scan_model.specs.declared.token.Kind.TheVariants.{Ident, Header, ExportKw}
use Rattle.scan_model.specs.declared.token.Tok.{Tok}
use Rattle.scan_model.specs.declared.token.Line.{Line}
use Rattle.scan_model.specs.declared.macros.Def.{Def}
use Rattle.scan_model.specs.declared.unit_end.Place.{Place}
use Rattle.scan_model.specs.declared.expansion.Mode.{Mode}
use Rattle.scan_model.specs.declared.expansion.Mode.TheVariants as ModeIs
use Rattle.scan_model.specs.declared.expansion.Expanded.{Expanded}
use Rattle.scan_model.specs.declared.expansion.Expanded.TheVariants as Gives
use Rattle.scan_model.specs.declared.condition.CondValue.{CondValue}
use Rattle.scan_model.specs.declared.condition.CondFault.{CondFault}
use Rattle.scan_model.specs.declared.unit_end.FaultKind.TheVariants as FaultIs
use Rattle.scan_model.specs.Spelling.{spells, is_one_of}
use Rattle.scan_model.specs.Lines.{is_directive}
use Rattle.scan_model.specs.TokenTests.{is_of, is_word, is_plain_string}
use Rattle.scan_model.specs.Macros.{Macros, push, pop}
use Rattle.scan_model.specs.MacroDefinition.{read_define}
use Rattle.scan_model.specs.Expansion.{expand}
use Rattle.scan_model.specs.HeaderName.{Named, Term, Plain, Has, terms, name_of, nonempty, header}
use Rattle.scan_model.specs.Condition.{value}
use Rattle.scan_model.specs.ConditionValue.{is_nonzero}
use Rattle.scan_model.specs.Paths.{folder}
use Rattle.scan_model.specs.Files.{Content, Present, Absent, Failed, Big, NoMemory, FileMap, Found, At, Unread, Nowhere, found_at, find, and_later, looked_at}
use Rattle.scan_model.specs.State.{Group, Setup, Core, State, Cause, Faulty, OutOfMemory, Needs, Stop, Reached, Going, Stopped, then_go}
use Rattle.scan_model.specs.Stream.{ModuleLine, Piece, Run, Sent, module_lines}
use Rattle.scan_model.specs.Effect.{Effect, Now, Enters, Sends, Halts, Enter, done, place_of, stop, stop_at}
use Rattle.scan_model.specs.Replacing.{on_expanded, with_replaced}
use Rattle.scan_model.specs.Search.{on_found, with_found, searched, place_searched, search_form}
use Rattle.scan_model.specs.Includes.{unless_once, include, include_by, include_named, include_line}
use Rattle.scan_model.specs.Conditionals.{with_has_values, on_value, on_terms, with_condition, with_defined, is_skipped, opened, opened_skipped, with_group, next_group, elif_line, elifdef_line, elifndef_line, else_line, endif_line}
use Rattle.scan_model.specs.declared.directive.Directive.{Directive}
use Rattle.scan_model.specs.declared.directive.Directive.TheVariants.{If, Ifdef, Ifndef, Elif, Elifdef, Elifndef, Else, Endif, Define, Undef, Include, IncludeNext, Renumber, Error, Pragma, Nothing, Unknown}
use Rattle.scan_model.specs.Directives.{directive_of, plain_line, hash_line, defined, undef_line, line_set, pragma_line, with_macros, quoted_name, is_line_number}
use Rattle.scan_model.specs.KeywordLines.{module_line, keyword_line, is_object_like, as_keyword, sent}
use Rattle.scan_model.specs.DirectiveLines.{effect_of, effect}
use Rattle.scan_model.specs.WholeFile.{View, entered_limit, end_run, run_done, full_line, full_lines, full_file, enter, at_file_end, at_file_start, joined}
use Rattle.unit_laws.specs.Growth.{Extends}

-- the second list begins with the first
abbrev pub Longer : {A : Type 0} → List A → List A → Type 0
Longer {A} a b = (rest : List A) × (b ≡ a ++ rest)

pub longer_refl : {A : Type 0} (a : List A) → Longer a a
longer_refl a = ([], sym (append-nil a))

pub longer_trans : {A : Type 0} (a b c : List A) → Longer a b → Longer b c → Longer a c
longer_trans a b c h k = (h.0 ++ k.0, k.1 ∙ ap (λ z. z ++ k.0) h.1 ∙ append_assoc a h.0 k.0)

pub longer_front : {A : Type 0} (c a b : List A) → Longer a b → Longer (c ++ a) (c ++ b)
longer_front c a b h = (h.0, ap (λ z. c ++ z) h.1 ∙ sym (append_assoc c a h.0))

abbrev pub core_of : {X : Type 0} → Effect X → Core
core_of (Now c) = c
core_of (Enters place path chain_place x c) = c
core_of (Sends l c) = c
core_of (Halts cause c) = c

-- an effect stays, unless it needs a path; and then what was looked at stays
abbrev pub Stays : {X : Type 0} → Effect X → Effect X → Type 0
Stays (Now c) f = Now c ≡ f
Stays (Enters place path chain_place x c) f = Enters place path chain_place x c ≡ f
Stays (Sends l c) f = Sends l c ≡ f
Stays (Halts (Faulty x) c) f = Halts (Faulty x) c ≡ f
Stays (Halts OutOfMemory c) f = Halts OutOfMemory c ≡ f
Stays (Halts (Needs path) c) f = Longer c.looked (core_of f).looked

stays_refl : {X : Type 0} (e : Effect X) → Stays e e
stays_refl (Now c) = refl
stays_refl (Enters place path chain_place x c) = refl
stays_refl (Sends l c) = refl
stays_refl (Halts (Faulty x) c) = refl
stays_refl (Halts OutOfMemory c) = refl
stays_refl (Halts (Needs path) c) = longer_refl c.looked

-- the map lacks the path, which is the last that was looked at
abbrev pub LacksLast : {X : Type 0} → FileMap X → List ℕ → List (List ℕ) → Type 0
LacksLast files path looked = (files path ≡ None) × ((before : List (List ℕ)) × (looked ≡ before ++ path ∷ []))

-- Effects over the map `more`, beside those over a smaller one.
module _ (X : Type 0) (more : FileMap X) where
  -- a line is sent with what was looked at, and a path that is needed is the last of that
  abbrev pub Fit : Effect X → Type 0
  Fit (Now c) = ⊤
  Fit (Enters place path chain_place x c) = ⊤
  Fit (Sends l c) = l.looked ≡ c.looked
  Fit (Halts (Faulty x) c) = ⊤
  Fit (Halts OutOfMemory c) = ⊤
  Fit (Halts (Needs path) c) = LacksLast more path c.looked

  abbrev pub GoesOn : List (List ℕ) → Effect X → Effect X → Type 0
  GoesOn looked e f = Longer looked (core_of f).looked × Stays e f

  abbrev pub Grows : List (List ℕ) → Effect X → Effect X → Type 0
  Grows looked e f = Longer looked (core_of f).looked × Stays e f × Fit f

  pub goes_on : (e : Effect X) → GoesOn (core_of e).looked e e
  goes_on e = (longer_refl (core_of e).looked, stays_refl e)

  -- an effect that leaves what was looked at
  pub grow : (e : Effect X) → Fit e → Grows (core_of e).looked e e
  grow e fit = (longer_refl (core_of e).looked, stays_refl e, fit)

  pub grow_if : (looked : List (List ℕ)) (b : Bool) (e e' f f' : Effect X) → Grows looked e f → Grows looked e' f' → Grows looked (if b then e else e') (if b then f else f')
  grow_if looked true e e' f f' h h' = h
  grow_if looked false e e' f f' h h' = h'

  pub grow_expanded : (c : Core) (l : Line) (g h : List Tok → Effect X) → ((ts : List Tok) → Grows c.looked (g ts) (h ts)) →
      (answer : Expanded) → Grows c.looked (on_expanded c l g answer) (on_expanded c l h answer)
  grow_expanded c l g h each (Gives.Done toks counter) = each toks
  grow_expanded c l g h each Gives.Bad = grow (stop FaultIs.ExpansionFault c l) tt
  grow_expanded c l g h each Gives.TooLong = grow (stop FaultIs.ExpansionTooLong c l) tt
  grow_expanded c l g h each Gives.Counter = grow (stop FaultIs.CounterUsed c l) tt

  pub grow_replaced : (mode : Mode) (c : Core) (l : Line) (ts : List Tok) (g h : List Tok → Effect X) → ((ts : List Tok) → Grows c.looked (g ts) (h ts)) →
      Grows c.looked (with_replaced mode c l ts g) (with_replaced mode c l ts h)
  grow_replaced mode c l ts g h each = grow_expanded c l g h each (expand c.macros.defs c.site mode ts)

  -- ## Files

  abbrev pub FoundGrows : Found X → Found X → List (List ℕ) → List (List ℕ) → Type 0
  FoundGrows (At path content) g l m = (At path content ≡ g) × (l ≡ m)
  FoundGrows Nowhere g l m = (Nowhere ≡ g) × (l ≡ m)
  FoundGrows (Unread path) g l m = Longer l m

  found_later : (p : List ℕ) (f g : Found X) (l m : List (List ℕ)) → FoundGrows f g l m → FoundGrows f g (p ∷ l) (p ∷ m)
  found_later p (At path content) g l m h = (h.0, ap (p ∷◌) h.1)
  found_later p Nowhere g l m h = (h.0, ap (p ∷◌) h.1)
  found_later p (Unread path) g l m h = (h.0, ap (p ∷◌) h.1)

  found_step : (p : List ℕ) (o q : Option (Content X)) → ((content : Content X) → o ≡ Some content → q ≡ Some content) →
      (f g : Found X) (l m : List (List ℕ)) → FoundGrows f g l m → FoundGrows (found_at p o f) (found_at p q g) (p ∷ and_later o l) (p ∷ and_later q m)
  found_step p None q h f g l m k = (and_later q m, refl)
  found_step p (Some Absent) q h f g l m k =
      subst (λ z. FoundGrows f (found_at p z g) (p ∷ l) (p ∷ and_later z m)) (sym (h Absent refl)) (found_later p f g l m k)
  found_step p (Some (Present x)) q h f g l m k =
      subst (λ z. FoundGrows (At p (Present x)) (found_at p z g) (p ∷ []) (p ∷ and_later z m)) (sym (h (Present x) refl)) (refl, refl)
  found_step p (Some Failed) q h f g l m k =
      subst (λ z. FoundGrows (At p Failed) (found_at p z g) (p ∷ []) (p ∷ and_later z m)) (sym (h Failed refl)) (refl, refl)
  found_step p (Some Big) q h f g l m k =
      subst (λ z. FoundGrows (At p Big) (found_at p z g) (p ∷ []) (p ∷ and_later z m)) (sym (h Big refl)) (refl, refl)
  found_step p (Some NoMemory) q h f g l m k =
      subst (λ z. FoundGrows (At p NoMemory) (found_at p z g) (p ∷ []) (p ∷ and_later z m)) (sym (h NoMemory refl)) (refl, refl)

  abbrev pub FoundFits : Found X → List (List ℕ) → Type 0
  FoundFits (At path content) l = ⊤
  FoundFits Nowhere l = ⊤
  FoundFits (Unread path) l = LacksLast more path l

  found_fits_later : (p : List ℕ) (f : Found X) (l : List (List ℕ)) → FoundFits f l → FoundFits f (p ∷ l)
  found_fits_later p (At path content) l h = tt
  found_fits_later p Nowhere l h = tt
  found_fits_later p (Unread path) l h = (h.0, (p ∷ h.1.0, ap (p ∷◌) h.1.1))

  found_fits : (p : List ℕ) (o : Option (Content X)) → more p ≡ o → (f : Found X) (l : List (List ℕ)) → FoundFits f l → FoundFits (found_at p o f) (p ∷ and_later o l)
  found_fits p None h f l k = (h, ([], refl))
  found_fits p (Some Absent) h f l k = found_fits_later p f l k
  found_fits p (Some (Present x)) h f l k = tt
  found_fits p (Some Failed) h f l k = tt
  found_fits p (Some Big) h f l k = tt
  found_fits p (Some NoMemory) h f l k = tt

  pub find_fits : (paths : List (List ℕ)) → FoundFits (find more paths) (looked_at more paths)
  unfolding find looked_at
  find_fits [] = tt
  find_fits (p ∷ ps) = found_fits p (more p) refl (find more ps) (looked_at more ps) (find_fits ps)

  module _ (files : FileMap X) (extends : Extends X files more) where
    pub find_grows : (paths : List (List ℕ)) → FoundGrows (find files paths) (find more paths) (looked_at files paths) (looked_at more paths)
    unfolding find looked_at
    find_grows [] = (refl, refl)
    find_grows (p ∷ ps) = found_step p (files p) (more p) (extends p) (find files ps) (find more ps) (looked_at files ps) (looked_at more ps) (find_grows ps)

    abbrev pub AbsentGrows : (Core → Effect X) → (Core → Effect X) → Type 0
    AbsentGrows a b = (c : Core) → Grows c.looked (a c) (b c)

    abbrev pub PresentGrows : (List ℕ → X → Core → Effect X) → (List ℕ → X → Core → Effect X) → Type 0
    PresentGrows p q = (path : List ℕ) (x : X) (c : Core) → Grows c.looked (p path x c) (q path x c)

    pub on_found_longer : (place : Place) (c : Core) (a b : Core → Effect X) (p q : List ℕ → X → Core → Effect X) → AbsentGrows a b → PresentGrows p q →
        (g : Found X) → Longer c.looked (core_of (on_found place c b q g)).looked
    on_found_longer place c a b p q k m Nowhere = (k c).0
    on_found_longer place c a b p q k m (Unread path) = longer_refl c.looked
    on_found_longer place c a b p q k m (At path (Present x)) = (m path x c).0
    on_found_longer place c a b p q k m (At path Absent) = (k c).0
    on_found_longer place c a b p q k m (At path Failed) = longer_refl c.looked
    on_found_longer place c a b p q k m (At path Big) = longer_refl c.looked
    on_found_longer place c a b p q k m (At path NoMemory) = longer_refl c.looked

    on_found_same : (place : Place) (c : Core) (a b : Core → Effect X) (p q : List ℕ → X → Core → Effect X) → AbsentGrows a b → PresentGrows p q →
        (g : Found X) → GoesOn c.looked (on_found place c a p g) (on_found place c b q g)
    on_found_same place c a b p q k m Nowhere = ((k c).0, (k c).1)
    on_found_same place c a b p q k m (Unread path) = goes_on (Halts (Needs path) c)
    on_found_same place c a b p q k m (At path (Present x)) = ((m path x c).0, (m path x c).1)
    on_found_same place c a b p q k m (At path Absent) = ((k c).0, (k c).1)
    on_found_same place c a b p q k m (At path Failed) = goes_on (stop_at FaultIs.ReadFault place c)
    on_found_same place c a b p q k m (At path Big) = goes_on (stop_at FaultIs.FileTooLarge place c)
    on_found_same place c a b p q k m (At path NoMemory) = goes_on (Halts OutOfMemory c)

    abbrev pub after_looks : Core → List (List ℕ) → Core
    after_looks c l = record c { looked = c.looked ++ l }

    goes_on_later : (c : Core) (m : List (List ℕ)) (e f : Effect X) → GoesOn (c.looked ++ m) e f → GoesOn c.looked e f
    goes_on_later c m e f h = (longer_trans c.looked (c.looked ++ m) (core_of f).looked (m, refl) h.0, h.1)

    on_found_grows : (place : Place) (c : Core) (a b : Core → Effect X) (p q : List ℕ → X → Core → Effect X) → AbsentGrows a b → PresentGrows p q →
        (l m : List (List ℕ)) (f g : Found X) → FoundGrows f g l m → GoesOn c.looked (on_found place (after_looks c l) a p f) (on_found place (after_looks c m) b q g)
    on_found_grows place c a b p q k n l m (Unread path) g h =
        let longer = on_found_longer place (after_looks c m) a b p q k n g in (
          longer_trans c.looked (c.looked ++ m) (core_of (on_found place (after_looks c m) b q g)).looked (m, refl) longer,
          longer_trans (c.looked ++ l) (c.looked ++ m) (core_of (on_found place (after_looks c m) b q g)).looked (longer_front c.looked l m h) longer,
        )
    on_found_grows place c a b p q k n l m Nowhere g h =
        subst (λ z. GoesOn c.looked (on_found place (after_looks c l) a p Nowhere) (on_found place (after_looks c m) b q z)) h.0
        (subst (λ z. GoesOn c.looked (on_found place (after_looks c l) a p Nowhere) (on_found place (after_looks c z) b q Nowhere)) h.1
        (goes_on_later c l (on_found place (after_looks c l) a p Nowhere) (on_found place (after_looks c l) b q Nowhere) (on_found_same place (after_looks c l) a b p q k n Nowhere)))
    on_found_grows place c a b p q k n l m (At path content) g h =
        subst (λ z. GoesOn c.looked (on_found place (after_looks c l) a p (At path content)) (on_found place (after_looks c m) b q z)) h.0
        (subst (λ z. GoesOn c.looked (on_found place (after_looks c l) a p (At path content)) (on_found place (after_looks c z) b q (At path content))) h.1
        (goes_on_later c l (on_found place (after_looks c l) a p (At path content)) (on_found place (after_looks c l) b q (At path content)) (on_found_same place (after_looks c l) a b p q k n (At path content))))

    pub on_found_fits : (place : Place) (c : Core) (a b : Core → Effect X) (p q : List ℕ → X → Core → Effect X) → AbsentGrows a b → PresentGrows p q →
        (m : List (List ℕ)) (g : Found X) → FoundFits g m → Fit (on_found place (after_looks c m) b q g)
    on_found_fits place c a b p q k n m Nowhere h = (k (after_looks c m)).2
    on_found_fits place c a b p q k n m (Unread path) h =
        (h.0, (c.looked ++ h.1.0, ap (λ z. c.looked ++ z) h.1.1 ∙ sym (append_assoc c.looked h.1.0 (path ∷ []))))
    on_found_fits place c a b p q k n m (At path (Present x)) h = (n path x (after_looks c m)).2
    on_found_fits place c a b p q k n m (At path Absent) h = (k (after_looks c m)).2
    on_found_fits place c a b p q k n m (At path Failed) h = tt
    on_found_fits place c a b p q k n m (At path Big) h = tt
    on_found_fits place c a b p q k n m (At path NoMemory) h = tt

    pub grow_with_found : (place : Place) (paths : List (List ℕ)) (c : Core) (a b : Core → Effect X) (p q : List ℕ → X → Core → Effect X) → AbsentGrows a b → PresentGrows p q →
        Grows c.looked (with_found files place paths c a p) (with_found more place paths c b q)
    grow_with_found place paths c a b p q k m =
        let h = on_found_grows place c a b p q k m (looked_at files paths) (looked_at more paths) (find files paths) (find more paths) (find_grows paths) in
        (h.0, h.1, on_found_fits place c a b p q k m (looked_at more paths) (find more paths) (find_fits paths))

    pub grow_include : (place : Place) (paths : List (List ℕ)) (places : List ℕ → Option ℕ) (c : Core) →
        Grows c.looked (include files place paths places c) (include more place paths places c)
    grow_include place paths places c =
        grow_with_found place paths c (stop_at FaultIs.IncludeNotFound place) (stop_at FaultIs.IncludeNotFound place) (unless_once place places) (unless_once place places)
        (λ c. grow (stop_at FaultIs.IncludeNotFound place c) tt) (λ path x c. grow_if c.looked (c.once path) (Now c) (Enters place path (places path) x c) (Now c) (Enters place path (places path) x c)
        (grow (Now c) tt) (grow (Enters place path (places path) x c) tt))

    module _ (setup : Setup) where
      pub grow_has_values : (l : Line) (ts : List Term) (c : Core) (g h : List Bool → Core → Effect X) → ((bs : List Bool) (c : Core) → Grows c.looked (g bs c) (h bs c)) →
          Grows c.looked (with_has_values files setup l ts c g) (with_has_values more setup l ts c h)
      grow_has_values l [] c g h each = each [] c
      grow_has_values l (Plain t ∷ ts) c g h each = grow_has_values l ts c g h each
      grow_has_values l (Has next form name ∷ ts) c g h each =
          grow_with_found (place_of c l) (searched setup (record { form = search_form next c.chain_place form; name = name; after = [] }) (folder c.path)) c
          (λ c. with_has_values files setup l ts c (λ has. g (false ∷ has))) (λ c. with_has_values more setup l ts c (λ has. h (false ∷ has)))
          (λ path x c. with_has_values files setup l ts c (λ has. g (true ∷ has))) (λ path x c. with_has_values more setup l ts c (λ has. h (true ∷ has)))
          (λ c. grow_has_values l ts c (λ has. g (false ∷ has)) (λ has. h (false ∷ has)) (λ bs c. each (false ∷ bs) c))
          (λ path x c. grow_has_values l ts c (λ has. g (true ∷ has)) (λ has. h (true ∷ has)) (λ bs c. each (true ∷ bs) c))

      abbrev pub FurtherGrows : (Bool → Core → Effect X) → (Bool → Core → Effect X) → Type 0
      FurtherGrows g h = (b : Bool) (c : Core) → Grows c.looked (g b c) (h b c)

      pub grow_on_value : (l : Line) (g h : Bool → Core → Effect X) → FurtherGrows g h → (v : Result CondValue CondFault) (c : Core) → Grows c.looked (on_value l g v c) (on_value l h v c)
      grow_on_value l g h each (Ok v) c = each (is_nonzero v) c
      grow_on_value l g h each (Err x) c = grow (on_value l g (Err x) c) tt

      pub grow_on_terms : (c : Core) (l : Line) (toks : List Tok) (g h : Bool → Core → Effect X) → FurtherGrows g h →
          (ts : Option (List Term)) → Grows c.looked (on_terms files setup c l toks g ts) (on_terms more setup c l toks h ts)
      grow_on_terms c l toks g h each None = grow (stop FaultIs.BadCondition c l) tt
      grow_on_terms c l toks g h each (Some ts) =
          grow_has_values l ts c (λ has. on_value l g (value toks has)) (λ has. on_value l h (value toks has)) (λ has c. grow_on_value l g h each (value toks has) c)

      pub grow_condition : (c : Core) (l : Line) (toks : List Tok) (g h : Bool → Core → Effect X) → FurtherGrows g h →
          Grows c.looked (with_condition files setup c l toks g) (with_condition more setup c l toks h)
      grow_condition c l toks g h each =
          grow_replaced ModeIs.Condition c l toks (λ ts. on_terms files setup c l ts g (terms ts)) (λ ts. on_terms more setup c l ts h (terms ts))
          (λ ts. grow_on_terms c l ts g h each (terms ts))

      -- an effect that doesn't look at files
      abbrev pub Own : List (List ℕ) → Effect X → Type 0
      Own looked e = ((core_of e).looked ≡ looked) × Fit e

      grow_own : (looked : List (List ℕ)) (e : Effect X) → Own looked e → Grows looked e e
      grow_own looked e h = (subst (λ z. Longer looked z) (sym h.0) (longer_refl looked), stays_refl e, h.1)

      own_if : (looked : List (List ℕ)) (b : Bool) (e f : Effect X) → Own looked e → Own looked f → Own looked (if b then e else f)
      own_if looked true e f h k = h
      own_if looked false e f h k = k

      own_defined : (c : Core) (l : Line) (ts : List Tok) (g : Bool → Core → Effect X) → ((b : Bool) (c : Core) → Own c.looked (g b c)) → Own c.looked (with_defined c l ts g)
      own_defined c l [] g each = (refl, tt)
      own_defined c l (t ∷ ts) g each = own_if c.looked (is_of Ident t) (g (is_some (c.macros.defs t.text)) c) (stop FaultIs.BadCondition c l) (each (is_some (c.macros.defs t.text)) c) (refl, tt)

      grow_group : (c : Core) (l : Line) (p q : (Bool → Core → Effect X) → Effect X) →
          ((g h : Bool → Core → Effect X) → FurtherGrows g h → Grows c.looked (p g) (q h)) → (gs : List Group) → Grows c.looked (next_group c l p gs) (next_group c l q gs)
      grow_group c l p q each [] = grow (stop FaultIs.Unbalanced c l) tt
      grow_group c l p q each (g ∷ gs) =
          grow_if c.looked g.past_else _ _ _ _ (grow (stop FaultIs.Unbalanced c l) tt) (grow_if c.looked g.taken _ _ _ _ (grow (with_group (record g { live = false }) gs c) tt)
          (each (λ yields. with_group (record g { live = yields; taken = yields }) gs) (λ yields. with_group (record g { live = yields; taken = yields }) gs)
          (λ b d. grow (with_group (record g { live = b; taken = b }) gs d) tt)))

      grow_elif : (c : Core) (l : Line) (ts : List Tok) (gs : List Group) → Grows c.looked (elif_line files setup c l ts gs) (elif_line more setup c l ts gs)
      grow_elif c l ts gs = grow_group c l (with_condition files setup c l ts) (with_condition more setup c l ts) (grow_condition c l ts) gs

      own_group : (c : Core) (l : Line) (p : (Bool → Core → Effect X) → Effect X) →
          ((g : Bool → Core → Effect X) → ((b : Bool) (c : Core) → Own c.looked (g b c)) → Own c.looked (p g)) → (gs : List Group) → Own c.looked (next_group c l p gs)
      own_group c l p each [] = (refl, tt)
      own_group c l p each (g ∷ gs) =
          own_if c.looked g.past_else _ _ (refl, tt) (own_if c.looked g.taken _ _ (refl, tt)
          (each (λ yields. with_group (record g { live = yields; taken = yields }) gs) (λ b d. (refl, tt))))

      own_elifdef : (c : Core) (l : Line) (ts : List Tok) (gs : List Group) → Own c.looked (elifdef_line c l ts gs)
      own_elifdef c l ts gs = own_group c l (with_defined c l ts) (own_defined c l ts) gs

      own_elifndef : (c : Core) (l : Line) (ts : List Tok) (gs : List Group) → Own c.looked (elifndef_line c l ts gs)
      own_elifndef c l ts gs =
          own_group c l (λ further. with_defined c l ts (λ yields. further (not yields)))
          (λ g each. own_defined c l ts (λ yields. g (not yields)) (λ b d. each (not b) d)) gs

      own_else : (c : Core) (l : Line) (gs : List Group) → Own c.looked (else_line c l gs)
      own_else c l [] = (refl, tt)
      own_else c l (g ∷ gs) = own_if c.looked g.past_else _ _ (refl, tt) (refl, tt)

      own_endif : (c : Core) (l : Line) (gs : List Group) → Own c.looked (endif_line c l gs)
      own_endif c l [] = (refl, tt)
      own_endif c l (g ∷ gs) = (refl, tt)

      grow_included_by : (c : Core) (l : Line) (n : Named) → Grows c.looked (include_by files setup c l n) (include_by more setup c l n)
      grow_included_by c l n = grow_include (place_of c l) (searched setup n (folder c.path)) (place_searched setup n (folder c.path)) c

      grow_included : (next : Bool) (c : Core) (l : Line) (n : Option Named) → Grows c.looked (include_named next files setup c l n) (include_named next more setup c l n)
      grow_included next c l None = grow (stop FaultIs.IncludeSyntax c l) tt
      grow_included next c l (Some n) = grow_included_by c l (record n { form = search_form next c.chain_place n.form })

      grow_include_line : (next : Bool) (c : Core) (l : Line) (ts : List Tok) → Grows c.looked (include_line next files setup c l ts) (include_line next more setup c l ts)
      grow_include_line next c l [] = grow_replaced ModeIs.Line c l [] _ _ (λ toks. grow_included next c l (option_and_then nonempty (name_of toks)))
      grow_include_line next c l (t ∷ ts) = grow_if c.looked (is_of Header t) _ _ _ _ (grow_included next c l (nonempty (header t ts)))
          (grow_replaced ModeIs.Line c l (t ∷ ts) _ _ (λ toks. grow_included next c l (option_and_then nonempty (name_of toks))))

      own_define : (c : Core) (l : Line) (found : Option (List ℕ × Def)) → Own c.looked (defined c l found)
      own_define c l None = (refl, tt)
      own_define c l (Some found) = (refl, tt)

      own_undef : (c : Core) (l : Line) (ts : List Tok) → Own c.looked (undef_line c l ts)
      own_undef c l [] = (refl, tt)
      own_undef c l (t ∷ ts) = own_if c.looked (is_of Ident t) _ _ (refl, tt) (refl, tt)

      own_line_set : (c : Core) (l : Line) (ts : List Tok) → Own c.looked (line_set c l ts)
      own_line_set c l [] = (refl, tt)
      own_line_set c l (t ∷ []) = own_if c.looked (is_line_number t) _ _ (refl, tt) (refl, tt)
      own_line_set c l (t ∷ u ∷ ts) = own_if c.looked (is_line_number t && is_plain_string u) _ _ (refl, tt) (refl, tt)

      own_macros : (c : Core) (change : Macros → List ℕ → Macros) (name : Option (List ℕ)) → Own c.looked (with_macros c change name)
      own_macros c change None = (refl, tt)
      own_macros c change (Some name) = (refl, tt)

      own_pragma : (c : Core) (ts : List Tok) → Own c.looked (pragma_line c ts)
      own_pragma c [] = (refl, tt)
      own_pragma c (t ∷ ts) =
          own_if c.looked (is_word "once" t) _ _ (refl, tt) (own_if c.looked (is_word "push_macro" t) _ _ (own_macros c push (quoted_name ts))
          (own_if c.looked (is_word "pop_macro" t) _ _ (own_macros c pop (quoted_name ts)) (refl, tt)))

      grow_plain : (c : Core) (l : Line) (ts : List Tok) (d : Directive) → Grows c.looked (plain_line files setup c l ts d) (plain_line more setup c l ts d)
      grow_plain c l ts Define = grow_own c.looked (defined c l (read_define ts)) (own_define c l (read_define ts))
      grow_plain c l ts Undef = grow_own c.looked (undef_line c l ts) (own_undef c l ts)
      grow_plain c l ts Include = grow_include_line false c l ts
      grow_plain c l ts IncludeNext = grow_include_line true c l ts
      grow_plain c l ts Renumber = grow_replaced ModeIs.Line c l ts (line_set c l) (line_set c l) (λ toks. grow_own c.looked (line_set c l toks) (own_line_set c l toks))
      grow_plain c l ts Error = grow (stop FaultIs.ErrorDirective c l) tt
      grow_plain c l ts Pragma = grow_own c.looked (pragma_line c ts) (own_pragma c ts)
      grow_plain c l ts Unknown = grow (stop FaultIs.UnknownDirective c l) tt
      grow_plain c l ts If = grow (Now c) tt
      grow_plain c l ts Ifdef = grow (Now c) tt
      grow_plain c l ts Ifndef = grow (Now c) tt
      grow_plain c l ts Elif = grow (Now c) tt
      grow_plain c l ts Elifdef = grow (Now c) tt
      grow_plain c l ts Elifndef = grow (Now c) tt
      grow_plain c l ts Else = grow (Now c) tt
      grow_plain c l ts Endif = grow (Now c) tt
      grow_plain c l ts Nothing = grow (Now c) tt

      skipped_or : (c : Core) (e e' f f' : Effect X) → Grows c.looked e f → Grows c.looked e' f' → Grows c.looked (if is_skipped c.stack then e else e') (if is_skipped c.stack then f else f')
      skipped_or c e e' f f' h k = grow_if c.looked (is_skipped c.stack) e e' f f' h k

      grow_hash : (c : Core) (l : Line) (ts : List Tok) (d : Directive) → Grows c.looked (hash_line files setup c l ts d) (hash_line more setup c l ts d)
      grow_hash c l ts If = skipped_or c _ _ _ _ (grow (opened_skipped l c) tt) (grow_condition c l ts (opened l) (opened l) (λ b d. grow (opened l b d) tt))
      grow_hash c l ts Ifdef = skipped_or c _ _ _ _ (grow (opened_skipped l c) tt) (grow_own c.looked (with_defined c l ts (opened l)) (own_defined c l ts (opened l) (λ b d. (refl, tt))))
      grow_hash c l ts Ifndef = skipped_or c _ _ _ _ (grow (opened_skipped l c) tt)
          (grow_own c.looked (with_defined c l ts (λ yields. opened l (not yields))) (own_defined c l ts (λ yields. opened l (not yields)) (λ b d. (refl, tt))))
      grow_hash c l ts Elif = grow_elif c l ts c.stack
      grow_hash c l ts Elifdef = grow_own c.looked (elifdef_line c l ts c.stack) (own_elifdef c l ts c.stack)
      grow_hash c l ts Elifndef = grow_own c.looked (elifndef_line c l ts c.stack) (own_elifndef c l ts c.stack)
      grow_hash c l ts Else = grow_own c.looked (else_line c l c.stack) (own_else c l c.stack)
      grow_hash c l ts Endif = grow_own c.looked (endif_line c l c.stack) (own_endif c l c.stack)
      grow_hash c l ts Define = skipped_or c _ _ _ _ (grow (Now c) tt) (grow_plain c l ts Define)
      grow_hash c l ts Undef = skipped_or c _ _ _ _ (grow (Now c) tt) (grow_plain c l ts Undef)
      grow_hash c l ts Include = skipped_or c _ _ _ _ (grow (Now c) tt) (grow_plain c l ts Include)
      grow_hash c l ts IncludeNext = skipped_or c _ _ _ _ (grow (Now c) tt) (grow_plain c l ts IncludeNext)
      grow_hash c l ts Renumber = skipped_or c _ _ _ _ (grow (Now c) tt) (grow_plain c l ts Renumber)
      grow_hash c l ts Error = skipped_or c _ _ _ _ (grow (Now c) tt) (grow_plain c l ts Error)
      grow_hash c l ts Pragma = skipped_or c _ _ _ _ (grow (Now c) tt) (grow_plain c l ts Pragma)
      grow_hash c l ts Nothing = skipped_or c _ _ _ _ (grow (Now c) tt) (grow_plain c l ts Nothing)
      grow_hash c l ts Unknown = skipped_or c _ _ _ _ (grow (Now c) tt) (grow_plain c l ts Unknown)

      grow_keyword : (c : Core) (l : Line) (exported : Bool) (before ts : List Tok) → Grows c.looked (keyword_line c l exported before ts) (keyword_line c l exported before ts)
      grow_keyword c l exported before [] = grow (Now c) tt
      grow_keyword c l exported before (t ∷ ts) = grow_if c.looked (is_object_like (c.macros.defs t.text)) _ _ _ _ (grow (stop FaultIs.KeywordIsMacro c l) tt)
          (grow_replaced ModeIs.Line c l ts (sent c l exported before t) (sent c l exported before t) (λ toks. grow (sent c l exported before t toks) refl))

      grow_module : (c : Core) (l : Line) (ts : List Tok) → Grows c.looked (module_line c l ts) (module_line c l ts)
      grow_module c l [] = grow (Now c) tt
      grow_module c l (t ∷ ts) = grow_if c.looked (spells "export" t.text) _ _ _ _
          (grow_if c.looked (is_object_like (c.macros.defs t.text)) _ _ _ _ (grow (stop FaultIs.KeywordIsMacro c l) tt) (grow_keyword c l true (as_keyword ExportKw t ∷ []) ts))
          (grow_keyword c l false [] (t ∷ ts))

      grow_effect_of : (c : Core) (l : Line) (ts : List Tok) → Grows c.looked (effect_of files setup c l ts) (effect_of more setup c l ts)
      grow_effect_of c l [] = grow (Now c) tt
      grow_effect_of c l (t ∷ ts) = grow_if c.looked (is_one_of ("#" ∷ "%:" ∷ []) t.text) _ _ _ _ (grow_hash c l (drop 1 ts) (directive_of setup.command.dialect ts))
          (skipped_or c _ _ _ _ (grow (Now c) tt) (grow_module c l (t ∷ ts)))

      -- the effect of a line with more files
      pub grow_effect : (c : Core) (l : Line) → Grows c.looked (effect files setup c l) (effect more setup c l)
      unfolding effect
      grow_effect c l = grow_effect_of c l l.toks

-- ## Runs of lines

abbrev pub looked_in : Reached → List (List ℕ)
looked_in (Going s) = s.core.looked
looked_in (Stopped a) = a.looked

abbrev pub stream_in : Reached → List Piece
stream_in (Going s) = s.stream
stream_in (Stopped a) = a.stream

-- the lines were sent after these paths were looked at
abbrev pub SentAfter : List (List ℕ) → List ModuleLine → Type 0
SentAfter looked ls = AllByRecursion (λ l. Longer looked l.looked) ls

-- the second stream begins with the first, and the lines that follow there were sent after these paths were looked at
abbrev pub Later : List (List ℕ) → List Piece → List Piece → Type 0
Later looked a b = (rest : List Piece) × (b ≡ a ++ rest) × SentAfter looked (module_lines rest)

pub lines_of_append : (ps qs : List Piece) → module_lines (ps ++ qs) ≡ module_lines ps ++ module_lines qs
lines_of_append [] qs = refl
lines_of_append (Run path toks ∷ ps) qs = lines_of_append ps qs
lines_of_append (Sent l ∷ ps) qs = ap (l ∷◌) (lines_of_append ps qs)

pub sent_earlier : (looked more : List (List ℕ)) → Longer looked more → (ls : List ModuleLine) → SentAfter more ls → SentAfter looked ls
sent_earlier looked more h [] k = tt
sent_earlier looked more h (l ∷ ls) k = (longer_trans looked more l.looked h k.0, sent_earlier looked more h ls k.1)

sent_append : (looked : List (List ℕ)) (ls ms : List ModuleLine) → SentAfter looked ls → SentAfter looked ms → SentAfter looked (ls ++ ms)
sent_append looked [] ms h k = k
sent_append looked (l ∷ ls) ms h k = (h.0, sent_append looked ls ms h.1 k)

pub later_refl : (looked : List (List ℕ)) (a : List Piece) → Later looked a a
later_refl looked a = ([], sym (append-nil a), tt)

pub later_earlier : (looked more : List (List ℕ)) (a b : List Piece) → Longer looked more → Later more a b → Later looked a b
later_earlier looked more a b h k = (k.0, k.1, sent_earlier looked more h (module_lines k.0) k.2)

pub later_trans : (looked : List (List ℕ)) (a b c : List Piece) → Later looked a b → Later looked b c → Later looked a c
later_trans looked a b c h k = (
  h.0 ++ k.0,
  k.1 ∙ ap (λ z. z ++ k.0) h.1 ∙ append_assoc a h.0 k.0,
  subst (λ z. SentAfter looked z) (sym (lines_of_append h.0 k.0)) (sent_append looked (module_lines h.0) (module_lines k.0) h.2 k.2),
)

abbrev pub StopStays : Cause → Stop → Reached → Type 0
StopStays (Faulty x) a f = Stopped a ≡ f
StopStays OutOfMemory a f = Stopped a ≡ f
StopStays (Needs path) a f = Longer a.looked (looked_in f) × Later a.looked a.stream (stream_in f)

abbrev pub RunStays : Reached → Reached → Type 0
RunStays (Going s) f = Going s ≡ f
RunStays (Stopped a) f = StopStays a.cause a f

abbrev pub StopFits : {X : Type 0} → FileMap X → Cause → List (List ℕ) → Type 0
StopFits more (Faulty x) looked = ⊤
StopFits more OutOfMemory looked = ⊤
StopFits more (Needs path) looked = LacksLast more path looked

abbrev pub RunFits : {X : Type 0} → FileMap X → Reached → Type 0
RunFits more (Going s) = ⊤
RunFits more (Stopped a) = StopFits more a.cause a.looked

abbrev pub RunGrows : {X : Type 0} → FileMap X → List (List ℕ) → List Piece → Reached → Reached → Type 0
RunGrows more looked stream e f = Longer looked (looked_in f) × Later looked stream (stream_in f) × RunStays e f × RunFits more f

-- what is reached has these paths and this stream, and maybe more
abbrev pub Onward : List (List ℕ) → List Piece → Reached → Type 0
Onward looked stream f = Longer looked (looked_in f) × Later looked stream (stream_in f)

pub run_stays : {X : Type 0} (more : FileMap X) (s : State) → RunGrows more s.core.looked s.stream (Going s) (Going s)
run_stays more s = (longer_refl s.core.looked, later_refl s.core.looked s.stream, refl, tt)

pub run_if : {X : Type 0} (more : FileMap X) (looked : List (List ℕ)) (stream : List Piece) (b : Bool) (e e' f f' : Reached) → RunGrows more looked stream e f →
    RunGrows more looked stream e' f' → RunGrows more looked stream (if b then e else e') (if b then f else f')
run_if more looked stream true e e' f f' h h' = h
run_if more looked stream false e e' f f' h h' = h'

run_keeps_core : (s : State) (answer : Expanded) → (run_done s answer).core ≡ s.core
run_keeps_core s (Gives.Done toks counter) = refl
run_keeps_core s Gives.Bad = refl
run_keeps_core s Gives.TooLong = refl
run_keeps_core s Gives.Counter = refl

run_later : (looked : List (List ℕ)) (s : State) (answer : Expanded) → Later looked s.stream (run_done s answer).stream
run_later looked s (Gives.Done toks counter) = (Run s.core.path toks ∷ [], refl, tt)
run_later looked s Gives.Bad = (Run s.core.path s.run ∷ [], refl, tt)
run_later looked s Gives.TooLong = (Run s.core.path s.run ∷ [], refl, tt)
run_later looked s Gives.Counter = (Run s.core.path s.run ∷ [], refl, tt)

pub end_core : (s : State) → (end_run s).core ≡ s.core
unfolding end_run
end_core s = run_keeps_core s (expand s.core.macros.defs s.core.site (ModeIs.Text s.counter) s.run)

pub end_later : (looked : List (List ℕ)) (s : State) → Later looked s.stream (end_run s).stream
unfolding end_run
end_later looked s = run_later looked s (expand s.core.macros.defs s.core.site (ModeIs.Text s.counter) s.run)

pub then_onward : (h : State → Reached) → ((s : State) → Onward s.core.looked s.stream (h s)) → (f : Reached) → Onward (looked_in f) (stream_in f) (then_go h f)
then_onward h each (Going s) = each s
then_onward h each (Stopped a) = (longer_refl a.looked, later_refl a.looked a.stream)

pub onward_trans : (looked : List (List ℕ)) (stream : List Piece) (f g : Reached) → Onward looked stream f → Onward (looked_in f) (stream_in f) g → Onward looked stream g
onward_trans looked stream f g h k = (
  longer_trans looked (looked_in f) (looked_in g) h.0 k.0,
  later_trans looked stream (stream_in f) (stream_in g) h.1 (later_earlier looked (looked_in f) (stream_in f) (stream_in g) h.0 k.1),
)

stop_then : (h : State → Reached) → ((s : State) → Onward s.core.looked s.stream (h s)) → (cause : Cause) (a : Stop) (f : Reached) → StopStays cause a f → StopStays cause a (then_go h f)
stop_then h each (Faulty x) a f k = ap (then_go h) k
stop_then h each OutOfMemory a f k = ap (then_go h) k
stop_then h each (Needs path) a f k = onward_trans a.looked a.stream f (then_go h f) k (then_onward h each f)

then_fits : {X : Type 0} (more : FileMap X) (h : State → Reached) → ((s : State) → RunFits more (h s)) → (f : Reached) → RunFits more f → RunFits more (then_go h f)
then_fits more h each (Going s) k = each s
then_fits more h each (Stopped a) k = k

pub then_grows : {X : Type 0} (more : FileMap X) (looked : List (List ℕ)) (stream : List Piece) (g h : State → Reached) →
    ((s : State) → RunGrows more s.core.looked s.stream (g s) (h s)) →
    (e f : Reached) → RunGrows more looked stream e f → RunGrows more looked stream (then_go g e) (then_go h f)
then_grows more looked stream g h each (Going s) f k =
    subst (λ z. Onward looked stream z → RunGrows more looked stream (g s) (then_go h z)) k.2
    (λ on. let m = onward_trans looked stream (Going s) (h s) on ((each s).0, (each s).1) in (m.0, m.1, (each s).2, (each s).3)) (k.0, k.1)
then_grows more looked stream g h each (Stopped a) f k =
    let m = onward_trans looked stream f (then_go h f) (k.0, k.1) (then_onward h (λ s. ((each s).0, (each s).1)) f) in
    (m.0, m.1, stop_then h (λ s. ((each s).0, (each s).1)) a.cause a f k.2, then_fits more h (λ s. (each s).3) f k.3)

module _ (X : Type 0) (more : FileMap X) (e f : Enter X) where
  abbrev pub EnterGrows : Type 0
  EnterGrows = (place : Place) (path : List ℕ) (chain_place : Option ℕ) (x : X) (s : State) →
      RunGrows more s.core.looked s.stream (e place path chain_place x s) (f place path chain_place x s)

  pub done_onward : EnterGrows → (s : State) (b : Effect X) → Fit X more b → Onward (core_of b).looked s.stream (done f s b)
  done_onward each s (Now c) fit = (longer_refl c.looked, later_refl c.looked s.stream)
  done_onward each s (Enters place path chain_place x c) fit = let h = each place path chain_place x (record s { core = c }) in (h.0, h.1)
  done_onward each s (Sends l c) fit = (longer_refl c.looked, (Sent l ∷ [], refl, (subst (λ z. Longer c.looked z) (sym fit) (longer_refl c.looked), tt)))
  done_onward each s (Halts cause c) fit = (longer_refl c.looked, later_refl c.looked s.stream)

  pub done_fits : EnterGrows → (s : State) (b : Effect X) → Fit X more b → RunFits more (done f s b)
  done_fits each s (Now c) fit = tt
  done_fits each s (Enters place path chain_place x c) fit = (each place path chain_place x (record s { core = c })).3
  done_fits each s (Sends l c) fit = tt
  done_fits each s (Halts (Faulty x) c) fit = tt
  done_fits each s (Halts OutOfMemory c) fit = tt
  done_fits each s (Halts (Needs path) c) fit = fit

  from_core : (looked : List (List ℕ)) (s : State) (b : Effect X) → Longer looked (core_of b).looked → Onward (core_of b).looked s.stream (done f s b) → Onward looked s.stream (done f s b)
  from_core looked s b h k = (
    longer_trans looked (core_of b).looked (looked_in (done f s b)) h k.0,
    later_earlier looked (core_of b).looked s.stream (stream_in (done f s b)) h k.1,
  )

  -- the same effect over both maps
  same_done : EnterGrows → (s : State) (a : Effect X) → RunStays (done e s a) (done f s a) → (looked : List (List ℕ)) → Longer looked (core_of a).looked → Fit X more a →
      RunGrows more looked s.stream (done e s a) (done f s a)
  same_done each s a stays looked h fit = let on = from_core looked s a h (done_onward each s a fit) in (on.0, on.1, stays, done_fits each s a fit)

  pub done_grows : EnterGrows → (looked : List (List ℕ)) (s : State) (a b : Effect X) → Grows X more looked a b → RunGrows more looked s.stream (done e s a) (done f s b)
  done_grows each looked s (Now c) b h =
      subst (λ z. Longer looked (core_of z).looked → Fit X more z → RunGrows more looked s.stream (done e s (Now c)) (done f s z)) h.1 (same_done each s (Now c) refl looked) h.0 h.2
  done_grows each looked s (Enters place path chain_place x c) b h =
      subst (λ z. Longer looked (core_of z).looked → Fit X more z → RunGrows more looked s.stream (done e s (Enters place path chain_place x c)) (done f s z)) h.1
      (same_done each s (Enters place path chain_place x c) (each place path chain_place x (record s { core = c })).2 looked) h.0 h.2
  done_grows each looked s (Sends l c) b h =
      subst (λ z. Longer looked (core_of z).looked → Fit X more z → RunGrows more looked s.stream (done e s (Sends l c)) (done f s z)) h.1 (same_done each s (Sends l c) refl looked) h.0 h.2
  done_grows each looked s (Halts (Faulty x) c) b h =
      subst (λ z. Longer looked (core_of z).looked → Fit X more z → RunGrows more looked s.stream (done e s (Halts (Faulty x) c)) (done f s z)) h.1
      (same_done each s (Halts (Faulty x) c) refl looked) h.0 h.2
  done_grows each looked s (Halts OutOfMemory c) b h =
      subst (λ z. Longer looked (core_of z).looked → Fit X more z → RunGrows more looked s.stream (done e s (Halts OutOfMemory c)) (done f s z)) h.1
      (same_done each s (Halts OutOfMemory c) refl looked) h.0 h.2
  done_grows each looked s (Halts (Needs path) c) b h =
      let on = done_onward each s b h.2 in
      let here = from_core looked s b h.0 on in
      (here.0, here.1, from_core c.looked s b h.1 on, done_fits each s b h.2)

  module _ (files : FileMap X) (extends : Extends X files more) (setup : Setup) (each : EnterGrows) where
    pub line_grows : (s : State) (l : Line) → RunGrows more s.core.looked s.stream (full_line e files setup s l) (full_line f more setup s l)
    unfolding full_line
    line_grows s l = let h = done_grows each s.core.looked (end_run s) (effect files setup s.core l) (effect more setup s.core l) (grow_effect X more files extends setup s.core l) in
        run_if more s.core.looked s.stream (is_directive l) _ _ _ _
        (h.0, later_trans s.core.looked s.stream (end_run s).stream (stream_in (done f (end_run s) (effect more setup s.core l))) (end_later s.core.looked s) h.1, h.2, h.3)
        (run_if more s.core.looked s.stream (is_skipped s.core.stack) (Going s) (Going (joined s l)) (Going s) (Going (joined s l)) (run_stays more s) (run_stays more (joined s l)))

    pub lines_grow : (ls : List Line) (s : State) → RunGrows more s.core.looked s.stream (full_lines e files setup ls s) (full_lines f more setup ls s)
    lines_grow [] s = run_stays more s
    lines_grow (l ∷ ls) s =
        then_grows more s.core.looked s.stream (full_lines e files setup ls) (full_lines f more setup ls) (lines_grow ls) (full_line e files setup s l) (full_line f more setup s l) (line_grows s l)

file_end_grows : {X : Type 0} (more : FileMap X) (c : Core) (s : State) (gs : List Group) → RunGrows more s.core.looked s.stream (at_file_end c s gs) (at_file_end c s gs)
file_end_grows more c s [] = (longer_refl s.core.looked, later_refl s.core.looked s.stream, refl, tt)
file_end_grows more c s (g ∷ gs) = (longer_refl s.core.looked, later_refl s.core.looked s.stream, refl, tt)

pub file_ends : {X : Type 0} (more : FileMap X) (c : Core) (s : State) →
    RunGrows more s.core.looked s.stream (at_file_end c (end_run s) s.core.stack) (at_file_end c (end_run s) s.core.stack)
file_ends more c s =
    let h = subst (λ d. RunGrows more d.looked (end_run s).stream (at_file_end c (end_run s) s.core.stack) (at_file_end c (end_run s) s.core.stack)) (end_core s)
    (file_end_grows more c (end_run s) s.core.stack) in
    (h.0, later_trans s.core.looked s.stream (end_run s).stream (stream_in (at_file_end c (end_run s) s.core.stack)) (end_later s.core.looked s) h.1, h.2, h.3)

pub enter_grows : (X : Type 0) (more : FileMap X) (view : View X) (files : FileMap X) → Extends X files more → (setup : Setup) (n : ℕ) →
    EnterGrows X more (enter view files setup n) (enter view more setup n)
unfolding enter full_file
enter_grows X more view files extends setup zero place path chain_place x s = (longer_refl s.core.looked, later_refl s.core.looked s.stream, refl, tt)
enter_grows X more view files extends setup (suc n) place path chain_place x s =
    run_if more s.core.looked s.stream (nat_le entered_limit s.core.entered) _ _ _ _ (longer_refl s.core.looked, later_refl s.core.looked s.stream, refl, tt)
    (then_grows more s.core.looked s.stream (λ last. at_file_end s.core (end_run last) last.core.stack) (λ last. at_file_end s.core (end_run last) last.core.stack)
    (λ last. file_ends more s.core last)
    (full_lines (enter view files setup n) files setup (view x) (record s { core = at_file_start path chain_place s.core }))
    (full_lines (enter view more setup n) more setup (view x) (record s { core = at_file_start path chain_place s.core }))
    (lines_grow X more (enter view files setup n) (enter view more setup n) files extends setup (enter_grows X more view files extends setup n) (view x)
    (record s { core = at_file_start path chain_place s.core })))
