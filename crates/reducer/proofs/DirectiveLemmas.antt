-- What the word after a line's `#` asks for, by its number in the table of words.
use Rattle.std.proofs.Common.{◌≡◌, ℕ, Bool, true, false, cond, ◌||◌, if◌then◌else◌, slice_get, List, [], ◌∷◌, refl, ap, sym, ◌∙◌, subst, inl, inr, Option, Some, None}
use Rattle.std.specs.Option.{option_map}
use Rattle.std.specs.List.{find}
use Rattle.std.proofs.lemmas.Bool.{cases_Bool}
use Rattle.std.specs.Cmp.Lexicographic.{bytes_decides}
use Rattle.scan_model.specs.declared.command.Dialect.{Dialect}
use Rattle.scan_model.specs.declared.command.Dialect.TheVariants.{Cxx20, Cxx23}
use Rattle.scan_model.specs.declared.directive.Directive.{Directive}
use Rattle.scan_model.specs.declared.directive.Directive.TheVariants.{If, Ifdef, Ifndef, Elif, Elifdef, Elifndef, Else, Endif, Define, Undef, Include, IncludeNext, Renumber, Error, Pragma, Nothing, Unknown}
use Rattle.scan_model.specs.declared.token.Kind.TheVariants.{Number}
use Rattle.scan_model.specs.declared.token.Tok.{Tok}
use Rattle.scan_model.specs.Spelling.{spells, is_one_of}
use Rattle.scan_model.specs.TokenTests.{is_of}
use Rattle.scan_model.specs.Directives.{directive_of}
use Rattle.scan_model.specs.Skips.{directive_in}
use Rattle.reducer.specs.Directives.{begins_with_sharp}
use Rattle.word_table.specs.Rows.{Entry, has_word, value_of}
use Rattle.word_table.specs.Tables.{directive_words}
use Rattle.reducer.specs.DirectiveWords.{numbered, directive_numbered, in_dialect}

-- ## The dialect

in_cond : (dialect : Dialect) (b : Bool) (x y : Directive) → in_dialect dialect (cond b x y) ≡ cond b (in_dialect dialect x) (in_dialect dialect y)
in_cond dialect true x y = refl
in_cond dialect false x y = refl

of_dialect : (dialect : Dialect) (ts : List Tok) → directive_of dialect ts ≡ in_dialect dialect (directive_of Cxx23 ts)
of_dialect Cxx23 ts = refl
of_dialect Cxx20 [] = refl
of_dialect Cxx20 (t ∷ ts) = sym (simp (in_cond Cxx20) refl)

pub directive-in_dialect : (dialect : Dialect) (ts : List Tok) → directive_in dialect ts ≡ in_dialect dialect (directive_in Cxx23 ts)
directive-in_dialect Cxx23 [] = refl
directive-in_dialect Cxx20 [] = refl
directive-in_dialect dialect (t ∷ ts) = ap (λ d. cond (is_one_of ("#" ∷ "%:" ∷ []) t.text) d Nothing) (of_dialect dialect ts) ∙ by dialect (is_one_of ("#" ∷ "%:" ∷ []) t.text) (directive_of Cxx23 ts) where
  by : (dialect : Dialect) (b : Bool) (d : Directive) → cond b (in_dialect dialect d) Nothing ≡ in_dialect dialect (cond b d Nothing)
  by Cxx23 b d = refl
  by Cxx20 b d = sym (in_cond Cxx20 b d Nothing)

-- ## The word

-- what a word asks for that is no number
abbrev named : List ℕ → Directive
named word =
    if is_one_of ("warning" ∷ "ident" ∷ []) word then Nothing
    else if spells "if" word then If else if spells "ifdef" word then Ifdef else if spells "ifndef" word then Ifndef
    else if spells "elif" word then Elif else if spells "else" word then Else else if spells "endif" word then Endif
    else if spells "elifdef" word then Elifdef else if spells "elifndef" word then Elifndef
    else if spells "define" word then Define else if spells "undef" word then Undef
    else if spells "include" word then Include else if spells "include_next" word then IncludeNext
    else if spells "line" word then Renumber else if spells "error" word then Error else if spells "pragma" word then Pragma
    else Unknown

-- an entry's number is that of what its word asks for
abbrev Agrees : Entry → Type 0
Agrees e = numbered e.1 ≡ named e.0

abbrev AllAgree : List Entry → Type 0
AllAgree [] = Unit {0}
AllAgree (e ∷ es) = Agrees e × AllAgree es

all_agree : AllAgree directive_words
all_agree =
    (refl, (refl, (refl, (refl, (refl, (refl, (refl, (refl, (refl, (refl, (refl, (refl, (refl, (refl, (refl, (refl, (refl, tt)))))))))))))))))

-- the word that is found is spelled so
found_agrees : (es : List Entry) (word : List ℕ) (n : ℕ) → AllAgree es → option_map value_of (find (has_word word) es) ≡ Some n → numbered n ≡ named word
found_agrees [] word n all e = cc
found_agrees (x ∷ es) word n all e = elim (cases_Bool (has_word word x)) [
  | inl here ↦
      let same : x.0 ≡ word = (bytes_decides x.0 word).0 here in
      let at : option_map value_of (cond true (Some x) (find (has_word word) es)) ≡ Some n = subst (λ b. option_map value_of (cond b (Some x) (find (has_word word) es)) ≡ Some n) here e in
      let number : x.1 ≡ n = cc in
      ap numbered (sym number) ∙ all.0 ∙ ap named same
  | inr other ↦
      found_agrees es word n all.1 (subst (λ b. option_map value_of (cond b (Some x) (find (has_word word) es)) ≡ Some n) other e)
]

-- no word of the table is spelled so
abbrev IsOther : List ℕ → List Entry → Type 0
IsOther word [] = Unit {0}
IsOther word (e ∷ es) = (has_word word e ≡ false) × IsOther word es

none_found : (es : List Entry) (word : List ℕ) → option_map value_of (find (has_word word) es) ≡ None → IsOther word es
none_found [] word e = tt
none_found (x ∷ es) word e = by (has_word word x) refl e (none_found es word) where
  by : (b : Bool) → has_word word x ≡ b → option_map value_of (cond b (Some x) (find (has_word word) es)) ≡ None
      → (option_map value_of (find (has_word word) es) ≡ None → IsOther word es) → IsOther word (x ∷ es)
  by true here e more = cc
  by false other e more = (other, more e)

none_agrees : (word : List ℕ) → IsOther word directive_words → Unknown ≡ named word
none_agrees word o = rw (o.0, o.1.0, o.1.1.0, o.1.1.1.0, o.1.1.1.1.0, o.1.1.1.1.1.0, o.1.1.1.1.1.1.0, o.1.1.1.1.1.1.1.0, o.1.1.1.1.1.1.1.1.0, o.1.1.1.1.1.1.1.1.1.0, o.1.1.1.1.1.1.1.1.1.1.0, o.1.1.1.1.1.1.1.1.1.1.1.0, o.1.1.1.1.1.1.1.1.1.1.1.1.0, o.1.1.1.1.1.1.1.1.1.1.1.1.1.0, o.1.1.1.1.1.1.1.1.1.1.1.1.1.1.0, o.1.1.1.1.1.1.1.1.1.1.1.1.1.1.1.0, o.1.1.1.1.1.1.1.1.1.1.1.1.1.1.1.1.0) refl

of_number : (word : List ℕ) (n : Option ℕ) → n ≡ option_map value_of (find (has_word word) directive_words) → directive_numbered n ≡ named word
of_number word None e = none_agrees word (none_found directive_words word (sym e))
of_number word (Some n) e = found_agrees directive_words word n all_agree (sym e)

one_or : (a b : Bool) (x y : Directive) → a ≡ false → cond b x y ≡ cond (a || b) x y
one_or false b x y e = refl
one_or true b x y e = cc

pub directive_of-word : (t : Tok) (ts : List Tok) (n : Option ℕ) → is_of Number t ≡ false → n ≡ option_map value_of (find (has_word t.text) directive_words)
    → directive_numbered n ≡ directive_of Cxx23 (t ∷ ts)
directive_of-word t ts n other e = of_number t.text n e ∙ one_or (is_of Number t) (is_one_of ("warning" ∷ "ident" ∷ []) t.text) Nothing _ other

pub directive_of-number : (t : Tok) (ts : List Tok) → is_of Number t ≡ true → Nothing ≡ directive_of Cxx23 (t ∷ ts)
directive_of-number t ts number = rw number refl

-- ## The line

sharp_is : (t : Tok) → (spells "#" t.text || spells "%:" t.text) ≡ true → is_one_of ("#" ∷ "%:" ∷ []) t.text ≡ true
sharp_is t h = by (spells "#" t.text) (spells "%:" t.text) h where
  by : (a b : Bool) → (a || b) ≡ true → (a || (b || false)) ≡ true
  by true b h = refl
  by false true h = refl
  by false false h = cc

pub directive-word : (ts : List Tok) (t : Tok) → begins_with_sharp ts ≡ true → Some t ≡ slice_get ts 1 → directive_of Cxx23 (t ∷ []) ≡ directive_in Cxx23 ts
directive-word [] t h e = cc
directive-word (x ∷ []) t h e = cc
directive-word (x ∷ y ∷ ts) t h e = let word : t ≡ y = cc in rw (sharp_is x h) (ap (λ t. directive_of Cxx23 (t ∷ [])) word)
