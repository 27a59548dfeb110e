-- A line that is known to be no directive stays one, and no header name is tried on it.
use Rattle.std.proofs.Common.{◌≡◌, Bool, true, false, not, ◌&&◌, ◌||◌, List, [], ◌∷◌, ◌++◌, refl}
use Rattle.std.proofs.lemmas.Bool.{and_parts}
use Rattle.scan_model.specs.declared.token.Tok.{Tok}
use Rattle.scan_model.specs.Spelling.{spells, is_one_of}
use Rattle.scan_model.specs.Tokens.{wants_header}
use Rattle.scan_model.specs.declared.token.Kind.TheVariants.{Ident, Str, Header}
use Rattle.scan_model.specs.Lines.{begins_directive, is_kind, is_module_line}
use Rattle.reducer.specs.Directives.{may_begin, is_text}

-- what the words of a first token are not
record IsPlainWord (t : Tok) : Type 0 where
  sharp : spells "#" t.text ≡ false
  digraph : spells "%:" t.text ≡ false
  import_ : spells "import" t.text ≡ false
  module_ : spells "module" t.text ≡ false
  export_ : spells "export" t.text ≡ false

words_of_one : (s d i m e : Bool) → (not (((s || (d || false)) || (false || false)) || (e && (false || false))) && not (i || (m || (e || false)))) ≡ true
    → (s ≡ false) × (d ≡ false) × (i ≡ false) × (m ≡ false) × (e ≡ false)
words_of_one false false false false false h = (refl, refl, refl, refl, refl)
words_of_one true d i m e h = cc
words_of_one false true i m e h = cc
words_of_one false false true m true h = cc
words_of_one false false true m false h = cc
words_of_one false false false true true h = cc
words_of_one false false false true false h = cc
words_of_one false false false false true h = cc

plain_word : (t : Tok) → is_text (t ∷ []) ≡ true → IsPlainWord t
plain_word t h =
    let w = words_of_one (spells "#" t.text) (spells "%:" t.text) (spells "import" t.text) (spells "module" t.text) (spells "export" t.text) h in
    record { sharp = w.0; digraph = w.1; import_ = w.2; module_ = w.3; export_ = w.4 }

-- of two tokens: `s` and `d` tell whether the first is `#` or `%:`, `b` whether both begin a module line
words_of_two : (s d b e i m x y : Bool) → (not (((s || (d || false)) || b) || (e && (false || false))) && not (e && (i || (m || false)))) ≡ true
    → (s ≡ false) × (d ≡ false) × (b ≡ false) × ((e && i) ≡ false) × ((e && ((i && x) || (m && y))) ≡ false)
words_of_two true d b e i m x y h = cc
words_of_two false true b e i m x y h = cc
words_of_two false false true e i m x y h = cc
words_of_two false false false false i m x y h = (refl, refl, refl, refl, refl)
words_of_two false false false true false false x y h = (refl, refl, refl, refl, refl)
words_of_two false false false true true m x y h = cc
words_of_two false false false true false true x y h = cc

-- of `v`, the third token: what a module line needs of its second
abbrev after_import : Tok → Bool
after_import v = is_kind v.kind Header || is_kind v.kind Ident || is_kind v.kind Str || is_one_of ("<" ∷ ":" ∷ []) v.text

abbrev after_module : Tok → Bool
after_module v = is_kind v.kind Ident || is_one_of (":" ∷ ";" ∷ []) v.text

text_of_three : (s d b f : Bool) → s ≡ false → d ≡ false → b ≡ false → f ≡ false → (not (((s || (d || false)) || b) || f) && not false) ≡ true
text_of_three s d b f p q r h = rw (p, q, r, h) refl

no_sharp : (s d b e : Bool) → (((s || (d || false)) || b) || e) ≡ false → (s ≡ false) × (d ≡ false)
no_sharp true d b e h = cc
no_sharp false true b e h = cc
no_sharp false false b e h = (refl, refl)

pub not_true : (b : Bool) → not b ≡ true → b ≡ false
not_true true h = cc
not_true false h = refl

two_words : (t u v : Tok) → is_text (t ∷ u ∷ []) ≡ true
    → (spells "#" t.text ≡ false) × (spells "%:" t.text ≡ false) × (is_module_line (t ∷ u ∷ []) ≡ false) × ((spells "export" t.text && spells "import" u.text) ≡ false)
    × ((spells "export" t.text && is_module_line (u ∷ v ∷ [])) ≡ false)
two_words t u v h =
    words_of_two (spells "#" t.text) (spells "%:" t.text) (is_module_line (t ∷ u ∷ [])) (spells "export" t.text) (spells "import" u.text) (spells "module" u.text)
    (after_import v) (after_module v) h

no_words : (a e i : Bool) → (e && i) ≡ false → (((a && false) || (e && (i && true))) || false) ≡ false
no_words true true true h = cc
no_words true true false h = refl
no_words true false i h = refl
no_words false true true h = cc
no_words false true false h = refl
no_words false false i h = refl

longer_words : (a e i : Bool) → (((a && false) || (e && (i && false))) || false) ≡ false
longer_words true true true = refl
longer_words true true false = refl
longer_words true false i = refl
longer_words false true true = refl
longer_words false true false = refl
longer_words false false i = refl

-- a line with these tokens is no directive
pub begins_directive-text : (ts : List Tok) → is_text ts ≡ true → begins_directive ts ≡ false
begins_directive-text ts h = not_true (begins_directive ts) (and_parts (not (begins_directive ts)) (not (may_begin ts)) h).0

-- nor with further ones
pub is_text-append : (ts more : List Tok) → is_text ts ≡ true → is_text (ts ++ more) ≡ true
is_text-append [] more h = cc
is_text-append (t ∷ []) [] h = h
is_text-append (t ∷ []) (u ∷ []) h = let w = plain_word t h in rw (w.sharp, w.digraph, w.import_, w.module_, w.export_) refl
is_text-append (t ∷ []) (u ∷ v ∷ more) h = let w = plain_word t h in rw (w.sharp, w.digraph, w.import_, w.module_, w.export_) refl
is_text-append (t ∷ u ∷ []) [] h = h
is_text-append (t ∷ u ∷ []) (v ∷ more) h =
    let w = two_words t u v h in
    text_of_three (spells "#" t.text) (spells "%:" t.text) (is_module_line (t ∷ u ∷ [])) (spells "export" t.text && is_module_line (u ∷ v ∷ [])) w.0 w.1 w.2 w.4
is_text-append (t ∷ u ∷ v ∷ ts) more h = h

-- and no header name is tried on it
pub wants_header-text : (ts : List Tok) → is_text ts ≡ true → wants_header ts ≡ false
unfolding wants_header
wants_header-text [] h = cc
wants_header-text (t ∷ []) h = let w = plain_word t h in rw (w.sharp, w.digraph, w.import_, w.export_) refl
wants_header-text (t ∷ u ∷ []) h = let w = two_words t u t h in rw (w.0, w.1) (no_words (spells "import" t.text) (spells "export" t.text) (spells "import" u.text) w.3)
wants_header-text (t ∷ u ∷ v ∷ ts) h = let w = no_sharp (spells "#" t.text) (spells "%:" t.text) (is_module_line (t ∷ u ∷ [])) (spells "export" t.text && is_module_line (u ∷ v ∷ [])) (begins_directive-text (t ∷ u ∷ v ∷ ts) h) in rw (w.0, w.1) (longer_words (spells "import" t.text) (spells "export" t.text) (spells "import" u.text))
