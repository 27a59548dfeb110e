-- What the `#define` lines of a reduced text define.
use Rattle.std.proofs.Common.{◌≡◌, ℕ, ◌+◌, ◌-◌, ◌<◌, ◌≤◌, List, [], ◌∷◌, refl, ap, sym, ◌∙◌, subst, inl, inr, ◌⊎◌, map, take, drop, min, length, get_or, slice_get, length-take, Option, Some, None, arith}
use Rattle.std.specs.Option.{option_map, option_map_or}
use Rattle.std.specs.declared.alloc.Global.{Global}
use Rattle.std.specs.declared.sync.Arc.{Arc}
use Rattle.std.proofs.lemmas.Bool.{cases_lt}
use Rattle.std.proofs.lemmas.List.{length-map, drop-map, drop-take, drop-drop, drop_all}
use Rattle.std.proofs.lemmas.List.Elements.{All-get_or}
use Rattle.std.proofs.lemmas.Option.{slice_get_within, slice_get_read, slice_get-map, slice_get-get_or}
use Rattle.scan_model.specs.declared.command.Dialect.{Dialect}
use Rattle.scan_model.specs.declared.command.Dialect.TheVariants.{Cxx20, Cxx23}
use Rattle.scan_model.specs.declared.directive.Directive.{Directive}
use Rattle.scan_model.specs.declared.directive.Directive.TheVariants.{Elifdef, Elifndef, Define, Nothing}
use Rattle.scan_model.specs.declared.macros.Def.{Def}
use Rattle.scan_model.specs.declared.token.Tok.{Tok}
use Rattle.scan_model.specs.declared.token.Line.{Line}
use Rattle.scan_model.specs.MacroDefinition.{read_define}
use Rattle.scan_model.specs.Skips.{directive_in}
use Rattle.macro_table.specs.Definition.{IsDefinition}
use Rattle.macro_table.proofs.Defines.{read_define-gives}
use Rattle.reducer.specs.declared.flat.TokRecord.{TokRecord}
use Rattle.reducer.specs.declared.flat.LineRecord.{LineRecord}
use Rattle.reducer.specs.DirectiveWords.{in_dialect}
use Rattle.reducer.specs.FlatLines.{tok_of, line_of, lines_of, HasDirective, AreWithin}
use Rattle.reducer.specs.ReducedLines.{toks_of}
use Rattle.reducer.specs.Definitions.{definition_of, shared, AreDefinitions}
use Rattle.reducer.proofs.DirectiveLemmas.{directive-in_dialect}

-- ## The tokens after `define`

pub after_two : (f : TokRecord → Tok) (toks : List TokRecord) (start count n : ℕ) → start + count ≤ length toks → n ≡ min count 2
    → map f (take (start + count - (start + n)) (drop (start + n) toks)) ≡ drop 2 (map f (take count (drop start toks)))
after_two f toks start count n within is =
    let left = drop start toks in
    let whole : n + (count - n) ≡ count = omega arith in
    let len : start + count - (start + n) ≡ count - n = omega arith in
    let cut : drop n (take count left) ≡ take (count - n) (drop (start + n) toks) =
    ap (λ c. drop n (take c left)) (sym whole) ∙ drop-take n (count - n) left ∙ ap (take (count - n)) (drop-drop n start toks) in
    ap (λ c. map f (take c (drop (start + n) toks))) len ∙ ap (map f) (sym cut ∙ by (cases_lt count 2)) ∙ sym (drop-map f 2 (take count left)) where
      by : ((count < 2) ⊎ (2 ≤ count)) → drop n (take count (drop start toks)) ≡ drop 2 (take count (drop start toks))
      by (inl few) =
          let short = length-take count (drop start toks) in
          drop_all n (take count (drop start toks)) (omega (arith, short)) ∙ sym (drop_all 2 (take count (drop start toks)) (omega (arith, short)))
      by (inr some) = let two : n ≡ 2 = omega arith in ap (λ m. drop m (take count (drop start toks))) two

-- ## One line

define_only : (dialect : Dialect) (d : Directive) → in_dialect dialect d ≡ Define → d ≡ Define
define_only Cxx23 d e = e
define_only Cxx20 Elifdef e = cc
define_only Cxx20 Elifndef e = cc
define_only Cxx20 _ e = e

no_line : LineRecord
no_line = record { line = 0; next = 0; start = 0; count = 0; directive = Nothing }

entry_is : (spelled : List ℕ) (toks : List TokRecord) (lines : List LineRecord) (defs : List (Option (Arc Def Global))) (k : ℕ) (d : Option (Arc Def Global)) → AreDefinitions spelled toks lines defs
    → k < length lines → d ≡ get_or defs k d → (l : LineRecord) → slice_get lines k ≡ Some l → shared d ≡ definition_of l.directive (line_of spelled toks l).toks
entry_is spelled toks lines defs k d are within d_is l at =
    let of_line : LineRecord → Option Def = λ l. definition_of l.directive (line_of spelled toks l).toks in
    let few : length defs ≡ length lines = sym (length-map defs shared) ∙ ap length are ∙ length-map lines of_line in
    let in_defs : k < length defs = omega (arith, few) in
    let left : slice_get (map shared defs) k ≡ Some (shared d) = slice_get-map shared defs k ∙ ap (option_map shared) (slice_get_read defs (length defs) k d refl in_defs d_is) in
    let right : slice_get (map of_line lines) k ≡ Some (of_line l) = slice_get-map of_line lines k ∙ ap (option_map of_line) at in
    let both : Some (shared d) ≡ Some (of_line l) = sym left ∙ ap (λ xs. slice_get xs k) are ∙ right in cc

-- the entry of a `#define` line is what its tokens define
entry_defines : (spelled : List ℕ) (toks : List TokRecord) (lines : List LineRecord) (defs : List (Option (Arc Def Global))) (k : ℕ) (d : Option (Arc Def Global)) (dialect : Dialect) → AreWithin spelled toks lines
    → AreDefinitions spelled toks lines defs → k < length (lines_of spelled toks lines) → directive_in dialect (toks_of (lines_of spelled toks lines) k) ≡ Define → d ≡ get_or defs k d
    → shared d ≡ option_map (λ p. p.1) (read_define (drop 2 (toks_of (lines_of spelled toks lines) k)))
entry_defines spelled toks lines defs k d dialect w are in_lines define d_is =
    let within : k < length lines = omega (arith, in_lines, length-map lines (line_of spelled toks)) in
    let l = get_or lines k no_line in
    let at : slice_get lines k ≡ Some l = slice_get-get_or lines k no_line within in
    let toks_are : toks_of (lines_of spelled toks lines) k ≡ (line_of spelled toks l).toks =
    ap (λ o. option_map_or (λ (line : Line). line.toks) o []) (slice_get-map (line_of spelled toks) lines k ∙ ap (option_map (line_of spelled toks)) at) in
    let named : HasDirective spelled toks l = All-get_or (HasDirective spelled toks) lines k no_line within w.named in
    let is : l.directive ≡ Define = named ∙ define_only dialect (directive_in Cxx23 (line_of spelled toks l).toks)
    (sym (directive-in_dialect dialect (line_of spelled toks l).toks) ∙ ap (directive_in dialect) (sym toks_are) ∙ define) in
    entry_is spelled toks lines defs k d are within d_is l at ∙ ap (λ x. definition_of x (line_of spelled toks l).toks) is
    ∙ ap (λ ts. option_map (λ p. p.1) (read_define (drop 2 ts))) (sym toks_are)

-- ## What the entry shows

third : (ts : List Tok) → slice_get (drop 2 ts) 0 ≡ slice_get ts 2
third [] = refl
third (t ∷ []) = refl
third (t ∷ u ∷ ts) = refl

found : (o : Option (List ℕ × Def)) (x : Def) → Some x ≡ option_map (λ p. p.1) o → (name : List ℕ) × (o ≡ Some (name, x))
found None x e = cc
found (Some p) x e = let is : p.1 ≡ x = cc in (p.0, ap (λ x. Some (p.0, x)) is)

pub none_found : (o : Option (List ℕ × Def)) → None ≡ option_map (λ (p : List ℕ × Def). p.1) o → None ≡ o
none_found None e = refl
none_found (Some p) e = cc

-- the line's third token is the name
pub record Defines (toks : List Tok) (def : Def) : Type 0 where
  pub name : List ℕ
  pub read : read_define (drop 2 toks) ≡ Some (name, def)
  pub sound : IsDefinition name def
  pub third_is : option_map (λ (t : Tok). t.text) (slice_get toks 2) ≡ Some name

defines : (toks : List Tok) (def : Def) → Some def ≡ option_map (λ p. p.1) (read_define (drop 2 toks)) → Defines toks def
defines toks def e =
    let read = found (read_define (drop 2 toks)) def e in
    let gives = read_define-gives (drop 2 toks) read.0 def read.1 in
    record { name = read.0; read = read.1; sound = gives.0; third_is = ap (option_map (λ (t : Tok). t.text)) (sym (third toks)) ∙ gives.1 }

-- a `#define` line by the view of the lists
abbrev pub IsDefine : List Line → ℕ → Type 0
IsDefine ls k = (dialect : Dialect) × (directive_in dialect (toks_of ls k) ≡ Define)

pub some_defined : (spelled : List ℕ) (toks : List TokRecord) (lines : List LineRecord) (ls : List Line) (defs : List (Option (Arc Def Global))) (k : ℕ) (d : Option (Arc Def Global)) (def : Arc Def Global)
    → lines_of spelled toks lines ≡ ls → AreWithin spelled toks lines → AreDefinitions spelled toks lines defs → k < length ls → IsDefine ls k → d ≡ get_or defs k d → d ≡ Some def → Defines (toks_of ls k) def.value
some_defined spelled toks lines ls defs k d def view w are within define d_is some =
    let here = entry_defines spelled toks lines defs k d define.0 w are (subst (λ ls. k < length ls) (sym view) within) (ap (λ ls. directive_in define.0 (toks_of ls k)) view ∙ define.1) d_is in
    defines (toks_of ls k) def.value (sym (ap shared some) ∙ here ∙ ap (λ ls. option_map (λ p. p.1) (read_define (drop 2 (toks_of ls k)))) view)

pub none_defined : (spelled : List ℕ) (toks : List TokRecord) (lines : List LineRecord) (ls : List Line) (defs : List (Option (Arc Def Global))) (k : ℕ) (d : Option (Arc Def Global))
    → lines_of spelled toks lines ≡ ls → AreWithin spelled toks lines → AreDefinitions spelled toks lines defs → k < length ls → IsDefine ls k → d ≡ get_or defs k d → d ≡ None
    → None ≡ read_define (drop 2 (toks_of ls k))
none_defined spelled toks lines ls defs k d view w are within define d_is none =
    let here = entry_defines spelled toks lines defs k d define.0 w are (subst (λ ls. k < length ls) (sym view) within) (ap (λ ls. directive_in define.0 (toks_of ls k)) view ∙ define.1) d_is in
    none_found (read_define (drop 2 (toks_of ls k))) (sym (ap shared none) ∙ here ∙ ap (λ ls. option_map (λ p. p.1) (read_define (drop 2 (toks_of ls k)))) view)

pub definitions_cover : (spelled : List ℕ) (toks : List TokRecord) (lines : List LineRecord) (ls : List Line) (defs : List (Option (Arc Def Global))) → lines_of spelled toks lines ≡ ls
    → AreDefinitions spelled toks lines defs → length defs ≡ length ls
definitions_cover spelled toks lines ls defs view are =
    sym (length-map defs shared) ∙ ap length are ∙ length-map lines (λ (l : LineRecord). definition_of l.directive (line_of spelled toks l).toks) ∙ sym (length-map lines (line_of spelled toks)) ∙ ap length view

pub has_third : (ts : List Tok) (def : Def) → Defines ts def → 2 < length ts
has_third ts def d = some_third (slice_get ts 2) refl d.third_is where
  some_third : (o : Option Tok) → slice_get ts 2 ≡ o → option_map (λ (t : Tok). t.text) o ≡ Some d.name → 2 < length ts
  some_third None e h = cc
  some_third (Some t) e h = slice_get_within ts 2 t e

-- the token that is shown is the name
pub shown_name : (ts : List Tok) (def : Def) (shown : Tok) (d : Defines ts def) → slice_get ts 2 ≡ Some shown → shown.text ≡ d.name
shown_name ts def shown d at = let both : Some shown.text ≡ Some d.name = ap (option_map (λ (t : Tok). t.text)) (sym at) ∙ d.third_is in cc

-- the record of the name lies in the lists
pub third_within : (spelled : List ℕ) (toks : List TokRecord) (lines : List LineRecord) (ls : List Line) (k : ℕ) (l : LineRecord) (def : Def) → lines_of spelled toks lines ≡ ls → AreWithin spelled toks lines
    → k < length ls → l ≡ get_or lines k l → Defines (toks_of ls k) def → l.start + 2 < length toks
third_within spelled toks lines ls k l def view w in_lines l_is d =
    let within : k < length lines = omega (arith, in_lines, ap length view, length-map lines (line_of spelled toks)) in
    let at : slice_get ls k ≡ Some (line_of spelled toks l) =
    ap (λ ls. slice_get ls k) (sym view) ∙ slice_get-map (line_of spelled toks) lines k ∙ ap (option_map (line_of spelled toks)) (slice_get_read lines (length lines) k l refl within l_is) in
    let toks_are : toks_of ls k ≡ (line_of spelled toks l).toks = ap (λ o. option_map_or (λ (line : Line). line.toks) o []) at in
    let third = has_third (toks_of ls k) def d in
    let held : l.start + l.count ≤ length toks = subst (λ l. l.start + l.count ≤ length toks) (sym l_is) (w.held k l within) in
    let records = take l.count (drop l.start toks) in
    omega (arith, third, ap length toks_are, length-map records (tok_of spelled l.line), length-take l.count (drop l.start toks), held)
