-- The tables of the lines of a reduced text.
use Rattle.std.proofs.Common.{◌≡◌, ℕ, ◌<◌, List, [], ◌∷◌, refl, ap, sym, ◌∙◌, subst, map, length, get_or, slice_get, Some, None, arith}
use Rattle.std.specs.Option.{option_map, option_map_or}
use Rattle.std.specs.declared.alloc.Global.{Global}
use Rattle.std.specs.declared.vec.Vec.{Vec}
use Rattle.std.proofs.lemmas.List.{length-map}
use Rattle.std.proofs.lemmas.List.Elements.{All-get_or}
use Rattle.std.proofs.lemmas.Option.{slice_get_read, slice_get-map}
use Rattle.scan_model.specs.declared.command.Dialect.{Dialect}
use Rattle.scan_model.specs.declared.command.Dialect.TheVariants.{Cxx20, Cxx23}
use Rattle.scan_model.specs.declared.directive.Directive.{Directive}
use Rattle.scan_model.specs.declared.skip.Skip.{Skip}
use Rattle.scan_model.specs.declared.token.Line.{Line}
use Rattle.scan_model.specs.Skips.{directive_in, skip}
use Rattle.reducer.specs.declared.flat.TokRecord.{TokRecord}
use Rattle.reducer.specs.declared.flat.LineRecord.{LineRecord}
use Rattle.reducer.specs.DirectiveWords.{in_dialect}
use Rattle.reducer.specs.FlatLines.{line_of, lines_of, HasDirective, AreWithin, directives}
use Rattle.reducer.specs.ReducedLines.{toks_of}
use Rattle.reducer.specs.SkipTable.{skip_among, AreSkips}
use Rattle.reducer.specs.Indexed.{skips_in}
use Rattle.reducer.proofs.DirectiveLemmas.{directive-in_dialect}
use Rattle.reducer.proofs.FlatLemmas.{map_same}
use Rattle.reducer.proofs.SkipLemmas.{skip_is, entry_is}

map_twice : {X Y Z : Type 0} (f : Y → Z) (g : X → Y) (xs : List X) → map f (map g xs) ≡ map (λ x. f (g x)) xs
map_twice f g [] = refl
map_twice f g (x ∷ xs) = ap (λ ys. f (g x) ∷ ys) (map_twice f g xs)

-- ## A line's directive

has_directive : (spelled : List ℕ) (toks : List TokRecord) (dialect : Dialect) (l : LineRecord) → HasDirective spelled toks l → in_dialect dialect l.directive ≡ directive_in dialect (line_of spelled toks l).toks
has_directive spelled toks dialect l h = ap (in_dialect dialect) h ∙ sym (directive-in_dialect dialect (line_of spelled toks l).toks)

pub directive_at_line : (spelled : List ℕ) (toks : List TokRecord) (lines : List LineRecord) (k : ℕ) (l : LineRecord) (dialect : Dialect) → AreWithin spelled toks lines → k < length (lines_of spelled toks lines)
    → l ≡ get_or lines k l → in_dialect dialect l.directive ≡ directive_in dialect (toks_of (lines_of spelled toks lines) k)
directive_at_line spelled toks lines k l dialect w in_lines l_is =
    let within : k < length lines = omega (arith, in_lines, length-map lines (line_of spelled toks)) in
    let here : slice_get (lines_of spelled toks lines) k ≡ Some (line_of spelled toks l) =
    slice_get-map (line_of spelled toks) lines k ∙ ap (option_map (line_of spelled toks)) (slice_get_read lines (length lines) k l refl within l_is) in
    let named : HasDirective spelled toks l = subst (HasDirective spelled toks) (sym l_is) (All-get_or (HasDirective spelled toks) lines k l within w.named) in
    has_directive spelled toks dialect l named ∙ sym (ap (λ o. directive_in dialect (option_map_or (λ (line : Line). line.toks) o [])) here)

-- ## The skips

directives_are : (spelled : List ℕ) (toks : List TokRecord) (lines : List LineRecord) (dialect : Dialect) → AreWithin spelled toks lines
    → directives dialect lines ≡ map (λ (l : Line). directive_in dialect l.toks) (lines_of spelled toks lines)
directives_are spelled toks lines dialect w =
    map_same (λ (l : LineRecord). in_dialect dialect l.directive) (λ (l : LineRecord). directive_in dialect (line_of spelled toks l).toks) lines
    (λ k d h. has_directive spelled toks dialect (get_or lines k d) (w.named k d h))
    ∙ sym (map_twice (λ (l : Line). directive_in dialect l.toks) (line_of spelled toks) lines)

pub skip_at_line : (spelled : List ℕ) (toks : List TokRecord) (lines : List LineRecord) (skips : List Skip) (k : ℕ) (d : Skip) (dialect : Dialect) → AreWithin spelled toks lines
    → AreSkips (directives dialect lines) skips → k < length (lines_of spelled toks lines) → get_or skips k d ≡ skip (lines_of spelled toks lines) k dialect
skip_at_line spelled toks lines skips k d dialect w table in_lines =
    let ls = lines_of spelled toks lines in
    let within : k < length (directives dialect lines) = omega (arith, in_lines, length-map lines (line_of spelled toks), length-map lines (λ (l : LineRecord). in_dialect dialect l.directive)) in
    sym (entry_is (directives dialect lines) skips 0 k d (get_or skips k d) table (omega arith) within refl) ∙ ap (λ ds. skip_among ds k) (directives_are spelled toks lines dialect w) ∙ sym (skip_is dialect ls k)

-- ## Both dialects

pub same_table : (lines : List LineRecord) (newest : List Directive) (skips : List Skip) → newest ≡ directives Cxx23 lines → map (in_dialect Cxx20) newest ≡ newest → AreSkips newest skips
    → (dialect : Dialect) → AreSkips (directives dialect lines) (skips_in dialect skips None)
same_table lines newest skips e same table Cxx23 = subst (λ ds. AreSkips ds skips) e table
same_table lines newest skips e same table Cxx20 =
    let older : newest ≡ directives Cxx20 lines = sym same ∙ ap (map (in_dialect Cxx20)) e ∙ map_twice (in_dialect Cxx20) (λ (l : LineRecord). in_dialect Cxx23 l.directive) lines in
    subst (λ ds. AreSkips ds skips) older table

pub two_tables : (lines : List LineRecord) (newest older : List Directive) (skips : List Skip) (older_skips : Vec Skip Global) → newest ≡ directives Cxx23 lines → older ≡ directives Cxx20 lines
    → AreSkips newest skips → AreSkips older older_skips.items → (dialect : Dialect) → AreSkips (directives dialect lines) (skips_in dialect skips (Some older_skips))
two_tables lines newest older skips older_skips e f table older_table Cxx23 = subst (λ ds. AreSkips ds skips) e table
two_tables lines newest older skips older_skips e f table older_table Cxx20 = subst (λ ds. AreSkips ds older_skips.items) f older_table
