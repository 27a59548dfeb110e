-- The line of a setting is a `#define` or an `#undef`.
use Rattle.std.proofs.Common.{◌≡◌, ℕ, zero, suc, ◌<◌, ◌+◌, ◌-◌, Bool, true, false, ◌&&◌, ◌||◌, ◌==◌, if◌then◌else◌, List, [], ◌∷◌, ◌++◌, take, drop, length, refl, ap, sym, ◌∙◌, subst, inl, inr, ◌⊎◌, arith, codes, append_assoc, append-nil, length-append}
use Rattle.std.specs.Prelude.{Option, Some, None}
use Rattle.std.specs.Option.{option_map_or}
use Rattle.std.specs.List.{filter}
use Rattle.std.specs.Str.{is_utf8, chars, IsUtf8}
use Rattle.std.proofs.lemmas.Bool.{lt-ltb, and_right}
use Rattle.std.proofs.Math.Seq.{take-append_seam, take-append-add}
use Rattle.std.proofs.lemmas.Str.{chars-append}
use Rattle.scan_model.specs.declared.token.Kind.TheVariants.{Ident, Punct}
use Rattle.scan_model.specs.declared.token.Tok.{Tok}
use Rattle.scan_model.specs.declared.token.Line.{Line}
use Rattle.scan_model.specs.Spliced.{Spot, shown, spliced, line_at}
use Rattle.scan_model.specs.Spelling.{are_name, are_number, is_name, is_number, is_char, is_quoted, is_punct, opens_raw, longest, is_one_of, spells}
use Rattle.scan_model.specs.Tokens.{Lexeme, bytes, cut, kind_of, is_token, wants_header, is_open, is_lone_less, lexeme, next_blank, after_blanks, next_token, rest_of_line}
use Rattle.scan_model.specs.Lines.{tok, closed, lines_up_to, lines_from, lines, kept, is_directive, begins_directive, is_module_line}
use Rattle.scan_model.specs.declared.command.Dialect.{Dialect}
use Rattle.scan_model.specs.declared.command.Setting.{Setting}
use Rattle.scan_model.specs.declared.command.Setting.TheVariants as SettingIs
use Rattle.scan_model.specs.declared.directive.Directive.{Directive}
use Rattle.scan_model.specs.declared.directive.Directive.TheVariants.{Define, Undef}
use Rattle.scan_model.specs.Files.{FileMap}
use Rattle.scan_model.specs.State.{Setup, Core}
use Rattle.scan_model.specs.Effect.{Effect, Now, stop}
use Rattle.scan_model.specs.declared.macros.Def.{Def}
use Rattle.scan_model.specs.declared.unit_end.FaultKind.TheVariants as FaultIs
use Rattle.scan_model.specs.TokenTests.{is_of}
use Rattle.scan_model.specs.Macros.{Macros, undef}
use Rattle.scan_model.specs.MacroDefinition.{read_define}
use Rattle.scan_model.specs.Conditionals.{is_skipped}
use Rattle.scan_model.specs.Directives.{directive_of, hash_line, defined, undef_line}
use Rattle.scan_model.specs.KeywordLines.{module_line}
use Rattle.scan_model.specs.DirectiveLines.{effect, effect_of}
use Rattle.scan_model.specs.WholeUnit.{setting_text}
use Rattle.unit_steps.specs.Settings.{BeginsWithDirective, numbered_line, directive_of_setting, setting_effect}
use Rattle.scan_model.proofs.LongestLemmas.{longest_is}
use Rattle.scan_model.proofs.BlankLemmas.{after_blanks-none}
use Rattle.scan_model.proofs.LineLemmas.{lines_from-token}
use Rattle.scan_model.proofs.Computing.{reading}

-- ## The first line of a text

-- a line with these tokens in front
abbrev BeginsWith : List Tok → List Line → Type 0
BeginsWith before ls = (l : Line) × ((rest : List Line) × ((ls ≡ l ∷ rest) × ((more : List Tok) × (l.toks ≡ before ++ more))))

-- tokens that stand before are in front of the next line
module _ (text : List ℕ) where
  line_begins : (n : ℕ) (t : Tok) (ts : List Tok) (spots : List Spot) → BeginsWith (t ∷ ts) (lines_up_to n text (t ∷ ts) spots)
  line_begins zero t ts spots = (_, (_, (refl, ([], sym (append-nil (t ∷ ts))))))
  line_begins (suc n) t ts spots = by_token (λ l. line_begins n t (ts ++ tok text (t ∷ ts) spots l ∷ []) l.left) (next_token text (t ∷ ts) spots) where
    by_token : ((l : Lexeme) → BeginsWith (t ∷ (ts ++ tok text (t ∷ ts) spots l ∷ [])) (lines_up_to n text (t ∷ (ts ++ tok text (t ∷ ts) spots l ∷ [])) l.left)) → (o : Option Lexeme) →
        BeginsWith (t ∷ ts) (option_map_or (λ l. lines_up_to n text ((t ∷ ts) ++ tok text (t ∷ ts) spots l ∷ []) l.left) o
        (closed (t ∷ ts) (line_at text (after_blanks spots)) ++ lines_up_to n text [] (drop 1 (after_blanks spots))))
    by_token further None = (_, (_, (refl, ([], sym (append-nil (t ∷ ts))))))
    by_token further (Some l) =
        let next = tok text (t ∷ ts) spots l in
        let h = further l in
        (h.0, (h.1.0, (h.1.1.0, (next ∷ h.1.1.1.0, h.1.1.1.1 ∙ append_assoc (t ∷ ts) (next ∷ []) h.1.1.1.0))))

  from_begins : (t : Tok) (ts : List Tok) (spots : List Spot) → BeginsWith (t ∷ ts) (lines_from text (t ∷ ts) spots)
  unfolding lines_from
  from_begins t ts spots = line_begins (length spots) t ts spots

-- ## A token

lexeme_is : (text : List ℕ) (before : List Tok) (spots : List Spot) (s : List ℕ) (k : ℕ) → rest_of_line (bytes spots) ≡ s → wants_header before ≡ false →
    opens_raw s ≡ false → is_open s ≡ false → is_lone_less s ≡ false → longest is_token s ≡ suc k → lexeme text before spots ≡ cut (kind_of (take (suc k) s)) (suc k) spots
unfolding lexeme
lexeme_is text before spots s k is wants raw unclosed less token = rw is (rw wants (rw raw (rw unclosed (rw less (rw token (rw (lt-ltb 0 (suc k) (omega arith)) refl))))))

-- a word that is a token stands here, and none goes on with the byte after it
module _ (word : List ℕ) (after : ℕ) (u : List ℕ) (k : ℕ) (long : length word ≡ suc k) (here : is_token word ≡ true) (none : (v : List ℕ) → is_token (word ++ after ∷ v) ≡ false) where
  none_more : (n : ℕ) → 0 < n → is_token (word ++ take n (after ∷ u)) ≡ false
  none_more zero h = absurd (omega arith)
  none_more (suc n) h = none (take n u)

  front_longest : longest is_token (word ++ after ∷ u) ≡ suc k
  front_longest =
      longest_is is_token (word ++ after ∷ u) (suc k) (let all = length-append word (after ∷ u) in omega (arith, all, long))
      (λ z. ap (λ n. is_token (take n (word ++ after ∷ u))) (sym long) ∙ ap is_token (take-append_seam word (after ∷ u)) ∙ here)
      (λ m lt le. let far : m ≡ length word + (m - length word) = omega (arith, lt, long) in
      ap (λ n. is_token (take n (word ++ after ∷ u))) far ∙ ap is_token (take-append-add word (after ∷ u) (m - length word)) ∙ none_more (m - length word) (omega (arith, lt, long)))

  front_token : (text : List ℕ) (before : List Tok) (spot : Spot) (spots : List Spot) → rest_of_line (bytes (spot ∷ spots)) ≡ word ++ after ∷ u → next_blank (spot ∷ spots) ≡ None →
      (spot.byte == 10) ≡ false → wants_header before ≡ false → opens_raw (word ++ after ∷ u) ≡ false → is_open (word ++ after ∷ u) ≡ false →
      is_lone_less (word ++ after ∷ u) ≡ false → next_token text before (spot ∷ spots) ≡ Some (cut (kind_of word) (suc k) (spot ∷ spots))
  unfolding next_token
  front_token text before spot spots is blank newline wants raw unclosed less =
      rw (after_blanks-none (spot ∷ spots) blank) (rw newline (ap Some (lexeme_is text before (spot ∷ spots) (word ++ after ∷ u) k is wants raw unclosed less front_longest
      ∙ ap (λ z. cut (kind_of z) (suc k) (spot ∷ spots)) (ap (λ n. take n (word ++ after ∷ u)) (sym long) ∙ take-append_seam word (after ∷ u)))))

-- ## What is no token

no_token : (s : List ℕ) → is_name s ≡ false → is_number s ≡ false → is_char s ≡ false → is_quoted 34 s ≡ false → is_punct s ≡ false → is_token s ≡ false
no_token s name number char quoted punct = rw name (rw number (rw char (rw quoted (rw punct refl))))

name_front : (front u : List ℕ) → IsUtf8 front → are_name (chars front ++ chars u) ≡ false → is_name (front ++ u) ≡ false
unfolding is_name
name_front front u text h = and_right (is_utf8 (front ++ u)) (are_name (chars (front ++ u))) (ap are_name (chars-append front u text) ∙ h)

number_front : (front u : List ℕ) → IsUtf8 front → are_number (chars front ++ chars u) ≡ false → is_number (front ++ u) ≡ false
unfolding is_number
number_front front u text h = and_right (is_utf8 (front ++ u)) (are_number (chars (front ++ u))) (ap are_number (chars-append front u text) ∙ h)

hash_define : (u : List ℕ) → is_token (codes "#d" ++ u) ≡ false
unfolding reading
hash_define u = no_token (codes "#d" ++ u) (name_front (codes "#d") u (codes "#d", (refl, refl)) refl) (number_front (codes "#d") u (codes "#d", (refl, refl)) refl) refl refl refl

hash_undef : (u : List ℕ) → is_token (codes "#u" ++ u) ≡ false
unfolding reading
hash_undef u = no_token (codes "#u" ++ u) (name_front (codes "#u") u (codes "#u", (refl, refl)) refl) (number_front (codes "#u") u (codes "#u", (refl, refl)) refl) refl refl refl

word_define : (u : List ℕ) → is_token (codes "define " ++ u) ≡ false
unfolding reading
word_define u = no_token (codes "define " ++ u) (name_front (codes "define ") u (codes "define ", (refl, refl)) refl) (number_front (codes "define ") u (codes "define ", (refl, refl)) refl) refl refl refl

word_undef : (u : List ℕ) → is_token (codes "undef " ++ u) ≡ false
unfolding reading
word_undef u = no_token (codes "undef " ++ u) (name_front (codes "undef ") u (codes "undef ", (refl, refl)) refl) (number_front (codes "undef ") u (codes "undef ", (refl, refl)) refl) refl refl refl

hash_token : is_token (codes "#") ≡ true
unfolding reading
hash_token = refl

define_token : is_token (codes "define") ≡ true
unfolding reading
define_token = refl

undef_token : is_token (codes "undef") ≡ true
unfolding reading
undef_token = refl

-- ## The first two tokens of a setting

-- what shows of the text behind the setting's word
abbrev tail : ℕ → List ℕ → List Spot
tail place rest = shown 32 32 place 1 rest

abbrev at : ℕ → ℕ → Spot
at byte place = record { byte = byte; place = place; line = 1 }

define_spots : List ℕ → List Spot
define_spots rest = at 35 0 ∷ at 100 1 ∷ at 101 2 ∷ at 102 3 ∷ at 105 4 ∷ at 110 5 ∷ at 101 6 ∷ at 32 7 ∷ tail 8 rest

define_spliced : (rest : List ℕ) → spliced (codes "#define " ++ rest) ≡ define_spots rest
unfolding reading define_spots
define_spliced rest = refl

undef_spots : List ℕ → List Spot
undef_spots rest = at 35 0 ∷ at 117 1 ∷ at 110 2 ∷ at 100 3 ∷ at 101 4 ∷ at 102 5 ∷ at 32 6 ∷ tail 7 rest

undef_spliced : (rest : List ℕ) → spliced (codes "#undef " ++ rest) ≡ undef_spots rest
unfolding reading undef_spots
undef_spliced rest = refl

-- what shows of that up to its newline
abbrev shows : ℕ → List ℕ → List ℕ
shows place rest = rest_of_line (bytes (tail place rest))

hash_lexeme : List Spot → Lexeme
hash_lexeme left = record { kind = Punct; text = 35 ∷ []; left = left }

define_hash : (text rest : List ℕ) → next_token text [] (define_spots rest) ≡ Some (hash_lexeme (drop 1 (define_spots rest)))
unfolding reading define_spots hash_lexeme
define_hash text rest =
    front_token (codes "#") 100 (codes "efine " ++ shows 8 rest) 0 refl hash_token hash_define text [] (at 35 0) (drop 1 (define_spots rest)) refl refl refl refl refl refl refl

undef_hash : (text rest : List ℕ) → next_token text [] (undef_spots rest) ≡ Some (hash_lexeme (drop 1 (undef_spots rest)))
unfolding reading undef_spots hash_lexeme
undef_hash text rest =
    front_token (codes "#") 117 (codes "ndef " ++ shows 7 rest) 0 refl hash_token hash_undef text [] (at 35 0) (drop 1 (undef_spots rest)) refl refl refl refl refl refl refl

hash_tok : List ℕ → List Spot → Tok
hash_tok text spots = tok text [] spots (hash_lexeme (drop 1 spots))

word_lexeme : List ℕ → List Spot → Lexeme
word_lexeme word left = record { kind = Ident; text = word; left = left }

define_word : (text rest : List ℕ) →
    next_token text (hash_tok text (define_spots rest) ∷ []) (drop 1 (define_spots rest)) ≡ Some (word_lexeme (codes "define") (drop 7 (define_spots rest)))
unfolding reading define_spots hash_lexeme hash_tok word_lexeme
define_word text rest =
    front_token (codes "define") 32 (shows 8 rest) 5 refl define_token word_define text (hash_tok text (define_spots rest) ∷ []) (at 100 1) (drop 2 (define_spots rest)) refl refl refl refl refl refl refl

undef_word : (text rest : List ℕ) →
    next_token text (hash_tok text (undef_spots rest) ∷ []) (drop 1 (undef_spots rest)) ≡ Some (word_lexeme (codes "undef") (drop 6 (undef_spots rest)))
unfolding reading undef_spots hash_lexeme hash_tok word_lexeme
undef_word text rest =
    front_token (codes "undef") 32 (shows 7 rest) 4 refl undef_token word_undef text (hash_tok text (undef_spots rest) ∷ []) (at 117 1) (drop 2 (undef_spots rest)) refl refl refl refl refl refl refl

-- ## The line

-- two tokens and what follows
two_tokens : (text : List ℕ) (spots : List Spot) (l w : Lexeme) → spliced text ≡ spots → next_token text [] spots ≡ Some l →
    next_token text (tok text [] spots l ∷ []) l.left ≡ Some w →
    BeginsWith (tok text [] spots l ∷ tok text (tok text [] spots l ∷ []) l.left w ∷ []) (lines text)
unfolding lines
two_tokens text spots l w shown_so first second =
    let hash = tok text [] spots l in
    let word = tok text (hash ∷ []) l.left w in
    let same = ap (lines_from text []) shown_so ∙ lines_from-token text [] spots l first ∙ lines_from-token text (hash ∷ []) l.left w second in
    subst (BeginsWith (hash ∷ word ∷ [])) (sym same) (from_begins text hash (word ∷ []) w.left)

-- the first line of the text is such a line
abbrev FirstLine : Directive → List ℕ → Type 0
FirstLine kind text = (l : Line) × ((ls : List Line) × ((lines text ≡ l ∷ ls) × BeginsWithDirective kind l))

begun : (kind : Directive) (text : List ℕ) (hash word : Tok) → BeginsWith (hash ∷ word ∷ []) (lines text) → is_one_of ("#" ∷ "%:" ∷ []) hash.text ≡ true →
    ((dialect : Dialect) (more : List Tok) → directive_of dialect (word ∷ more) ≡ kind) → FirstLine kind text
begun kind text hash word h is_hash directive =
    let begins : BeginsWithDirective kind h.0 = record {
      hash = hash;
      word = word;
      more = h.1.1.1.0;
      toks = h.1.1.1.1;
      is_hash = is_hash;
      directive = λ dialect. directive dialect h.1.1.1.0;
    } in (h.0, (h.1.0, (h.1.1.0, begins)))

-- of its spots, its first two tokens and what is left behind them
spelled : (kind : Directive) (text : List ℕ) (spots left : List Spot) (word : List ℕ) → spliced text ≡ spots → next_token text [] spots ≡ Some (hash_lexeme (drop 1 spots)) →
    next_token text (hash_tok text spots ∷ []) (drop 1 spots) ≡ Some (word_lexeme word left) →
    ((dialect : Dialect) (t : Tok) (more : List Tok) → t.kind ≡ Ident → t.text ≡ word → directive_of dialect (t ∷ more) ≡ kind) → FirstLine kind text
unfolding tok hash_lexeme hash_tok word_lexeme
spelled kind text spots left word shown_so first second directive =
    let l = hash_lexeme (drop 1 spots) in
    let w = word_lexeme word left in
    let hash = tok text [] spots l in
    let t = tok text (hash ∷ []) l.left w in
    begun kind text hash t (two_tokens text spots l w shown_so first second) refl (λ dialect more. directive dialect t more refl refl)

define_is : (dialect : Dialect) (t : Tok) (more : List Tok) → t.kind ≡ Ident → t.text ≡ codes "define" → directive_of dialect (t ∷ more) ≡ Define
define_is dialect t more kind word = rw kind (rw word refl)

undef_is : (dialect : Dialect) (t : Tok) (more : List Tok) → t.kind ≡ Ident → t.text ≡ codes "undef" → directive_of dialect (t ∷ more) ≡ Undef
undef_is dialect t more kind word = rw kind (rw word refl)

-- a setting's text has a line, and the first one is the setting's directive
pub setting_first : (setting : Setting) → FirstLine (directive_of_setting setting) (setting_text setting)
setting_first (SettingIs.Define text) =
    let all = codes "#define " ++ text in
    spelled Define all (define_spots text) (drop 7 (define_spots text)) (codes "define") (define_spliced text) (define_hash all text) (define_word all text) define_is
setting_first (SettingIs.Undef text) =
    let all = codes "#undef " ++ text in
    spelled Undef all (undef_spots text) (drop 6 (undef_spots text)) (codes "undef") (undef_spliced text) (undef_hash all text) (undef_word all text) undef_is

first_or : Line → List Line → Line
first_or d [] = d
first_or d (l ∷ ls) = l

-- so is the one that was read
pub setting_line : (setting : Setting) (l : Line) (ls : List Line) → lines (setting_text setting) ≡ l ∷ ls → BeginsWithDirective (directive_of_setting setting) l
unfolding first_or
setting_line setting l ls read =
    let h = setting_first setting in
    let same : h.0 ≡ l = ap (first_or l) (sym h.1.1.0 ∙ read) in
    subst (λ z. BeginsWithDirective (directive_of_setting setting) z) same h.1.1.1

-- ## What it does

-- a line that begins so is a directive, whatever its number
pub begins_directive_line : (kind : Directive) (l : Line) (number : ℕ) → BeginsWithDirective kind l → is_directive (numbered_line number l) ≡ true
unfolding is_directive
begins_directive_line kind l number h =
    ap begins_directive h.toks ∙ ap (λ b. b || is_module_line (h.hash ∷ h.word ∷ h.more) || (spells "export" h.hash.text && is_module_line (h.word ∷ h.more))) h.is_hash

kept_first : (l : Line) (ls : List Line) → is_directive (numbered_line l.line l) ≡ true → filter is_directive (l ∷ ls) ≡ l ∷ filter is_directive ls
unfolding is_directive
kept_first l ls h = ap (λ b. if b then l ∷ filter is_directive ls else filter is_directive ls) h

-- so it is the first one that is kept
pub setting_keeps : (setting : Setting) → (l : Line) × ((rest : List Line) × ((ls : List Line) × ((kept (setting_text setting) ≡ l ∷ rest) × (lines (setting_text setting) ≡ l ∷ ls))))
unfolding kept
setting_keeps setting =
    let h = setting_first setting in
    let first = kept_first h.0 h.1.0 (begins_directive_line (directive_of_setting setting) h.0 h.0.line h.1.1.1) in
    (h.0, (filter is_directive h.1.0, (h.1.0, (ap (filter is_directive) h.1.1.0 ∙ first, h.1.1.0))))

-- outside skipped groups it has the setting's effect
pub setting_line_acts : (files : FileMap (List Line)) (setup : Setup) (c : Core) (setting : Setting) (l : Line) (number : ℕ) → BeginsWithDirective (directive_of_setting setting) l →
    is_skipped c.stack ≡ false → effect files setup c (numbered_line number l) ≡ setting_effect setting c (numbered_line number l) (drop 2 l.toks)
unfolding effect
setting_line_acts files setup c setting l number h live =
    let n = numbered_line number l in
    let hash : Directive → Effect (List Line) = λ d. hash_line files setup c n h.more d in
    let other = module_line {X = List Line} c n (h.hash ∷ h.word ∷ h.more) in
    ap (λ z. effect_of files setup c n z) h.toks
    ∙ ap (λ b. if b then hash (directive_of setup.command.dialect (h.word ∷ h.more)) else if is_skipped c.stack then Now c else other) h.is_hash
    ∙ ap hash (h.directive setup.command.dialect) ∙ by_setting files setup c setting n h.more live ∙ ap (λ z. setting_effect setting c n (drop 2 z)) (sym h.toks) where
      by_setting : (files : FileMap (List Line)) (setup : Setup) (c : Core) (setting : Setting) (n : Line) (ts : List Tok) → is_skipped c.stack ≡ false →
          hash_line files setup c n ts (directive_of_setting setting) ≡ setting_effect setting c n ts
      by_setting files setup c (SettingIs.Define text) n ts live = ap (λ b. if b then Now c else defined c n (read_define ts)) live
      by_setting files setup c (SettingIs.Undef text) n ts live = ap (λ b. if b then Now c else undef_line c n ts) live

-- it changes macros alone, or is a fault
abbrev pub Changes : Core → Line → Effect (List Line) → Type 0
Changes c n e = ((m : Macros) × (e ≡ Now (record c { macros = m }))) ⊎ (e ≡ stop FaultIs.BadDefine c n)

if_changes : (c : Core) (n : Line) (m : Macros) (b : Bool) → Changes c n (if b then Now (record c { macros = m }) else stop FaultIs.BadDefine c n)
if_changes c n m true = inl (m, refl)
if_changes c n m false = inr refl

defined_changes : (c : Core) (n : Line) (o : Option (List ℕ × Def)) → Changes c n (defined c n o)
defined_changes c n None = inr refl
defined_changes c n (Some found) = inl (_, refl)

pub setting_changes : (setting : Setting) (c : Core) (n : Line) (ts : List Tok) → Changes c n (setting_effect setting c n ts)
setting_changes (SettingIs.Define text) c n ts = defined_changes c n (read_define ts)
setting_changes (SettingIs.Undef text) c n [] = inr refl
setting_changes (SettingIs.Undef text) c n (t ∷ ts) = if_changes c n (undef c.macros t.text) (is_of Ident t)

core_of : Core → Effect (List Line) → Core
core_of c (Now d) = d
core_of c other = c

-- where it goes on, the macros alone are others
pub only_macros : (setting : Setting) (c : Core) (n : Line) (ts : List Tok) (d : Core) → setting_effect {X = List Line} setting c n ts ≡ Now d → d ≡ record c { macros = d.macros }
unfolding core_of
only_macros setting c n ts d h = by_change c n d (setting_effect setting c n ts) (setting_changes setting c n ts) h where
  by_change : (c : Core) (n : Line) (d : Core) (e : Effect (List Line)) → Changes c n e → e ≡ Now d → d ≡ record c { macros = d.macros }
  by_change c n d e (inl found) h = let same : record c { macros = found.0 } ≡ d = ap (core_of c) (sym found.1 ∙ h) in sym same ∙ ap (λ (z : Core). record c { macros = z.macros }) same
  by_change c n d e (inr faulty) h = let no : stop {X = List Line} FaultIs.BadDefine c n ≡ Now d = sym faulty ∙ h in absurd (cc)
