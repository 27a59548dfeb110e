-- The stream read token by token gives what its module and import lines give.
use Rattle.std.proofs.Common.{◌≡◌, ℕ, Bool, true, false, ◌||◌, if◌then◌else◌, List, [], ◌∷◌, ◌++◌, map, refl, ap, ◌∙◌}
use Rattle.std.specs.Prelude.{Option, Some, None}
use Rattle.std.specs.Option.{option_map_or}
use Rattle.std.specs.List.{list_any, AllByRecursion}
use Rattle.std.specs.declared.result.Result.{Result}
use Rattle.std.specs.declared.result.Result.TheVariants.{Ok, Err}
use Rattle.std.proofs.lemmas.Bool.{or_parts}
use Rattle.scan_model.specs.declared.token.Kind.TheVariants.{ExportKw, LineEnd}
use Rattle.scan_model.specs.declared.token.Tok.{Tok}
use Rattle.scan_model.specs.declared.module_line.Keyword.{Keyword}
use Rattle.scan_model.specs.declared.module_line.Keyword.TheVariants.{Module, Import}
use Rattle.scan_model.specs.declared.module_line.ModuleFault.{ModuleFault}
use Rattle.scan_model.specs.declared.unit_end.Fault.{Fault}
use Rattle.scan_model.specs.TokenTests.{is_of}
use Rattle.scan_model.specs.ModuleLines.{Builder, take, new}
use Rattle.scan_model.specs.KeywordLines.{keyword_kind}
use Rattle.scan_model.specs.Stream.{ModuleLine, Piece, Run, Sent, module_lines, after_take, take_lines, read_stream, at_path, piece_tokens, stream_tokens, is_keyword, keyword_of_kind, to_line_end, place_at, after_tokens, read_tokens}
use Rattle.unit_laws.specs.Streams.{word_kinds, is_stream_kind, KeywordsInPlace, without_looked, ReadByTokens}

abbrev Answers : Type 0
Answers = Result Builder Fault

-- ## Tokens that are no keywords

-- no keyword and no `export` before one
abbrev Silent : List Tok → Type 0
Silent toks = AllByRecursion (λ t. (is_keyword t.kind ≡ false) × (is_of ExportKw t ≡ false)) toks

abbrev Unended : List Tok → Type 0
Unended toks = AllByRecursion (λ t. is_of LineEnd t ≡ false) toks

silent : (toks : List Tok) → list_any (λ t. is_stream_kind t.kind) toks ≡ false → Silent toks × Unended toks
silent [] h = (tt, tt)
silent (t ∷ toks) h =
    let split = or_parts (is_keyword t.kind || is_of ExportKw t || is_of LineEnd t) _ h in
    let kinds = or_parts (is_keyword t.kind || is_of ExportKw t) (is_of LineEnd t) split.0 in
    let words = or_parts (is_keyword t.kind) (is_of ExportKw t) kinds.0 in
    let rest = silent toks split.1 in
    ((words, rest.0), (kinds.1, rest.1))

silent_and_end : (toks : List Tok) (line : ℕ) → Silent toks → Silent (toks ++ record { kind = LineEnd; text = []; space = false; line = line } ∷ [])
silent_and_end [] line h = ((refl, refl), tt)
silent_and_end (t ∷ toks) line h = (h.0, silent_and_end toks line h.1)

-- whether `export` stands right before
abbrev is_exported : Option (List ℕ × Tok) → Bool
is_exported q = option_map_or (λ before. is_of ExportKw before.1) q false

abbrev Unexported : Option (List ℕ × Tok) → Type 0
Unexported q = is_exported q ≡ false

one_of_two : (b : Bool) (x y : Answers) → b ≡ false → (if b then x else y) ≡ y
one_of_two true x y h = absurd (cc)
one_of_two false x y h = refl

first_of_two : (b : Bool) (x y : Answers) → b ≡ true → (if b then x else y) ≡ x
first_of_two true x y h = refl
first_of_two false x y h = absurd (cc)

one_passed : (q : Option (List ℕ × Tok)) (p : List ℕ × Tok) (rest : List (List ℕ × Tok)) (b : Builder) → is_keyword p.1.kind ≡ false →
    read_tokens q (p ∷ rest) b ≡ read_tokens (Some p) rest b
one_passed q p rest b h = one_of_two (is_keyword p.1.kind) _ (read_tokens (Some p) rest b) h

-- such tokens are passed over
passed : (path : List ℕ) (toks : List Tok) (rest : List (List ℕ × Tok)) (q : Option (List ℕ × Tok)) (b : Builder) (answer : Answers) → Silent toks → Unexported q →
    ((before : Option (List ℕ × Tok)) → Unexported before → read_tokens before rest b ≡ answer) → read_tokens q (at_path path toks ++ rest) b ≡ answer
passed path [] rest q b answer h u goes = goes q u
passed path (t ∷ toks) rest q b answer h u goes =
    one_passed q (path, t) (at_path path toks ++ rest) b h.0.0 ∙ passed path toks rest (Some (path, t)) b answer h.1 h.0.1 goes

-- ## One module or import line

line_of : (path : List ℕ) (toks : List Tok) (line : ℕ) (rest : List (List ℕ × Tok)) → Unended toks →
    to_line_end (at_path path (toks ++ record { kind = LineEnd; text = []; space = false; line = line } ∷ []) ++ rest) ≡ toks
line_of path [] line rest h = refl
line_of path (t ∷ toks) line rest h = tokens_if (is_of LineEnd t) _ h.0 ∙ ap (t ∷◌) (line_of path toks line rest h.1) where
  tokens_if : (b : Bool) (y : List Tok) → b ≡ false → (if b then [] else y) ≡ y
  tokens_if true y h = absurd (cc)
  tokens_if false y h = refl

kind_back : (keyword : Keyword) → keyword_of_kind (keyword_kind keyword) ≡ keyword
kind_back Module = refl
kind_back Import = refl

kind_is_keyword : (keyword : Keyword) → is_keyword (keyword_kind keyword) ≡ true
kind_is_keyword Module = refl
kind_is_keyword Import = refl

kind_unexported : (keyword : Keyword) (t : Tok) → t.kind ≡ keyword_kind keyword → is_of ExportKw t ≡ false
kind_unexported Module t h = rw h refl
kind_unexported Import t h = rw h refl

-- what follows a keyword, up to the line's end and after it
abbrev after_word : ModuleLine → List (List ℕ × Tok) → List (List ℕ × Tok)
after_word l rest = at_path l.path (l.toks ++ record { kind = LineEnd; text = []; space = false; line = l.line } ∷ []) ++ rest

-- the rest of the stream reads as these lines do
abbrev ReadsAs : List (List ℕ × Tok) → List ModuleLine → Type 0
ReadsAs rest ls = (before : Option (List ℕ × Tok)) → Unexported before → (b : Builder) → read_tokens before rest b ≡ without_looked (take_lines ls b)

taken_alike : (further : Builder → Answers) (l : ModuleLine) (ls : List ModuleLine) (taken : Result Builder ModuleFault) →
    ((b : Builder) → further b ≡ without_looked (take_lines ls b)) →
    after_tokens further (record { path = l.path; line = l.line }) taken ≡ without_looked (after_take (take_lines ls) l taken)
taken_alike further l ls (Ok b) h = h b
taken_alike further l ls (Err fault) h = refl

-- from the keyword on
keyword_read : (l : ModuleLine) (w : Tok) (q : Option (List ℕ × Tok)) (rest : List (List ℕ × Tok)) (ls : List ModuleLine) (b : Builder) →
    Silent l.toks → Unended l.toks → ReadsAs rest ls →
    is_exported q ≡ l.exported → w.kind ≡ keyword_kind l.keyword →
    (if is_exported q then option_map_or place_at q (place_at (l.path, w)) else place_at (l.path, w))
    ≡ record { path = l.path; line = l.line } →
    read_tokens q ((l.path, w) ∷ after_word l rest) b ≡ without_looked (take_lines (l ∷ ls) b)
keyword_read l w q rest ls b silent unended reads exported kind place =
    first_of_two (is_keyword w.kind) _ (further b) (ap is_keyword kind ∙ kind_is_keyword l.keyword)
    ∙ ap (λ p. after_tokens further p (take b (is_exported q) (keyword_of_kind w.kind) (to_line_end (after_word l rest)))) place
    ∙ ap (λ x. after_tokens further (record { path = l.path; line = l.line }) (take b x (keyword_of_kind w.kind) (to_line_end (after_word l rest)))) exported
    ∙ ap (λ k. after_tokens further (record { path = l.path; line = l.line }) (take b l.exported k (to_line_end (after_word l rest)))) (ap keyword_of_kind kind ∙ kind_back l.keyword)
    ∙ ap (λ ts. after_tokens further (record { path = l.path; line = l.line }) (take b l.exported l.keyword ts)) (line_of l.path l.toks l.line rest unended)
    ∙ taken_alike further l ls (take b l.exported l.keyword l.toks)
    (λ b. passed l.path (l.toks ++ record { kind = LineEnd; text = []; space = false; line = l.line } ∷ []) rest (Some (l.path, w)) b _ (silent_and_end l.toks l.line silent)
    (kind_unexported l.keyword w kind) (λ before u. reads before u b)) where
      further : Builder → Answers
      further = read_tokens (Some (l.path, w)) (after_word l rest)

-- the whole line, whose words are these
words_read : (path : List ℕ) (line : ℕ) (exported : Bool) (keyword : Keyword) (words toks : List Tok) (looked : List (List ℕ))
    (rest : List (List ℕ × Tok)) (ls : List ModuleLine) (q : Option (List ℕ × Tok)) (b : Builder) →
    Silent toks → Unended toks → map (λ t. t.kind) words ≡ word_kinds exported keyword → map (λ t. t.line) words ≡ map (λ t. line) words →
    ReadsAs rest ls → Unexported q →
    let l : ModuleLine = record { path = path; line = line; exported = exported; keyword = keyword; words = words; toks = toks; looked = looked } in
    read_tokens q (piece_tokens (Sent l) ++ rest) b ≡ without_looked (take_lines (l ∷ ls) b)
words_read path line true keyword [] toks looked rest ls q b silent unended kinds lines reads u = absurd (cc)
words_read path line true keyword (w ∷ []) toks looked rest ls q b silent unended kinds lines reads u = absurd (cc)
words_read path line true keyword (x ∷ w ∷ y ∷ words) toks looked rest ls q b silent unended kinds lines reads u = absurd (cc)
words_read path line true keyword (x ∷ w ∷ []) toks looked rest ls q b silent unended kinds lines reads u =
    let first : x.kind ≡ ExportKw = cc in
    let second : w.kind ≡ keyword_kind keyword = cc in
    let at : x.line ≡ line = cc in
    let l : ModuleLine = record { path = path; line = line; exported = true; keyword = keyword; words = x ∷ w ∷ []; toks = toks; looked = looked } in
    let is_export : is_of ExportKw x ≡ true = rw first refl in
    let place : (if is_of ExportKw x then place_at (path, x) else place_at (path, w)) ≡ record { path = path; line = line } = rw is_export (ap (λ n. record { path = path; line = n }) at) in
    let no_keyword : is_keyword x.kind ≡ false = rw first refl in
    one_passed q (path, x) ((path, w) ∷ after_word l rest) b no_keyword
    ∙ keyword_read l w (Some (path, x)) rest ls b silent unended reads is_export second place
words_read path line false keyword [] toks looked rest ls q b silent unended kinds lines reads u = absurd (cc)
words_read path line false keyword (x ∷ w ∷ words) toks looked rest ls q b silent unended kinds lines reads u = absurd (cc)
words_read path line false keyword (w ∷ []) toks looked rest ls q b silent unended kinds lines reads u =
    let second : w.kind ≡ keyword_kind keyword = cc in
    let at : w.line ≡ line = cc in
    let l : ModuleLine = record { path = path; line = line; exported = false; keyword = keyword; words = w ∷ []; toks = toks; looked = looked } in
    let place : (if is_exported q then option_map_or place_at q (place_at (path, w)) else place_at (path, w)) ≡ record { path = path; line = line } =
    rw u (ap (λ n. record { path = path; line = n }) at) in
    keyword_read l w q rest ls b silent unended reads u second place

-- ## The stream

stream_read : (pieces : List Piece) → AllByRecursion KeywordsInPlace pieces → ReadsAs (stream_tokens pieces) (module_lines pieces)
stream_read [] h q u b = refl
stream_read (Run path toks ∷ pieces) h q u b =
    passed path toks (stream_tokens pieces) q b _ (silent toks h.0).0 u (λ before u. stream_read pieces h.1 before u b)
stream_read (Sent l ∷ pieces) h q u b =
    words_read l.path l.line l.exported l.keyword l.words l.toks l.looked (stream_tokens pieces) (module_lines pieces) q b
    (silent l.toks h.0.0).0 (silent l.toks h.0.0).1 h.0.1 h.0.2 (stream_read pieces h.1) u

pub read_by_tokens : ReadByTokens
unfolding read_stream
read_by_tokens command pieces h = stream_read pieces h None refl (new command.output command.source)
