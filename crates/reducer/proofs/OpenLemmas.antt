-- What the open line and the kept ones are after a step.
use Rattle.std.proofs.Common.{◌≡◌, ◌≢◌, ℕ, ◌+◌, ◌-◌, ◌≤◌, if◌then◌else◌, ◌==◌, List, [], ◌∷◌, ◌++◌, All, refl, ap, sym, ◌∙◌, subst, map, take, drop, get_or, slice_get, length, ◌<◌, Some, None, length-append, length-drop, length-take, arith}
use Rattle.std.specs.Option.{option_map}
use Rattle.std.proofs.lemmas.Bool.{eq-eqb, ne_eqb}
use Rattle.std.proofs.lemmas.Option.{slice_get-get_or, slice_get-map, slice_get_past}
use Rattle.std.proofs.lemmas.List.{take_rest, take-append-le, drop-append-le, take-append-drop, take-take, length-take-le, length-map, map-append, drop_at, take_all, drop_all}
use Rattle.std.proofs.lemmas.List.Elements.{All-nil, All-push, All-same}
use Rattle.scan_model.specs.declared.token.Tok.{Tok}
use Rattle.scan_model.specs.Lines.{closed}
use Rattle.pp_lexer.specs.Reads.{is_nil, line_here}
use Rattle.reducer.specs.declared.flat.TokRecord.{TokRecord}
use Rattle.reducer.specs.declared.flat.LineRecord.{LineRecord}
use Rattle.reducer.specs.declared.open_lines.OpenLines.{OpenLines}
use Rattle.scan_model.specs.declared.command.Dialect.TheVariants.{Cxx23}
use Rattle.scan_model.specs.Skips.{directive_in}
use Rattle.reducer.specs.FlatLines.{tok_of, lines_of, IsCut, AreWithin, AreKept}
use Rattle.reducer.specs.ReducedLines.{AreReduced}
use Rattle.reducer.specs.Building.{kept_lines, open_toks, IsSound, HasToken, HasLines}
use Rattle.reducer.proofs.FlatLemmas.{toks_grown, cut_in_more, lines_closed, within_closed}

-- ## One more token

-- the line of the tokens that are there, or the given one
open_grown : (spelled more : List ℕ) (rs : List TokRecord) (r : TokRecord) (line after here : ℕ) → All (IsCut spelled) rs → after ≡ (if is_nil (map (tok_of spelled line) rs) then here else line)
    → r.start ≡ length spelled → r.len ≡ length more
    → map (tok_of (spelled ++ more) after) (rs ++ r ∷ []) ≡ map (tok_of spelled line) rs ++ record { kind = r.kind; text = more; space = r.space; line = line_here (map (tok_of spelled line) rs) here } ∷ []
open_grown spelled more rs r line after here all is start len = by rs all is where
  last : (n : ℕ) → tok_of (spelled ++ more) n r ≡ record { kind = r.kind; text = more; space = r.space; line = n }
  last n = ap (λ text. record { kind = r.kind; text = text; space = r.space; line = n })
      (ap (take r.len) (drop_at spelled more r.start (sym start)) ∙ take_all r.len more (omega arith))

  by : (rs : List TokRecord) → All (IsCut spelled) rs → after ≡ (if is_nil (map (tok_of spelled line) rs) then here else line)
      → map (tok_of (spelled ++ more) after) (rs ++ r ∷ []) ≡ map (tok_of spelled line) rs ++ record { kind = r.kind; text = more; space = r.space; line = line_here (map (tok_of spelled line) rs) here } ∷ []
  by [] all is = ap (λ n. tok_of (spelled ++ more) n r ∷ []) is ∙ ap (λ t. t ∷ []) (last here)
  by (q ∷ qs) all is =
      ap (λ n. map (tok_of (spelled ++ more) n) ((q ∷ qs) ++ r ∷ [])) is ∙ map-append (tok_of (spelled ++ more) line) (q ∷ qs) (r ∷ [])
      ∙ ap (λ ts. ts ++ tok_of (spelled ++ more) line r ∷ []) (toks_grown spelled more line (q ∷ qs) all) ∙ ap (λ t. map (tok_of spelled line) (q ∷ qs) ++ t ∷ []) (last line)

-- the second is the first with a token more, and with a spelling more
pub record Pushes (b after : OpenLines) (more : List ℕ) (r : TokRecord) : Type 0 where
  pub spelled_is : after.spelled.items ≡ b.spelled.items ++ more
  pub toks_is : after.toks.items ≡ b.toks.items ++ r ∷ []
  pub lines_is : after.lines.items ≡ b.lines.items
  pub bytes_is : after.kept_bytes ≡ b.kept_bytes
  pub count_is : after.kept_toks ≡ b.kept_toks
  pub start_is : r.start ≡ length b.spelled.items
  pub len_is : r.len ≡ length more

kept_spelled : (b after : OpenLines) (more : List ℕ) (r : TokRecord) → IsSound b → Pushes b after more r → take after.kept_bytes after.spelled.items ≡ take b.kept_bytes b.spelled.items
kept_spelled b after more r s p = ap (take after.kept_bytes) p.spelled_is ∙ ap (λ n. take n (b.spelled.items ++ more)) p.bytes_is ∙ take-append-le b.kept_bytes b.spelled.items more s.bytes

kept_records : (b after : OpenLines) (more : List ℕ) (r : TokRecord) → IsSound b → Pushes b after more r → take after.kept_toks after.toks.items ≡ take b.kept_toks b.toks.items
kept_records b after more r s p = ap (take after.kept_toks) p.toks_is ∙ ap (λ n. take n (b.toks.items ++ r ∷ [])) p.count_is ∙ take-append-le b.kept_toks b.toks.items (r ∷ []) s.toks

open_records : (b after : OpenLines) (more : List ℕ) (r : TokRecord) → IsSound b → Pushes b after more r → drop after.kept_toks after.toks.items ≡ drop b.kept_toks b.toks.items ++ r ∷ []
open_records b after more r s p = ap (drop after.kept_toks) p.toks_is ∙ ap (λ n. drop n (b.toks.items ++ r ∷ [])) p.count_is ∙ drop-append-le b.kept_toks b.toks.items (r ∷ []) s.toks

sound_pushed : (b after : OpenLines) (more : List ℕ) (r : TokRecord) → IsSound b → Pushes b after more r → IsSound after
sound_pushed b after more r s p =
    let spelled = kept_spelled b after more r s p in
    let toks = kept_records b after more r s p in
    let bytes_in : length after.spelled.items ≡ length b.spelled.items + length more = ap length p.spelled_is ∙ length-append b.spelled.items more in
    let toks_in : length after.toks.items ≡ length b.toks.items + 1 = ap length p.toks_is ∙ length-append b.toks.items (r ∷ []) in
    let all = b.spelled.items ++ more in
    let last : IsCut all r = omega (arith, p.start_is, p.len_is, length-append b.spelled.items more) in
    record {
      bytes = omega (arith, s.bytes, p.bytes_is, bytes_in);
      toks = omega (arith, s.toks, p.count_is, toks_in);
      kept = subst (λ ls. AreWithin (take after.kept_bytes after.spelled.items) (take after.kept_toks after.toks.items) ls) (sym p.lines_is)
          (subst (λ ts. AreWithin (take after.kept_bytes after.spelled.items) ts b.lines.items) (sym toks)
          (subst (λ xs. AreWithin xs (take b.kept_toks b.toks.items) b.lines.items) (sym spelled) s.kept));
      cut = subst (λ rs. All (IsCut after.spelled.items) rs) (sym (open_records b after more r s p))
          (subst (λ xs. All (IsCut xs) (drop b.kept_toks b.toks.items ++ r ∷ [])) (sym p.spelled_is)
          (All-push (IsCut all) (drop b.kept_toks b.toks.items) r (cut_in_more b.spelled.items more (drop b.kept_toks b.toks.items) s.cut) last));
    }

same_lines_of : (xs xs' : List ℕ) (ts ts' : List TokRecord) (ls ls' : List LineRecord) → xs ≡ xs' → ts ≡ ts' → ls ≡ ls' → lines_of xs ts ls ≡ lines_of xs' ts' ls'
same_lines_of xs xs' ts ts' ls ls' e f g = ap (λ x. lines_of x ts ls) e ∙ ap (λ t. lines_of xs' t ls) f ∙ ap (lines_of xs' ts') g

kept_pushed : (b after : OpenLines) (more : List ℕ) (r : TokRecord) → IsSound b → Pushes b after more r → kept_lines after ≡ kept_lines b
unfolding kept_lines
kept_pushed b after more r s p = same_lines_of _ _ _ _ _ _ (kept_spelled b after more r s p) (kept_records b after more r s p) p.lines_is

toks_pushed : (b after : OpenLines) (more : List ℕ) (r : TokRecord) (here : ℕ) → IsSound b → Pushes b after more r → after.line ≡ (if is_nil (open_toks b) then here else b.line)
    → open_toks after ≡ open_toks b ++ record { kind = r.kind; text = more; space = r.space; line = line_here (open_toks b) here } ∷ []
unfolding open_toks
toks_pushed b after more r here s p line =
    let rs = drop b.kept_toks b.toks.items in
    ap (λ rs. map (tok_of after.spelled.items after.line) rs) (open_records b after more r s p) ∙ ap (λ xs. map (tok_of xs after.line) (rs ++ r ∷ [])) p.spelled_is
    ∙ open_grown b.spelled.items more rs r b.line after.line here s.cut line p.start_is p.len_is

pub has_token : (b after : OpenLines) (more : List ℕ) (r : TokRecord) (here : ℕ) → IsSound b → Pushes b after more r → after.line ≡ (if is_nil (open_toks b) then here else b.line)
    → HasToken b after (record { kind = r.kind; text = more; space = r.space; line = line_here (open_toks b) here })
has_token b after more r here s p line = record { sound = sound_pushed b after more r s p; kept = kept_pushed b after more r s p; added = toks_pushed b after more r here s p line }

-- ## What the open line has

pub length-open_toks : (b : OpenLines) → length (open_toks b) ≡ length b.toks.items - b.kept_toks
unfolding open_toks
length-open_toks b = length-map (drop b.kept_toks b.toks.items) (tok_of b.spelled.items b.line) ∙ length-drop b.kept_toks b.toks.items

pub empty_is : (b : OpenLines) (n : ℕ) → IsSound b → n ≡ length b.toks.items → (n == b.kept_toks) ≡ is_nil (open_toks b)
unfolding open_toks
empty_is b n s e = by (drop b.kept_toks b.toks.items) refl where
  by : (rs : List TokRecord) → drop b.kept_toks b.toks.items ≡ rs → (n == b.kept_toks) ≡ is_nil (map (tok_of b.spelled.items b.line) rs)
  by [] d = let left = ap length d in eq-eqb n b.kept_toks (omega (arith, left, length-drop b.kept_toks b.toks.items, s.toks))
  by (r ∷ rs) d = let left = ap length d in ne_eqb n b.kept_toks (λ same. absurd (omega (arith, left, length-drop b.kept_toks b.toks.items, s.toks)))

-- the records after the kept ones, as the code cuts them
abbrev pub records_from : ℕ → List TokRecord → List TokRecord
records_from k toks = take (length toks - k) (drop k toks)

pub shown_at : (b : OpenLines) (toks : List TokRecord) (spelled : List ℕ) (i : ℕ) (r d : TokRecord) (shown : Tok) → toks ≡ b.toks.items → spelled ≡ b.spelled.items
    → i < length (records_from b.kept_toks toks) → r ≡ get_or (records_from b.kept_toks toks) i d → shown ≡ tok_of spelled b.line r → Some shown ≡ slice_get (open_toks b) i
unfolding open_toks
shown_at b toks spelled i r d shown e f within at is =
    let rs = drop b.kept_toks b.toks.items in
    let here : records_from b.kept_toks toks ≡ rs = take_rest toks b.kept_toks ∙ ap (drop b.kept_toks) e in
    let is_r : r ≡ get_or rs i d = at ∙ ap (λ xs. get_or xs i d) here in
    let in_rs : i < length rs = subst (λ xs. i < length xs) here within in
    ap Some (is ∙ ap (λ xs. tok_of xs b.line r) f ∙ ap (tok_of b.spelled.items b.line) is_r)
    ∙ sym (ap (option_map (tok_of b.spelled.items b.line)) (slice_get-get_or rs i d in_rs)) ∙ sym (slice_get-map (tok_of b.spelled.items b.line) rs i)

pub none_at : (b : OpenLines) (toks : List TokRecord) (i : ℕ) → toks ≡ b.toks.items → length (records_from b.kept_toks toks) ≤ i → None ≡ slice_get (open_toks b) i
none_at b toks i e past =
    let here = ap length (take_rest toks b.kept_toks ∙ ap (drop b.kept_toks) e) in
    sym (slice_get_past (open_toks b) i (omega (arith, here, length-open_toks b, length-drop b.kept_toks b.toks.items)))

-- ## No open line

-- the second is the first without the open line
pub record Drops (b after : OpenLines) : Type 0 where
  pub spelled_is : after.spelled.items ≡ take b.kept_bytes b.spelled.items
  pub toks_is : after.toks.items ≡ take b.kept_toks b.toks.items
  pub lines_is : after.lines.items ≡ b.lines.items
  pub bytes_is : after.kept_bytes ≡ b.kept_bytes
  pub count_is : after.kept_toks ≡ b.kept_toks

nothing_open : (b after : OpenLines) → Drops b after → drop after.kept_toks after.toks.items ≡ []
nothing_open b after d = drop_all after.kept_toks after.toks.items
    (let n : length after.toks.items ≡ length (take b.kept_toks b.toks.items) = ap length d.toks_is in omega (arith, n, length-take b.kept_toks b.toks.items, d.count_is))

dropped_spelled : (b after : OpenLines) → Drops b after → take after.kept_bytes after.spelled.items ≡ take b.kept_bytes b.spelled.items
dropped_spelled b after d = ap (take after.kept_bytes) d.spelled_is ∙ ap (λ n. take n (take b.kept_bytes b.spelled.items)) d.bytes_is ∙ take-take b.kept_bytes b.kept_bytes b.spelled.items (omega arith)

dropped_records : (b after : OpenLines) → Drops b after → take after.kept_toks after.toks.items ≡ take b.kept_toks b.toks.items
dropped_records b after d = ap (take after.kept_toks) d.toks_is ∙ ap (λ n. take n (take b.kept_toks b.toks.items)) d.count_is ∙ take-take b.kept_toks b.kept_toks b.toks.items (omega arith)

pub kept_dropped : (b after : OpenLines) → Drops b after → kept_lines after ≡ kept_lines b
unfolding kept_lines
kept_dropped b after d = same_lines_of _ _ _ _ _ _ (dropped_spelled b after d) (dropped_records b after d) d.lines_is

pub toks_dropped : (b after : OpenLines) → Drops b after → open_toks after ≡ []
unfolding open_toks
toks_dropped b after d = ap (map (tok_of after.spelled.items after.line)) (nothing_open b after d)

-- ## One more line

-- the second is the first with the open line among the others
pub record Keeps (b after : OpenLines) (l : LineRecord) : Type 0 where
  pub spelled_is : after.spelled.items ≡ b.spelled.items
  pub toks_is : after.toks.items ≡ b.toks.items
  pub lines_is : after.lines.items ≡ b.lines.items ++ l ∷ []
  pub bytes_is : after.kept_bytes ≡ length b.spelled.items
  pub count_is : after.kept_toks ≡ length b.toks.items
  pub line_is : l.line ≡ b.line
  pub start_is : l.start ≡ b.kept_toks
  pub len_is : l.count ≡ length b.toks.items - b.kept_toks
  pub directive_is : l.directive ≡ directive_in Cxx23 (open_toks b)

all_spelled : (b after : OpenLines) (l : LineRecord) → Keeps b after l → take after.kept_bytes after.spelled.items ≡ take b.kept_bytes b.spelled.items ++ drop b.kept_bytes b.spelled.items
all_spelled b after l k =
    ap (take after.kept_bytes) k.spelled_is ∙ take_all after.kept_bytes b.spelled.items (omega (arith, k.bytes_is)) ∙ sym (take-append-drop b.kept_bytes b.spelled.items)

all_records : (b after : OpenLines) (l : LineRecord) → Keeps b after l → take after.kept_toks after.toks.items ≡ take b.kept_toks b.toks.items ++ drop b.kept_toks b.toks.items
all_records b after l k =
    ap (take after.kept_toks) k.toks_is ∙ take_all after.kept_toks b.toks.items (omega (arith, k.count_is)) ∙ sym (take-append-drop b.kept_toks b.toks.items)

none_left : (b after : OpenLines) (l : LineRecord) → Keeps b after l → drop after.kept_toks after.toks.items ≡ []
none_left b after l k = drop_all after.kept_toks after.toks.items (let n : length after.toks.items ≡ length b.toks.items = ap length k.toks_is in omega (arith, n, k.count_is))

record_start : (b after : OpenLines) (l : LineRecord) → IsSound b → Keeps b after l → l.start ≡ length (take b.kept_toks b.toks.items)
record_start b after l s k = k.start_is ∙ sym (length-take-le b.kept_toks b.toks.items s.toks)

record_count : (b after : OpenLines) (l : LineRecord) → Keeps b after l → l.count ≡ length (drop b.kept_toks b.toks.items)
record_count b after l k = k.len_is ∙ sym (length-drop b.kept_toks b.toks.items)

cut_of_whole : (b : OpenLines) → IsSound b → All (IsCut (take b.kept_bytes b.spelled.items ++ drop b.kept_bytes b.spelled.items)) (drop b.kept_toks b.toks.items)
cut_of_whole b s = subst (λ xs. All (IsCut xs) (drop b.kept_toks b.toks.items)) (sym (take-append-drop b.kept_bytes b.spelled.items)) s.cut

sound_kept : (b after : OpenLines) (l : LineRecord) → IsSound b → Keeps b after l → IsSound after
unfolding open_toks
sound_kept b after l s k =
    let bytes_in : length after.spelled.items ≡ length b.spelled.items = ap length k.spelled_is in
    let toks_in : length after.toks.items ≡ length b.toks.items = ap length k.toks_is in
    let whole = within_closed (take b.kept_bytes b.spelled.items) (drop b.kept_bytes b.spelled.items) (take b.kept_toks b.toks.items) (drop b.kept_toks b.toks.items) b.lines.items l s.kept
    (cut_of_whole b s) (record_start b after l s k) (record_count b after l k)
    (k.directive_is ∙ ap (λ n. directive_in Cxx23 (map (tok_of b.spelled.items n) (drop b.kept_toks b.toks.items))) (sym k.line_is)
    ∙ ap (λ xs. directive_in Cxx23 (map (tok_of xs l.line) (drop b.kept_toks b.toks.items))) (sym (take-append-drop b.kept_bytes b.spelled.items))) in
    record {
      bytes = omega (arith, bytes_in, k.bytes_is);
      toks = omega (arith, toks_in, k.count_is);
      kept = subst (λ ls. AreWithin (take after.kept_bytes after.spelled.items) (take after.kept_toks after.toks.items) ls) (sym k.lines_is)
          (subst (λ ts. AreWithin (take after.kept_bytes after.spelled.items) ts (b.lines.items ++ l ∷ [])) (sym (all_records b after l k))
          (subst (λ xs. AreWithin xs (take b.kept_toks b.toks.items ++ drop b.kept_toks b.toks.items) (b.lines.items ++ l ∷ [])) (sym (all_spelled b after l k)) whole));
      cut = All-same (IsCut after.spelled.items) (drop after.kept_toks after.toks.items) [] (none_left b after l k) (All-nil (IsCut after.spelled.items));
    }

some_records : (b : OpenLines) → open_toks b ≢ [] → drop b.kept_toks b.toks.items ≢ []
unfolding open_toks
some_records b some none = some (ap (map (tok_of b.spelled.items b.line)) none)

lines_kept : (b after : OpenLines) (l : LineRecord) (last : ℕ) → IsSound b → open_toks b ≢ [] → Keeps b after l → l.next ≡ last + 1 → kept_lines after ≡ kept_lines b ++ closed (open_toks b) last
unfolding kept_lines open_toks
lines_kept b after l last s some k next =
    let xs = take b.kept_bytes b.spelled.items in let more = drop b.kept_bytes b.spelled.items in
    let ts = take b.kept_toks b.toks.items in let further = drop b.kept_toks b.toks.items in
    same_lines_of _ _ _ _ _ _ (all_spelled b after l k) (all_records b after l k) k.lines_is
    ∙ lines_closed xs more ts further b.lines.items l last s.kept (some_records b some) (record_start b after l s k) (record_count b after l k) next
    ∙ ap (λ all. lines_of xs ts b.lines.items ++ closed (map (tok_of all l.line) further) last) (take-append-drop b.kept_bytes b.spelled.items)
    ∙ ap (λ n. lines_of xs ts b.lines.items ++ closed (map (tok_of b.spelled.items n) further) last) k.line_is

pub has_lines : (b after : OpenLines) (l : LineRecord) (last : ℕ) → IsSound b → open_toks b ≢ [] → Keeps b after l → l.next ≡ last + 1 → HasLines b after (closed (open_toks b) last)
has_lines b after l last s some k next = record { sound = sound_kept b after l s k; added = lines_kept b after l last s some k next; stay = (k.spelled_is, k.toks_is) }

-- ## At the end of the text

pub parts_are : (b : OpenLines) (xs : List ℕ) (ts : List TokRecord) → xs ≡ take b.kept_bytes b.spelled.items → ts ≡ take b.kept_toks b.toks.items → lines_of xs ts b.lines.items ≡ kept_lines b
unfolding kept_lines
parts_are b xs ts e f = same_lines_of _ _ _ _ _ _ e f refl

pub are_kept : (b : OpenLines) (xs : List ℕ) (ts : List TokRecord) → IsSound b → AreReduced (kept_lines b) → xs ≡ take b.kept_bytes b.spelled.items → ts ≡ take b.kept_toks b.toks.items → AreKept xs ts b.lines.items
are_kept b xs ts s reduced e f = record {
  within = subst (λ ts. AreWithin xs ts b.lines.items) (sym f) (subst (λ xs. AreWithin xs (take b.kept_toks b.toks.items) b.lines.items) (sym e) s.kept);
  reduced = subst AreReduced (sym (parts_are b xs ts e f)) reduced;
}
