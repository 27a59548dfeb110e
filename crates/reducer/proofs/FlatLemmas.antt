-- Records over lists that grow at their ends.
use Rattle.std.proofs.Common.{◌≡◌, ℕ, ◌+◌, ◌≤◌, ◌≢◌, List, [], ◌∷◌, ◌++◌, All, refl, ap, sym, ◌∙◌, map, take, drop, get_or, length, length-append, length-drop, arith}
use Rattle.std.proofs.lemmas.List.{take-append-le, drop-append-le, map-append, drop_at, take_all}
use Rattle.std.proofs.lemmas.List.Elements.{All-head, All-tail, All-weaker, All-take, All-drop, All-append, All-push}
use Rattle.scan_model.specs.Lines.{closed}
use Rattle.reducer.specs.declared.flat.TokRecord.{TokRecord}
use Rattle.reducer.specs.declared.flat.LineRecord.{LineRecord}
use Rattle.scan_model.specs.declared.command.Dialect.TheVariants.{Cxx23}
use Rattle.scan_model.specs.Skips.{directive_in}
use Rattle.reducer.specs.FlatLines.{tok_of, line_of, lines_of, IsCut, HasToks, HasDirective, AreWithin}

-- what is cut out stays where more is added behind
cut_grown : {X : Type 0} (n start : ℕ) (xs more : List X) → start + n ≤ length xs → take n (drop start (xs ++ more)) ≡ take n (drop start xs)
cut_grown n start xs more h = ap (take n) (drop-append-le start xs more (omega arith)) ∙ take-append-le n (drop start xs) more (omega (arith, length-drop start xs))

pub map_same : {X Y : Type 0} (f g : X → Y) (xs : List X) → All (λ x. f x ≡ g x) xs → map f xs ≡ map g xs
map_same f g [] h = refl
map_same f g (x ∷ xs) h =
    let here = All-head (λ x. f x ≡ g x) x xs h in
    let more = map_same f g xs (All-tail (λ x. f x ≡ g x) x xs h) in
    ap (λ y. y ∷ map f xs) here ∙ ap (λ ys. g x ∷ ys) more

tok_grown : (spelled more : List ℕ) (line : ℕ) (r : TokRecord) → IsCut spelled r → tok_of (spelled ++ more) line r ≡ tok_of spelled line r
tok_grown spelled more line r h = ap (λ text. record { kind = r.kind; text = text; space = r.space; line = line }) (cut_grown r.len r.start spelled more h)

pub toks_grown : (spelled more : List ℕ) (line : ℕ) (rs : List TokRecord) → All (IsCut spelled) rs → map (tok_of (spelled ++ more) line) rs ≡ map (tok_of spelled line) rs
toks_grown spelled more line rs h =
    map_same (tok_of (spelled ++ more) line) (tok_of spelled line) rs
    (All-weaker (IsCut spelled) (λ r. tok_of (spelled ++ more) line r ≡ tok_of spelled line r) (λ r. tok_grown spelled more line r) rs h)

line_grown : (spelled more : List ℕ) (toks further : List TokRecord) (l : LineRecord) → All (IsCut spelled) toks → HasToks toks l
    → line_of (spelled ++ more) (toks ++ further) l ≡ line_of spelled toks l
line_grown spelled more toks further l all h =
    let rs = take l.count (drop l.start toks) in
    ap (λ ts. record { toks = ts; line = l.line; next = l.next })
    (ap (map (tok_of (spelled ++ more) l.line)) (cut_grown l.count l.start toks further h)
    ∙ toks_grown spelled more l.line rs (All-take (IsCut spelled) l.count (drop l.start toks) (All-drop (IsCut spelled) l.start toks all)))

pub lines_grown : (spelled more : List ℕ) (toks further : List TokRecord) (ls : List LineRecord) → AreWithin spelled toks ls
    → lines_of (spelled ++ more) (toks ++ further) ls ≡ lines_of spelled toks ls
lines_grown spelled more toks further ls w =
    map_same (line_of (spelled ++ more) (toks ++ further)) (line_of spelled toks) ls
    (All-weaker (HasToks toks) (λ l. line_of (spelled ++ more) (toks ++ further) l ≡ line_of spelled toks l) (λ l. line_grown spelled more toks further l w.cut) ls w.held)

pub cut_in_more : (spelled more : List ℕ) (rs : List TokRecord) → All (IsCut spelled) rs → All (IsCut (spelled ++ more)) rs
cut_in_more spelled more rs all = All-weaker (IsCut spelled) (IsCut (spelled ++ more)) (λ r h. omega (arith, length-append spelled more)) rs all

pub within_grown : (spelled more : List ℕ) (toks further : List TokRecord) (ls : List LineRecord) → AreWithin spelled toks ls → All (IsCut (spelled ++ more)) further
    → AreWithin (spelled ++ more) (toks ++ further) ls
within_grown spelled more toks further ls w all = record {
  cut = All-append (IsCut (spelled ++ more)) toks further (cut_in_more spelled more toks w.cut) all;
  held = All-weaker (HasToks toks) (HasToks (toks ++ further)) (λ l h. omega (arith, length-append toks further)) ls w.held;
  named = λ k d h. let l = get_or ls k d in w.named k d h ∙ ap (λ line. directive_in Cxx23 line.toks) (sym (line_grown spelled more toks further l w.cut (w.held k d h)));
}

-- ## A line at the end

-- the lists, whose beginnings `spelled` and `toks` are
closed_toks : (spelled : List ℕ) (line last : ℕ) (rs : List TokRecord) → rs ≢ [] → closed (map (tok_of spelled line) rs) last ≡ record { toks = map (tok_of spelled line) rs; line = line; next = last + 1 } ∷ []
closed_toks spelled line last [] some = absurd (some refl)
closed_toks spelled line last (r ∷ rs) some = refl

last_records : (toks further : List TokRecord) (l : LineRecord) → l.start ≡ length toks → l.count ≡ length further → take l.count (drop l.start (toks ++ further)) ≡ further
last_records toks further l start count = ap (take l.count) (drop_at toks further l.start (sym start)) ∙ take_all l.count further (omega arith)

-- the line of all further tokens is added
pub lines_closed : (spelled more : List ℕ) (toks further : List TokRecord) (ls : List LineRecord) (l : LineRecord) (last : ℕ) → AreWithin spelled toks ls → further ≢ []
    → l.start ≡ length toks → l.count ≡ length further → l.next ≡ last + 1
    → lines_of (spelled ++ more) (toks ++ further) (ls ++ l ∷ []) ≡ lines_of spelled toks ls ++ closed (map (tok_of (spelled ++ more) l.line) further) last
lines_closed spelled more toks further ls l last w some start count next =
    let all = spelled ++ more in
    let rs = last_records toks further l start count in
    let line : line_of all (toks ++ further) l ≡ record { toks = map (tok_of all l.line) further; line = l.line; next = last + 1 } =
    ap (λ ts. record { toks = map (tok_of all l.line) ts; line = l.line; next = l.next }) rs ∙ ap (λ n. record { toks = map (tok_of all l.line) further; line = l.line; next = n }) next in
    map-append (line_of all (toks ++ further)) ls (l ∷ [])
    ∙ ap (λ x. x ++ line_of all (toks ++ further) l ∷ []) (lines_grown spelled more toks further ls w)
    ∙ ap (λ x. lines_of spelled toks ls ++ x ∷ []) line
    ∙ ap (λ x. lines_of spelled toks ls ++ x) (sym (closed_toks all l.line last further some))

pub within_closed : (spelled more : List ℕ) (toks further : List TokRecord) (ls : List LineRecord) (l : LineRecord) → AreWithin spelled toks ls → All (IsCut (spelled ++ more)) further
    → l.start ≡ length toks → l.count ≡ length further → l.directive ≡ directive_in Cxx23 (map (tok_of (spelled ++ more) l.line) further) → AreWithin (spelled ++ more) (toks ++ further) (ls ++ l ∷ [])
within_closed spelled more toks further ls l w all start count directive =
    let grown = within_grown spelled more toks further ls w all in record {
      cut = grown.cut;
      held = All-push (HasToks (toks ++ further)) ls l grown.held (omega (arith, length-append toks further));
      named = All-push (HasDirective (spelled ++ more) (toks ++ further)) ls l grown.named
          (directive ∙ ap (λ rs. directive_in Cxx23 (map (tok_of (spelled ++ more) l.line) rs)) (sym (last_records toks further l start count)));
    }
