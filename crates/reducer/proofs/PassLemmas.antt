-- One turn of the loops over a line.
use Rattle.std.proofs.Common.{◌≡◌, ℕ, ◌-◌, ◌<◌, ◌≤◌, true, false, subst, List, [], ◌∷◌, ◌++◌, refl, ap, sym, ◌∙◌, inl, inr, drop, length, length-drop, arith, Some, Result, Ok, Err, OnOk}
use Rattle.scan_model.specs.declared.token.Tok.{Tok}
use Rattle.scan_model.specs.Spliced.{Spot}
use Rattle.scan_model.specs.declared.token.Line.{Line}
use Rattle.scan_model.specs.Tokens.{Lexeme, after_blanks, next_token, wants_header}
use Rattle.scan_model.specs.Lines.{tok}
use Rattle.scan_model.proofs.BlankLemmas.{length-after_blanks}
use Rattle.scan_model.proofs.LineLemmas.{next_takes}
use Rattle.reducer.specs.Directives.{is_text, kept_from, begins_text, IsDropped, IsPassed}
use Rattle.pp_lexer.specs.Reads.{PassesToken}
use Rattle.reducer.proofs.TextLemmas.{wants_header-text}
use Rattle.reducer.proofs.KeptLemmas.{text_token, text_newline, kept_from-token, kept_from-blanks, after_blanks-twice}
use Rattle.reducer.proofs.WordLemmas.{begins_text-tok, begins_text-some}

pub wants_header-nil : wants_header [] ≡ false
unfolding wants_header
wants_header-nil = refl

pub passed_smaller : (text : List ℕ) (s left : List Spot) → PassesToken text s true left → length left < length s
passed_smaller text s left h = let z = next_takes text [] s h.0 (h.1 [] wants_header-nil) in let e : length left ≡ length h.0.left = ap length h.2 in omega arith

-- what is left stands in the same line, which is no directive
abbrev pub StaysText : List ℕ → List Spot → List Spot → Type 0
StaysText text s left = (before : List Tok) → IsDropped before s → (b : List Tok) × IsDropped b left × (kept_from text before s ≡ kept_from text b left)

pub then_stays : (text : List ℕ) (s mid left : List Spot) → StaysText text s mid → StaysText text mid left → StaysText text s left
then_stays text s mid left one more before is =
    let first = one before is in
    let second = more first.0 first.1 in
    (second.0, second.1, first.2 ∙ second.2)

-- a token of it
pub token_stays : (text : List ℕ) (s : List Spot) (l : Lexeme) → ((before : List Tok) → wants_header before ≡ false → next_token text before s ≡ Some l) → StaysText text s l.left
token_stays text s l found before (inl is) = let more = text_token text before s l is (found before (wants_header-text before is)) in (more.0, inl more.1, more.2)
token_stays text s l found before (inr front) =
    let here = found [] wants_header-nil in (
      tok text [] s l ∷ [],
      inl (begins_text-tok text s l (ap begins_text front.2 ∙ front.1) here),
      ap (λ b. kept_from text b s) front.0 ∙ kept_from-token text [] s l here,
    )

pub passed_stays : (text text' : List ℕ) (s left : List Spot) → text' ≡ text → PassesToken text' s true left → StaysText text s left
passed_stays text text' s left same h = subst (λ t. StaysText t s left) same (subst (StaysText text' s) (sym h.2) (token_stays text' s h.0 h.1))

-- its end
passed_line : (text text' : List ℕ) (before : List Tok) (s left at : List Spot) → text' ≡ text → PassesToken text' s false left → at ≡ drop 1 left → is_text before ≡ true
    → kept_from text before s ≡ kept_from text [] at
passed_line text text' before s left at same h next is =
    ap (λ t. kept_from t before s) (sym same) ∙ text_newline text' before s is (h.0 before) ∙ ap (λ t. kept_from t [] (drop 1 (after_blanks s))) same
    ∙ ap (λ u. kept_from text [] (drop 1 u)) (sym h.1) ∙ ap (kept_from text []) (sym next)

pub passed_end : (text text' : List ℕ) (s left at : List Spot) → text' ≡ text → PassesToken text' s false left → at ≡ drop 1 left → IsPassed text s at
passed_end text text' s left at same h next before (inl is) = passed_line text text' before s left at same h next is
passed_end text text' s left at same h next before (inr front) = absurd (begins_text-some text' s (ap begins_text front.2 ∙ front.1) (h.0 []))

pub line_less : (s left at : List Spot) → left ≡ after_blanks s → at ≡ drop 1 left → length at ≤ length s - 1
line_less s left at e next =
    let z = length-after_blanks s in let f : length left ≡ length (after_blanks s) = ap length e in
    let g : length at ≡ length left - 1 = ap length next ∙ length-drop 1 left in omega arith

-- ## A line whose front tells that it is dropped

pub blanks_kept : (text : List ℕ) (lines more : List Line) (start s : List Spot) → s ≡ after_blanks start → more ≡ lines ++ kept_from text [] s → more ≡ lines ++ kept_from text [] start
blanks_kept text lines more start s blanks h = h ∙ ap (λ u. lines ++ kept_from text [] u) blanks ∙ ap (λ u. lines ++ u) (kept_from-blanks text start)

pub blanks_less : (start s : List Spot) → s ≡ after_blanks start → length s ≤ length start
blanks_less start s e = let z = length-after_blanks start in let f : length s ≡ length (after_blanks start) = ap length e in omega arith

pub on_ok : {T E : Type 0} (r : Result T E) (P Q : Type 0) → (P → Q) → OnOk r P → OnOk r Q
on_ok (Ok x) P Q f h = f h
on_ok (Err x) P Q f h = h

pub front_passed : (text text' : List ℕ) (lines : List Line) (s at : List Spot) → text' ≡ text → after_blanks s ≡ s → begins_text s ≡ true → IsPassed text' s at
    → lines ++ kept_from text [] at ≡ lines ++ kept_from text [] s
front_passed text text' lines s at same blanks front line = ap (λ u. lines ++ u) (sym (subst (λ t. IsPassed t s at) same line [] (inr (refl, front, blanks))))

pub blanks_stop : (start s : List Spot) → s ≡ after_blanks start → after_blanks s ≡ s
blanks_stop start s e = ap after_blanks e ∙ after_blanks-twice start ∙ sym e
