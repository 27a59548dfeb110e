-- A line without `>`.
use Rattle.std.proofs.Common.{◌≡◌, ℕ, zero, suc, ◌+◌, ◌<◌, ◌≤◌, Bool, true, false, cond, ◌&&◌, List, [], ◌∷◌, refl, ap, sym, ◌∙◌, subst, inl, inr, drop, length, arith, Some}
use Rattle.std.proofs.lemmas.Bool.{cases_lt}
use Rattle.std.proofs.lemmas.List.{drop-drop, drop_all}
use Rattle.std.specs.List.{prefix_len}
use Rattle.line_splice.specs.declared.cursor.Cursor.{Cursor}
use Rattle.line_splice.specs.Cursor.{rest}
use Rattle.scan_model.specs.declared.token.Tok.{Tok}
use Rattle.scan_model.specs.Spliced.{Spot, byte_at, place_at}
use Rattle.scan_model.specs.Spelling.{is_header, longest}
use Rattle.scan_model.specs.Tokens.{bytes, wants_header, lexeme}
use Rattle.scan_model.proofs.BlankLemmas.{EndOf}
use Rattle.scan_model.proofs.RestLemmas.{rest_of_line-nil}
use Rattle.lexeme_reader.specs.Fronts.{line}
use Rattle.lexeme_reader.specs.Headers.{len_before}
use Rattle.lexeme_reader.proofs.AlongLemmas.{line-cons, line-drop}
use Rattle.lexeme_reader.proofs.LineLemmas.{is_one_line-rest_of_line}
use Rattle.lexeme_reader.proofs.HeaderLemmas.{Before, header_missing}
use Rattle.pp_lexer.specs.declared.lexeme.Found.{Found}
use Rattle.pp_lexer.specs.Lexemes.{GivesLexeme}
use Rattle.pp_lexer.specs.Brackets.{HasNoClosing, IsBare}
use Rattle.pp_lexer.proofs.PlaceLemmas.{place_later}
use Rattle.pp_lexer.proofs.PassingLemmas.{wants_header-nil}

-- what passes a test to the end does so from any place on
all_pass-drop : (p : ℕ → Bool) (n : ℕ) (s : List ℕ) → prefix_len p s ≡ length s → prefix_len p (drop n s) ≡ length (drop n s)
all_pass-drop p zero s h = h
all_pass-drop p (suc n) [] h = refl
all_pass-drop p (suc n) (x ∷ s) h = elim (p x) as (λ b. cond b (1 + prefix_len p s) 0 ≡ suc (length s) → prefix_len p (drop n s) ≡ length (drop n s)) [
  | true ↦ λ e. all_pass-drop p n s (omega arith)
  | false ↦ λ e. absurd (omega arith)
] h

no_closing_nil : (s : List Spot) → s ≡ [] → HasNoClosing s
no_closing_nil s none = let z : line s ≡ [] = ap line none ∙ rest_of_line-nil in ap (len_before 62) z ∙ sym (ap length z)

no_closing-drop : (n : ℕ) (s : List Spot) → n ≤ length (line s) → HasNoClosing s → HasNoClosing (drop n s)
no_closing-drop n s within h = let e = line-drop s n within in ap (len_before 62) e ∙ all_pass-drop _ n (line s) h ∙ sym (ap length e)

-- at the newline of a line on which none came
pub bare_line : (at : Cursor) (text : List ℕ) (now : List Spot) → Before 62 (rest at) now → line now ≡ [] → HasNoClosing (rest at) → IsBare (place_at text now) text (rest at)
bare_line at text now b none closing n before =
    let s = rest at in
    elim (cases_lt n (length s)) [
      | inr past ↦ no_closing_nil (drop n s) (drop_all n s past)
      | inl within ↦ elim (cases_lt b.len n) [
        | inl later ↦
            let k = place_later at b.len n text later within in
            let here : place_at text now ≡ place_at text (drop b.len s) = ap (place_at text) b.left in
            absurd (omega (arith, k, here, before))
        | inr front ↦ no_closing-drop n s (omega (arith, b.within, front)) closing
      ]
    ]

-- ## No header name

pub no_header : (s : List Spot) → byte_at s ≡ Some 60 → HasNoClosing s → longest is_header (line s) ≡ 0
no_header s here closing =
    let t = line (drop 1 s) in
    let cons : line s ≡ 60 ∷ t = line-cons s 60 here (λ e. cc) in
    let none : len_before 62 (60 ∷ t) ≡ length (60 ∷ t) = ap (len_before 62) (sym cons) ∙ closing ∙ ap length cons in
    ap (longest is_header) cons ∙ header_missing 60 62 t refl (is_one_line-rest_of_line (bytes (drop 1 s))) (λ some. omega (arith, none))

no_wants : (b : Bool) → (b && false) ≡ false
no_wants true = refl
no_wants false = refl

-- where none stands, it is as if none were wanted
pub unwanted_lexeme : (text : List ℕ) (before : List Tok) (s : List Spot) → longest is_header (line s) ≡ 0 → lexeme text before s ≡ lexeme text [] s
unfolding lexeme
unwanted_lexeme text before s h = rw (h, no_wants (wants_header before), no_wants (wants_header [])) refl

pub found_lexeme : (text : List ℕ) (before : List Tok) (s after : List Spot) (found : Found) (may_be : Bool) → wants_header before ≡ true → (may_be ≡ false → longest is_header (line s) ≡ 0)
    → ((b : List Tok) → wants_header b ≡ may_be → GivesLexeme text (lexeme text b s) found s after) → GivesLexeme text (lexeme text before s) found s after
found_lexeme text before s after found true wants none gives = gives before wants
found_lexeme text before s after found false wants none gives = unwanted_lexeme text before s (none refl) ∙ gives [] wants_header-nil

-- ## As the cursor moves on

pub bare-end : (end : ℕ) (text : List ℕ) (s t : List Spot) → EndOf s t → IsBare end text s → IsBare end text t
bare-end end text s t e h n before =
    let here : drop n t ≡ drop (e.0 + n) s = ap (drop n) e.1 ∙ drop-drop n e.0 s in
    subst HasNoClosing (sym here) (h (e.0 + n) (subst (λ u. place_at text u < end) here before))

pub bare_none : (text : List ℕ) (s : List Spot) → IsBare 0 text s
bare_none text s n before = absurd (omega (arith, before))
