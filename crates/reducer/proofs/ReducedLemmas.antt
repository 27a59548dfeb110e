-- What a reduced text keeps of its lines.
use Rattle.std.proofs.Common.{◌≡◌, ℕ, ◌+◌, ◌≤◌, ◌<◌, List, [], ◌∷◌, All, subst, refl, ap, sym, ◌∙◌, map, take, drop, get_or, slice_get, length, length-take, arith, Option, Some, None}
use Rattle.std.specs.Option.{option_map, option_map_or}
use Rattle.std.proofs.lemmas.List.Elements.{All-get_or}
use Rattle.std.proofs.lemmas.List.{length-map, get_or-take, get_or-drop}
use Rattle.std.proofs.lemmas.Option.{slice_get_within, slice_get_read, slice_get-map, slice_get-get_or, get_or_from_slice_get}
use Rattle.scan_model.specs.declared.token.Tok.{Tok}
use Rattle.scan_model.specs.declared.token.Line.{Line}
use Rattle.reducer.specs.declared.flat.TokRecord.{TokRecord}
use Rattle.reducer.specs.declared.flat.LineRecord.{LineRecord}
use Rattle.reducer.specs.FlatLines.{tok_of, line_of, lines_of}
use Rattle.scan_model.specs.Utf8Names.{HasUtf8Name}
use Rattle.reducer.specs.ReducedLines.{AreOrdered, AreReduced, toks_of}

-- each line takes a number
pub length-ordered : (from : ℕ) (lines : List Line) → from ≤ 33554434 → AreOrdered from lines → from + length lines ≤ 33554434
length-ordered from [] small o = omega arith
length-ordered from (l ∷ ls) small o = let more = length-ordered l.next ls o.2 o.3 in omega (arith, more, o.0, o.1)

-- what holds of each element holds of one that is got
pub all_at : {X : Type 0} (P : X → Type 0) (xs : List X) (k : ℕ) (x : X) → All P xs → slice_get xs k ≡ Some x → P x
all_at P xs k x all e = subst P (get_or_from_slice_get xs k x x e) (All-get_or P xs k x (slice_get_within xs k x e) all)

pub utf8_at : (lines : List Line) (k i : ℕ) (t : Tok) → AreReduced lines → slice_get (toks_of lines k) i ≡ Some t → HasUtf8Name t
utf8_at lines k i t r e = by (slice_get lines k) refl e where
  by : (o : Option Line) → slice_get lines k ≡ o → slice_get (option_map_or (λ line. line.toks) o []) i ≡ Some t → HasUtf8Name t
  by None at e = cc
  by (Some line) at e = all_at HasUtf8Name line.toks i t (all_at (λ (line : Line). All HasUtf8Name line.toks) lines k line r.utf8 at) e

-- ## A token by its places

pub tok_at : (spelled : List ℕ) (toks : List TokRecord) (lines : List LineRecord) (k i : ℕ) (l : LineRecord) (r : TokRecord) (shown : Tok) → k < length (lines_of spelled toks lines)
    → i < length (toks_of (lines_of spelled toks lines) k) → l ≡ get_or lines k l → r ≡ get_or toks (l.start + i) r → shown ≡ tok_of spelled l.line r
    → slice_get (toks_of (lines_of spelled toks lines) k) i ≡ Some shown
tok_at spelled toks lines k i l r shown in_lines in_toks l_is r_is is =
    let f = tok_of spelled l.line in
    let rs = take l.count (drop l.start toks) in
    let within : k < length lines = omega (arith, in_lines, length-map lines (line_of spelled toks)) in
    let line : slice_get (lines_of spelled toks lines) k ≡ Some (line_of spelled toks l) =
    slice_get-map (line_of spelled toks) lines k ∙ ap (option_map (line_of spelled toks)) (slice_get_read lines (length lines) k l refl within l_is) in
    let here : toks_of (lines_of spelled toks lines) k ≡ map f rs = ap (λ o. option_map_or (λ line. line.toks) o []) line in
    let in_map : i < length (map f rs) = subst (λ ts. i < length ts) here in_toks in
    let in_rs : i < length rs = omega (arith, in_map, length-map rs f) in
    let in_count : i < l.count = omega (arith, in_rs, length-take l.count (drop l.start toks)) in
    let read : get_or rs i r ≡ r = get_or-take l.count (drop l.start toks) i r in_count ∙ get_or-drop l.start toks i r ∙ sym r_is in
    ap (λ ts. slice_get ts i) here ∙ slice_get-map f rs i ∙ ap (option_map f) (slice_get-get_or rs i r in_rs ∙ ap Some read) ∙ ap Some (sym is)
