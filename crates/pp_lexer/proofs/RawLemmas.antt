-- A raw string between two cursors.
use Rattle.std.proofs.Common.{◌≡◌, ℕ, ◌-◌, ◌≤◌, List, ap, sym, ◌∙◌, inl, inr, take, drop, length, arith}
use Rattle.std.proofs.lemmas.Bool.{cases_lt, cond_both}
use Rattle.line_splice.specs.declared.cursor.Cursor.{Cursor}
use Rattle.line_splice.specs.Cursor.{rest}
use Rattle.lexeme_reader.specs.declared.raw.RawParts.{RawParts}
use Rattle.lexeme_reader.specs.Fronts.{line}
use Rattle.lexeme_reader.specs.Raws.{suffix_len}
use Rattle.scan_model.specs.Spliced.{Spot}
use Rattle.scan_model.specs.Spelling.{is_name, longest}
use Rattle.scan_model.proofs.LongestLemmas.{longest_le}
use Rattle.pp_lexer.specs.Reads.{passed, IsAhead}
use Rattle.pp_lexer.proofs.UnquotedLemmas.{line_ahead}

-- some bytes further on the same line, or none
ahead : (at : Cursor) (n : ℕ) (new : List Spot) → n ≤ length (line (rest at)) → new ≡ drop n (rest at) → (IsAhead (rest at) new) × (passed (rest at) new ≡ take n (rest at))
ahead at n new le is = elim (cases_lt 0 (length (line (rest at)))) [
  | inl some ↦ line_ahead at n new some le is
  | inr none ↦
      let s = rest at in
      let zero_len : n ≡ 0 = omega arith in
      let same : new ≡ s = is ∙ ap (λ k. drop k s) zero_len in
      let count : length s - length new ≡ 0 = let z : length new ≡ length s = ap length same in omega arith in
      ((λ e. sym same ∙ e, same ∙ ap (λ k. drop k s) (sym count)), ap (λ k. take k s) (count ∙ sym zero_len))
]

suffix_le : (parts : RawParts) → suffix_len parts ≤ length (line (rest parts.suffix))
suffix_le parts = cond_both parts.closed (longest is_name (line (rest parts.suffix))) 0 (λ n. n ≤ length (line (rest parts.suffix))) (λ e. longest_le is_name (line (rest parts.suffix))) (λ e. omega arith)

pub suffix_ahead : (parts : RawParts) (new : List Spot) → new ≡ drop (suffix_len parts) (rest parts.suffix)
    → (IsAhead (rest parts.suffix) new) × (passed (rest parts.suffix) new ≡ take (suffix_len parts) (rest parts.suffix))
suffix_ahead parts new is = ahead parts.suffix (suffix_len parts) new (suffix_le parts) is
