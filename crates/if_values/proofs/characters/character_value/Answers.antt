use Rattle.std.proofs.Common.{ℕ, ◌+◌, ◌∙◌, sym, ap, drop}
use Rattle.std.specs.Prelude.{Some}
use Rattle.if_values.specs.Characters.{values, literal_bits}
use Rattle.if_values.proofs.CharacterLemmas.{char_value-none, char_value-read}
use Rattle.if_values.proofs.characters.character_value.Goals as goal

pub returns-in_err-found : goal.returns-in_err-found
returns-in_err-found c =
    let after = c.after.ensures ∙ ap (λ (n : ℕ). drop (n + 1) c.args.text.now) c.encoding_len-prefix.ensures in
    c.from_residual.ensures ∙ sym (char_value-none c.args.text.now c.after.result.now after c.in_err-found.ensures.read)

pub returns-in_err-bits : goal.returns-in_err-bits
returns-in_err-bits c =
    let s = c.args.text.now in
    let prefix = c.encoding_len-prefix.ensures in
    let after = c.after.ensures ∙ ap (λ (n : ℕ). drop (n + 1) s) prefix in
    let found = values c.in_ok-found.found in
    c.from_residual-in_err-bits.ensures ∙ sym (char_value-read s c.after.result.now found _ after c.in_ok-found.ensures.read (c.in_err-bits.ensures ∙ ap (λ (n : ℕ). literal_bits n found) prefix))

pub returns : goal.returns
returns c =
    let s = c.args.text.now in
    let prefix = c.encoding_len-prefix.ensures in
    let after = c.after.ensures ∙ ap (λ (n : ℕ). drop (n + 1) s) prefix in
    let found = values c.in_ok-found.found in
    rw c.signed.ensures (sym (char_value-read s c.after.result.now found (Some c.in_ok-bits.bits) after c.in_ok-found.ensures.read (c.in_ok-bits.ensures ∙ ap (λ (n : ℕ). literal_bits n found) prefix)))
