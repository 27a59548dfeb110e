use Rattle.std.proofs.Common.{ℕ, ◌<◌, ◌∙◌, List, length, Some, sym, ap, arith}
use Rattle.scan_model.specs.declared.command.Form.{Form}
use Rattle.scan_model.specs.TokenTests.{unquoted}
use Rattle.scan_model.specs.HeaderName.{form_of}
use Rattle.line_actions.proofs.NameLemmas.{header_named, no_header}
use Rattle.line_actions.proofs.header_names.header_or_name.Goals as goal

pub returns : goal.returns
returns c = let some : 0 < length c.args.toks.now = grind (arith, c.if-is_empty.ensures) in
    rw (no_header c.args.toks.now c.index-toks-0.result some c.index-toks-0.is (sym c.if-is_header.ensures)) c.name_of.ensures

pub returns-then-is_header : goal.returns-then-is_header
returns-then-is_header c = let some : 0 < length c.args.toks.now = grind (arith, c.if-is_empty.ensures) in
    let named : List ℕ → Form × List ℕ = λ text. (form_of text, unquoted text) in
    ap (λ n. Some n) (c.in_ok-header_name.ensures ∙ ap named c.as_slice.ensures) ∙ sym (header_named c.args.toks.now c.index-toks-0.result some c.index-toks-0.is (sym c.if-is_header.ensures))
