use Rattle.std.proofs.Common.{◌∙◌, ap, sym, nat_lt, drop, arith}
use Rattle.std.proofs.lemmas.Bool.{lt-ltb}
use Rattle.line_splice.specs.Cursor.{rest}
use Rattle.scan_model.specs.Spelling.{is_header, longest}
use Rattle.scan_model.specs.Tokens.{bytes}
use Rattle.lexeme_reader.specs.Fronts.{line}
use Rattle.lexeme_reader.proofs.SpotLemmas.{length-bytes}
use Rattle.lexeme_reader.proofs.LineLemmas.{length-rest_of_line}
use Rattle.lexeme_reader.proofs.HeaderLemmas.{enclosed_empty, enclosed_open, enclosed_found, enclosed_some}
use Rattle.lexeme_reader.proofs.header.pass_enclosed.Goals as goal

pub returns-then-second_byte-close-clause-value : goal.returns-then-second_byte-close-clause-value
returns-then-second_byte-close-clause-value c = sym (ap (nat_lt 0) (enclosed_empty (rest c.args.at.now) c.args.close c.requires (sym c.second_byte.ensures ∙ c.if-second_byte-close.true)))

pub returns-then-second_byte-close-clause-rest : goal.returns-then-second_byte-close-clause-rest
returns-then-second_byte-close-clause-rest c = let s = rest c.args.at.now in ap (λ k. drop k s) (sym (enclosed_empty s c.args.close c.requires (sym c.second_byte.ensures ∙ c.if-second_byte-close.true)))

pub pass_bytes-requires : goal.pass_bytes-requires
pass_bytes-requires c = let s = rest c.args.at.now in omega (arith, enclosed_some s c.args.close c.requires, length-rest_of_line (bytes s), length-bytes s)

pub returns-then-not-pass_closing-clause-value : goal.returns-then-not-pass_closing-clause-value
returns-then-not-pass_closing-clause-value c = sym (ap (nat_lt 0) (enclosed_open (rest c.args.at.now) (rest c.pass_bytes.new.at) c.args.close c.requires c.pass_bytes.ensures.rest c.if-not-pass_closing.ensures.found))

pub returns-then-not-pass_closing-clause-rest : goal.returns-then-not-pass_closing-clause-rest
returns-then-not-pass_closing-clause-rest c = let s = rest c.args.at.now in
    ap (λ k. drop k s) (sym (enclosed_open s (rest c.pass_bytes.new.at) c.args.close c.requires c.pass_bytes.ensures.rest c.if-not-pass_closing.ensures.found))

pub returns-clause-value : goal.returns-clause-value
returns-clause-value c = let s = rest c.args.at.now in
    sym (lt-ltb 0 (longest is_header (line s)) (enclosed_found s (rest c.pass_bytes.new.at) (rest c.pass_closing.new.at) c.args.close c.requires (λ e. c.if-second_byte-close.false (c.second_byte.ensures ∙ e)) c.pass_bytes.ensures.rest c.if-not-pass_closing.ensures.found).some)

pub returns-clause-rest : goal.returns-clause-rest
returns-clause-rest c = let s = rest c.args.at.now in
    (enclosed_found s (rest c.pass_bytes.new.at) (rest c.pass_closing.new.at) c.args.close c.requires (λ e. c.if-second_byte-close.false (c.second_byte.ensures ∙ e)) c.pass_bytes.ensures.rest c.if-not-pass_closing.ensures.found).left
