use Rattle.std.proofs.Common.{refl, ap, ◌∙◌, if◌then◌else◌, arith}
use Rattle.line_splice.specs.Cursor.{rest}
use Rattle.scan_model.specs.Spliced.{line_at}
use Rattle.pp_lexer.specs.Lexemes.{spelling_of}
use Rattle.pp_lexer.specs.Reads.{is_nil}
use Rattle.reducer.specs.Building.{open_toks}
use Rattle.reducer.proofs.OpenLemmas.{has_token}
use Rattle.reducer.proofs.RoomLemmas.{place_small, room_pushed}
use Rattle.reducer.proofs.open_lines.OpenLines.push.Goals as goal

pub push_cut-requires-clause-room : goal.push_cut-requires-clause-room
push_cut-requires-clause-room c = omega (arith, c.requires.room.bytes, c.requires.taken.1, place_small c.args.text.now c.args.to.now c.requires.to)

pub returns-clause-room : goal.returns-clause-room
returns-clause-room c =
    let from = rest c.args.from.now in
    room_pushed c.args.self.now _ c.args.text.now (spelling_of c.args.text.now c.args.found.spelling from (rest c.args.to.now)) _ from (rest c.args.to.now) c.requires.room c.requires.taken c.in_ok-start.ensures.grown c.in_ok-push_tok.ensures

pub returns-clause-token : goal.returns-clause-token
returns-clause-token c =
    let b = c.args.self.now in
    let from = rest c.args.from.now in
    has_token b _ (spelling_of c.args.text.now c.args.found.spelling from (rest c.args.to.now))
    (record { kind = c.args.found.kind; space = c.args.space; start = c.in_ok-start.start; len = c.in_ok-start.len }) (line_at c.args.text.now from) c.requires.sound
    (record {
      spelled_is = c.in_ok-start.ensures.grown;
      toks_is = c.in_ok-push_tok.ensures;
      lines_is = refl;
      bytes_is = refl;
      count_is = refl;
      start_is = c.in_ok-start.ensures.start;
      len_is = c.in_ok-start.ensures.len;
    })
    (c.line_after-self.ensures ∙ ap (λ first. if first then c.line.result else b.line) c.is_empty-is_first.ensures
    ∙ ap (λ here. if is_nil (open_toks b) then here else b.line) (c.line.ensures.value ∙ ap (λ t. line_at t from) c.requires.from))
