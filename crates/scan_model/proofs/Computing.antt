-- One name to unfold where a proof computes with the definitions.
use Rattle.std.specs.Char.{encode_utf8}
use Rattle.std.specs.Str.{is_utf8, chars}
use Rattle.scan_model.specs.Spliced.{shown, spliced}
use Rattle.scan_model.specs.Spelling.{is_start, is_continue, is_name, is_alternative, is_ident, is_number, after_items, is_quoted, after_word, is_delimited, after_raw, is_raw, is_punct, is_header, longest}
use Rattle.scan_model.specs.Tokens.{rest_of_line, next_blank, after_blanks, wants_header, is_open, is_lone_less, raw_lexeme, lexeme, next_token}
use Rattle.scan_model.specs.Lines.{tok, lines_from, lines, is_directive, kept}

-- `unfolding reading` lets `refl` compute lines on ASCII texts
unfoldable pub reading : Unit {0}
unfolding encode_utf8 is_utf8 chars shown spliced is_start is_continue is_name is_alternative is_ident is_number after_items is_quoted after_word is_delimited after_raw is_raw is_punct is_header longest rest_of_line next_blank after_blanks wants_header is_open is_lone_less raw_lexeme lexeme next_token tok lines_from lines is_directive kept
reading = tt
