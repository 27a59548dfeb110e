use Rattle.std.proofs.Common.{◌≡◌, ◌++◌, drop}
use Rattle.std.specs.Option.{option_map}
use Rattle.line_actions.specs.Names.{spelled_rest}
use Rattle.line_actions.proofs.header_names.push_to_angle.Given as goal

-- what is spelled of the rest, behind what is written, is what all tokens spell behind what was there
abbrev pub invariant-toks : goal.invariant-toks
invariant-toks l = option_map (l.name.items ++◌) (spelled_rest (drop l.tok-index l.toks)) ≡ option_map (l.fn.name.items ++◌) (spelled_rest l.toks)
