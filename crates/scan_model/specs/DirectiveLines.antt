-- What a line that is a directive does ([cpp.pre]).
use Rattle.std.specs.Prelude.{if◌then◌else◌, List, [], ◌∷◌, drop}
use Rattle.scan_model.specs.declared.token.Tok.{Tok}
use Rattle.scan_model.specs.declared.token.Line.{Line}
use Rattle.scan_model.specs.Spelling.{is_one_of}
use Rattle.scan_model.specs.Files.{FileMap}
use Rattle.scan_model.specs.State.{Setup, Core}
use Rattle.scan_model.specs.Effect.{Effect, Now}
use Rattle.scan_model.specs.Conditionals.{is_skipped}
use Rattle.scan_model.specs.Directives.{hash_line, directive_of}
use Rattle.scan_model.specs.KeywordLines.{module_line}

abbrev pub effect_of : {X : Type 0} → FileMap X → Setup → Core → Line → List Tok → Effect X
effect_of files setup c l [] = Now c
effect_of files setup c l (t ∷ ts) =
    let hash = hash_line files setup c l (drop 1 ts) (directive_of setup.command.dialect ts) in
    let other = module_line c l (t ∷ ts) in
    if is_one_of ("#" ∷ "%:" ∷ []) t.text then hash else if is_skipped c.stack then Now c else other

-- what a line that is a directive does
unfoldable pub effect : {X : Type 0} → FileMap X → Setup → Core → Line → Effect X
effect files setup c l = effect_of files setup c l l.toks
