use Rattle.std.proofs.Common.{◌≡◌, true, false, ap, sym, ◌∙◌, [], ◌∷◌}
use Rattle.scan_model.specs.declared.token.Tok.{Tok}
use Rattle.scan_model.specs.Spelling.{is_one_of}
use Rattle.scan_model.specs.Conditionals.{is_skipped}
use Rattle.scan_model.specs.KeywordLines.{module_line}
use Rattle.scan_model.specs.Directives.{directive_of}
use Rattle.scan_model.specs.DirectiveLines.{effect}
use Rattle.reducer.specs.Views.{view}
use Rattle.plain_lines.specs.States.{groups_of, core_of}
use Rattle.plain_lines.specs.Lines.{toks_at, line_of}
use Rattle.plain_lines.proofs.ActLemmas.{if_ok, acts_as, acts_nothing}
use Rattle.line_actions.proofs.DispatchLemmas.{by_hash, effect_hash, effect_skipped, effect_module, effect_nothing, hash_first}
use Rattle.line_actions.proofs.line_action.act.Goals as goal
use Rattle.std.specs.Prelude.{drop}

pub returns-in-None-clause-ok : goal.returns-in-None-clause-ok
returns-in-None-clause-ok c = let at = c.args.at.now in let file = c.args.file.now in let unit = c.args.unit.now in
    acts_nothing at (λ files setup c'. effect files setup c' (line_of at)) file unit
    (λ files setup d entered looked. effect_nothing files setup at (core_of at.path.now entered looked file unit) c.in-None.ensures)

pub returns-then-is_hash-clause-ok : goal.returns-then-is_hash-clause-ok
returns-then-is_hash-clause-ok c = let at = c.args.at.now in let file = c.args.file.now in let unit = c.args.unit.now in
    let hash = hash_first (λ (t : Tok). is_one_of ("#" ∷ "%:" ∷ []) t.text) (toks_at at) (view c.in-Some.first) (drop 1 (toks_at at)) true c.in-Some.ensures (sym c.if-is_hash.ensures) in
    if_ok _ _ c.hash_line.result
    (λ action h. acts_as at (λ files setup c'. effect files setup c' (line_of at)) (by_hash at (directive_of at.dialect (drop 1 (toks_at at)))) file unit c.hash_line.new.file c.hash_line.new.unit action
    (λ files setup d entered looked. effect_hash files setup at (core_of at.path.now entered looked file unit) d hash)
    h)
    c.hash_line.ensures.ok

pub returns-then-is_skipped-clause-ok : goal.returns-then-is_skipped-clause-ok
returns-then-is_skipped-clause-ok c = let at = c.args.at.now in let file = c.args.file.now in let unit = c.args.unit.now in
    let other = hash_first (λ (t : Tok). is_one_of ("#" ∷ "%:" ∷ []) t.text) (toks_at at) (view c.in-Some.first) (drop 1 (toks_at at)) false c.in-Some.ensures (sym c.if-is_hash.ensures) in
    let skipped : is_skipped (groups_of file.groups.items) ≡ true = ap (λ gs. is_skipped (groups_of gs)) (sym c.deref.ensures.value) ∙ sym c.if-is_skipped.ensures in
    acts_nothing at (λ files setup c'. effect files setup c' (line_of at)) file unit
    (λ files setup d entered looked. effect_skipped files setup at (core_of at.path.now entered looked file unit) other skipped)

pub returns-else-is_skipped-clause-ok : goal.returns-else-is_skipped-clause-ok
returns-else-is_skipped-clause-ok c = let at = c.args.at.now in let file = c.args.file.now in let unit = c.args.unit.now in
    let other = hash_first (λ (t : Tok). is_one_of ("#" ∷ "%:" ∷ []) t.text) (toks_at at) (view c.in-Some.first) (drop 1 (toks_at at)) false c.in-Some.ensures (sym c.if-is_hash.ensures) in
    let live : is_skipped (groups_of file.groups.items) ≡ false = ap (λ gs. is_skipped (groups_of gs)) (sym c.deref.ensures.value) ∙ sym c.if-is_skipped.ensures in
    if_ok _ _ c.module_line.result
    (λ action h. acts_as at (λ files setup c'. effect files setup c' (line_of at)) (λ files setup c'. module_line c' (line_of at) (toks_at at)) file unit c.module_line.new.file c.module_line.new.unit action
    (λ files setup d entered looked. effect_module files setup at (core_of at.path.now entered looked file unit) other live)
    h)
    c.module_line.ensures.ok
