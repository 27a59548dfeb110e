use Rattle.std.proofs.Common.{◌≡◌, ◌+◌, ◌<◌, length, slice_get, get_or, refl, subst, sym, ◌∙◌, ap, arith}
use Rattle.std.specs.Prelude.{Some}
use Rattle.std.proofs.lemmas.Option.{slice_get_read}
use Rattle.scan_model.specs.Lines.{kept}
use Rattle.scan_model.specs.WholeUnit.{setting_text}
use Rattle.unit_steps.proofs.SettingLines.{setting_keeps}
use Rattle.unit_scan.specs.Taking.{ActsOutside, SettingActs}
use Rattle.unit_scan.proofs.Taking.{ok_map}
use Rattle.unit_scan.proofs.begun.act_setting.Goals.{In_ok-lines}
use Rattle.unit_scan.proofs.begun.act_setting.Goals as goal

read : (c : In_ok-lines) → c.in_ok-lines.lines ≡ kept (setting_text c.index-as_slice-k.result)
read c = c.in_ok-lines.ensures ∙ ap kept (c.deref.ensures.value ∙ c.in_ok-text.ensures)

there : (c : In_ok-lines) → slice_get c.args.scan.now.command.now.settings c.args.k ≡ Some c.index-as_slice-k.result
there c =
    let is = subst (λ z. c.index-as_slice-k.result ≡ get_or z c.args.k c.index-as_slice-k.result) c.as_slice.ensures c.index-as_slice-k.is in
    slice_get_read c.args.scan.now.command.now.settings (length c.args.scan.now.command.now.settings) c.args.k c.index-as_slice-k.result refl c.requires.there is

pub act_outside-requires-clause-some : goal.act_outside-requires-clause-some
act_outside-requires-clause-some c =
    subst (λ z. 0 < length z) (sym (read (goal.at.act_outside-requires-clause-some c).In_ok-lines ∙ (setting_keeps c.index-as_slice-k.result).1.1.1.0)) (omega arith)

pub returns : goal.returns
returns c =
    let command = c.args.scan.now.command.now in
    let here = (goal.at.returns c).In_ok-lines in
    ok_map (λ action. ActsOutside c.in_ok-lines.lines (c.args.k + 1) command.dialect c.args.state.now c.act_outside.new.state action) (λ action. SettingActs command c.args.k c.args.state.now c.act_outside.new.state action) c.act_outside.result
    (λ action acts. (c.index-as_slice-k.result, (there here, subst (λ z. ActsOutside z (c.args.k + 1) command.dialect c.args.state.now c.act_outside.new.state action) (read here) acts)))
    c.act_outside.ensures
