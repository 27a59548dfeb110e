use Rattle.std.proofs.Common.{◌∙◌}
use Rattle.byte_keys.proofs.MapLemmas.{put_changes_one}
use Rattle.file_source.proofs.plain_source.put_text.Goals as goal

pub returns : goal.returns
returns c =
    let u = c.in_ok-insert.ensures.updates in
    put_changes_one c.args.file.path c.in_ok-key.key.items c.args.file.text c.args.texts.now.entries c.insert.new.self.entries (c.in_ok-key.ensures.items ∙ c.as_slice.ensures.value) u.1 u.3
