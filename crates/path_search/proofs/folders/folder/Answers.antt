use Rattle.std.proofs.Common.{◌≡◌, rules}
use Rattle.scan_model.specs.Paths.{folder}
use Rattle.path_search.proofs.FolderLemmas.{IsNormal-folder}
use Rattle.path_search.proofs.folders.folder.Goals as goal

pub of_normal-requires : goal.of_normal-requires
of_normal-requires c =
    let e : c.in_ok-copy.field-0 ≡ folder c.args.path.now = search rules in
    rw e (IsNormal-folder c.args.path.now (search rules))
