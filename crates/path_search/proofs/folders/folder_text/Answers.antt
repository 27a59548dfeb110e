use Rattle.std.proofs.Common.{◌∙◌, sym}
use Rattle.path_search.proofs.FolderLemmas.{folder_found, folder_not_found}
use Rattle.path_search.proofs.folders.folder_text.Goals as goal

pub returns-in-None : goal.returns-in-None
returns-in-None c = folder_not_found c.args.path.now (sym c.in-None.ensures.found)

pub returns-in-Some : goal.returns-in-Some
returns-in-Some c = c.or_root.ensures ∙ folder_found c.args.path.now c.in-Some.front.now (sym c.in-Some.ensures.found) c.in-Some.ensures.front
