use Rattle.std.specs.Prelude.{reverse, drop}
use Rattle.unit_scan.proofs.Tops.{top_there}
use Rattle.unit_scan.proofs.faults.current_path.Goals as goal

pub path_at-requires : goal.path_at-requires
path_at-requires c = top_there c.args.log.now c.args.stack.now c.top.result.now (drop 1 (reverse c.args.stack.now)) c.top.ensures c.requires
