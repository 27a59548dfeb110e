use Rattle.std.proofs.Common.{◌≡◌, ◌∙◌, ap, sym, subst, inr, Some}
use Rattle.cache_machine.specs.Steps.{Read, act}
use Rattle.shard_cache.specs.Rows.{change_at, asked_also, shard_number, LacksPath}
use Rattle.scheduler.proofs.moving.read.Goals as goal

pub returns-clause-read : goal.returns-clause-read
returns-clause-read g c =
    let core = c.args.core.now in
    let row = c.in_ok-row.row in
    let read = c.in_ok-row.ensures in
    inr (record {
      row = row;
      want = c.requires.wanted;
      path = c.wanted-path.ensures ∙ ap Some (sym read.path);
      may = record {
        fits = read.fits;
        lacks = subst (λ z. LacksPath c.args.store.now z) (sym read.path) (rw c.in_default.is at c.in_ok-told.ensures.known);
      };
      moved = c.hold-2.ensures.machine ∙ ap (λ z. act core.jobs core.settings core.machine (Read c.args.worker z)) read.told;
      held = c.hold-2.ensures.held;
      store = subst (λ z. c.read_path.new.store ≡ change_at (asked_also z) (shard_number z) c.args.store.now) (sym read.path) read.ok;
      given = read.given;
      valid = read.valid;
    })
