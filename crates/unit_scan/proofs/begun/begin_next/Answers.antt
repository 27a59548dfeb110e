use Rattle.std.proofs.Common.{◌≤◌, length, subst}
use Rattle.unit_scan.specs.Parts.{setup_of}
use Rattle.unit_scan.proofs.Beginning.{settings_end, main_seeks, record_follows}
use Rattle.unit_scan.proofs.begun.begin_next.Goals as goal

pub returns-else-k-as_slice-clause-next : goal.returns-else-k-as_slice-clause-next
returns-else-k-as_slice-clause-next c =
    settings_end (setup_of c.args.scan.now) c.args.run.now c.requires.running c.requires.none c.in-Settings.k c.in-Settings.is
    (subst (λ z. length z ≤ c.in-Settings.k) c.as_slice.ensures c.if-k-as_slice.false)

pub returns-else-k-as_slice-2-clause-next : goal.returns-else-k-as_slice-2-clause-next
returns-else-k-as_slice-2-clause-next c =
    main_seeks (setup_of c.args.scan.now) c.args.run.now c.requires.running c.requires.none c.in-Forced.k c.in-Forced.is
    (subst (λ z. length z ≤ c.in-Forced.k) c.as_slice-in-Forced.ensures c.if-k-as_slice-2.false)

pub returns-in-Nothing-clause-next : goal.returns-in-Nothing-clause-next
returns-in-Nothing-clause-next c = record_follows (setup_of c.args.scan.now) c.args.run.now c.requires.running c.requires.none c.in-Nothing.is
