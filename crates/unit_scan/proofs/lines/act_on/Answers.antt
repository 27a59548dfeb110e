use Rattle.std.proofs.Common.{◌<◌, length, subst, sym, arith, refl}
use Rattle.unit_scan.proofs.Acting.{ordered_few, next_line}
use Rattle.unit_scan.proofs.lines.act_on.Goals as goal

pub overflow_add-file : goal.overflow_add-file
overflow_add-file c =
    let few = ordered_few 1 c.in-Some.lines.now c.line.ensures.valid.ordered (omega arith) in
    let next = subst (λ z. c.args.file.now.next < length z) (sym c.in-Some.ensures) c.requires.next in
    omega (arith, few, next)

pub returns-clause-acts : goal.returns-clause-acts
returns-clause-acts c = (
  record { lines = c.in-Some.lines; place = c.args.file.now.next; head = c.line.result; path = c.path_at.result; dialect = c.args.scan.now.command.now.dialect },
  (
    record {
      line = next_line _ c.args.file.now.next c.in-Some.lines.now c.line.result c.in-Some.ensures c.line.ensures.head;
      path = c.path_at.ensures;
      edition = refl;
    },
    c.in_ok-action.ensures.ok,
  ),
)
