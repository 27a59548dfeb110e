use Rattle.std.proofs.Common.{◌∙◌, ap, sym, not, ◌&&◌, nat_eq, Some, ◌≡◌, length, length-drop, drop, arith}
use Rattle.line_splice.specs.Cursor.{rest}
use Rattle.scan_model.specs.Spelling.{after_items}
use Rattle.lexeme_reader.specs.Fronts.{line}
use Rattle.lexeme_reader.proofs.AlongLemmas.{along_more, along_further, along_shorter, byte_at-positive, along_end, line-newline, line-none}
use Rattle.lexeme_reader.proofs.QuotedLemmas.{items_close, items_more, items_end}
use Rattle.lexeme_reader.proofs.quoted.pass_items.Goals as goal

pub returns-then-byte-eq10-clause-items : goal.returns-then-byte-eq10-clause-items
returns-then-byte-eq10-clause-items c = let s = rest c.items.at in let i = c.items.invariant in
    let none = line-newline s c.in-Some.byte (sym c.peek.ensures.value ∙ c.in-Some.is) c.if-byte-eq10.true in
    (sym i.items ∙ ap (after_items c.args.quote c.items.escaped) none ∙ items_end c.args.quote c.items.escaped, along_end (rest c.args.at.now) s i.along none)

pub returns-then-escaped-byte-clause-items : goal.returns-then-escaped-byte-clause-items
returns-then-escaped-byte-clause-items c = let s = rest c.items.at in let i = c.items.invariant in let q = c.args.quote in let e = c.items.escaped in
    let here = sym c.peek.ensures.value ∙ c.in-Some.is in (
      along_more (rest c.args.at.now) s (rest c.advance.new.self) c.in-Some.byte i.along here c.if-byte-eq10.false c.advance.ensures.rest,
      sym i.items ∙ items_close q e s c.in-Some.byte here c.if-byte-eq10.false c.if-escaped-byte.true ∙ ap (λ t. Some (line t)) (sym c.advance.ensures.rest),
    )

pub items-preserved : goal.items-preserved
items-preserved c = let s = rest c.items.at in let i = c.items.invariant in let q = c.args.quote in let e = c.items.escaped in
    let here = sym c.peek.ensures.value ∙ c.in-Some.is in
    let next = not e && nat_eq c.in-Some.byte 92 in record {
      same = c.pass_inside.ensures.text ∙ c.advance.ensures.text ∙ i.same;
      along = along_further (rest c.args.at.now) (rest c.advance.new.self) (rest c.pass_inside.new.at)
          (along_more (rest c.args.at.now) s (rest c.advance.new.self) c.in-Some.byte i.along here c.if-byte-eq10.false c.advance.ensures.rest) c.pass_inside.ensures.along;
      items = sym c.pass_inside.ensures.items ∙ ap (λ t. after_items q next (line t)) c.advance.ensures.rest
          ∙ sym (items_more q e s c.in-Some.byte here c.if-byte-eq10.false c.if-escaped-byte.false) ∙ i.items;
    }

pub items-smaller : goal.items-smaller
items-smaller c = let s = rest c.items.at in let b = rest c.advance.new.self in
    let e : length b ≡ length (drop 1 s) = ap length c.advance.ensures.rest in
    let some = byte_at-positive s c.in-Some.byte (sym c.peek.ensures.value ∙ c.in-Some.is) in
    omega (arith, along_shorter b (rest c.pass_inside.new.at) c.pass_inside.ensures.along, e, some, length-drop 1 s)

pub returns-clause-items : goal.returns-clause-items
returns-clause-items c = let s = rest c.items.at in let i = c.items.invariant in
    let none = line-none s (sym c.peek.ensures.value ∙ c.in_default.is) in
    (sym i.items ∙ ap (after_items c.args.quote c.items.escaped) none ∙ items_end c.args.quote c.items.escaped, along_end (rest c.args.at.now) s i.along none)
