use Rattle.std.proofs.Common.{◌≡◌, ◌<◌, [], length, get_or, drop, refl, sym, ap, subst, ◌∙◌, arith}
use Rattle.std.specs.Prelude.{vec_capacity}
use Rattle.std.proofs.lemmas.List.{take_all, drop_all, length-set, length_push}
use Rattle.shared_cache.specs.Hands.{HaveOneMore}
use Rattle.shared_cache.proofs.HandsLemmas.{with_passes, front_same, gets_next}
use Rattle.shared_cache.proofs.parts.deal.Goals as goal

pub loop-pass-init : goal.loop-pass-init
loop-pass-init g c =
    let row = c.args.row.items in let hands = c.args.hands.now in let n = length row in let same = c.requires.count in
    record {
      long = refl;
      within = omega arith;
      capacity = refl;
      kept = sym (take_all n row (omega arith));
      left = refl;
      dealt = subst (λ z. HaveOneMore z (drop n row) z) (sym (drop_all n hands (omega arith))) (subst (λ z. HaveOneMore [] z []) (sym (drop_all n row (omega arith))) tt);
    }

pub push_reserved-requires : goal.push_reserved-requires
push_reserved-requires g c =
    let now = c.loop-pass.hands in let was = c.args.hands.now in let n = c.len-number.result in let inv = c.loop-pass.invariant in
    let hand = get_or now n c.index-hands-number.result in
    let count = c.len-number.ensures in let ok = c.pop.new.self.ok.0 in let within = inv.within in let same_count = c.requires.count in
    let shorter = ap length c.in-Some.ensures.items ∙ length_push c.pop.new.self.items c.in-Some.pass in
    let same = front_same n (length c.loop-pass.row.items) now was hand (omega arith) inv.left (ap (λ z. get_or now n z) c.index-hands-number.is) in
    let place = subst (λ h. length h.passes.items < vec_capacity h.passes) (sym same) (c.requires.places n hand (omega arith)) in
    let all = hand.passes.ok.0 in
    omega arith

pub loop-pass-preserved : goal.loop-pass-preserved
loop-pass-preserved g c =
    let now = c.loop-pass.hands in let was = c.args.hands.now in let n = c.len-number.result in let inv = c.loop-pass.invariant in
    let hand = get_or now n c.index-hands-number.result in
    let cut = c.in-Some.ensures.items in
    let shorter = ap length cut ∙ length_push c.pop.new.self.items c.in-Some.pass in
    let short : n ≡ length c.pop.new.self.items = (let count = c.len-number.ensures in let ok = c.pop.new.self.ok.0 in omega arith) in
    let within = inv.within in let push = c.push_reserved.ensures in
    let got = gets_next n now was c.args.row.items c.loop-pass.row.items c.pop.new.self.items hand c.push_reserved.new.self c.in-Some.pass inv.long c.requires.count (ap (λ z. get_or now n z) c.index-hands-number.is)
    cut short within inv.kept inv.left inv.dealt (push.items, refl, push.capacity) in
    record {
      long = length-set now n (with_passes hand c.push_reserved.new.self) ∙ inv.long;
      within = omega arith;
      capacity = c.pop.ensures.capacity ∙ inv.capacity;
      kept = got.2;
      left = got.1;
      dealt = got.0;
    }

pub returns : goal.returns
returns g c =
    let was = c.args.hands.now in let row = c.args.row.items in let inv = c.loop-pass.invariant in
    let cases = c.in_default.ensures.cases in let full = c.loop-pass.row.ok.0 in let empty = c.pop.new.self.ok.0 in
    let none : length c.loop-pass.row.items ≡ 0 = (let a = cases.0 in omega arith) in
    subst (λ m. HaveOneMore (drop m was) (drop m row) (drop m c.loop-pass.hands)) none inv.dealt
