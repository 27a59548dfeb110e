use Rattle.std.proofs.Common.{◌≡◌, ℕ, ◌+◌, ◌<◌, List, length, get_or, drop, fold, sym, ap, ◌∙◌, arith}
use Rattle.std.proofs.lemmas.Iterator.{YieldsList-from_chars}
use Rattle.std.proofs.lemmas.List.{at_drop_more, at_drop_all, length_push}
use Rattle.std.proofs.lemmas.Iterator.Consumers.{YieldsList-turn, YieldsList-end}
use Rattle.std.specs.Str.{chars}
use Rattle.command_words.specs.Splitting.{Split, seen, step, split_to_end}
use Rattle.command_words.proofs.splitting.split_text.Goals as goal

-- one more character is taken
fold_next : (s : Split) (cs : List ℕ) (n c : ℕ) → (n < length cs) × (c ≡ get_or cs n c) → fold step s (drop n cs) ≡ fold step (step s c) (drop (n + 1) cs)
fold_next s cs n c h = at_drop_more (fold step s) cs n c h.0 ∙ ap (λ x. fold step (step s x) (drop (n + 1) cs)) (sym h.1)

pub characters-preserved : goal.characters-preserved
characters-preserved c =
    let t = YieldsList-turn (YieldsList-from_chars c.args.text.now c.utf8.text cc) c.characters.yielded _ c.characters.yielded_by _ _ c.in-Some.c c.in-Some.is c.next.ensures.steps in
    let more = fold_next (seen c.characters.splitter) (chars c.args.text.now) (length c.characters.yielded) c.in-Some.c t in
    let longer = length_push c.characters.yielded c.in-Some.c in
    rw (longer, c.in_ok-take.ensures) (sym more ∙ c.characters.invariant)

pub returns : goal.returns
returns c =
    let t = YieldsList-end (YieldsList-from_chars c.args.text.now c.utf8.text cc) c.characters.yielded _ c.characters.yielded_by _ _ c.in-None.is c.next.ensures.steps in
    sym (at_drop_all (fold step (seen c.characters.splitter)) (chars c.args.text.now) (length c.characters.yielded) (omega (arith, t.1))) ∙ c.characters.invariant
