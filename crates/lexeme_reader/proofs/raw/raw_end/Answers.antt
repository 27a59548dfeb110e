use Rattle.std.proofs.Common.{◌≡◌, ℕ, length-take, ◌+◌, ◌-◌, ◌∙◌, ap, take, drop, length, length-drop, Some, arith}
use Rattle.std.proofs.lemmas.List.{drop-drop, take_rest}
use Rattle.lexeme_reader.proofs.DelimiterLemmas.{delimiter_short}
use Rattle.lexeme_reader.proofs.RawStringLemmas.{raw_after}
use Rattle.lexeme_reader.proofs.raw.raw_end.Goals as goal

pub close-requires : goal.close-requires
close-requires c = let n = c.args.len in
    omega (arith, delimiter_short (drop c.args.start c.args.text.now) n c.requires.delimiter, length-take {A = ℕ})

pub returns-in-Some : goal.returns-in-Some
returns-in-Some c = let t = c.args.text.now in let a = c.args.start in let n = c.args.len in
    let d : (a + n) - a ≡ n = omega arith in
    let rest = take_rest t (a + n + 1) in (
      omega arith,
      omega (arith, c.in-Some.ensures.0, ap length rest, length-drop (a + n + 1) t, length-drop a t, c.requires.delimiter.within),
      raw_after t _ _ a n c.requires.delimiter (ap (λ k. take k (drop a t)) d) rest ∙ c.in-Some.ensures.1 ∙ ap (λ u. Some (drop c.in-Some.taken u)) rest
          ∙ ap Some (drop-drop c.in-Some.taken (a + n + 1) t),
    )

pub returns-in-None : goal.returns-in-None
returns-in-None c = let t = c.args.text.now in let a = c.args.start in let n = c.args.len in
    let d : (a + n) - a ≡ n = omega arith in
    raw_after t _ _ a n c.requires.delimiter (ap (λ k. take k (drop a t)) d) (take_rest t (a + n + 1)) ∙ c.in-None.ensures
