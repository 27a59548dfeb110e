use Rattle.if_values.proofs.KnownLemmas.{known-row}
use Rattle.if_values.proofs.known_tokens.KnownTokens.pass_row.Goals as goal

pub invariant_of-self : goal.invariant_of-self
invariant_of-self c = rw (c.split_at.ensures.back, c.row_len.ensures.value) (known-row c.self.inside.toks.now c.self.inside.has.now c.self.invariant).entries

pub returns-clause-row : goal.returns-clause-row
returns-clause-row c =
    let all = known-row c.self.inside.toks.now c.self.inside.has.now c.self.invariant in
    rw (← c.self.view_is, c.split_at.ensures.front, c.split_at.ensures.back, c.row_len.ensures.value) all.row

pub returns-clause-all : goal.returns-clause-all
returns-clause-all c =
    let all = known-row c.self.inside.toks.now c.self.inside.has.now c.self.invariant in
    rw (c.split_at.ensures.front, c.row_len.ensures.value) all.all

pub returns-clause-ended : goal.returns-clause-ended
returns-clause-ended c =
    let all = known-row c.self.inside.toks.now c.self.inside.has.now c.self.invariant in
    rw (c.split_at.ensures.back, c.row_len.ensures.value) all.ended
