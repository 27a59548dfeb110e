-- Cutting a view in two and joining two keeps the rule of the lock's table, and what the rule says at the end.
use Rattle.std.proofs.Common.{◌≡◌, ◌≢◌, ℕ, ◌+◌, ◌%◌, ◌^◌, ◌<◌, true, false, List, [], ◌∷◌, ◌++◌, length, set, Option, Some, sym, refl, ap, ◌∙◌, subst, inl, ⊎_elim, arith, length-set, length-append}
use mathlib.Core.Option.{some, none, some-injective, some-ne-none}
use mathlib.Core.Option as maybe
use mathlib.Core.Logic.{dite}
use native.Mathlib.Decide.{ℕ_discrete}
use lib.ListN.{get_elem?}
use Rattle.atomic_table.specs.Table.{State, Splits, Joins, Final, Seen}
use Rattle.atomic_table.proofs.Lists.{set_here, set_else, at_longer, at_last}
use Rattle.turn_lock.specs.declared.view.Mark.{Mark}
use Rattle.turn_lock.specs.declared.view.Stage.TheVariants.{Idle}
use Rattle.turn_lock.specs.declared.view.View.{View}
use Rattle.turn_lock.specs.Logs.{Fits, Grown}
use Rattle.turn_lock.specs.Views.{Each, total, ticket_count, ticket_of, view, spent, numbers_of, tickets_of, HasNumber}
use Rattle.turn_lock.specs.Rule.{Phase, fresh, at_home, out_with, MarkOk, home, PhaseOk, StageOk, SeatOk, Ruled}
use Rattle.turn_lock.proofs.MarkLemmas.{each_map, each_both, each_append, total_set, total_snoc, total_two, at_end, at_within, seats_stay, owned_set, has_left, has_right, has_some, distinct_append, put, put_here, put_else, moved, moved_here, moved_else}
use Rattle.turn_lock.proofs.StepsKept.{not_both, idles, apart_set}

module _ {T E : Type 0} (log_of : T → List E) (number_fixed : T → List ℕ) (maker : E → ℕ) (first : List E) (fixed : List ℕ) (passes : ℕ) where
  abbrev V : Type 0
  V = View E

  abbrev St : Type 0
  St = State (Option T) V

  abbrev Rule : St → Type 0
  Rule = Ruled log_of number_fixed maker first fixed passes

  -- where an idle seat changes, no other seat's part in the phase does
  phase_idle : (log : List E) (vs : List V) (p : Phase T) (id : ℕ) (old w : V) → get_elem? vs id ≡ some old → old.stage ≡ Idle → old.opening ≡ false → PhaseOk log_of number_fixed maker fixed log vs p → PhaseOk log_of number_fixed maker fixed log (set vs id w) p
  phase_idle log vs fresh id old w at idle shut (v, all, o, seen) =
      let at' : get_elem? (v ∷ []) id ≡ some old = ap (λ (z : List V). get_elem? z id) (sym all) ∙ at in
      let here : id ≡ 0 = (let l = at_within (v ∷ []) id old at' in omega arith) in
      let same : v ≡ old = some-injective v old (ap (get_elem? (v ∷ [])) (sym here) ∙ at') in
      not_both v.opening o (ap (λ (z : V). z.opening) same ∙ shut)
  phase_idle log vs (at_home x) id old w at idle shut k = k
  phase_idle log vs (out_with j) id old w at idle shut (v, t, there, st) = (
    v,
    t,
    set_else vs id j w (λ e. let same : v ≡ old = some-injective v old (sym there ∙ (ap (get_elem? vs) e ∙ at)) in
        not_both (idles old.stage) (ap idles idle) (ap (λ (z : V). idles z.stage) (sym same) ∙ ap idles st)) ∙ there,
    st,
  )

  phase_longer : (log : List E) (vs : List V) (p : Phase T) (w : V) → ((v : V) → vs ≡ v ∷ [] → v.opening ≡ true → ⊥) → PhaseOk log_of number_fixed maker fixed log vs p → PhaseOk log_of number_fixed maker fixed log (vs ++ w ∷ []) p
  phase_longer log vs fresh w shut (v, all, o, seen) = absurd (shut v all o)
  phase_longer log vs (at_home x) w shut k = k
  phase_longer log vs (out_with j) w shut (v, t, there, st) = (v, t, at_longer vs (w ∷ []) j v there, st)

  pub splits : (id : ℕ) (m : Mark E) (ms : List (Mark E)) → 0 < length ms → Splits Rule id (view (m ∷ ms) Idle false) (view ms Idle false) (view (m ∷ []) Idle false)
  splits id m ms more s r at =
      let v : V = view (m ∷ ms) Idle false in let left : V = view ms Idle false in let right : V = view (m ∷ []) Idle false in let n = length s.views in let owner = put r.owner m.number n in
      let vs = set s.views id left in let long : length vs ≡ n = length-set s.views id left in
      let mine = r.each_seat id v at in let own : r.owner m.number ≡ id = mine.marked.0.1 in
      let same : total tickets_of (vs ++ right ∷ []) ≡ total tickets_of s.views = (let a = total_set tickets_of s.views id v left at in let b = total_snoc tickets_of vs right in omega arith) in
      let sized : total numbers_of (vs ++ right ∷ []) ≡ total numbers_of s.views = (let a = total_set numbers_of s.views id v left at in let b = total_snoc numbers_of vs right in omega arith) in
      let K : ℕ → V → Type 0 = λ (j : ℕ) (d : V). SeatOk log_of number_fixed maker fixed passes r.turn (total tickets_of (vs ++ right ∷ [])) r.phase r.log owner (length (vs ++ right ∷ [])) j d in
      record {
        turn = r.turn;
        phase = r.phase;
        log = r.log;
        owner = owner;
        few = r.few;
        words_are = r.words_are ∙ ap (λ (z : ℕ). (r.turn + z) % 2 ^ 64 ∷ r.turn % 2 ^ 64 ∷ []) (sym same);
        homes_are = r.homes_are;
        all_marks = sized ∙ r.all_marks;
        owned = λ k l. dite (ℕ_discrete k m.number)
            (λ e. (right, ap (get_elem? (vs ++ right ∷ [])) (ap owner e ∙ put_here r.owner m.number n) ∙ at_last vs right n long, inl (sym e)))
            (λ other. let was = owned_set s.views id v left k (r.owner k) at (λ h. ⊎_elim (λ (e : m.number ≡ k). absurd (other (sym e))) (λ (t : HasNumber k ms). t) h) (r.owned k l) in
            (was.0, ap (get_elem? (vs ++ right ∷ [])) (put_else r.owner m.number n k other) ∙ at_longer vs (right ∷ []) (r.owner k) was.0 was.1, was.2));
        phase_ok = phase_longer r.log vs r.phase right
            (λ w all o. let t = ap (λ (z : List V). get_elem? z id) (sym all) ∙ set_here s.views id left (at_within s.views id v at) in
            let here : id ≡ 0 = (let l = at_within (w ∷ []) id left t in omega arith) in
            let is : w ≡ left = some-injective w left (ap (get_elem? (w ∷ [])) (sym here) ∙ t) in not_both w.opening o (ap (λ (z : V). z.opening) is))
            (phase_idle r.log s.views r.phase id v left at refl refl r.phase_ok);
        each_seat = λ j d e. ⊎_elim
            (λ (t : get_elem? vs j ≡ some d). seats_stay K s.views id left
            (record {
              marked = each_both (MarkOk maker fixed r.log passes r.owner id) (λ x. x.number ≢ m.number) (MarkOk maker fixed r.log passes owner id) (λ x ok other. (ok.0, put_else r.owner m.number n x.number other ∙ ok.1, ok.2, ok.3)) ms mine.marked.1 mine.distinct.0;
              distinct = mine.distinct.1;
              staged = tt;
              backed = omega arith;
              lone = λ _ h. absurd (omega arith);
              opens = λ o. not_both false o refl;
            })
            (λ j d other there. let theirs = r.each_seat j d there in record {
              marked = each_map (MarkOk maker fixed r.log passes r.owner j) (MarkOk maker fixed r.log passes owner j)
                  (λ x ok. (ok.0, put_else r.owner m.number n x.number (λ is. other (sym ok.1 ∙ (ap r.owner is ∙ own))) ∙ ok.1, ok.2, ok.3)) d.marks theirs.marked;
              distinct = theirs.distinct;
              staged = subst (λ (z : ℕ). StageOk log_of number_fixed maker r.turn z r.phase r.log j d.marks d.stage) (sym same) theirs.staged;
              backed = theirs.backed;
              lone = theirs.lone;
              opens = λ o. (let only = (theirs.opens o).0 in let a = at_within s.views id v at in let b = at_within s.views j d there in absurd (other (omega arith)));
            }) j d t)
            (λ (t : (j ≡ length vs) × (right ≡ d)). subst (λ (z : ℕ × V). K z.0 z.1) (λ i. ((sym long ∙ sym t.0) i, t.1 i)) (record {
              marked = ((mine.marked.0.0, put_here r.owner m.number n, mine.marked.0.2, mine.marked.0.3), tt);
              distinct = (tt, tt);
              staged = tt;
              backed = omega arith;
              lone = λ _ h. absurd (omega arith);
              opens = λ o. not_both false o refl;
            }))
            (at_end vs right d j e);
        apart = λ i j t a b ia jb ta tb. ⊎_elim
            (λ (p : get_elem? vs i ≡ some a). ⊎_elim (λ (q : get_elem? vs j ≡ some b). apart_set log_of number_fixed maker first fixed passes s.views id left (λ _ u _ _ _ _ z. some-ne-none u (sym z)) r.apart i j t a b p q ta tb)
            (λ (q : (j ≡ length vs) × (right ≡ b)). absurd (some-ne-none t (sym tb ∙ ap (λ (z : V). ticket_of z.stage) (sym q.1)))) (at_end vs right b j jb))
            (λ (p : (i ≡ length vs) × (right ≡ a)). absurd (some-ne-none t (sym ta ∙ ap (λ (z : V). ticket_of z.stage) (sym p.1)))) (at_end vs right a i ia);
        grown = r.grown;
      }

  pub joins : (id other : ℕ) (ms ns : List (Mark E)) → Joins Rule id (view ms Idle false) other (view ns Idle false) (view (ns ++ ms) Idle false) spent
  joins id other ms ns s r at apart at2 =
      let v : V = view ms Idle false in let w : V = view ns Idle false in let both : V = view (ns ++ ms) Idle false in
      let owner = moved r.owner other id in let vs = set s.views id both in let us = set vs other spent in
      let at' : get_elem? s.views other ≡ some w = sym (set_else s.views id other both apart) ∙ at2 in
      let mine = r.each_seat id v at in let theirs = r.each_seat other w at' in
      let long : length us ≡ length s.views = length-set vs other spent ∙ length-set s.views id both in
      let same : total tickets_of us ≡ total tickets_of s.views = (let a = total_set tickets_of s.views id v both at in let b = total_set tickets_of vs other w spent at2 in omega arith) in
      let sized : total numbers_of us ≡ total numbers_of s.views = (let a = total_set numbers_of s.views id v both at in let b = total_set numbers_of vs other w spent at2 in let c = length-append ns ms in omega arith) in
      let K : ℕ → V → Type 0 = λ (j : ℕ) (d : V). SeatOk log_of number_fixed maker fixed passes r.turn (total tickets_of us) r.phase r.log owner (length us) j d in
      record {
        turn = r.turn;
        phase = r.phase;
        log = r.log;
        owner = owner;
        few = r.few;
        words_are = r.words_are ∙ ap (λ (z : ℕ). (r.turn + z) % 2 ^ 64 ∷ r.turn % 2 ^ 64 ∷ []) (sym same);
        homes_are = r.homes_are;
        all_marks = sized ∙ r.all_marks;
        owned = λ k l. let was = r.owned k l in dite (ℕ_discrete (r.owner k) other)
            (λ e. let is : was.0 ≡ w = some-injective was.0 w (sym was.1 ∙ (ap (get_elem? s.views) e ∙ at')) in (
              both,
              ap (get_elem? us) (moved_here r.owner other id k e) ∙ (set_else vs other id spent (λ z. apart (sym z)) ∙ set_here s.views id both (at_within s.views id v at)),
              has_left k ns ms (subst (λ (z : V). HasNumber k z.marks) is was.2),
            ))
            (λ away. let now = owned_set s.views id v both k (r.owner k) at (λ h. has_right k ns ms h) was in
            (now.0, ap (get_elem? us) (moved_else r.owner other id k away) ∙ (set_else vs other (r.owner k) spent away ∙ now.1), now.2));
        phase_ok = phase_idle r.log vs r.phase other w spent at2 refl refl (phase_idle r.log s.views r.phase id v both at refl refl r.phase_ok);
        each_seat = seats_stay K vs other spent
            (record {
              marked = tt;
              distinct = tt;
              staged = tt;
              backed = omega arith;
              lone = λ _ h. absurd (omega arith);
              opens = λ o. not_both false o refl;
            })
            (λ j d far there. seats_stay (λ (j : ℕ) (d : V). j ≢ other → K j d) s.views id both
            (λ _. record {
              marked = each_append (MarkOk maker fixed r.log passes owner id) ns ms
                  (each_map (MarkOk maker fixed r.log passes r.owner other) (MarkOk maker fixed r.log passes owner id) (λ x ok. (ok.0, moved_here r.owner other id x.number ok.1, ok.2, ok.3)) ns theirs.marked)
                  (each_map (MarkOk maker fixed r.log passes r.owner id) (MarkOk maker fixed r.log passes owner id) (λ x ok. (ok.0, moved_else r.owner other id x.number (λ z. apart (sym z ∙ ok.1)) ∙ ok.1, ok.2, ok.3)) ms mine.marked);
              distinct = distinct_append (λ k. r.owner k ≡ other) (λ k. r.owner k ≡ id) (λ a b p q e. apart (sym p ∙ (ap r.owner (sym e) ∙ q))) ns ms
                  (each_map (MarkOk maker fixed r.log passes r.owner other) (λ x. r.owner x.number ≡ other) (λ x ok. ok.1) ns theirs.marked)
                  (each_map (MarkOk maker fixed r.log passes r.owner id) (λ x. r.owner x.number ≡ id) (λ x ok. ok.1) ms mine.marked)
                  theirs.distinct mine.distinct;
              staged = tt;
              backed = omega arith;
              lone = λ _ h. absurd (omega arith);
              opens = λ o. not_both false o refl;
            })
            (λ j d away there far. let hers = r.each_seat j d there in record {
              marked = each_map (MarkOk maker fixed r.log passes r.owner j) (MarkOk maker fixed r.log passes owner j) (λ x ok. (ok.0, moved_else r.owner other id x.number (λ z. far (sym ok.1 ∙ z)) ∙ ok.1, ok.2, ok.3)) d.marks hers.marked;
              distinct = hers.distinct;
              staged = subst (λ (z : ℕ). StageOk log_of number_fixed maker r.turn z r.phase r.log j d.marks d.stage) (sym same) hers.staged;
              backed = hers.backed;
              lone = hers.lone;
              opens = λ o. (long ∙ (hers.opens o).0, (hers.opens o).1);
            }) j d there far);
        apart = apart_set log_of number_fixed maker first fixed passes vs other spent (λ _ u _ _ _ _ z. some-ne-none u (sym z)) (apart_set log_of number_fixed maker first fixed passes s.views id both (λ _ u _ _ _ _ z. some-ne-none u (sym z)) r.apart);
        grown = r.grown;
      }

  abbrev Ended : V → List (Option T) → Type 0
  Ended v slots = (x : T) × (get_elem? slots 0 ≡ some (Some x)) × (number_fixed x ≡ fixed) × Each (λ m. Fits maker m.number m.seen (log_of x)) v.marks × Grown maker passes first (log_of x) × ((k : ℕ) → k < passes → HasNumber k v.marks)

  -- no other seat has a number
  alone : (s : St) (r : Rule s) (id j : ℕ) (v w : V) → get_elem? s.views id ≡ some v → get_elem? s.views j ≡ some w → length v.marks ≡ passes → 0 < length w.marks → j ≡ id
  alone s r id j v w at there all more = dite (ℕ_discrete j id) (λ e. e) (λ n. let h = total_two numbers_of s.views j id w v n there at in let a = r.all_marks in absurd (omega arith))

  by_phase : (s : St) (r : Rule s) (id : ℕ) (v : V) (slots : List (Option T)) → get_elem? s.views id ≡ some v → ((k : ℕ) (y : Option T) → get_elem? s.homes k ≡ some (some y) → get_elem? slots k ≡ some y)
      → v.stage ≡ Idle → v.opening ≡ false → length v.marks ≡ passes → (p : Phase T) → r.phase ≡ p → Ended v slots
  by_phase s r id v slots at kept idle shut all fresh is =
      let ok = subst (PhaseOk log_of number_fixed maker fixed r.log s.views) is r.phase_ok in
      let at' : get_elem? (ok.0 ∷ []) id ≡ some v = ap (λ (z : List V). get_elem? z id) (sym ok.1) ∙ at in
      let here : id ≡ 0 = (let l = at_within (ok.0 ∷ []) id v at' in omega arith) in
      let same : ok.0 ≡ v = some-injective ok.0 v (ap (get_elem? (ok.0 ∷ [])) (sym here) ∙ at') in
      not_both ok.0.opening ok.2 (ap (λ (z : V). z.opening) same ∙ shut)
  by_phase s r id v slots at kept idle shut all (at_home x) is =
      let both = subst (PhaseOk log_of number_fixed maker fixed r.log s.views) is r.phase_ok in let ok = both.0 in let home_is = r.homes_are ∙ ap (home log_of number_fixed maker) is in (
        x,
        kept 0 (Some x) (ap (λ (z : List (maybe.Option (Option T))). get_elem? z 0) home_is),
        both.1,
        each_map (MarkOk maker fixed r.log passes r.owner id) (λ m. Fits maker m.number m.seen (log_of x)) (λ m k. subst (Fits maker m.number m.seen) (sym ok) k.2) v.marks (r.each_seat id v at).marked,
        subst (Grown maker passes first) (sym ok) r.grown,
        λ k l. let was = r.owned k l in let here = alone s r id (r.owner k) v was.0 at was.1 all (has_some k was.0.marks was.2) in
            subst (λ (z : V). HasNumber k z.marks) (some-injective was.0 v (sym was.1 ∙ (ap (get_elem? s.views) here ∙ at))) was.2,
      )
  by_phase s r id v slots at kept idle shut all (out_with j) is =
      let ok = subst (PhaseOk log_of number_fixed maker fixed r.log s.views) is r.phase_ok in let one : ticket_count ok.0.stage ≡ 1 = ap ticket_count ok.3 in
      let here = alone s r id j v ok.0 at ok.2 all (let h = (r.each_seat j ok.0 ok.2).backed in omega arith) in
      let same : ok.0 ≡ v = some-injective ok.0 v (sym ok.2 ∙ (ap (get_elem? s.views) here ∙ at)) in
      not_both (idles v.stage) (ap idles idle) (ap (λ (z : V). idles z.stage) (sym same) ∙ ap idles ok.3)

  -- at the end: the seat with all the numbers knows the state
  pub closes : (id : ℕ) (v : V) (words : List ℕ) (slots : List (Option T)) → Final (Seen Rule id v) words slots → v.stage ≡ Idle → v.opening ≡ false → length v.marks ≡ passes → Ended v slots
  closes id v words slots f idle shut all = by_phase f.0 f.1.0 id v slots f.1.1 f.4 idle shut all f.1.0.phase refl
