-- Each step of the lock keeps the rule of its table.
use Rattle.std.proofs.Common.{◌≡◌, ◌≢◌, ◌⊎◌, ℕ, zero, suc, ◌+◌, ◌-◌, ◌%◌, ◌^◌, ◌<◌, ◌≤◌, Bool, true, false, List, [], ◌∷◌, ◌++◌, map, length, set, slice_index, slice_set, All, Option, Some, None, sym, refl, ap, ◌∙◌, subst, inl, inr, ⊎_elim, arith, length-set, le_refl}
use Rattle.std.proofs.Math.Nat.{mod-add-mod}
use mathlib.Core.Option.{some, none, some-injective, some-ne-none}
use mathlib.Core.Option as maybe
use mathlib.Core.Logic.{dite}
use native.Mathlib.Decide.{ℕ_discrete}
use lib.ListN.{get_elem?}
use lib.Seq.{set-get_or}
use Rattle.atomic_table.specs.Table.{State, Me, step, keeps, takes, gives, stepped, Act, put_back, rest, carried_after, Valid, Allows}
use Rattle.atomic_table.proofs.Lists.{at_set, set_here, set_else, set_again, one_turn}
use Rattle.turn_lock.specs.declared.view.Mark.{Mark}
use Rattle.turn_lock.specs.declared.view.Stage.{Stage}
use Rattle.turn_lock.specs.declared.view.Stage.TheVariants.{Idle, Waits, Turn}
use Rattle.turn_lock.specs.declared.view.View.{View}
use Rattle.turn_lock.specs.Logs.{Fits, Grown}
use Rattle.turn_lock.specs.Views.{Each, total, ticket_count, ticket_of, mark, view, numbers_of, tickets_of, HasNumber, Distinct, told}
use Rattle.turn_lock.specs.Rule.{Phase, fresh, at_home, out_with, MarkOk, home, PhaseOk, MayOpen, StageOk, SeatOk, Ruled}
use Rattle.turn_lock.specs.Steps.{ticket_drawn, TurnComes, turn_loaded, next_served}
use Rattle.turn_lock.proofs.TurnLemmas.{Ends, carried_or}
use Rattle.turn_lock.proofs.MarkLemmas.{each_map, total_set, total_le, total_one, at_within, seats_stay, owned_set, fits_more, grown_more, told_length, told_distinct, told_seen, told_has, told_marked}

abbrev turn_or : ℕ → Stage → ℕ
turn_or d Idle = d
turn_or d (Waits t) = t
turn_or d (Turn t) = t

abbrev pub idles : Stage → Bool
idles Idle = true
idles (Waits t) = false
idles (Turn t) = false

abbrev waits : Stage → Bool
waits Idle = false
waits (Waits t) = true
waits (Turn t) = false

pub not_both : {A : Type 0} (b : Bool) → b ≡ true → b ≡ false → A
not_both b t f = absurd (Rattle.std.proofs.Common.true≢false (sym t ∙ f))

module _ {T E : Type 0} (log_of : T → List E) (number_fixed : T → List ℕ) (maker : E → ℕ) (first : List E) (fixed : List ℕ) (passes : ℕ) where
  abbrev V : Type 0
  V = View E

  abbrev St : Type 0
  St = State (Option T) V

  abbrev M : Type 0
  M = Me (Option T) V

  abbrev Rule : St → Type 0
  Rule = Ruled log_of number_fixed maker first fixed passes

  -- what a step of another seat leaves of a stage
  stage_more : (turn count : ℕ) (p : Phase T) (log : List E) (seat : ℕ) (ms : List (Mark E)) (st : Stage) → StageOk log_of number_fixed maker turn count p log seat ms st → StageOk log_of number_fixed maker turn (count + 1) p log seat ms st
  stage_more turn count p log seat ms Idle k = tt
  stage_more turn count p log seat ms (Waits t) k = let a = k.0 in let b = k.1 in (a, omega arith)
  stage_more turn count p log seat ms (Turn t) k = (k.0, omega arith, k.2, k.3)

  within : (turn count : ℕ) (p : Phase T) (log : List E) (seat : ℕ) (ms : List (Mark E)) (st : Stage) (t : ℕ) → StageOk log_of number_fixed maker turn count p log seat ms st → ticket_of st ≡ some t → (turn ≤ t) × (t < turn + count)
  within turn count p log seat ms Idle t k e = absurd (some-ne-none t (sym e))
  within turn count p log seat ms (Waits u) t k e = let a = k.0 in let b = k.1 in let s : u ≡ t = some-injective u t e in (omega arith, omega arith)
  within turn count p log seat ms (Turn u) t k e = let a = k.0 in let b = k.1 in let s : u ≡ t = some-injective u t e in (omega arith, omega arith)

  phase_set : (log : List E) (vs : List V) (p : Phase T) (id : ℕ) (old w : V) → get_elem? vs id ≡ some old → w.opening ≡ old.opening → w.marks ≡ old.marks → ((t : ℕ) → old.stage ≡ Turn t → w.stage ≡ Turn t)
      → PhaseOk log_of number_fixed maker fixed log vs p → PhaseOk log_of number_fixed maker fixed log (set vs id w) p
  phase_set log vs fresh id old w at opens marks turns (v, all, o, seen) =
      let at' : get_elem? (v ∷ []) id ≡ some old = ap (λ (z : List V). get_elem? z id) (sym all) ∙ at in
      let here : id ≡ 0 = (let l = at_within (v ∷ []) id old at' in omega arith) in
      let same : v ≡ old = some-injective v old (ap (get_elem? (v ∷ [])) (sym here) ∙ at') in (
        w,
        ap (λ (z : List V). set z id w) all ∙ ap (λ (z : ℕ). set (v ∷ []) z w) here,
        opens ∙ (ap (λ (z : V). z.opening) (sym same) ∙ o),
        subst (Each (λ m. m.seen ≡ log)) (ap (λ (z : V). z.marks) same ∙ sym marks) seen,
      )
  phase_set log vs (at_home x) id old w at opens marks turns k = k
  phase_set log vs (out_with j) id old w at opens marks turns (v, t, there, st) = dite (ℕ_discrete j id)
      (λ e. let same : v ≡ old = some-injective v old (sym there ∙ (ap (get_elem? vs) e ∙ at)) in
      (w, t, ap (get_elem? (set vs id w)) e ∙ set_here vs id w (at_within vs id old at), turns t (ap (λ (z : V). z.stage) (sym same) ∙ st)))
      (λ other. (v, t, set_else vs id j w other ∙ there, st))

  abbrev pub Apart : List V → Type 0
  Apart vs = (i j t : ℕ) (v w : V) → get_elem? vs i ≡ some v → get_elem? vs j ≡ some w → ticket_of v.stage ≡ some t → ticket_of w.stage ≡ some t → i ≡ j

  pub apart_set : (vs : List V) (id : ℕ) (w : V) → ((j t : ℕ) (d : V) → j ≢ id → get_elem? vs j ≡ some d → ticket_of d.stage ≡ some t → ticket_of w.stage ≡ some t → ⊥) → Apart vs → Apart (set vs id w)
  apart_set vs id w clash old i j t a b ia jb ta tb =
      ⊎_elim (λ (p : (i ≡ id) × (w ≡ a)).
      ⊎_elim (λ (q : (j ≡ id) × (w ≡ b)). p.0 ∙ sym q.0)
      (λ (q : (j ≢ id) × (get_elem? vs j ≡ some b)). absurd (clash j t b q.0 q.1 tb (ap (λ (z : V). ticket_of z.stage) p.1 ∙ ta)))
      (at_set vs id j w b jb))
      (λ (p : (i ≢ id) × (get_elem? vs i ≡ some a)).
      ⊎_elim (λ (q : (j ≡ id) × (w ≡ b)). absurd (clash i t a p.0 p.1 ta (ap (λ (z : V). ticket_of z.stage) q.1 ∙ tb)))
      (λ (q : (j ≢ id) × (get_elem? vs j ≡ some b)). old i j t a b p.1 q.1 ta tb)
      (at_set vs id j w b jb))
      (at_set vs id i w a ia)

  -- no more seats have a ticket_of than there are passes
  few_held : (s : St) (r : Rule s) → total tickets_of s.views ≤ 64
  few_held s r = let h = total_le tickets_of numbers_of s.views (λ i x e. (r.each_seat i x e).backed) in let a = r.all_marks in let f = r.few in omega arith

  pub draws : (slots id : ℕ) (me : M) → me.0.stage ≡ Idle → 0 < length me.0.marks → (me.0.opening ≡ false → length me.0.marks ≡ 1) → Allows Rule slots id me 0 (λ n. (n + 1) % 2 ^ 64) (ticket_drawn log_of number_fixed maker (step slots 0 1 0 none) me)
  draws slots id me idle some_marks single s r wide at small =
      let count = total tickets_of s.views in let t = r.turn + count in let v = me.0 in let w : V = view v.marks (Waits t) v.opening in
      let mine = r.each_seat id v at in let none_held : ticket_count v.stage ≡ 0 = ap ticket_count idle in
      let more : total tickets_of (set s.views id w) ≡ count + 1 = (let h = total_set tickets_of s.views id v w at in omega arith) in
      let sized : total numbers_of (set s.views id w) ≡ total numbers_of s.views = (let h = total_set numbers_of s.views id v w at in omega arith) in
      let found : slice_index s.words 0 ≡ t % 2 ^ 64 = ap (λ (z : List ℕ). slice_index z 0) r.words_are in (
        w,
        keeps,
        tt,
        record {
          turn = r.turn;
          phase = r.phase;
          log = r.log;
          owner = r.owner;
          few = r.few;
          words_are = ap (λ (z : List ℕ). slice_set z 0 ((slice_index z 0 + 1) % 2 ^ 64)) r.words_are
              ∙ ap (λ (z : ℕ). z ∷ r.turn % 2 ^ 64 ∷ []) (mod-add-mod t (2 ^ 64) 1 ∙ ap (λ (z : ℕ). z % 2 ^ 64) (let h = more in omega arith));
          homes_are = r.homes_are;
          all_marks = sized ∙ r.all_marks;
          owned = λ k l. owned_set s.views id v w k (r.owner k) at (λ h. h) (r.owned k l);
          phase_ok = phase_set r.log s.views r.phase id v w at refl refl (λ u e. not_both (idles v.stage) (ap idles idle) (ap idles e)) r.phase_ok;
          each_seat = seats_stay (λ (j : ℕ) (d : V). SeatOk log_of number_fixed maker fixed passes r.turn (total tickets_of (set s.views id w)) r.phase r.log r.owner (length (set s.views id w)) j d) s.views id w
              (record {
                marked = mine.marked;
                distinct = mine.distinct;
                staged = (omega arith, (let h = more in omega arith));
                backed = omega arith;
                lone = λ o _. single o;
                opens = subst (λ (z : ℕ). v.opening ≡ true → (z ≡ 1) × MayOpen log_of number_fixed maker r.phase) (sym (length-set s.views id w)) mine.opens;
              })
              (λ j d other there. let theirs = r.each_seat j d there in record {
                marked = theirs.marked;
                distinct = theirs.distinct;
                staged = subst (λ (z : ℕ). StageOk log_of number_fixed maker r.turn z r.phase r.log j d.marks d.stage) (sym more) (stage_more r.turn count r.phase r.log j d.marks d.stage theirs.staged);
                backed = theirs.backed;
                lone = theirs.lone;
                opens = subst (λ (z : ℕ). d.opening ≡ true → (z ≡ 1) × MayOpen log_of number_fixed maker r.phase) (sym (length-set s.views id w)) theirs.opens;
              });
          apart = apart_set s.views id w (λ j u d other there a b. let in_time = within r.turn count r.phase r.log j d.marks d.stage u (r.each_seat j d there).staged a in
              let is : t ≡ u = some-injective t u b in let z = in_time.1 in omega arith) r.apart;
          grown = r.grown;
        },
        (t, found, refl),
      )

  -- a step that changes nothing
  unmoved : (s : St) (r : Rule s) (i id : ℕ) (me : M) → get_elem? s.views id ≡ some me.0 → Rule (stepped s i (slice_index s.words i) id me.1 me.0 keeps)
  unmoved s r i id me at = subst Rule (λ k. record { words = sym (set-get_or s.words i 0) k; homes = s.homes; views = sym (set_again s.views id me.0 at) k }) r

  -- where a seat's turn has come, no other has it
  others_wait : (s : St) (r : Rule s) (id t : ℕ) (me : M) → get_elem? s.views id ≡ some me.0 → me.0.stage ≡ Waits t → t ≡ r.turn → (j : ℕ) (d : V) → j ≢ id → get_elem? s.views j ≡ some d
      → (st : Stage) → d.stage ≡ st → StageOk log_of number_fixed maker r.turn (total tickets_of s.views) (out_with id) r.log j d.marks st
  others_wait s r id t me at is now j d other there Idle e = tt
  others_wait s r id t me at is now j d other there (Waits u) e = let a = subst (StageOk log_of number_fixed maker r.turn (total tickets_of s.views) r.phase r.log j d.marks) e (r.each_seat j d there).staged in (a.0, a.1)
  others_wait s r id t me at is now j d other there (Turn u) e = let a = subst (StageOk log_of number_fixed maker r.turn (total tickets_of s.views) r.phase r.log j d.marks) e (r.each_seat j d there).staged in
      absurd (other (r.apart j id t d me.0 there at (ap ticket_of e ∙ ap some (a.0 ∙ sym now)) (ap ticket_of is)))

  -- the seat whose turn it is takes the slot, and its marks become those of ms
  takes_turn : (s : St) (r : Rule s) (id t : ℕ) (me : M) (ms : List (Mark E)) (y : Option T) → get_elem? s.views id ≡ some me.0 → me.0.stage ≡ Waits t → t ≡ r.turn → s.homes ≡ some y ∷ []
      → length ms ≡ length me.0.marks → ((k : ℕ) → HasNumber k me.0.marks → HasNumber k ms) → Each (MarkOk maker fixed r.log passes r.owner id) ms → Distinct ms → Each (λ m. m.seen ≡ r.log) ms
      → Rule (stepped s 1 (slice_index s.words 1) id me.1 (view ms (Turn t) me.0.opening) (takes 0 y))
  takes_turn s r id t me ms y at st now home_is long has marked distinct seen =
      let count = total tickets_of s.views in let v = me.0 in let w : V = view ms (Turn t) v.opening in let mine = r.each_seat id v at in
      let one : ticket_count v.stage ≡ 1 = ap ticket_count st in
      let same : total tickets_of (set s.views id w) ≡ count = (let h = total_set tickets_of s.views id v w at in omega arith) in
      let some_held : 0 < count = (let a = subst (StageOk log_of number_fixed maker r.turn count r.phase r.log id v.marks) st mine.staged in let b = a.1 in omega arith) in
      record {
        turn = r.turn;
        phase = out_with id;
        log = r.log;
        owner = r.owner;
        few = r.few;
        words_are = set-get_or s.words 1 0 ∙ (r.words_are ∙ ap (λ (z : ℕ). (r.turn + z) % 2 ^ 64 ∷ r.turn % 2 ^ 64 ∷ []) (sym same));
        homes_are = ap (λ (z : List (maybe.Option (Option T))). slice_set z 0 none) home_is;
        all_marks = (let h = total_set numbers_of s.views id v w at in omega arith) ∙ r.all_marks;
        owned = λ k l. owned_set s.views id v w k (r.owner k) at (has k) (r.owned k l);
        phase_ok = (w, t, set_here s.views id w (at_within s.views id v at), refl);
        each_seat = seats_stay (λ (j : ℕ) (d : V). SeatOk log_of number_fixed maker fixed passes r.turn (total tickets_of (set s.views id w)) (out_with id) r.log r.owner (length (set s.views id w)) j d) s.views id w
            (record {
              marked = marked;
              distinct = distinct;
              staged = (now, (let h = same in omega arith), refl, seen);
              backed = (let h = mine.backed in omega arith);
              lone = λ o _. long ∙ mine.lone o (omega arith);
              opens = λ o. (length-set s.views id w ∙ (mine.opens o).0, tt);
            })
            (λ j d other there. let theirs = r.each_seat j d there in record {
              marked = theirs.marked;
              distinct = theirs.distinct;
              staged = subst (λ (z : ℕ). StageOk log_of number_fixed maker r.turn z (out_with id) r.log j d.marks d.stage) (sym same)
                  (others_wait s r id t me at st now j d other there d.stage refl);
              backed = theirs.backed;
              lone = theirs.lone;
              opens = λ o. (length-set s.views id w ∙ (theirs.opens o).0, tt);
            });
        apart = apart_set s.views id w (λ j u d other there a b. other (r.apart j id u d v there at a (ap ticket_of st ∙ b))) r.apart;
        grown = r.grown;
      }

  abbrev Loaded : St → ℕ → M → Type 0
  Loaded s id me = (w : V) × (a : Act (Option T)) × Valid s.homes me.1 a × Rule (stepped s 1 (slice_index s.words 1) id me.1 w a)
      × turn_loaded log_of number_fixed maker (step 1 1 0 0 none) me (slice_index s.words 1) (w, carried_after me.1 a)

  -- the turn has come, by where the state is
  comes : (s : St) (r : Rule s) (id t : ℕ) (me : M) → get_elem? s.views id ≡ some me.0 → me.0.stage ≡ Waits t → t ≡ r.turn → slice_index s.words 1 ≡ t % 2 ^ 64 → (p : Phase T) → r.phase ≡ p → Loaded s id me
  comes s r id t me at st now hit fresh is =
      let mine = r.each_seat id me.0 at in let ok = subst (PhaseOk log_of number_fixed maker fixed r.log s.views) is r.phase_ok in let home_is = r.homes_are ∙ ap (home log_of number_fixed maker) is in
      let at' : get_elem? (ok.0 ∷ []) id ≡ some me.0 = ap (λ (z : List V). get_elem? z id) (sym ok.1) ∙ at in
      let here : id ≡ 0 = (let l = at_within (ok.0 ∷ []) id me.0 at' in omega arith) in
      let same : ok.0 ≡ me.0 = some-injective ok.0 me.0 (ap (get_elem? (ok.0 ∷ [])) (sym here) ∙ at') in
      let opening : me.0.opening ≡ true = ap (λ (z : V). z.opening) (sym same) ∙ ok.2 in (
        view me.0.marks (Turn t) me.0.opening,
        takes 0 None,
        ap (λ (z : List (maybe.Option (Option T))). get_elem? z 0) home_is,
        takes_turn s r id t me me.0.marks None at st now home_is refl (λ k h. h) mine.marked mine.distinct (subst (λ (z : V). Each (λ m. m.seen ≡ r.log) z.marks) same ok.3),
        λ u e. let m' : M = (view me.0.marks (Turn t) me.0.opening, (0, None) ∷ me.1) in
            subst (λ (z : ℕ). (slice_index s.words 1 ≡ z % 2 ^ 64 → TurnComes log_of number_fixed maker z me m') × (slice_index s.words 1 ≢ z % 2 ^ 64 → m' ≡ me) × (me.0.opening ≡ true → slice_index s.words 1 ≡ z % 2 ^ 64)) (ap (turn_or 0) (sym st ∙ e))
            ((λ _. ((λ o. ap (λ (z : Bool). (view me.0.marks (Turn t) z, (0, None) ∷ me.1)) o), λ k fix seen f. not_both me.0.opening opening (ap (λ (z : V). z.opening) f))), λ n. absurd (n hit), λ _. hit),
      )
  comes s r id t me at st now hit (at_home x) is =
      let mine = r.each_seat id me.0 at in let both = subst (PhaseOk log_of number_fixed maker fixed r.log s.views) is r.phase_ok in let ok = both.0 in let home_is = r.homes_are ∙ ap (home log_of number_fixed maker) is in
      let new : List E = log_of x in let ms = map (told new) me.0.marks in (
        view ms (Turn t) me.0.opening,
        takes 0 (Some x),
        ap (λ (z : List (maybe.Option (Option T))). get_elem? z 0) home_is,
        takes_turn s r id t me ms (Some x) at st now home_is (told_length new me.0.marks) (λ k h. told_has new k me.0.marks h)
            (subst (λ (z : List E). Each (MarkOk maker fixed z passes r.owner id) ms) ok (told_marked maker fixed r.log new passes r.owner id me.0.marks mine.marked)) (told_distinct new me.0.marks mine.distinct)
            (subst (λ (z : List E). Each (λ m. m.seen ≡ z) ms) ok (told_seen new me.0.marks)),
        λ u e. let m' : M = (view ms (Turn t) me.0.opening, (0, Some x) ∷ me.1) in
            subst (λ (z : ℕ). (slice_index s.words 1 ≡ z % 2 ^ 64 → TurnComes log_of number_fixed maker z me m') × (slice_index s.words 1 ≢ z % 2 ^ 64 → m' ≡ me) × (me.0.opening ≡ true → slice_index s.words 1 ≡ z % 2 ^ 64)) (ap (turn_or 0) (sym st ∙ e)) (
              (λ _. (
                (λ o. absurd (subst (MayOpen log_of number_fixed maker) is (mine.opens o).1)),
                λ k fix seen f. let own = subst (λ (z : V). Each (MarkOk maker fixed r.log passes r.owner id) z.marks) f mine.marked in (
                  x,
                  subst (Fits maker k seen) (sym ok) own.0.2,
                  both.1 ∙ sym own.0.3,
                  ap (λ (z : V). (view (map (told new) z.marks) (Turn t) z.opening, (0, Some x) ∷ me.1)) f,
                ),
              )),
              λ n. absurd (n hit),
              λ _. hit,
            ),
      )
  comes s r id t me at st now hit (out_with j) is =
      let ok = subst (PhaseOk log_of number_fixed maker fixed r.log s.views) is r.phase_ok in
      let theirs = subst (StageOk log_of number_fixed maker r.turn (total tickets_of s.views) r.phase r.log j ok.0.marks) ok.3 (r.each_seat j ok.0 ok.2).staged in
      let here : j ≡ id = r.apart j id t ok.0 me.0 ok.2 at (ap ticket_of ok.3 ∙ ap some (theirs.0 ∙ sym now)) (ap ticket_of st) in
      let same : ok.0 ≡ me.0 = some-injective ok.0 me.0 (sym ok.2 ∙ (ap (get_elem? s.views) here ∙ at)) in
      not_both (waits me.0.stage) (ap waits st) (ap (λ (z : V). waits z.stage) (sym same) ∙ ap waits ok.3)

  pub looks : (slots id : ℕ) (me : M) (t : ℕ) → me.0.stage ≡ Waits t → Allows Rule slots id me 1 (λ n. n) (turn_loaded log_of number_fixed maker (step slots 1 0 0 none) me)
  looks slots id me t st s r wide at small = let few = few_held s r in
      let mine = subst (StageOk log_of number_fixed maker r.turn (total tickets_of s.views) r.phase r.log id me.0.marks) st (r.each_seat id me.0 at).staged in
      let found : slice_index s.words 1 ≡ r.turn % 2 ^ 64 = ap (λ (z : List ℕ). slice_index z 1) r.words_are in
      let alone : me.0.opening ≡ true → slice_index s.words 1 ≡ t % 2 ^ 64 = λ o. (let only = total_one tickets_of s.views id me.0 ((r.each_seat id me.0 at).opens o).0 at in let one : ticket_count me.0.stage ≡ 1 = ap ticket_count st in
      let a = mine.0 in let b = mine.1 in let same : r.turn ≡ t = omega arith in found ∙ ap (λ (z : ℕ). z % 2 ^ 64) same) in
      dite (ℕ_discrete (slice_index s.words 1) (t % 2 ^ 64))
      (λ hit. let a = mine.0 in let b = mine.1 in comes s r id t me at st (sym (one_turn r.turn t (2 ^ 64) a (omega arith) (sym found ∙ hit))) hit r.phase refl)
      (λ miss. (
        me.0,
        keeps,
        tt,
        unmoved s r 1 id me at,
        λ u e. let same : t ≡ u = ap (turn_or 0) (sym st ∙ e) in ((λ h. absurd (miss (h ∙ ap (λ (z : ℕ). z % 2 ^ 64) (sym same)))), λ _. refl, λ o. absurd (miss (alone o))),
      ))

  abbrev out_with_or : ℕ → Phase T → ℕ
  out_with_or d fresh = d
  out_with_or d (at_home x) = d
  out_with_or d (out_with j) = j

  others_serve : (s : St) (r : Rule s) (id t count : ℕ) (me : M) (x : T) → get_elem? s.views id ≡ some me.0 → me.0.stage ≡ Turn t → t ≡ r.turn → r.phase ≡ out_with id → total tickets_of s.views ≡ count + 1
      → (j : ℕ) (d : V) → j ≢ id → get_elem? s.views j ≡ some d → (st : Stage) → d.stage ≡ st → StageOk log_of number_fixed maker (r.turn + 1) count (at_home x) (log_of x) j d.marks st
  others_serve s r id t count me x at is now out less j d other there Idle e = tt
  others_serve s r id t count me x at is now out less j d other there (Waits u) e = let a = subst (StageOk log_of number_fixed maker r.turn (total tickets_of s.views) r.phase r.log j d.marks) e (r.each_seat j d there).staged in
      let low = a.0 in let high = a.1 in let less' = less in
      let past : u ≢ t = (λ same. other (r.apart j id t d me.0 there at (ap ticket_of e ∙ ap some same) (ap ticket_of is))) in
      let later : u ≢ r.turn = (λ z. past (z ∙ sym now)) in (omega arith, omega arith)
  others_serve s r id t count me x at is now out less j d other there (Turn u) e = let a = subst (StageOk log_of number_fixed maker r.turn (total tickets_of s.views) r.phase r.log j d.marks) e (r.each_seat j d there).staged in
      absurd (other (ap (out_with_or 0) (sym a.2 ∙ out)))

  pub serves : (slots id : ℕ) (me : M) (t : ℕ) (x : T) → me.0.stage ≡ Turn t → me.1 ≡ (0, Some x) ∷ [] → Ends log_of number_fixed maker me.0 x → Allows Rule slots id me 1 (λ n. (n + 1) % 2 ^ 64) (next_served log_of number_fixed maker (step slots 1 1 0 none) me)
  serves slots id me t x st carry ends s r wide at small =
      let v = me.0 in let new : List E = log_of x in let ms = map (told new) v.marks in let w : V = view ms Idle false in let mine = r.each_seat id v at in
      let known = subst (StageOk log_of number_fixed maker r.turn (total tickets_of s.views) r.phase r.log id v.marks) st mine.staged in
      let one : ticket_count v.stage ≡ 1 = ap ticket_count st in let count = total tickets_of (set s.views id w) in
      let less : total tickets_of s.views ≡ count + 1 = (let h = total_set tickets_of s.views id v w at in omega arith) in
      let home_is : s.homes ≡ none ∷ [] = r.homes_are ∙ ap (home log_of number_fixed maker) known.2 in
      let both = ends r.log fixed known.3 (each_map (MarkOk maker fixed r.log passes r.owner id) (λ m. m.fixed ≡ fixed) (λ m ok. ok.3) v.marks mine.marked) in let end = both.1 in
      let grows : (k : ℕ) (seen : List E) → r.owner k ≢ id → Fits maker k seen r.log → Fits maker k seen new = λ k seen away f. ⊎_elim
      (λ (same : new ≡ r.log). subst (Fits maker k seen) (sym same) f)
      (λ (z : (k : ℕ) × (e : E) × (fix : List ℕ) × (seen : List E) × (v.marks ≡ mark k fix seen ∷ []) × (maker e ≡ k) × (new ≡ r.log ++ e ∷ [])).
      let own = (subst (Each (MarkOk maker fixed r.log passes r.owner id)) z.4 mine.marked).0.1 in
      subst (Fits maker k seen) (sym z.6) (fits_more maker k seen r.log z.1 (λ names. away (ap r.owner (sym names ∙ z.5) ∙ own)) f)) end in (
        w,
        gives,
        tt,
        record {
          turn = r.turn + 1;
          phase = at_home x;
          log = new;
          owner = r.owner;
          few = r.few;
          words_are = ap (λ (z : List ℕ). slice_set z 1 ((slice_index z 1 + 1) % 2 ^ 64)) r.words_are
              ∙ (λ i. ap (λ (z : ℕ). z % 2 ^ 64) (let h = less in let q : r.turn + total tickets_of s.views ≡ r.turn + 1 + count = omega arith in q) i ∷ mod-add-mod r.turn (2 ^ 64) 1 i ∷ []);
          homes_are = λ i. put_back (home_is i) (carry i);
          all_marks = (let l = told_length new v.marks in let h = total_set numbers_of s.views id v w at in omega arith) ∙ r.all_marks;
          owned = λ k l. owned_set s.views id v w k (r.owner k) at (λ h. told_has new k v.marks h) (r.owned k l);
          phase_ok = (refl, both.0);
          each_seat = seats_stay (λ (j : ℕ) (d : V). SeatOk log_of number_fixed maker fixed passes (r.turn + 1) count (at_home x) new r.owner (length (set s.views id w)) j d) s.views id w
              (record {
                marked = told_marked maker fixed r.log new passes r.owner id v.marks mine.marked;
                distinct = told_distinct new v.marks mine.distinct;
                staged = tt;
                backed = omega arith;
                lone = λ _ h. absurd (omega arith);
                opens = λ o. not_both false o refl;
              })
              (λ j d other there. let theirs = r.each_seat j d there in record {
                marked = each_map (MarkOk maker fixed r.log passes r.owner j) (MarkOk maker fixed new passes r.owner j)
                    (λ m ok. (ok.0, ok.1, grows m.number m.seen (λ is. other (sym ok.1 ∙ is)) ok.2, ok.3)) d.marks theirs.marked;
                distinct = theirs.distinct;
                staged = others_serve s r id t count me x at st known.0 known.2 less j d other there d.stage refl;
                backed = theirs.backed;
                lone = theirs.lone;
                opens = λ o. (let only = (theirs.opens o).0 in let a = at_within s.views id v at in let b = at_within s.views j d there in absurd (other (omega arith)));
              });
          apart = apart_set s.views id w (λ j u d other there a b. some-ne-none u (sym b)) r.apart;
          grown = ⊎_elim (λ (same : new ≡ r.log). subst (Grown maker passes first) (sym same) r.grown)
              (λ (z : (k : ℕ) × (e : E) × (fix : List ℕ) × (seen : List E) × (v.marks ≡ mark k fix seen ∷ []) × (maker e ≡ k) × (new ≡ r.log ++ e ∷ [])).
              let own = (subst (Each (MarkOk maker fixed r.log passes r.owner id)) z.4 mine.marked).0.0 in let names = z.5 in
              subst (Grown maker passes first) (sym z.6) (grown_more maker passes first r.log z.1 (omega arith) r.grown)) end;
        },
        λ y e. let same : x ≡ y = ap (carried_or log_of number_fixed maker x) (sym carry ∙ e) in
            λ i. (view (map (told (log_of (same i))) v.marks) Idle false, rest (carry i)),
      )
