-- A replacement list, part by part.
use Rattle.std.proofs.Common.{◌≡◌, sym, ◌∙◌, ap, subst, refl, ℕ, zero, suc, ◌<◌, ◌≤◌, Bool, true, false, not, ◌&&◌, if◌then◌else◌, List, [], ◌∷◌, ◌++◌, map, length, get_or, drop, Option, Some, None, option_map, option_and_then, is_some, arith, append_assoc}
use Rattle.std.proofs.lemmas.List.{append-nil, map-append}
use Rattle.std.proofs.lemmas.List.Elements.{All-append}
use Rattle.std.proofs.lemmas.Bool.{false≢true}
use Rattle.hide_sets.specs.Sets.{Sets, Extends}
use Rattle.hide_sets.proofs.Growing.{Extends-itself, Extends-on}
use Rattle.scan_model.specs.declared.token.Tok.{Tok}
use Rattle.scan_model.specs.TokenTests.{is_hash, is_paste}
use Rattle.scan_model.specs.MacroDefinition.{is_opt}
use Rattle.scan_model.specs.Parentheses.{Enclosed, in_parens}
use Rattle.scan_model.specs.Substitution as spec
use Rattle.scan_model.specs.declared.macros.FunctionDef.{FunctionDef}
use Rattle.std.specs.Borrow.{Bor}
use Rattle.scan_model.specs.MacroDefinition.{all_params}
use Rattle.scan_model.specs.Expansion.{arg_named}
use Rattle.substitution.specs.declared.marked.Arg.{Arg}
use Rattle.substitution.specs.declared.item.Item.{Item}
use Rattle.substitution.specs.declared.call.Call.{Call}
use Rattle.substitution.specs.declared.call.PartEnd.{PartEnd}
use Rattle.substitution.specs.Meaning.{arg_of, IsArg, item_of, items_of, IsItem, AreItems}
use Rattle.substitution.specs.Calls.{call_by, call_of, AreArgs, Adds, AddsPart, AddsString, GivesPart, opt_after_hash, opt_comes, after_word, opt_result}
use Rattle.substitution.proofs.MeaningLemmas.{all_marked_of-Extends, AreMarked-Extends, items_of-Extends, AreItems-Extends}
use Rattle.substitution.specs.declared.item.Item.TheVariants.{Placemarker}
use Rattle.substitution.proofs.JoinLemmas.{AreItems-nil, AreItems-push, append-none}
use Rattle.substitution.proofs.PartLemmas.{Inner, by_tests, gives-string-by, gives-no_string}

-- ## Calls in tables that grow

IsArg-Extends : (old new : Sets) (a : Arg) → Extends old new → IsArg old a → IsArg new a
IsArg-Extends old new a e h = record { written = AreMarked-Extends old new a.written e h.written; replaced = AreMarked-Extends old new _ e h.replaced }

pub AreArgs-Extends : (old new : Sets) (args : List Arg) → Extends old new → AreArgs old args → AreArgs new args
AreArgs-Extends old new args e h = λ k d l. IsArg-Extends old new (get_or args k d) e (h k d l)

args_of-Extends : (old new : Sets) (args : List Arg) → Extends old new → AreArgs old args → map (arg_of new) args ≡ map (arg_of old) args
args_of-Extends old new [] e h = refl
args_of-Extends old new (a ∷ args) e h =
    let one = h 0 a (omega arith) in
    let written = all_marked_of-Extends old new a.written e one.written in
    let replaced = all_marked_of-Extends old new _ e one.replaced in
    let rest = args_of-Extends old new args e (λ k d l. h (suc k) d (omega arith)) in
    cc

call_by-Extends : (old new : Sets) (args : List Arg) (line : ℕ) (d : Option (Bor FunctionDef)) → Extends old new → AreArgs old args → call_by new args line d ≡ call_by old args line d
call_by-Extends old new args line None e h = refl
call_by-Extends old new args line (Some f) e h =
    ap (λ (given : List spec.Arg). let made : spec.Call = record { function = true; variadic = f.now.variadic; arg = arg_named (all_params f.now.params f.now.variadic) given; line = line } in made) (args_of-Extends old new args e h)

pub call_of-Extends : (old new : Sets) (c : Call) → Extends old new → AreArgs old c.args.now → call_of new c ≡ call_of old c
call_of-Extends old new c e h = call_by-Extends old new c.args.now c.line c.definition e h

-- ## What a part gives

abbrev pub inner_at : ℕ → spec.Call → Inner
inner_at m c = λ content. option_and_then spec.joined (spec.items_up_to m c false content)

gives-some : (sets : Sets) (old new : List Item) (o : Option spec.Part) (end : PartEnd) → GivesPart sets old new o (Some end) → (p : spec.Part) × (o ≡ Some p) × AddsPart sets old new p end
gives-some sets old new None end h = absurd h
gives-some sets old new (Some p) end h = (p, refl, h)

gives-none : (sets : Sets) (old new : List Item) (o : Option spec.Part) → GivesPart sets old new o None → o ≡ None
gives-none sets old new None h = refl
gives-none sets old new (Some p) h = absurd h

-- ## The walk

-- The items so far, and those of what is left, are those of the list, however often a part may still be taken.
pub record Walking (old sets : Sets) (c : Call) (list : List Tok) (items : List Item) (pasted : Bool) (rest : List Tok) : Type 0 where
  pub extended : Extends old sets
  pub args : AreArgs sets c.args.now
  pub same : call_of sets c ≡ call_of old c
  pub known : AreItems sets items
  pub shorter : length rest ≤ length list
  pub whole : (n : ℕ) → length list ≤ n → (m : ℕ) × (length rest ≤ m) × (option_map (items_of sets items ++◌) (spec.items_up_to m (call_of old c) pasted rest) ≡ spec.items_up_to n (call_of old c) false list)

append-both : (x y : List spec.Item) (o : Option (List spec.Item)) → option_map ((x ++ y) ++◌) o ≡ option_map (x ++◌) (option_map (y ++◌) o)
append-both x y None = refl
append-both x y (Some z) = ap Some (append_assoc x y z)

pub walk-start : (sets : Sets) (c : Call) (list : List Tok) (items : List Item) → AreArgs sets c.args.now → items ≡ [] → Walking sets sets c list items false list
walk-start sets c list items h e =
    record {
      extended = Extends-itself sets;
      args = h;
      same = refl;
      known = subst (AreItems sets) (sym e) (AreItems-nil sets);
      shorter = omega arith;
      whole = λ n l. (n, l, ap (λ (s : List Item). option_map (items_of sets s ++◌) (spec.items_up_to n (call_of sets c) false list)) e ∙ append-none (spec.items_up_to n (call_of sets c) false list));
    }

none-left : (m : ℕ) (c : spec.Call) (pasted : Bool) → spec.items_up_to m c pasted [] ≡ Some []
none-left zero c pasted = refl
none-left (suc m) c pasted = refl

pub walk-end : (old sets : Sets) (c : Call) (list rest : List Tok) (items : List Item) (pasted : Bool) → rest ≡ [] → Walking old sets c list items pasted rest → (n : ℕ) → length list ≤ n → Some (items_of sets items) ≡ spec.items_up_to n (call_of old c) false list
walk-end old sets c list rest items pasted e w n l =
    let k = w.whole n l in
    ap Some (sym (append-nil (items_of sets items))) ∙ ap (option_map (items_of sets items ++◌)) (sym (none-left k.0 (call_of old c) pasted) ∙ ap (spec.items_up_to k.0 (call_of old c) pasted) (sym e)) ∙ k.2

items_of-added : (sets sets' : Sets) (items items' : List Item) (x : List spec.Item) → Extends sets sets' → AreItems sets items → Adds sets' items items' x → items_of sets' items' ≡ items_of sets items ++ x
items_of-added sets sets' items items' x e h a =
    ap (items_of sets') a.grown ∙ map-append (item_of sets') items a.more ∙ ap (λ (s : List spec.Item). s ++ items_of sets' a.more) (items_of-Extends sets sets' items e h) ∙ ap (λ (s : List spec.Item). items_of sets items ++ s) a.meant

AreItems-added : (sets sets' : Sets) (items items' : List Item) (x : List spec.Item) → Extends sets sets' → AreItems sets items → Adds sets' items items' x → AreItems sets' items'
AreItems-added sets sets' items items' x e h a =
    subst (AreItems sets') (sym a.grown) (All-append (IsItem sets') items a.more (AreItems-Extends sets sets' items e h) a.known)

pub walk-part : (old sets sets' : Sets) (c : Call) (list rest after : List Tok) (items items' : List Item) (pasted : Bool) (t : Tok) (end : PartEnd) → rest ≡ t ∷ after → Extends sets sets' → length end.after.now ≤ length after → ((m : ℕ) → length after ≤ m → GivesPart sets' items items' (spec.one_part (call_of old c) (inner_at m (call_of old c)) pasted t after) (Some end)) → Walking old sets c list items pasted rest → Walking old sets' c list items' end.pasted end.after.now
walk-part old sets sets' c list rest after items items' pasted t end e x s parts w =
    let first = gives-some sets' items items' _ end (parts (length after) (omega arith)) in
    let turn : (n m : ℕ) → length (t ∷ after) ≤ m → option_map (items_of sets items ++◌) (spec.items_up_to m (call_of old c) pasted (t ∷ after)) ≡ spec.items_up_to n (call_of old c) false list → (k : ℕ) × (length end.after.now ≤ k) × (option_map (items_of sets' items' ++◌) (spec.items_up_to k (call_of old c) end.pasted end.after.now) ≡ spec.items_up_to n (call_of old c) false list) = λ n m. turns n m in
    record {
      extended = Extends-on old sets sets' w.extended x;
      args = AreArgs-Extends sets sets' c.args.now x w.args;
      same = call_of-Extends sets sets' c x w.args ∙ w.same;
      known = AreItems-added sets sets' items items' _ x w.known first.2.added;
      shorter = omega (arith, w.shorter, ap length e);
      whole = λ n l. let k = w.whole n l in
          turn n k.0 (subst (λ (r : List Tok). length r ≤ k.0) e k.1) (subst (λ (r : List Tok). option_map (items_of sets items ++◌) (spec.items_up_to k.0 (call_of old c) pasted r) ≡ spec.items_up_to n (call_of old c) false list) e k.2);
    }
  where
    turns : (n m : ℕ) → length (t ∷ after) ≤ m → option_map (items_of sets items ++◌) (spec.items_up_to m (call_of old c) pasted (t ∷ after)) ≡ spec.items_up_to n (call_of old c) false list → (k : ℕ) × (length end.after.now ≤ k) × (option_map (items_of sets' items' ++◌) (spec.items_up_to k (call_of old c) end.pasted end.after.now) ≡ spec.items_up_to n (call_of old c) false list)
    turns n zero l q = absurd (omega arith)
    turns n (suc k) l q =
        let g = gives-some sets' items items' _ end (parts k (omega arith)) in
        let left : spec.items_up_to k (call_of old c) end.pasted end.after.now ≡ spec.items_up_to k (call_of old c) g.0.pasted g.0.after = ap (λ (b : Bool). spec.items_up_to k (call_of old c) b end.after.now) (sym g.2.pasted) ∙ ap (spec.items_up_to k (call_of old c) g.0.pasted) (sym g.2.after) in
        let here : option_map (g.0.items ++◌) (spec.items_up_to k (call_of old c) g.0.pasted g.0.after) ≡ spec.items_up_to (suc k) (call_of old c) pasted (t ∷ after) = ap (option_and_then (λ (p : spec.Part). option_map (p.items ++◌) (spec.items_up_to k (call_of old c) p.pasted p.after))) (sym g.1) in (
          k,
          omega arith,
          ap (λ (y : List spec.Item). option_map (y ++◌) (spec.items_up_to k (call_of old c) end.pasted end.after.now)) (items_of-added sets sets' items items' g.0.items x w.known g.2.added)
              ∙ append-both (items_of sets items) g.0.items (spec.items_up_to k (call_of old c) end.pasted end.after.now)
              ∙ ap (λ (o : Option (List spec.Item)). option_map (items_of sets items ++◌) (option_map (g.0.items ++◌) o)) left
              ∙ ap (option_map (items_of sets items ++◌)) here ∙ q,
        )

-- a part that gives nothing at all
pub walk-bad : (old sets : Sets) (c : Call) (list rest after : List Tok) (items : List Item) (pasted : Bool) (t : Tok) → rest ≡ t ∷ after → ((m : ℕ) → length after ≤ m → spec.one_part (call_of old c) (inner_at m (call_of old c)) pasted t after ≡ None) → Walking old sets c list items pasted rest → (n : ℕ) → length list ≤ n → None ≡ spec.items_up_to n (call_of old c) false list
walk-bad old sets c list rest after items pasted t e parts w n l =
    let k = w.whole n l in
    turn k.0 (subst (λ (r : List Tok). length r ≤ k.0) e k.1) (subst (λ (r : List Tok). option_map (items_of sets items ++◌) (spec.items_up_to k.0 (call_of old c) pasted r) ≡ spec.items_up_to n (call_of old c) false list) e k.2)
  where
    turn : (m : ℕ) → length (t ∷ after) ≤ m → option_map (items_of sets items ++◌) (spec.items_up_to m (call_of old c) pasted (t ∷ after)) ≡ spec.items_up_to n (call_of old c) false list → None ≡ spec.items_up_to n (call_of old c) false list
    turn zero h q = absurd (omega arith)
    turn (suc k) h q = ap (λ (o : Option spec.Part). option_map (items_of sets items ++◌) (option_and_then (λ (p : spec.Part). option_map (p.items ++◌) (spec.items_up_to k (call_of old c) p.pasted p.after)) o)) (sym (parts k (omega arith))) ∙ q

-- ## `__VA_OPT__`

abbrev opt_shape : spec.Call → Inner → Bool → Tok → Option (Enclosed Tok) → Option spec.Part
opt_shape c inner true t o = spec.string_opt_part c inner t o
opt_shape c inner false t o = spec.opt_part c inner t o

two_tests : {X : Type 0} (b v : Bool) (x y z : X) → (not b && v) ≡ true → (if b then x else if v then y else z) ≡ y
two_tests true v x y z h = absurd (false≢true h)
two_tests false true x y z h = refl
two_tests false false x y z h = absurd (false≢true h)

three_tests : {X : Type 0} (p b v : Bool) (w x y z : X) → (not p && (not b && v)) ≡ true → (if p then w else if b then x else if v then y else z) ≡ y
three_tests true b v w x y z h = absurd (false≢true h)
three_tests false b v w x y z h = two_tests b v x y z h

shape-by : (c : spec.Call) (inner : Inner) (pasted : Bool) (t : Tok) (after : List Tok) (hash : Bool) → (if hash then opt_after_hash c after else not (is_paste t) && (not (is_some (spec.comma_part c t after)) && (is_some c.variadic && is_opt t))) ≡ true → by_tests c inner pasted t after hash (is_paste t) (spec.comma_part c t after) ≡ opt_shape c inner hash t (in_parens (λ t. t) (if hash then drop 1 after else after))
shape-by c inner pasted t [] true h = absurd (false≢true h)
shape-by c inner pasted t (u ∷ after) true h = two_tests (is_some (spec.arg_at c u)) (is_some c.variadic && is_opt u) _ _ _ h
shape-by c inner pasted t after false h = three_tests (is_paste t) (is_some (spec.comma_part c t after)) (is_some c.variadic && is_opt t) _ _ _ _ h

part-shape : (c : spec.Call) (inner : Inner) (pasted : Bool) (t : Tok) (after : List Tok) → opt_comes c t after ≡ true → spec.one_part c inner pasted t after ≡ opt_shape c inner (c.function && is_hash t) t (in_parens (λ t. t) (after_word c t after))
part-shape c inner pasted t after h = shape-by c inner pasted t after (c.function && is_hash t) h

shape-some : (c : spec.Call) (inner : Inner) (hashed : Bool) (t : Tok) (e : Enclosed Tok) (items : List spec.Item) → spec.opt_items c (inner e.inside) ≡ Some items → opt_shape c inner hashed t (Some e) ≡ option_map (λ items. spec.part items e.after) (opt_result c hashed t items)
shape-some c inner true t e items h = ap (λ (o : Option (List spec.Item)). option_map (λ items. spec.part items e.after) (option_and_then (λ items. spec.string_of c t (spec.toks (spec.without_placemarkers items))) o)) h
shape-some c inner false t e items h = ap (λ (o : Option (List spec.Item)). option_map (λ items. spec.part (spec.first_item_spaced t.space (spec.or_placemarker items)) e.after) o) h

shape-none : (c : spec.Call) (inner : Inner) (hashed : Bool) (t : Tok) (e : Enclosed Tok) → spec.opt_items c (inner e.inside) ≡ None → opt_shape c inner hashed t (Some e) ≡ None
shape-none c inner true t e h = ap (λ (o : Option (List spec.Item)). option_map (λ items. spec.part items e.after) (option_and_then (λ items. spec.string_of c t (spec.toks (spec.without_placemarkers items))) o)) h
shape-none c inner false t e h = ap (λ (o : Option (List spec.Item)). option_map (λ items. spec.part (spec.first_item_spaced t.space (spec.or_placemarker items)) e.after) o) h

shape-open : (c : spec.Call) (inner : Inner) (hashed : Bool) (t : Tok) → opt_shape c inner hashed t None ≡ Some (spec.part [] [])
shape-open c inner true t = refl
shape-open c inner false t = refl

-- the content's items, where they are asked for
pub opt-part : (c : spec.Call) (inner : Inner) (pasted : Bool) (t : Tok) (after : List Tok) (e : Enclosed Tok) (items : List spec.Item) → opt_comes c t after ≡ true → in_parens (λ t. t) (after_word c t after) ≡ Some e → spec.opt_items c (inner e.inside) ≡ Some items → spec.one_part c inner pasted t after ≡ option_map (λ items. spec.part items e.after) (opt_result c (c.function && is_hash t) t items)
opt-part c inner pasted t after e items h p o = part-shape c inner pasted t after h ∙ ap (opt_shape c inner (c.function && is_hash t) t) p ∙ shape-some c inner (c.function && is_hash t) t e items o

pub opt-bad : (c : spec.Call) (inner : Inner) (pasted : Bool) (t : Tok) (after : List Tok) (e : Enclosed Tok) → opt_comes c t after ≡ true → in_parens (λ t. t) (after_word c t after) ≡ Some e → spec.opt_items c (inner e.inside) ≡ None → spec.one_part c inner pasted t after ≡ None
opt-bad c inner pasted t after e h p o = part-shape c inner pasted t after h ∙ ap (opt_shape c inner (c.function && is_hash t) t) p ∙ shape-none c inner (c.function && is_hash t) t e o

pub opt-open : (c : spec.Call) (inner : Inner) (pasted : Bool) (t : Tok) (after : List Tok) → opt_comes c t after ≡ true → in_parens (λ t. t) (after_word c t after) ≡ None → spec.one_part c inner pasted t after ≡ Some (spec.part [] [])
opt-open c inner pasted t after h p = part-shape c inner pasted t after h ∙ ap (opt_shape c inner (c.function && is_hash t) t) p ∙ shape-open c inner (c.function && is_hash t) t

-- ## The loop's steps

-- the first token of what is left, and the others
pub first-after : (rest after : List Tok) (t : Tok) → 0 < length rest → t ≡ get_or rest 0 t → after ≡ drop 1 rest → rest ≡ t ∷ after
first-after [] after t h e d = absurd (omega arith)
first-after (x ∷ xs) after t h e d = ap (λ (y : Tok). y ∷ xs) (sym e) ∙ ap (λ (ys : List Tok). t ∷ ys) (sym d)

-- a bad part that holds no `__VA_OPT__`
pub walk-bad-part : (old sets : Sets) (c : Call) (list rest after : List Tok) (items items' : List Item) (pasted : Bool) (t : Tok) → rest ≡ t ∷ after → ((inner : Inner) → GivesPart sets items items' (spec.one_part (call_of sets c) inner pasted t after) None) → Walking old sets c list items pasted rest → (n : ℕ) → length list ≤ n → None ≡ spec.items_up_to n (call_of old c) false list
walk-bad-part old sets c list rest after items items' pasted t e g w =
    walk-bad old sets c list rest after items pasted t e
    (λ m l. gives-none sets items items' _ (subst (λ (k : spec.Call). GivesPart sets items items' (spec.one_part k (inner_at m (call_of old c)) pasted t after) None) w.same (g (inner_at m (call_of old c))))) w

-- a part that holds no `__VA_OPT__`
pub walk-plain-part : (old sets : Sets) (c : Call) (list rest after : List Tok) (items items' : List Item) (pasted : Bool) (t : Tok) (end : PartEnd) → rest ≡ t ∷ after → length end.after.now ≤ length after → ((inner : Inner) → GivesPart sets items items' (spec.one_part (call_of sets c) inner pasted t after) (Some end)) → Walking old sets c list items pasted rest → Walking old sets c list items' end.pasted end.after.now
walk-plain-part old sets c list rest after items items' pasted t end e s g w =
    walk-part old sets sets c list rest after items items' pasted t end e (Extends-itself sets) s
    (λ m l. subst (λ (k : spec.Call). GivesPart sets items items' (spec.one_part k (inner_at m (call_of old c)) pasted t after) (Some end)) w.same (g (inner_at m (call_of old c)))) w

-- a `__VA_OPT__` that isn't closed
pub walk-open-part : (old sets : Sets) (c : Call) (list rest after : List Tok) (items : List Item) (pasted : Bool) (t : Tok) → rest ≡ t ∷ after → true ≡ opt_comes (call_of sets c) t after → in_parens (λ t. t) (after_word (call_of sets c) t after) ≡ None → Walking old sets c list items pasted rest → (n : ℕ) → length list ≤ n → Some (items_of sets items) ≡ spec.items_up_to n (call_of old c) false list
walk-open-part old sets c list rest after items pasted t e o p w n l =
    let k = w.whole n l in
    turn k.0 (subst (λ (r : List Tok). length r ≤ k.0) e k.1) (subst (λ (r : List Tok). option_map (items_of sets items ++◌) (spec.items_up_to k.0 (call_of old c) pasted r) ≡ spec.items_up_to n (call_of old c) false list) e k.2)
  where
    turn : (m : ℕ) → length (t ∷ after) ≤ m → option_map (items_of sets items ++◌) (spec.items_up_to m (call_of old c) pasted (t ∷ after)) ≡ spec.items_up_to n (call_of old c) false list → Some (items_of sets items) ≡ spec.items_up_to n (call_of old c) false list
    turn zero h q = absurd (omega arith)
    turn (suc k) h q =
        let part : spec.one_part (call_of old c) (inner_at k (call_of old c)) pasted t after ≡ Some (spec.part [] []) =
        opt-open (call_of old c) (inner_at k (call_of old c)) pasted t after
        (ap (λ (call : spec.Call). opt_comes call t after) (sym w.same) ∙ sym o) (ap (λ (call : spec.Call). in_parens (λ t. t) (after_word call t after)) (sym w.same) ∙ p) in
        let none : option_map ([] ++◌) (spec.items_up_to k (call_of old c) false []) ≡ Some [] = append-none (spec.items_up_to k (call_of old c) false []) ∙ none-left k (call_of old c) false in
        ap Some (sym (append-nil (items_of sets items))) ∙ ap (option_map (items_of sets items ++◌)) (sym none)
        ∙ ap (λ (o : Option spec.Part). option_map (items_of sets items ++◌) (option_and_then (λ (p : spec.Part). option_map (p.items ++◌) (spec.items_up_to k (call_of old c) p.pasted p.after)) o)) (sym part) ∙ q

-- What the content of a `__VA_OPT__` gives, however many turns are left.
pub record Content (c : spec.Call) (inside : List Tok) (content : Option (List spec.Item)) : Type 0 where
  pub given : (m : ℕ) → length inside ≤ m → spec.opt_items c (inner_at m c inside) ≡ content

-- a `__VA_OPT__` whose content is bad
pub walk-bad-content : (old sets : Sets) (c : Call) (list rest after : List Tok) (items : List Item) (pasted : Bool) (t : Tok) (e : Enclosed Tok) → rest ≡ t ∷ after → true ≡ opt_comes (call_of sets c) t after → in_parens (λ t. t) (after_word (call_of sets c) t after) ≡ Some e → length e.inside ≤ length after → Content (call_of sets c) e.inside None → Walking old sets c list items pasted rest → (n : ℕ) → length list ≤ n → None ≡ spec.items_up_to n (call_of old c) false list
walk-bad-content old sets c list rest after items pasted t e r o p s k w =
    walk-bad old sets c list rest after items pasted t r
    (λ m l. subst (λ (call : spec.Call). spec.one_part call (inner_at m call) pasted t after ≡ None) w.same (opt-bad (call_of sets c) (inner_at m (call_of sets c)) pasted t after e (sym o) p (k.given m (omega arith)))) w

-- a `__VA_OPT__` that makes a bad string
pub walk-bad-string : (old sets sets' : Sets) (c : Call) (list rest after : List Tok) (items items' : List Item) (pasted hashed : Bool) (t : Tok) (e : Enclosed Tok) (content : List spec.Item) → rest ≡ t ∷ after → true ≡ opt_comes (call_of sets c) t after → in_parens (λ t. t) (after_word (call_of sets c) t after) ≡ Some e → length e.inside ≤ length after → Content (call_of sets c) e.inside (Some content) → hashed ≡ ((call_of sets c).function && is_hash t) → call_of sets' c ≡ call_of sets c → AddsString sets' items items' (opt_result (call_of sets' c) hashed t content) false → Walking old sets c list items pasted rest → (n : ℕ) → length list ≤ n → None ≡ spec.items_up_to n (call_of old c) false list
walk-bad-string old sets sets' c list rest after items items' pasted hashed t e content r o p s k h g a w =
    let string : AddsString sets' items items' (opt_result (call_of sets c) ((call_of sets c).function && is_hash t) t content) false =
    subst (λ (b : Bool). AddsString sets' items items' (opt_result (call_of sets c) b t content) false) h (subst (λ (call : spec.Call). AddsString sets' items items' (opt_result call hashed t content) false) g a) in
    walk-bad old sets c list rest after items pasted t r
    (λ m l. subst (λ (call : spec.Call). spec.one_part call (inner_at m call) pasted t after ≡ None) w.same
    (opt-part (call_of sets c) (inner_at m (call_of sets c)) pasted t after e content (sym o) p (k.given m (omega arith)) ∙ gives-none sets' items items' _ (gives-no_string sets' items items' _ e.after string))) w

-- a `__VA_OPT__` that gives something
pub walk-opt-part : (old sets sets' : Sets) (c : Call) (list rest after : List Tok) (items items' : List Item) (pasted hashed : Bool) (t : Tok) (e : Enclosed Tok) (content : List spec.Item) (end : PartEnd) → rest ≡ t ∷ after → Extends sets sets' → true ≡ opt_comes (call_of sets c) t after → in_parens (λ t. t) (after_word (call_of sets c) t after) ≡ Some e → length e.inside ≤ length after → length e.after ≤ length after → Content (call_of sets c) e.inside (Some content) → hashed ≡ ((call_of sets c).function && is_hash t) → AddsString sets' items items' (opt_result (call_of sets' c) hashed t content) true → false ≡ end.pasted → e.after ≡ end.after.now → Walking old sets c list items pasted rest → Walking old sets' c list items' end.pasted end.after.now
walk-opt-part old sets sets' c list rest after items items' pasted hashed t e content end r x o p s u k h a f v w =
    let g = call_of-Extends sets sets' c x w.args in
    let string : AddsString sets' items items' (opt_result (call_of sets c) ((call_of sets c).function && is_hash t) t content) true =
    subst (λ (b : Bool). AddsString sets' items items' (opt_result (call_of sets c) b t content) true) h (subst (λ (call : spec.Call). AddsString sets' items items' (opt_result call hashed t content) true) g a) in
    walk-part old sets sets' c list rest after items items' pasted t end r x (subst (λ (q : List Tok). length q ≤ length after) v u)
    (λ m l. subst (λ (call : spec.Call). GivesPart sets' items items' (spec.one_part call (inner_at m call) pasted t after) (Some end)) w.same
    (gives-string-by sets' items items' _ _ e.after end (opt-part (call_of sets c) (inner_at m (call_of sets c)) pasted t after e content (sym o) p (k.given m (omega arith))) string f v)) w

-- ## Contents

pub content-not-asked : (c : spec.Call) (inside : List Tok) (items : List spec.Item) → false ≡ spec.has_variable c → items ≡ spec.Placemarker ∷ [] → Content c inside (Some items)
content-not-asked c inside items h e =
    record { given = λ m l. ap (λ (b : Bool). if b then inner_at m c inside else Some (spec.Placemarker ∷ [])) (sym h) ∙ ap Some (sym e) }

pub content-asked : (c : spec.Call) (inside : List Tok) (list content : Option (List spec.Item)) → true ≡ spec.has_variable c → ((m : ℕ) → length inside ≤ m → list ≡ spec.items_up_to m c false inside) → content ≡ option_and_then spec.joined list → Content c inside content
content-asked c inside list content h f e =
    record { given = λ m l. ap (λ (b : Bool). if b then inner_at m c inside else Some (spec.Placemarker ∷ [])) (sym h) ∙ ap (option_and_then spec.joined) (sym (f m l)) ∙ sym e }

pub AreItems-placemarker : (sets : Sets) (items : List Item) → items ≡ Placemarker ∷ [] → AreItems sets items
AreItems-placemarker sets items e = subst (AreItems sets) (sym e) (AreItems-push sets [] Placemarker (AreItems-nil sets) tt)
