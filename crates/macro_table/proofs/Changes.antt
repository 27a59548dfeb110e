-- What a change of one name's entry does to the map.
use Rattle.std.proofs.Common.{◌≡◌, ℕ, Bool, true, false, cond, inl, inr, List, [], ◌∷◌, refl, sym, ap, subst, ◌∙◌}
use Rattle.std.specs.Prelude.{Option, Some, None, IfSome, All, Result, Ok, Err, OnOk, OnErr, not}
use Rattle.scan_model.specs.declared.memory.NoMemory.{NoMemory}
use Rattle.std.specs.Option.{option_and_then, option_map_or}
use Rattle.std.specs.Cmp.Lexicographic.{bytes_decides}
use Rattle.std.proofs.Math.Bool.{and-false}
use Rattle.std.proofs.lemmas.Bool.{cases_Bool, cond-true, cond-false, true≢false}
use Rattle.scan_model.specs.declared.macros.Def.{Def}
use Rattle.scan_model.specs.Macros.{Macros, put, define, undef, push, pop, restored as restored_map}
use Rattle.scan_model.specs.TokenTests.{same}
use Rattle.macro_table.specs.Table.{SlotView, fresh, defined, undefined, saving, restored, restored_from, slot_of, macros_of}
use Rattle.scan_model.specs.declared.macros.Def.TheVariants.{Object, Function, BuiltIn}
use Rattle.scan_model.specs.MacroDefinition.{is_forbidden}
use Rattle.macro_table.specs.Definition.{IsDefinition, Fits, AreSound}
use Rattle.std.specs.Map.{lookup, set_value, KeepsOthers}
use Rattle.std.proofs.lemmas.Map.Steps.{set_value_same}
use Rattle.std.proofs.lemmas.List.Elements.{All-nil, All-cons, All-head, All-tail}
use Rattle.std.specs.declared.alloc.Global.{Global}
use Rattle.std.specs.declared.vec.Vec.{Vec}
use Rattle.macro_table.specs.Entries.{entries}
use Rattle.byte_keys.specs.Maps.{is_at, same_key, IsPut}
use Rattle.byte_keys.proofs.MapLemmas.{put_changes_one, entries_find}

module _ {X : Type 0} where
  pub put_same : (f : List ℕ → X) (name : List ℕ) (x : X) → f name ≡ x → put f name x ≡ f
  put_same f name x e = λ i other. same_at other i where
    same_at : (other : List ℕ) → put f name x other ≡ f other
    same_at other = elim (cases_Bool (same name other)) [
      | inl y ↦ cond-true (same name other) x (f other) y ∙ sym e ∙ ap f ((bytes_decides name other).0 y)
      | inr n ↦ cond-false (same name other) x (f other) n
    ]

-- the name has s in the new table, and each other name what it had
abbrev Changes : List ℕ → SlotView → List (List ℕ × SlotView) → List (List ℕ × SlotView) → Type 0
Changes name s old new = (other : List ℕ) → slot_of other new ≡ cond (same name other) (Some s) (slot_of other old)

changes_one : (name : List ℕ) (s : SlotView) (old new : List (Vec ℕ Global × SlotView)) → IsPut name s old new → Changes name s (entries old) (entries new)
changes_one name s old new put other = entries_find new other ∙ put other ∙ ap (cond (same name other) (Some s)) (sym (entries_find old other))

-- the map with this at the name
abbrev pub with_slot : Macros → List ℕ → SlotView → Macros
with_slot m name s = record { defs = put m.defs name s.current; saved = put m.saved name s.saved }

one_def : (b : Bool) (s : SlotView) (o : Option SlotView) → option_and_then (λ s. s.current) (cond b (Some s) o) ≡ cond b s.current (option_and_then (λ s. s.current) o)
one_def true s o = refl
one_def false s o = refl

one_stack : (b : Bool) (s : SlotView) (o : Option SlotView) → option_map_or (λ s. s.saved) (cond b (Some s) o) [] ≡ cond b s.saved (option_map_or (λ s. s.saved) o [])
one_stack true s o = refl
one_stack false s o = refl

macros_of-changes : (name : List ℕ) (s : SlotView) (old new : List (List ℕ × SlotView)) → Changes name s old new → macros_of new ≡ with_slot (macros_of old) name s
unfolding macros_of
macros_of-changes name s old new h = λ i. record {
  defs = λ other. (ap (option_and_then (λ s. s.current)) (h other) ∙ one_def (same name other) s (slot_of other old)) i;
  saved = λ other. (ap (λ o. option_map_or (λ s. s.saved) o []) (h other) ∙ one_stack (same name other) s (slot_of other old)) i;
}

-- the entry that the name has, or a fresh one
abbrev pub HasSlot : List (List ℕ × SlotView) → List ℕ → SlotView → Type 0
HasSlot table name s = ((macros_of table).defs name ≡ s.current) × ((macros_of table).saved name ≡ s.saved)

pub slot_found : (table : List (List ℕ × SlotView)) (name : List ℕ) (s : SlotView) → slot_of name table ≡ Some s → HasSlot table name s
unfolding macros_of
slot_found table name s e = (ap (option_and_then (λ s. s.current)) e, ap (λ o. option_map_or (λ s. s.saved) o []) e)

pub slot_absent : (table : List (List ℕ × SlotView)) (name : List ℕ) → slot_of name table ≡ None → HasSlot table name fresh
unfolding macros_of
slot_absent table name e = (ap (option_and_then (λ s. s.current)) e, ap (λ o. option_map_or (λ s. s.saved) o []) e)

-- by the entry that the code found, or where it found none
pub found : (es : List (Vec ℕ Global × SlotView)) (name : List ℕ) (s : SlotView) → Some s ≡ lookup (is_at name) es → HasSlot (entries es) name s
found es name s e = slot_found (entries es) name s (entries_find es name ∙ sym e)

pub absent : (es : List (Vec ℕ Global × SlotView)) (name : List ℕ) → None ≡ lookup (is_at name) es → HasSlot (entries es) name fresh
absent es name e = slot_absent (entries es) name (entries_find es name ∙ sym e)

-- ## What each call does to the map, from what it did to the entries

-- the entries with s at this key, and otherwise as before
pub record Puts (name key : List ℕ) (s : SlotView) (old new : List (Vec ℕ Global × SlotView)) : Type 0 where
  pub is_name : key ≡ name
  pub here : lookup (is_at key) new ≡ Some s
  pub others : KeepsOthers same_key (is_at key) old new

changed : (name key : List ℕ) (s : SlotView) (old new : List (Vec ℕ Global × SlotView)) → Puts name key s old new → macros_of (entries new) ≡ with_slot (macros_of (entries old)) name s
changed name key s old new p =
    macros_of-changes name s (entries old) (entries new) (changes_one name s old new (put_changes_one name key s old new p.is_name p.here p.others))

module _ (name key : List ℕ) (s : SlotView) (old new : List (Vec ℕ Global × SlotView)) (has : HasSlot (entries old) name s) where
  abbrev before : Macros
  before = macros_of (entries old)

  pub macros_of-define : (def : Def) → Puts name key (defined def s) old new → macros_of (entries new) ≡ define (macros_of (entries old)) name def
  macros_of-define def p = changed name key (defined def s) old new p
      ∙ ap (λ t. let m : Macros = record { defs = put before.defs name (Some def); saved = t } in m) (put_same before.saved name s.saved has.1)

  pub macros_of-undef : Puts name key (undefined s) old new → macros_of (entries new) ≡ undef (macros_of (entries old)) name
  macros_of-undef p = changed name key (undefined s) old new p
      ∙ ap (λ t. let m : Macros = record { defs = put before.defs name None; saved = t } in m) (put_same before.saved name s.saved has.1)

  pub macros_of-push : Puts name key (saving s) old new → macros_of (entries new) ≡ push (macros_of (entries old)) name
  macros_of-push p = changed name key (saving s) old new p
      ∙ ap (λ t. let m : Macros = record { defs = t; saved = put before.saved name (s.current ∷ s.saved) } in m) (put_same before.defs name s.current has.0)
      ∙ (λ i. let m : Macros = record { defs = before.defs; saved = put before.saved name (sym has.0 i ∷ sym has.1 i) } in m)

  pub macros_of-pop : Puts name key (restored s) old new → macros_of (entries new) ≡ pop (macros_of (entries old)) name
  macros_of-pop p = changed name key (restored s) old new p ∙ popped s.saved refl ∙ ap (restored_map before name) (sym has.1) where
    popped : (defs : List (Option Def)) → s.saved ≡ defs → with_slot before name (restored_from s defs) ≡ restored_map before name defs
    popped [] e = λ i. record { defs = put_same before.defs name s.current has.0 i; saved = put_same before.saved name s.saved has.1 i }
    popped (def ∷ defs) e = refl

-- ## Where a name has no entry

module _ (name : List ℕ) (old new : List (Vec ℕ Global × SlotView)) (unchanged : new ≡ old) (none : None ≡ lookup (is_at name) old) where
  abbrev map_before : Macros
  map_before = macros_of (entries old)

  same_map : macros_of (entries new) ≡ macros_of (entries old)
  same_map = ap (λ es. macros_of (entries es)) unchanged

  pub macros_of-undef_absent : macros_of (entries new) ≡ undef (macros_of (entries old)) name
  macros_of-undef_absent = same_map ∙ (λ i. let m : Macros = record { defs = sym (put_same map_before.defs name None (absent old name none).0) i; saved = map_before.saved } in m)

  pub macros_of-pop_absent : macros_of (entries new) ≡ pop (macros_of (entries old)) name
  macros_of-pop_absent = same_map ∙ ap (restored_map map_before name) (sym (absent old name none).1)

-- ## What is kept

put_keeps : {X : Type 0} (P : List ℕ → X → Type 0) (f : List ℕ → X) (name : List ℕ) (x : X) → P name x → ((other : List ℕ) → P other (f other)) → (other : List ℕ) → P other (put f name x other)
put_keeps {X} P f name x here all other =
    elim (cases_Bool (same name other)) [
      | inl y ↦ subst (P other) (sym (cond-true (same name other) x (f other) y)) (subst (λ n. P n x) ((bytes_decides name other).0 y) here)
      | inr n ↦ subst (P other) (sym (cond-false (same name other) x (f other) n)) (all other)
    ]

abbrev MayHave : List ℕ → Option Def → Type 0
MayHave name def = IfSome def (Fits name)

abbrev MaySave : List ℕ → List (Option Def) → Type 0
MaySave name defs = All (MayHave name) defs

pub AreSound-empty : AreSound (macros_of [])
unfolding macros_of
AreSound-empty = record { current = λ name. tt; saved = λ name. All-nil (MayHave name) }

pub AreSound-define : (m : Macros) (name : List ℕ) (def : Def) → Fits name def → AreSound m → AreSound (define m name def)
AreSound-define m name def fits sound = record { current = put_keeps MayHave m.defs name (Some def) fits sound.current; saved = sound.saved }

pub AreSound-undef : (m : Macros) (name : List ℕ) → AreSound m → AreSound (undef m name)
AreSound-undef m name sound = record { current = put_keeps MayHave m.defs name None tt sound.current; saved = sound.saved }

pub AreSound-push : (m : Macros) (name : List ℕ) → AreSound m → AreSound (push m name)
AreSound-push m name sound = record {
  current = sound.current;
  saved = put_keeps MaySave m.saved name (m.defs name ∷ m.saved name) (All-cons (MayHave name) (m.defs name) (m.saved name) (sound.current name) (sound.saved name)) sound.saved;
}

AreSound-restored : (m : Macros) (name : List ℕ) (defs : List (Option Def)) → MaySave name defs → AreSound m → AreSound (restored_map m name defs)
AreSound-restored m name [] all sound = sound
AreSound-restored m name (def ∷ defs) all sound = record {
  current = put_keeps MayHave m.defs name def (All-head (MayHave name) def defs all) sound.current;
  saved = put_keeps MaySave m.saved name defs (All-tail (MayHave name) def defs all) sound.saved;
}

pub AreSound-pop : (m : Macros) (name : List ℕ) → AreSound m → AreSound (pop m name)
AreSound-pop m name sound = AreSound-restored m name (m.saved name) (sound.saved name) sound

-- ## For the code's steps

pub from_equal : (name key : List ℕ) (s : SlotView) (old same_as new : List (Vec ℕ Global × SlotView)) → same_as ≡ old → Puts name key s same_as new → Puts name key s old new
from_equal name key s old same_as new e p = subst (λ es. Puts name key s es new) e p

pub Fits-definition : (name : List ℕ) (def : Def) → IsDefinition name def → Fits name def
unfolding IsDefinition
Fits-definition name (Object body) h = h
Fits-definition name (Function f) h = h
Fits-definition name (BuiltIn b) h = absurd (true≢false (sym h ∙ and-false (not (is_forbidden name))))

-- what was read of an entry, written back, changes nothing
pub written_back : (name : List ℕ) (s t : SlotView) (old new : List (Vec ℕ Global × SlotView)) → Some s ≡ lookup (is_at name) old → t ≡ s → new ≡ set_value (is_at name) old t → new ≡ old
written_back name s t old new was same_slot put = put ∙ ap (set_value (is_at name) old) same_slot ∙ set_value_same (is_at name) old s (sym was)

-- what a push of the entry that a name has leaves, whether or not memory was wanting
pub record Pushes (r : Result (Unit {0}) NoMemory) (name : List ℕ) (old new : List (Vec ℕ Global × SlotView)) : Type 0 where
  pub ok : OnOk r (macros_of (entries new) ≡ push (macros_of (entries old)) name)
  pub err : OnErr r (entries new ≡ entries old)

pub pushes : (r : Result (Unit {0}) NoMemory) (name : List ℕ) (s t : SlotView) (old new : List (Vec ℕ Global × SlotView)) → Some s ≡ lookup (is_at name) old → Puts name name t old new
    → new ≡ set_value (is_at name) old t → OnOk r (t ≡ saving s) → OnErr r (t ≡ s) → Pushes r name old new
pushes (Ok u) name s t old new was p put ok err = record {
  ok = macros_of-push name name s old new (found old name s was) (record { is_name = refl; here = p.here ∙ ap (λ v. Some v) ok; others = p.others });
  err = tt;
}
pushes (Err e) name s t old new was p put ok err = record { ok = tt; err = ap entries (written_back name s t old new was err put) }

pub AreSound-pushes : (r : Result (Unit {0}) NoMemory) (name : List ℕ) (old new : List (Vec ℕ Global × SlotView)) → Pushes r name old new → AreSound (macros_of (entries old)) → AreSound (macros_of (entries new))
AreSound-pushes (Ok u) name old new p sound = subst AreSound (sym p.ok) (AreSound-push _ name sound)
AreSound-pushes (Err e) name old new p sound = subst (λ t. AreSound (macros_of t)) (sym p.err) sound
