-- The values that `clap` reads are no longer than the longest word, so there are no more folders than a word has bytes.
use Rattle.std.proofs.Common.{◌≡◌, ◌≤◌, ◌<◌, ◌+◌, ◌-◌, ℕ, zero, suc, Bool, true, false, ◌&&◌, ◌==◌, List, [], ◌∷◌, ◌++◌, length, drop, Option, Some, None, if◌then◌else◌, cond, unwrap_or, fold, refl, arith, length-drop}
use Rattle.std.specs.Prelude.{⊤, encode_utf8, slice_get, find, nat_lt}
use Rattle.std.specs.Option.{IfSome, option_and_then, option_map_or}
use Rattle.std.specs.List.{All, after_first}
use Rattle.std.specs.Str.{bytes_eq, chars}
use Rattle.std.proofs.lemmas.List.Elements.{All-nil, All-cons, All-head, All-tail, All-append, All-push, All-drop}
use Rattle.clap.specs.Lexer.{has_byte, long_of, long_of_rest, name_and_value, short_of, short_of_rest, strip_byte}
use Rattle.clap.specs.Walk as walking
use Rattle.clap.specs.Walk.{Held, Names, Outcome, Row, Rule, Step, Waiting, Walk, Text, action_of, arg_by_id, arg_by_index, arg_by_long, arg_by_short, reading_by}
use Rattle.clap.specs.declared.builder.value_parser.Reading.{Reading}
use Rattle.clap.specs.declared.parser.matches.ValueSource.{ValueSource}
use Rattle.clap.specs.declared.builder.ArgAction.{ArgAction}
use Rattle.clap.specs.declared.builder.ArgAction.TheVariants as action
use Rattle.clap.specs.declared.parser.matches.ValueSource.TheVariants as source
use Rattle.scan_model.specs.Limits.{file_limit}

-- ---- what is short

abbrev pub IsShort : Text → Type 0
IsShort v = length v ≤ file_limit

abbrev pub IsShortRow : Row → Type 0
IsShortRow r = All IsShort r.values

-- the rows have short values alone
pub record AreShort (rows : List Row) : Type 0 where
  pub all : All IsShortRow rows

abbrev pub IsNoCount : ArgAction → Type 0
IsNoCount action.Count = ⊥
IsNoCount other = ⊤

-- an argument whose own values are short, and which doesn't count
pub record IsShortRule (a : Rule) : Type 0 where
  pub missing : All IsShort a.missing
  pub defaults : All IsShort a.defaults
  pub no_count : IsNoCount (action_of a)

abbrev IsShortPending : Option (Text × List Text) → Type 0
IsShortPending None = ⊤
IsShortPending (Some p) = All IsShort p.1

record IsShortHeld (h : Held) : Type 0 where
  rows : AreShort h.rows
  pending : IsShortPending h.pending

choose : {X : Type 0} (P : X → Type 0) (b : Bool) (x y : X) → P x → P y → P (cond b x y)
choose P true x y p q = p
choose P false x y p q = q

found : {X : Type 0} (P : X → Type 0) (p : X → Bool) (xs : List X) → All P xs → IfSome (find p xs) P
found P p [] all = tt
found P p (x ∷ xs) all = choose (λ o. IfSome o P) (p x) (Some x) (find p xs) (All-head P x xs all) (found P p xs (All-tail P x xs all))

-- ---- rows

at_row : (id : Text) (change : Row → List Row) (missing rows : List Row) → ((r : Row) → IsShortRow r → All IsShortRow (change r)) → All IsShortRow missing → All IsShortRow rows → All IsShortRow (walking.at_row id change missing rows)
at_row id change missing [] c m rs = m
at_row id change missing (r ∷ rows) c m rs =
    choose (λ l. All IsShortRow l) (bytes_eq r.id id) (change r ++ rows) (r ∷ walking.at_row id change missing rows)
    (All-append IsShortRow (change r) rows (c r (All-head IsShortRow r rows rs)) (All-tail IsShortRow r rows rs))
    (All-cons IsShortRow r (walking.at_row id change missing rows) (All-head IsShortRow r rows rs) (at_row id change missing rows c m (All-tail IsShortRow r rows rs)))

with_values : (id : Text) (how : Reading) (s : ValueSource) (values : List Text) (rows : List Row) → All IsShort values → AreShort rows → AreShort (walking.with_values id how s values rows)
with_values id how s values rows v rs =
    let new : Row = record { id = id; values = values; count = None; source = Some s; reading = how } in
    record {
      all = at_row id (walking.more_values s values) (new ∷ []) rows
          (λ r short. All-cons IsShortRow _ [] (All-append IsShort r.values values short v) (All-nil IsShortRow))
          (All-cons IsShortRow new [] v (All-nil IsShortRow)) rs.all;
    }

without : (id : Text) (rows : List Row) → AreShort rows → AreShort (walking.without id rows)
without id rows rs = record { all = at_row id (λ _. []) [] rows (λ r short. All-nil IsShortRow) (All-nil IsShortRow) rs.all }

-- ---- one use of an argument

used_as : (a : ArgAction) (id : Text) (how : Reading) (values : List Text) (rows : List Row) → IsNoCount a → All IsShort values → AreShort rows → AreShort (walking.used_as a id how values rows)
used_as action.Set id how values rows n v rs = with_values id how source.CommandLine values (walking.without id rows) v (without id rows rs)
used_as action.SetTrue id how values rows n v rs = with_values id how source.CommandLine values (walking.without id rows) v (without id rows rs)
used_as action.SetFalse id how values rows n v rs = with_values id how source.CommandLine values (walking.without id rows) v (without id rows rs)
used_as action.Append id how values rows n v rs = with_values id how source.CommandLine values rows v rs
used_as action.Count id how values rows n v rs = absurd n
used_as other id how values rows n v rs = rs

or_missing : (a : Rule) (values : List Text) → IsShortRule a → All IsShort values → All IsShort (walking.values_or_missing a values)
or_missing a [] short v = short.missing
or_missing a (x ∷ xs) short v = v

used : (a : Rule) (values : List Text) (rows : List Row) → IsShortRule a → All IsShort values → AreShort rows → AreShort (walking.used a values rows)
used a values rows short v rs = used_as (action_of a) a.id (reading_by a) (walking.values_or_missing a values) rows short.no_count (or_missing a values short v) rs

used_by_id : (o : Option Rule) (values : List Text) (rows : List Row) → IfSome o IsShortRule → All IsShort values → AreShort rows → AreShort (walking.used_by_id o values rows)
used_by_id None values rows short v rs = rs
used_by_id (Some a) values rows short v rs = used a values rows short v rs

settled_rows : (c : List Rule) (p : Option (Text × List Text)) (rows : List Row) → All IsShortRule c → IsShortPending p → AreShort rows → AreShort (walking.settled_rows c p rows)
settled_rows c None rows short p rs = rs
settled_rows c (Some q) rows short p rs = used_by_id (arg_by_id c q.0) q.1 rows (found IsShortRule _ c short) p rs

settled : (c : List Rule) (h : Held) → All IsShortRule c → IsShortHeld h → IsShortHeld (walking.settled c h)
settled c h short held = record { rows = settled_rows c h.pending h.rows short held.pending held.rows; pending = tt }

reacted : (c : List Rule) (a : Rule) (values : List Text) (h : Held) → All IsShortRule c → IsShortRule a → All IsShort values → IsShortHeld h → IsShortHeld (walking.reacted c a values h)
reacted c a values h short one v held =
    record { rows = used a values (walking.settled c h).rows one v (settled c h short held).rows; pending = tt }

started : (id : Text) (p : Option (Text × List Text)) → IsShortPending p → All IsShort (walking.started id p).1
started id None p = All-nil IsShort
started id (Some q) p = p

pushed : (id word : Text) (h : Held) → IsShort word → IsShortHeld h → IsShortHeld (walking.pushed id word h)
pushed id word h w held = record { rows = held.rows; pending = All-push IsShort (walking.started id h.pending).1 word (started id h.pending held.pending) w }

-- ---- a flag word

abbrev IsMet : Held × Outcome → Type 0
IsMet met = IsShortHeld met.0

option_met : (c : List Rule) (a : Rule) (v : Option Text) (h : Held) → All IsShortRule c → IsShortRule a → IfSome v IsShort → IsShortHeld h → IsMet (walking.option_met c a v h)
option_met c a (Some v) h short one w held = reacted c a (v ∷ []) h short one (All-cons IsShort v [] w (All-nil IsShort)) held
option_met c a None h short one w held = record { rows = (settled c h short held).rows; pending = All-nil IsShort }

flag_met : (c : List Rule) (a : Rule) (v : Option Text) (h : Held) → All IsShortRule c → IsShortRule a → IsShortHeld h → IsMet (walking.flag_met c a v h)
flag_met c a (Some v) h short one held = held
flag_met c a None h short one held = reacted c a [] h short one (All-nil IsShort) held

long_met : (c : List Rule) (o : Option Rule) (v : Option Text) (h : Held) → All IsShortRule c → IfSome o IsShortRule → IfSome v IsShort → IsShortHeld h → IsMet (walking.long_met c o v h)
long_met c None v h short one w held = held
long_met c (Some a) v h short one w held =
    choose IsMet (walking.takes_values a) (walking.option_met c a v h) (walking.flag_met c a v h) (option_met c a v h short one w held) (flag_met c a v h short one held)

attached : (rest : Text) → IsShort rest → IfSome (walking.attached_value rest) IsShort
attached [] w = tt
attached (x ∷ xs) w =
    choose (λ o. IfSome (option_map_or (λ v. Some v) o (Some (x ∷ xs))) IsShort) (x == 61) (Some xs) None (omega arith) w

abbrev Continues : (Held → Held × Outcome) → Type 0
Continues next = (h : Held) → IsShortHeld h → IsMet (next h)

short_met : (c : List Rule) (o : Option Rule) (rest : Text) (h : Held) (next : Held → Held × Outcome) → All IsShortRule c → IfSome o IsShortRule → IsShort rest → IsShortHeld h → Continues next → IsMet (walking.short_met c o rest h next)
short_met c None rest h next short one w held goes = held
short_met c (Some a) rest h next short one w held goes =
    choose IsMet (walking.takes_values a) (walking.option_met c a (walking.attached_value rest) h) (next (walking.reacted c a [] h))
    (option_met c a (walking.attached_value rest) h short one (attached rest w) held) (goes (walking.reacted c a [] h) (reacted c a [] h short one (All-nil IsShort) held))

behind : (n : ℕ) (flags : Text) → IsShort flags → IsShort (drop n flags)
behind n flags w = omega (arith, length-drop n flags)

bundle_step : (c : List Rule) (o : Option ℕ) (flags : Text) (skip : ℕ) (so_far : Outcome) (h : Held) (next : Text → ℕ → Outcome → Held → Held × Outcome) → All IsShortRule c → IsShort flags → IsShortHeld h
    → ((rest : Text) (less : ℕ) (now : Outcome) → IsShort rest → Continues (next rest less now)) → IsMet (walking.bundle_step c o flags skip so_far h next)
bundle_step c None flags skip so_far h next short w held goes = held
bundle_step c (Some x) flags zero so_far h next short w held goes =
    let rest = drop (length (encode_utf8 x)) flags in
    short_met c (arg_by_short c x) rest h (next rest 0 walking.done) short (found IsShortRule _ c short) (behind _ flags w) held (goes rest 0 walking.done (behind _ flags w))
bundle_step c (Some x) flags (suc skip) so_far h next short w held goes =
    goes (drop (length (encode_utf8 x)) flags) skip so_far (behind _ flags w) h held

bundle_met : (c : List Rule) (k : ℕ) (flags : Text) (skip : ℕ) (so_far : Outcome) (h : Held) → All IsShortRule c → IsShort flags → IsShortHeld h → IsMet (walking.bundle_met c k flags skip so_far h)
unfolding walking.bundle_met
bundle_met c zero flags skip so_far h short w held = held
bundle_met c (suc k) flags skip so_far h short w held =
    bundle_step c (slice_get (chars flags) 0) flags skip so_far h (walking.bundle_met c k) short w held
    (λ rest less now v g held. bundle_met c k rest less now g short v held)

-- ---- any word

abbrev IsRead : Held × Step → Type 0
IsRead met = IsShortHeld met.0

option_word : (c : List Rule) (o : Option Rule) (id word : Text) (h : Held) → IsShort word → IsShortHeld h → IsShortHeld (walking.option_word o id word h).0
option_word c None id word h w held = held
option_word c (Some a) id word h w held = pushed id word h w held

plain_word : (c : List Rule) (waiting : Waiting) (word : Text) (h : Held) → IsShort word → IsShortHeld h → IsRead (walking.plain_word c waiting word h)
plain_word c (walking.option id) word h w held = option_word c (arg_by_id c id) id word h w held
plain_word c walking.idle word h w held = held
plain_word c walking.positional word h w held = held

after_flag : (c : List Rule) (waiting : Waiting) (word : Text) (h : Held) (o : Outcome) → IsShort word → IsShortHeld h → IsRead (walking.after_flag c waiting word h o)
after_flag c waiting word h walking.done w held = held
after_flag c waiting word h (walking.waits id) w held = held
after_flag c waiting word h walking.plain w held = plain_word c waiting word h w held
after_flag c waiting word h walking.refused w held = plain_word c waiting word h w held

long_word : (c : List Rule) (waiting : Waiting) (word name : Text) (v : Option Text) (h : Held) → All IsShortRule c → IsShort word → IfSome v IsShort → IsShortHeld h → IsRead (walking.long_word c waiting word name v h)
long_word c waiting word name v h short w o held =
    after_flag c waiting word _ _ w (long_met c (arg_by_long c name) v h short (found IsShortRule _ c short) o held)

short_or_plain : (c : List Rule) (waiting : Waiting) (word : Text) (o : Option Text) (h : Held) → All IsShortRule c → IsShort word → IfSome o IsShort → IsShortHeld h → IsRead (walking.short_or_plain c waiting word o h)
short_or_plain c waiting word None h short w o held = plain_word c waiting word h w held
short_or_plain c waiting word (Some flags) h short w o held =
    after_flag c waiting word _ _ w (bundle_met c (length flags) flags h.skip walking.plain (record h { skip = 0 }) short o (record { rows = held.rows; pending = held.pending }))

long_or_other : (c : List Rule) (waiting : Waiting) (word : Text) (o : Option (Text × Option Text)) (h : Held) → All IsShortRule c → IsShort word → IfSome o (λ p. IfSome p.1 IsShort) → IfSome (short_of word) IsShort → IsShortHeld h → IsRead (walking.long_or_other c waiting word o h)
long_or_other c waiting word None h short w o flags held = short_or_plain c waiting word (short_of word) h short w flags held
long_or_other c waiting word (Some p) h short w o flags held = long_word c waiting word p.0 p.1 h short w o held

stripped : (b : ℕ) (word : Text) → IsShort word → IfSome (strip_byte b word) IsShort
stripped b [] w = tt
stripped b (x ∷ xs) w = choose (λ o. IfSome o IsShort) (x == b) (Some xs) None (omega arith) tt

stripped_again : (o : Option Text) → IfSome o IsShort → IfSome (option_and_then (strip_byte 45) o) IsShort
stripped_again None w = tt
stripped_again (Some word) w = stripped 45 word w

long_rest : (o : Option Text) → IfSome o IsShort → IfSome (option_and_then long_of_rest o) (λ p. IfSome p.1 IsShort)
long_rest None w = tt
long_rest (Some []) w = tt
long_rest (Some (x ∷ xs)) w = choose (λ o. IfSome o IsShort) (has_byte 61 (x ∷ xs)) (Some (after_first (λ b. b == 61) (x ∷ xs))) None (behind _ (x ∷ xs) w) tt

short_rest : (o : Option Text) → IfSome o IsShort → IfSome (option_and_then short_of_rest o) IsShort
short_rest None w = tt
short_rest (Some []) w = tt
short_rest (Some (x ∷ xs)) w = choose (λ o. IfSome o IsShort) (x == 45) None (Some (x ∷ xs)) tt w

subcommand_or_other : (c : List Rule) (o : Option Text) (waiting : Waiting) (position : ℕ) (word : Text) (h : Held) → All IsShortRule c → IsShort word → IsShortHeld h → IsRead (walking.subcommand_or_other c o waiting position word h)
subcommand_or_other c (Some name) waiting position word h short w held = held
subcommand_or_other c None waiting position word h short w held =
    choose IsRead (bytes_eq word (45 ∷ 45 ∷ [])) (h, walking.trailing position) (walking.long_or_other c waiting word (long_of word) h) held
    (long_or_other c waiting word (long_of word) h short w (long_rest _ (stripped_again _ (stripped 45 word w))) (short_rest _ (stripped 45 word w)) held)

word_met : (c : List Rule) (names : Names) (is_trailing : Bool) (waiting : Waiting) (position : ℕ) (word : Text) (h : Held) → All IsShortRule c → IsShort word → IsShortHeld h → IsRead (walking.word_met c names is_trailing waiting position word h)
word_met c names true waiting position word h short w held = held
word_met c names false waiting position word h short w held =
    subcommand_or_other c (walking.subcommand_met names waiting word) waiting position word h short w held

to_positional : (c : List Rule) (o : Option Rule) (word : Text) (w : Walk) (h : Held) → All IsShortRule c → IsShort word → IsShortHeld h → IsShortHeld (walking.to_positional c o word w h).held
to_positional c None word w h short v held = held
to_positional c (Some a) word w h short v held =
    pushed a.id word _ v
    (choose IsShortHeld (walking.is_pending a h.pending && walking.takes_several a) h (walking.settled c h) held (settled c h short held))

after_step : (c : List Rule) (word : Text) (w : Walk) (h : Held) (s : Step) → All IsShortRule c → IsShort word → IsShortHeld h → IsShortHeld (walking.after_step c word w h s).held
after_step c word w h (walking.next waiting) short v held = held
after_step c word w h (walking.trailing position) short v held = held
after_step c word w h (walking.subcommand name) short v held = held
after_step c word w h walking.value short v held = to_positional c (arg_by_index c w.position) word w h short v held

walked_from : (c : List Rule) (names : Names) (stopped : Option (Text × List Text)) (w : Walk) (word : Text) → All IsShortRule c → IsShort word → IsShortHeld w.held → IsShortHeld (walking.walked_from c names stopped w word).held
walked_from c names (Some p) w word short v held = held
walked_from c names None w word short v held =
    after_step c word w _ _ short v (word_met c names w.is_trailing w.waiting w.position word w.held short v held)

walked : (c : List Rule) (names : Names) (w : Walk) (word : Text) → All IsShortRule c → IsShort word → IsShortHeld w.held → IsShortHeld (walking.walked c names w word).held
unfolding walking.walked
walked c names w word short v held = walked_from c names w.stopped w word short v held

walk_over : (c : List Rule) (names : Names) (words : List Text) (w : Walk) → All IsShortRule c → All IsShort words → IsShortHeld w.held → IsShortHeld (fold (walking.walked c names) w words).held
walk_over c names [] w short all held = held
walk_over c names (word ∷ words) w short all held =
    walk_over c names words (walking.walked c names w word) short (All-tail IsShort word words all)
    (walked c names w word short (All-head IsShort word words all) held)

-- ---- after the words

default_rows : (id : Text) (how : Reading) (values : List Text) (rows : List Row) → All IsShort values → AreShort rows → AreShort (walking.default_rows id how values rows)
default_rows id how [] rows v rs = rs
default_rows id how (x ∷ xs) rows v rs = with_values id how source.DefaultValue (x ∷ xs) rows v rs

with_defaults : (c : List Rule) (rows : List Row) → All IsShortRule c → AreShort rows → AreShort (fold walking.with_default rows c)
with_defaults [] rows short rs = rs
with_defaults (a ∷ c) rows short rs =
    let one = All-head IsShortRule a c short in
    with_defaults c (walking.with_default rows a) (All-tail IsShortRule a c short)
    (choose AreShort (walking.has_row a.id rows) rows (walking.default_rows a.id (reading_by a) a.defaults rows) rs (default_rows a.id (reading_by a) a.defaults rows one.defaults rs))

-- the values of a command's matches are no longer than its words
pub rows_short : (c : List Rule) (names : Names) (words : List Text) → All IsShortRule c → All IsShort words → AreShort (walking.rows_after c names words)
rows_short c names words short all =
    let nothing : IsShortHeld walking.nothing_held = record { rows = record { all = All-nil IsShortRow }; pending = tt } in
    let end = walk_over c names words (walking.walk_from walking.nothing_held) short all nothing in
    with_defaults c _ short (settled c (walking.walk c names walking.nothing_held words).held short end).rows

first_value : (values : List Text) → All IsShort values → IfSome (slice_get values 0) IsShort
first_value [] all = tt
first_value (v ∷ vs) all = All-head IsShort v vs all

row_value : (o : Option Row) → IfSome o IsShortRow → IfSome (option_and_then (λ r. slice_get r.values 0) o) IsShort
row_value None row = tt
row_value (Some r) row = first_value r.values row

pub value_short : (id : Text) (rows : List Row) → AreShort rows → IfSome (walking.first_of id rows) IsShort
value_short id rows short = row_value _ (found IsShortRow (λ r. bytes_eq r.id id) rows short.all)
