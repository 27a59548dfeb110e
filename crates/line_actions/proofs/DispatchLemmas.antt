-- What a line does, by its first tokens and its directive ([cpp.pre]).
use Rattle.std.proofs.Common.{◌≡◌, Bool, true, false, cond, List, [], ◌∷◌, drop, refl, ap, sym, ◌∙◌, subst}
use Rattle.std.specs.Prelude.{not}
use Rattle.scan_model.specs.declared.token.Tok.{Tok}
use Rattle.scan_model.specs.declared.token.Line.{Line}
use Rattle.scan_model.specs.declared.command.Dialect.{Dialect}
use Rattle.scan_model.specs.declared.directive.Directive.{Directive}
use Rattle.scan_model.specs.declared.directive.Directive.TheVariants.{If, Ifdef, Ifndef, Elif, Elifdef, Elifndef, Else, Endif, Define, Undef, Include, IncludeNext, Renumber, Error, Pragma, Nothing, Unknown}
use Rattle.scan_model.specs.Spelling.{is_one_of}
use Rattle.scan_model.specs.TokenTests.{begins_with}
use Rattle.scan_model.specs.Files.{FileMap}
use Rattle.scan_model.specs.State.{Setup, Core}
use Rattle.scan_model.specs.Effect.{Effect, Now}
use Rattle.scan_model.specs.Conditionals.{is_skipped, opened, opened_skipped, with_condition, with_defined}
use Rattle.scan_model.specs.Directives.{hash_line, plain_line, directive_of}
use Rattle.scan_model.specs.KeywordLines.{module_line}
use Rattle.scan_model.specs.DirectiveLines.{effect_of, effect}
use Rattle.scan_model.specs.Skips.{directive_in, begins_group}
use Rattle.plain_lines.specs.declared.action.Action.{Action}
use Rattle.plain_lines.specs.declared.action.Action.TheVariants.{Goes, Skips, Sent, Refused, Stops, Includes, Tests}
use Rattle.plain_lines.specs.declared.kept_line.KeptLine.{KeptLine}
use Rattle.plain_lines.specs.declared.state.FileState.{FileState}
use Rattle.plain_lines.specs.declared.state.UnitState.{UnitState}
use Rattle.plain_lines.specs.States.{groups_of}
use Rattle.plain_lines.specs.Lines.{toks_at, line_of, after_word, BeginsHash, BeginsGroup}
use Rattle.plain_lines.specs.Actions.{LineEffect, Acts}
use Rattle.line_actions.specs.Kinds.{is_if, is_next, is_endif, is_plain, or_skips}

-- goes on
abbrev pub now : Core → Effect (List Line)
now c = Now c

-- ## By the first token

abbrev is_hash : Tok → Bool
is_hash t = is_one_of ("#" ∷ "%:" ∷ []) t.text

module _ (files : FileMap (List Line)) (setup : Setup) (c : Core) (l : Line) where
  hash_by : (toks : List Tok) → begins_with is_hash toks ≡ true → effect_of files setup c l toks ≡ hash_line files setup c l (drop 2 toks) (directive_of setup.command.dialect (drop 1 toks))
  hash_by [] e = cc
  hash_by (t ∷ ts) e = rw e refl

  skipped_by : (toks : List Tok) → begins_with is_hash toks ≡ false → is_skipped c.stack ≡ true → effect_of files setup c l toks ≡ now c
  skipped_by [] e s = refl
  skipped_by (t ∷ ts) e s = rw (e, s) refl

  module_by : (toks : List Tok) → begins_with is_hash toks ≡ false → is_skipped c.stack ≡ false → effect_of files setup c l toks ≡ module_line c l toks
  module_by [] e s = refl
  module_by (t ∷ ts) e s = rw (e, s) refl

module _ (files : FileMap (List Line)) (setup : Setup) (at : KeptLine) (c : Core) where
  pub effect_hash : setup.command.dialect ≡ at.dialect → BeginsHash at → effect files setup c (line_of at) ≡ hash_line files setup c (line_of at) (after_word at) (directive_of at.dialect (drop 1 (toks_at at)))
  unfolding effect
  effect_hash d e = hash_by files setup c (line_of at) (toks_at at) e ∙ ap (λ dialect. hash_line files setup c (line_of at) (after_word at) (directive_of dialect (drop 1 (toks_at at)))) d

  pub effect_skipped : begins_with is_hash (toks_at at) ≡ false → is_skipped c.stack ≡ true → effect files setup c (line_of at) ≡ now c
  unfolding effect
  effect_skipped e s = skipped_by files setup c (line_of at) (toks_at at) e s

  pub effect_module : begins_with is_hash (toks_at at) ≡ false → is_skipped c.stack ≡ false → effect files setup c (line_of at) ≡ module_line c (line_of at) (toks_at at)
  unfolding effect
  effect_module e s = module_by files setup c (line_of at) (toks_at at) e s

  none_by : (toks : List Tok) → toks ≡ [] → effect_of files setup c (line_of at) toks ≡ now c
  none_by [] e = refl
  none_by (t ∷ ts) e = cc

  pub effect_nothing : toks_at at ≡ [] → effect files setup c (line_of at) ≡ now c
  unfolding effect
  effect_nothing e = none_by (toks_at at) e

pub hash_first : (test : Tok → Bool) (toks : List Tok) (t : Tok) (ts : List Tok) (b : Bool) → toks ≡ t ∷ ts → test t ≡ b → begins_with test toks ≡ b
hash_first test [] t ts b e f = cc
hash_first test (u ∷ us) t ts b e f = let same : u ≡ t = cc in ap test same ∙ f

-- ## By the directive

pub if_begins : (directive : Directive) → is_if directive ≡ true → begins_group directive ≡ true
if_begins If e = refl
if_begins Ifdef e = refl
if_begins Ifndef e = refl
if_begins Elif e = refl
if_begins Elifdef e = refl
if_begins Elifndef e = refl
if_begins Else e = refl
if_begins Endif e = cc
if_begins Define e = cc
if_begins Undef e = cc
if_begins Include e = cc
if_begins IncludeNext e = cc
if_begins Renumber e = cc
if_begins Error e = cc
if_begins Pragma e = cc
if_begins Nothing e = cc
if_begins Unknown e = cc

pub next_begins : (directive : Directive) → is_next directive ≡ true → begins_group directive ≡ true
next_begins If e = refl
next_begins Ifdef e = refl
next_begins Ifndef e = refl
next_begins Elif e = refl
next_begins Elifdef e = refl
next_begins Elifndef e = refl
next_begins Else e = refl
next_begins Endif e = cc
next_begins Define e = cc
next_begins Undef e = cc
next_begins Include e = cc
next_begins IncludeNext e = cc
next_begins Renumber e = cc
next_begins Error e = cc
next_begins Pragma e = cc
next_begins Nothing e = cc
next_begins Unknown e = cc

group_by : (dialect : Dialect) (toks : List Tok) → begins_with is_hash toks ≡ true → begins_group (directive_of dialect (drop 1 toks)) ≡ true → begins_group (directive_in dialect toks) ≡ true
group_by dialect [] h e = cc
group_by dialect (t ∷ ts) h e = rw h e

pub begins_group_here : (at : KeptLine) → BeginsHash at → begins_group (directive_of at.dialect (drop 1 (toks_at at))) ≡ true → BeginsGroup at
begins_group_here at h e = group_by at.dialect (toks_at at) h e

module _ (files : FileMap (List Line)) (setup : Setup) (c : Core) (l : Line) (ts : List Tok) where
  pub if_skipped : (directive : Directive) → is_if directive ≡ true → is_skipped c.stack ≡ true → hash_line files setup c l ts directive ≡ opened_skipped l c
  if_skipped If e s = rw s refl
  if_skipped Ifdef e s = rw s refl
  if_skipped Ifndef e s = rw s refl
  if_skipped Elif e s = cc
  if_skipped Elifdef e s = cc
  if_skipped Elifndef e s = cc
  if_skipped Else e s = cc
  if_skipped Endif e s = cc
  if_skipped Define e s = cc
  if_skipped Undef e s = cc
  if_skipped Include e s = cc
  if_skipped IncludeNext e s = cc
  if_skipped Renumber e s = cc
  if_skipped Error e s = cc
  if_skipped Pragma e s = cc
  if_skipped Nothing e s = cc
  if_skipped Unknown e s = cc

  pub plain_done : (directive : Directive) → is_plain directive ≡ true → is_skipped c.stack ≡ false → hash_line files setup c l ts directive ≡ plain_line files setup c l ts directive
  plain_done If e s = cc
  plain_done Ifdef e s = cc
  plain_done Ifndef e s = cc
  plain_done Elif e s = cc
  plain_done Elifdef e s = cc
  plain_done Elifndef e s = cc
  plain_done Else e s = cc
  plain_done Endif e s = cc
  plain_done Define e s = rw s refl
  plain_done Undef e s = rw s refl
  plain_done Include e s = rw s refl
  plain_done IncludeNext e s = rw s refl
  plain_done Renumber e s = rw s refl
  plain_done Error e s = rw s refl
  plain_done Pragma e s = rw s refl
  plain_done Nothing e s = rw s refl
  plain_done Unknown e s = rw s refl

pub is_plain_last : (directive : Directive) → is_if directive ≡ false → is_next directive ≡ false → is_endif directive ≡ false → is_plain directive ≡ true
is_plain_last If e f g = cc
is_plain_last Ifdef e f g = cc
is_plain_last Ifndef e f g = cc
is_plain_last Elif e f g = cc
is_plain_last Elifdef e f g = cc
is_plain_last Elifndef e f g = cc
is_plain_last Else e f g = cc
is_plain_last Endif e f g = cc
is_plain_last Define e f g = refl
is_plain_last Undef e f g = refl
is_plain_last Include e f g = refl
is_plain_last IncludeNext e f g = refl
is_plain_last Renumber e f g = refl
is_plain_last Error e f g = refl
is_plain_last Pragma e f g = refl
is_plain_last Nothing e f g = refl
is_plain_last Unknown e f g = refl

pub is_end : (directive : Directive) → is_endif directive ≡ true → directive ≡ Endif
is_end If e = cc
is_end Ifdef e = cc
is_end Ifndef e = cc
is_end Elif e = cc
is_end Elifdef e = cc
is_end Elifndef e = cc
is_end Else e = cc
is_end Endif e = refl
is_end Define e = cc
is_end Undef e = cc
is_end Include e = cc
is_end IncludeNext e = cc
is_end Renumber e = cc
is_end Error e = cc
is_end Pragma e = cc
is_end Nothing e = cc
is_end Unknown e = cc

module _ (files : FileMap (List Line)) (setup : Setup) (c : Core) (l : Line) (ts : List Tok) (directive : Directive) (live : is_skipped c.stack ≡ false) where
  pub live_if : directive ≡ If → hash_line files setup c l ts directive ≡ with_condition files setup c l ts (opened l)
  live_if e = ap (hash_line files setup c l ts) e ∙ by where
    by : hash_line files setup c l ts If ≡ with_condition files setup c l ts (opened l)
    by = rw live refl

  pub live_ifdef : directive ≡ Ifdef → hash_line files setup c l ts directive ≡ with_defined c l ts (opened l)
  live_ifdef e = ap (hash_line files setup c l ts) e ∙ by where
    by : hash_line files setup c l ts Ifdef ≡ with_defined c l ts (opened l)
    by = rw live refl

  pub live_ifndef : directive ≡ Ifndef → hash_line files setup c l ts directive ≡ with_defined c l ts (λ yields. opened l (not yields))
  live_ifndef e = ap (hash_line files setup c l ts) e ∙ by where
    by : hash_line files setup c l ts Ifndef ≡ with_defined c l ts (λ yields. opened l (not yields))
    by = rw live refl

-- what a line does by its directive
abbrev pub by_hash : KeptLine → Directive → LineEffect
by_hash at directive files setup c = hash_line files setup c (line_of at) (after_word at) directive

abbrev pub by_plain : KeptLine → Directive → LineEffect
by_plain at directive files setup c = plain_line files setup c (line_of at) (after_word at) directive

module _ (at : KeptLine) (directive d : Directive) (same : directive ≡ d) (file : FileState) (unit : UnitState) (file' : FileState) (unit' : UnitState) (action : Action) where
  pub hash_as : Acts at (by_hash at d) file unit file' unit' action → Acts at (by_hash at directive) file unit file' unit' action
  hash_as h = subst (λ (d : Directive). Acts at (by_hash at d) file unit file' unit' action) (sym same) h

  pub plain_as : Acts at (by_plain at d) file unit file' unit' action → Acts at (by_plain at directive) file unit file' unit' action
  plain_as h = subst (λ (d : Directive). Acts at (by_plain at d) file unit file' unit' action) (sym same) h

-- ## Groups that are skipped

module _ (at : KeptLine) (e : LineEffect) (file : FileState) (unit : UnitState) (file' : FileState) (unit' : UnitState) where
  pub or_skips_acts : (action : Action) → BeginsGroup at → Acts at e file unit file' unit' action → Acts at e file unit file' unit' (or_skips (groups_of file'.groups.items) action)
  or_skips_acts Goes g h = by (is_skipped (groups_of file'.groups.items)) refl where
    by : (b : Bool) → is_skipped (groups_of file'.groups.items) ≡ b → Acts at e file unit file' unit' (cond b Skips Goes)
    by true s = λ files setup d entered looked. let done = h files setup d entered looked in (done.0, done.1, s, g)
    by false s = h
  or_skips_acts Skips g h = h
  or_skips_acts Sent g h = h
  or_skips_acts (Refused fault) g h = h
  or_skips_acts (Stops kind) g h = h
  or_skips_acts (Includes form name) g h = h
  or_skips_acts (Tests condition) g h = h
