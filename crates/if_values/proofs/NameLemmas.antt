-- What follows a header's name.
use Rattle.std.proofs.Common.{◌≡◌, ℕ, Bool, true, false, cond, List, [], ◌∷◌, ◌<◌, length, drop, get_or, ◌∙◌, refl, arith}
use Rattle.std.specs.Prelude.{Option, Some, None}
use Rattle.std.specs.Option.{option_map}
use Rattle.scan_model.specs.declared.token.Tok.{Tok}
use Rattle.scan_model.specs.declared.command.Form.{Form}
use Rattle.scan_model.specs.declared.command.Form.TheVariants.{Angled}
use Rattle.scan_model.specs.TokenTests.{is_sign}
use Rattle.scan_model.specs.HeaderName.{Named, written_before, angled_rest, angled}
use Rattle.if_values.specs.Names.{shape, past_angle}

-- an angled name that this follows
abbrev pub ended_by : List Tok → Form × List Tok
ended_by ts = (Angled, ts)

shape-written_before : (s : List ℕ) (o : Option Named) → option_map shape (option_map (written_before s) o) ≡ option_map shape o
shape-written_before s None = refl
shape-written_before s (Some n) = refl

either : (t : Bool) (ts : List Tok) (o : Option Named) (p : Option (List Tok)) → option_map shape o ≡ option_map ended_by p → option_map shape (cond t (Some (record { form = Angled; name = []; after = ts })) o) ≡ option_map ended_by (cond t (Some ts) p)
either true ts o p h = refl
either false ts o p h = h

angled_rest-past : (ts : List Tok) → option_map shape (angled_rest ts) ≡ option_map ended_by (past_angle ts)
angled_rest-past [] = refl
angled_rest-past (t ∷ ts) =
    either (is_sign (">" ∷ []) t) ts (option_map (written_before (cond t.space (32 ∷ t.text) t.text)) (angled_rest ts)) (past_angle ts)
    (shape-written_before (cond t.space (32 ∷ t.text) t.text) (angled_rest ts) ∙ angled_rest-past ts)

angled-past : (t : Tok) (ts : List Tok) → is_sign (">" ∷ []) t ≡ false → option_map shape (angled (t ∷ ts)) ≡ option_map ended_by (past_angle ts)
angled-past t ts e = rw e (shape-written_before t.text (angled_rest ts) ∙ angled_rest-past ts)

pub angled-rest : (toks rest : List Tok) (t : Tok) → 0 < length toks → t ≡ get_or toks 0 t → is_sign (">" ∷ []) t ≡ false → rest ≡ drop 1 toks → option_map shape (angled toks) ≡ option_map ended_by (past_angle rest)
angled-rest [] rest t h e f k = absurd (omega arith)
angled-rest (u ∷ us) rest t h e f k = let g : is_sign (">" ∷ []) u ≡ false = rw e at f in rw k (angled-past u us g)
