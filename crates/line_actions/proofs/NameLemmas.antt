-- The names of headers, as the code reads them ([cpp.include]).
use Rattle.std.proofs.Common.{◌≡◌, ℕ, ◌<◌, Bool, true, false, cond, List, [], ◌∷◌, ◌++◌, drop, length, get_or, refl, ap, sym, ◌∙◌, arith}
use Rattle.std.specs.Prelude.{Option, Some, None, ◌==◌}
use Rattle.std.specs.Option.{option_map, option_and_then}
use Rattle.scan_model.specs.declared.token.Tok.{Tok}
use Rattle.scan_model.specs.declared.token.Line.{Line}
use Rattle.scan_model.specs.declared.command.Form.TheVariants.{Quoted, Angled}
use Rattle.scan_model.specs.TokenTests.{is_of, begins_with, is_sign, is_plain_string, unquoted}
use Rattle.scan_model.specs.HeaderName.{Named, form_of, nonempty, written_before, angled_rest, angled, name_of, header_or_name}
use Rattle.scan_model.specs.Files.{FileMap}
use Rattle.scan_model.specs.State.{Setup, Core}
use Rattle.scan_model.specs.Includes.{include_line, include_named}
use Rattle.scan_model.specs.declared.expansion.Mode.TheVariants as ModeIs
use Rattle.scan_model.specs.Effect.{Effect}
use Rattle.scan_model.specs.Replacing.{with_replaced}
use Rattle.scan_model.specs.declared.unit_end.FaultKind.TheVariants as FaultIs
use Rattle.line_actions.specs.Names.{form_and_name, angled_name, quoted_name, spelled_on, spelled_rest, spelled}
use Rattle.scan_model.specs.declared.token.Kind.TheVariants.{Header}

-- ## Names in angle brackets

angled_map : (s : List ℕ) (o : Option Named) (p : Option (List ℕ)) → option_map form_and_name o ≡ option_map angled_name p → option_map form_and_name (option_map (written_before s) o) ≡ option_map angled_name (option_map (s ++◌) p)
angled_map s None None e = refl
angled_map s None (Some t) e = cc
angled_map s (Some n) None e = cc
angled_map s (Some n) (Some t) e = let f : form_and_name n ≡ (Angled, t) = cc in ap (λ p. Some (p.0, s ++ p.1)) f

either_name : (b : Bool) (n : Option Named) (p : Option (List ℕ)) (x : Option Named) (y : Option (List ℕ)) → option_map form_and_name x ≡ option_map angled_name y → option_map form_and_name n ≡ option_map angled_name p →
    option_map form_and_name (cond b x n) ≡ option_map angled_name (cond b y p)
either_name true n p x y h k = h
either_name false n p x y h k = k

rest_spelled : (ts : List Tok) → option_map form_and_name (angled_rest ts) ≡ option_map angled_name (spelled_rest ts)
rest_spelled [] = refl
rest_spelled (t ∷ ts) =
    either_name (is_sign (">" ∷ []) t) (option_map (written_before (cond t.space (32 ∷ t.text) t.text)) (angled_rest ts)) (option_map (spelled_on t ++◌) (spelled_rest ts)) (Some (record { form = Angled; name = []; after = ts })) (Some []) refl
    (angled_map (spelled_on t) (angled_rest ts) (spelled_rest ts) (rest_spelled ts))

pub angled-spelled : (ts : List Tok) → option_map form_and_name (angled ts) ≡ option_map angled_name (spelled ts)
angled-spelled [] = refl
angled-spelled (t ∷ ts) =
    either_name (is_sign (">" ∷ []) t) (option_map (written_before t.text) (angled_rest ts)) (option_map (t.text ++◌) (spelled_rest ts)) None None refl
    (angled_map t.text (angled_rest ts) (spelled_rest ts) (rest_spelled ts))

-- ## The name that tokens give, by the first one

nonempty_pair : (b : Bool) (n : Named) → option_map form_and_name (cond b None (Some n)) ≡ cond b None (Some (n.form, n.name))
nonempty_pair true n = refl
nonempty_pair false n = refl

pub first_is : {A : Type 0} (xs : List A) (x : A) → 0 < length xs → x ≡ get_or xs 0 x → xs ≡ x ∷ drop 1 xs
first_is [] x h e = absurd (omega arith)
first_is (y ∷ ys) x h e = ap (λ z. z ∷ ys) (sym e)

pub name_nothing : (toks : List Tok) → length toks ≡ 0 → None ≡ option_map form_and_name (name_of toks)
unfolding name_of
name_nothing [] e = refl
name_nothing (t ∷ ts) e = absurd (omega (arith, e))

module _ (t : Tok) (ts : List Tok) where
  name_string_first : is_plain_string t ≡ true → option_map form_and_name (name_of (t ∷ ts)) ≡ quoted_name (unquoted t.text)
  unfolding name_of
  name_string_first e = let n : Named = record { form = Quoted; name = unquoted t.text; after = ts } in rw e (nonempty_pair (length (unquoted t.text) == 0) n)

  name_angle_first : is_plain_string t ≡ false → is_sign ("<" ∷ []) t ≡ true → option_map form_and_name (name_of (t ∷ ts)) ≡ option_map angled_name (spelled ts)
  unfolding name_of
  name_angle_first e f = rw (e, f) (angled-spelled ts)

  name_other_first : is_plain_string t ≡ false → is_sign ("<" ∷ []) t ≡ false → option_map form_and_name (name_of (t ∷ ts)) ≡ None
  unfolding name_of
  name_other_first e f = rw (e, f) refl

  header_first : is_of Header t ≡ true → option_map form_and_name (header_or_name (t ∷ ts)) ≡ Some (form_of t.text, unquoted t.text)
  header_first e = rw e refl

  no_header_first : is_of Header t ≡ false → header_or_name (t ∷ ts) ≡ name_of (t ∷ ts)
  no_header_first e = rw e refl

module _ (toks : List Tok) (t : Tok) (some : 0 < length toks) (here : t ≡ get_or toks 0 t) where
  pub name_string : is_plain_string t ≡ true → option_map form_and_name (name_of toks) ≡ quoted_name (unquoted t.text)
  name_string e = ap (λ us. option_map form_and_name (name_of us)) (first_is toks t some here) ∙ name_string_first t (drop 1 toks) e

  pub name_angle : is_plain_string t ≡ false → is_sign ("<" ∷ []) t ≡ true → option_map form_and_name (name_of toks) ≡ option_map angled_name (spelled (drop 1 toks))
  name_angle e f = ap (λ us. option_map form_and_name (name_of us)) (first_is toks t some here) ∙ name_angle_first t (drop 1 toks) e f

  pub name_other : is_plain_string t ≡ false → is_sign ("<" ∷ []) t ≡ false → option_map form_and_name (name_of toks) ≡ None
  name_other e f = ap (λ us. option_map form_and_name (name_of us)) (first_is toks t some here) ∙ name_other_first t (drop 1 toks) e f

  pub header_named : is_of Header t ≡ true → option_map form_and_name (header_or_name toks) ≡ Some (form_of t.text, unquoted t.text)
  header_named e = ap (λ us. option_map form_and_name (header_or_name us)) (first_is toks t some here) ∙ header_first t (drop 1 toks) e

  pub no_header : is_of Header t ≡ false → header_or_name toks ≡ name_of toks
  no_header e = ap header_or_name (first_is toks t some here) ∙ no_header_first t (drop 1 toks) e ∙ ap name_of (sym (first_is toks t some here))

-- ## What an include of a name does

-- what an include does where no header stands after its word
abbrev pub by_replaced : Bool → FileMap (List Line) → Setup → Core → Line → List Tok → Effect (List Line)
by_replaced next files setup c l ts = with_replaced ModeIs.Line c l ts (λ toks. include_named next files setup c l (option_and_then nonempty (name_of toks)))

pub no_header_line : (next : Bool) (files : FileMap (List Line)) (setup : Setup) (c : Core) (l : Line) (ts : List Tok) → begins_with (is_of Header) ts ≡ false → include_line next files setup c l ts ≡ by_replaced next files setup c l ts
no_header_line next files setup c l [] e = refl
no_header_line next files setup c l (t ∷ ts) e = rw e refl
