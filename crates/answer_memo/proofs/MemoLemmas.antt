-- What a memo has of a path, before and after an answer is kept.
use Rattle.std.proofs.Common.{◌≡◌, ℕ, cond, inr, List, [], ◌∷◌, refl, sym, ap, subst, ◌∙◌, Result, Ok, Err}
use Rattle.std.specs.Prelude.{Option, Some, None, IfSome, IfOk}
use Rattle.std.specs.Option.{option_map}
use Rattle.std.specs.Result.{result_ok}
use Rattle.std.specs.Map.{lookup, KeepsOthers}
use Rattle.std.specs.declared.alloc.Global.{Global}
use Rattle.std.specs.declared.vec.Vec.{Vec}
use Rattle.scan_model.specs.declared.memory.NoMemory as want
use Rattle.scan_model.specs.declared.token.Line.{Line}
use Rattle.scan_model.specs.Files.{Content}
use Rattle.scan_model.specs.TokenTests.{same}
use Rattle.reducer.specs.declared.Answer.{Answer}
use Rattle.reducer.specs.Answers.{content_of}
use Rattle.byte_keys.specs.Maps.{is_at, same_key, IsPut}
use Rattle.byte_keys.proofs.MapLemmas.{put_changes_one, entries_find_alike, option_map-cond}
use Rattle.answer_memo.specs.Memo.{entries, known_to, IsKnownFurther}

pub known_entries : (es : List (Vec ℕ Global × Answer)) (path : List ℕ) → known_to (entries es) path ≡ option_map content_of (lookup (is_at path) es)
unfolding known_to
known_entries es path = entries_find_alike content_of es path

pub known_empty : (path : List ℕ) → known_to [] path ≡ None
unfolding known_to
known_empty path = refl

pub found : (es : List (Vec ℕ Global × Answer)) (path : List ℕ) (a : Answer) (r : Result Answer want.NoMemory) (o : Option Answer) → Some a ≡ lookup (is_at path) es → IfOk r (λ shared. content_of shared ≡ content_of a) → o ≡ result_ok r → IfSome o (λ answer. known_to (entries es) path ≡ Some (content_of answer))
found es path a (Ok b) o is same_content ok = subst (λ z. IfSome z (λ answer. known_to (entries es) path ≡ Some (content_of answer))) (sym ok) (known_entries es path ∙ (ap (option_map content_of) (sym is) ∙ ap Some (sym same_content)))
found es path a (Err e) o is same_content ok = subst (λ z. IfSome z (λ answer. known_to (entries es) path ≡ Some (content_of answer))) (sym ok) tt

pub kept_one : (path key : List ℕ) (a : Answer) (c : Content (List Line)) (old new : List (Vec ℕ Global × Answer)) → key ≡ path → content_of a ≡ c → lookup (is_at key) new ≡ Some a → KeepsOthers same_key (is_at key) old new → IsKnownFurther (entries old) path c (entries new)
kept_one path key a c old new is content here others = inr at_other where
  put : IsPut path a old new
  put = put_changes_one path key a old new is here others

  at_other : (other : List ℕ) → known_to (entries new) other ≡ cond (same path other) (Some c) (known_to (entries old) other)
  at_other other =
      known_entries new other ∙ ap (option_map content_of) (put other) ∙ option_map-cond content_of (same path other) a (lookup (is_at other) old)
      ∙ (λ i. cond (same path other) (Some (content i)) (sym (known_entries old other) i))

pub either_way : {X Y U N G : Type 0} (r : Result X Y) → Rattle.std.specs.Prelude.OnOk r U → Rattle.std.specs.Prelude.OnErr r N → (U → G) → (N → G) → G
either_way (Ok x) u n f g = f u
either_way (Err y) u n f g = g n
