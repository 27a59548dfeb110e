-- How many candidates a name has.
use Rattle.std.proofs.Common.{◌≡◌, ℕ, ◌+◌, ◌-◌, true, false, List, [], ◌∷◌, ◌++◌, map, drop, length, ap, sym, ◌∙◌, if◌then◌else◌, arith, length-append, length-drop}
use Rattle.std.proofs.lemmas.List.{length-map}
use Rattle.scan_model.specs.declared.command.Form.{Form}
use Rattle.scan_model.specs.declared.command.Form.TheVariants.{Quoted, Angled, Next}
use Rattle.scan_model.specs.declared.command.SearchList.{SearchList}
use Rattle.scan_model.specs.Candidates.{angled_folders, chain, folders, candidates}
use Rattle.scan_model.specs.Paths.{is_absolute, normal, join}

module _ (list : SearchList) (program : List (List ℕ)) (form : Form) (from name : List ℕ) where
  pub absolute_count : is_absolute name ≡ true → 1 ≡ length (candidates list program form from name)
  unfolding candidates
  absolute_count is = sym (ap (λ b. length (if b then normal name ∷ [] else map (λ folder. join folder name) (folders list program form from))) is)

  folder_count : is_absolute name ≡ false → length (candidates list program form from name) ≡ length (folders list program form from)
  unfolding candidates
  folder_count is =
      ap (λ b. length (if b then normal name ∷ [] else map (λ folder. join folder name) (folders list program form from))) is
      ∙ length-map (folders list program form from) (λ folder. join folder name)

  module _ (relative : is_absolute name ≡ false) (q a s p r : ℕ) (quote : q ≡ length list.quote) (angled : a ≡ length list.angled) (system : s ≡ length list.system) (own : p ≡ length program) (after : r ≡ length list.after) where
    angled_count : a + s + p + r ≡ length (angled_folders list program)
    angled_count =
        let b : length (angled_folders list program) ≡ length (list.angled ++ list.system ++ program) + length list.after = length-append (list.angled ++ list.system ++ program) list.after in
        let c : length (list.angled ++ list.system ++ program) ≡ length (list.angled ++ list.system) + length program = length-append (list.angled ++ list.system) program in
        let d : length (list.angled ++ list.system) ≡ length list.angled + length list.system = length-append list.angled list.system in
        omega (arith, angled, system, own, after, b, c, d)

    chain_count : q + (a + s + p + r) ≡ length (chain list program)
    chain_count =
        let split : length (chain list program) ≡ length list.quote + length (angled_folders list program) = length-append list.quote (angled_folders list program) in
        let all = angled_count in
        omega (arith, quote, all, split)

    pub angled_form : form ≡ Angled → a + s + p + r ≡ length (candidates list program form from name)
    angled_form is = angled_count ∙ ap (λ f. length (folders list program f from)) (sym is) ∙ sym (folder_count relative)

    pub quoted_form : form ≡ Quoted → q + (a + s + p + r) + 1 ≡ length (candidates list program form from name)
    quoted_form is =
        let all = chain_count in
        let one : q + (a + s + p + r) + 1 ≡ length (folders list program Quoted from) = omega (arith, all) in
        one ∙ ap (λ f. length (folders list program f from)) (sym is) ∙ sym (folder_count relative)

    pub next_form : (n : ℕ) → form ≡ Next n → q + (a + s + p + r) - n ≡ length (candidates list program form from name)
    next_form n is =
        let all = chain_count in
        let less : length (drop n (chain list program)) ≡ length (chain list program) - n = length-drop n (chain list program) in
        let left : q + (a + s + p + r) - n ≡ length (folders list program (Next n) from) = omega (arith, all, less) in
        left ∙ ap (λ f. length (folders list program f from)) (sym is) ∙ sym (folder_count relative)
