-- Units of both dialects, computed: each theorem is what its name says.
use Rattle.std.proofs.Common.{◌≡◌, [], ◌∷◌, map, refl, codes}
use Rattle.scan_model.specs.declared.command.Dialect.TheVariants.{Cxx20, Cxx23}
use Rattle.scan_model.specs.declared.skip.Skip.TheVariants.{Partner, Broken, Open}
use Rattle.scan_model.specs.declared.unit_end.FaultKind.TheVariants as FaultIs
use Rattle.scan_model.specs.Lines.{kept}
use Rattle.scan_model.specs.Dialects.{dialect_after_all}
use Rattle.scan_model.specs.Skips.{skip}
use Rattle.unit_laws.proofs.Computing.{running}
use Rattle.unit_laws.proofs.UnitForms.{files_of, plain, in_cxx23, with_settings, ends_by, ends, ends_in_cxx23, looks_by, requiring, stops}
use Rattle.scan_model.specs.declared.command.Setting.TheVariants.{Undef}

-- ## `#elifdef` and `#elifndef`

an_elifdef_is_passed_over_in_a_skipped_group_of_cxx20 : ends_by (files_of (("/p/u.cpp", "#include \"h.h\"\n") ∷ ("/p/h.h", "#if 0\n#elifdef __cplusplus\nimport d;\n#endif\n") ∷ [])) plain ≡ requiring []
unfolding running
an_elifdef_is_passed_over_in_a_skipped_group_of_cxx20 = refl

an_elifdef_opens_a_group_of_cxx23 : ends_by (files_of (("/p/u.cpp", "#include \"h.h\"\n") ∷ ("/p/h.h", "#if 0\n#elifdef __cplusplus\nimport d;\n#endif\n") ∷ [])) (in_cxx23 plain) ≡ requiring ("d" ∷ [])
unfolding running
an_elifdef_opens_a_group_of_cxx23 = refl

both_dialects_look_at_the_same_paths : looks_by (files_of (("/p/u.cpp", "#include \"h.h\"\n") ∷ ("/p/h.h", "#if 0\n#elifdef __cplusplus\nimport d;\n#endif\n") ∷ [])) (in_cxx23 plain) ≡ looks_by (files_of (("/p/u.cpp", "#include \"h.h\"\n") ∷ ("/p/h.h", "#if 0\n#elifdef __cplusplus\nimport d;\n#endif\n") ∷ [])) plain
unfolding running
both_dialects_look_at_the_same_paths = refl

an_elifdef_is_unknown_in_cxx20 : ends "#if 1\n#elifdef X\n#endif\n" ≡ stops FaultIs.UnknownDirective 2
unfolding running
an_elifdef_is_unknown_in_cxx20 = refl

an_elifdef_is_known_in_cxx23 : ends_in_cxx23 "#if 1\n#elifdef X\n#endif\n" ≡ requiring []
unfolding running
an_elifdef_is_known_in_cxx23 = refl

an_elifndef_needs_a_name : ends_in_cxx23 "#if 0\n#elifndef 3\n#endif\n" ≡ stops FaultIs.BadCondition 2
unfolding running
an_elifndef_needs_a_name = refl

an_elifndef_is_the_other_way_round : ends_in_cxx23 "#if 0\n#elifndef __cplusplus\nimport a;\n#elifndef X\nimport b;\n#else\nimport c;\n#endif\n" ≡ requiring ("b" ∷ [])
unfolding running
an_elifndef_is_the_other_way_round = refl

an_elifdef_after_a_taken_group_is_not_asked : ends_in_cxx23 "#if 1\n#elifdef 3\nimport a;\n#elifndef\n#endif\n" ≡ requiring []
unfolding running
an_elifdef_after_a_taken_group_is_not_asked = refl

words_after_the_name_are_passed_over : ends_in_cxx23 "#if 0\n#elifndef X y (\nimport a;\n#endif\n" ≡ requiring ("a" ∷ [])
unfolding running
words_after_the_name_are_passed_over = refl

an_elifdef_after_an_else_is_unbalanced : ends_in_cxx23 "#if 1\n#else\n#elifdef X\n#endif\n" ≡ stops FaultIs.Unbalanced 3
unfolding running
an_elifdef_after_an_else_is_unbalanced = refl

in_cxx20_it_is_passed_over_there : ends "#if 1\n#else\n#elifdef X\n#endif\n" ≡ requiring []
unfolding running
in_cxx20_it_is_passed_over_there = refl

an_elifndef_stands_in_a_group : ends_in_cxx23 "\n#elifndef X\n" ≡ stops FaultIs.Unbalanced 2
unfolding running
an_elifndef_stands_in_a_group = refl

an_elifdef_inside_a_skipped_group_is_skipped : ends_in_cxx23 "#if 0\n#if 0\n#elifdef __cplusplus\nimport a;\n#endif\n#endif\n" ≡ requiring []
unfolding running
an_elifdef_inside_a_skipped_group_is_skipped = refl

-- ## `__cplusplus`

cplusplus_has_its_value_in_cxx23 : ends_in_cxx23 "#if __cplusplus == 202302L\nimport a;\n#endif\n" ≡ requiring ("a" ∷ [])
unfolding running
cplusplus_has_its_value_in_cxx23 = refl

and_another_in_cxx20 : ends "#if __cplusplus == 202302L\nimport a;\n#endif\n" ≡ requiring []
unfolding running
and_another_in_cxx20 = refl

cplusplus_counts_as_defined_in_cxx23 : ends_in_cxx23 "#if defined(__cplusplus) && __cplusplus > 202002\nimport a;\n#endif\n" ≡ requiring ("a" ∷ [])
unfolding running
cplusplus_counts_as_defined_in_cxx23 = refl

a_setting_may_take_cplusplus_away : ends_by (files_of (("/p/u.cpp", "#ifdef __cplusplus\nimport a;\n#endif\n#pragma pop_macro(\"__cplusplus\")\n") ∷ [])) (in_cxx23 (with_settings (Undef (codes "__cplusplus") ∷ []))) ≡ requiring []
unfolding running
a_setting_may_take_cplusplus_away = refl

an_attribute_of_cxx23_has_none : ends_in_cxx23 "#if __has_cpp_attribute(assume) == 0\nimport a;\n#endif\n" ≡ requiring ("a" ∷ [])
unfolding running
an_attribute_of_cxx23_has_none = refl

-- ## The words of a command

a_standard_is_named_in_its_draft : dialect_after_all Cxx20 (map codes ("c++" ∷ "-std=gnu++2b" ∷ "-c" ∷ [])) ≡ Cxx23
unfolding running
a_standard_is_named_in_its_draft = refl

the_last_standard_counts : dialect_after_all Cxx20 (map codes ("-std=c++23" ∷ "-std=c++17" ∷ [])) ≡ Cxx20
unfolding running
the_last_standard_counts = refl

later_standards_count_as_cxx23 : map (λ word. dialect_after_all Cxx20 (codes word ∷ [])) ("-std=c++23" ∷ "-std=c++2c" ∷ "-std=gnu++26" ∷ "-std=c++20" ∷ "-std=" ∷ "-std=c++233" ∷ []) ≡ Cxx23 ∷ Cxx23 ∷ Cxx23 ∷ Cxx20 ∷ Cxx20 ∷ Cxx20 ∷ []
unfolding running
later_standards_count_as_cxx23 = refl

-- ## Skips: the line to which a conditional leads that isn't taken, and how the unit ends

a_skip_leads_to_the_partner : skip (kept (codes "#if 0\n#if x\n#endif\n#elif 1\nimport a;\n#endif\n")) 0 Cxx20 ≡ Partner 3
unfolding running
a_skip_leads_to_the_partner = refl

from_there_the_unit_goes_on : ends "#if 0\n#if x\n#endif\n#elif 1\nimport a;\n#endif\n" ≡ requiring ("a" ∷ [])
unfolding running
from_there_the_unit_goes_on = refl

a_skip_meets_a_broken_group_inside : skip (kept (codes "#if 0\n#if x\n#else\n#else\n#endif\n#endif\n")) 0 Cxx20 ≡ Broken 3
unfolding running
a_skip_meets_a_broken_group_inside = refl

there_the_unit_is_unbalanced : ends "#if 0\n#if x\n#else\n#else\n#endif\n#endif\n" ≡ stops FaultIs.Unbalanced 4
unfolding running
there_the_unit_is_unbalanced = refl

a_skip_finds_its_own_group_open : skip (kept (codes "#if 0\n#if x\n#endif\n")) 0 Cxx20 ≡ Open 0
unfolding running
a_skip_finds_its_own_group_open = refl

then_the_unit_is_unbalanced_at_it : ends "#if 0\n#if x\n#endif\n" ≡ stops FaultIs.Unbalanced 1
unfolding running
then_the_unit_is_unbalanced_at_it = refl

a_skip_finds_a_group_open_inside : skip (kept (codes "#if 0\n#if x\n")) 0 Cxx20 ≡ Open 1
unfolding running
a_skip_finds_a_group_open_inside = refl

then_the_unit_is_unbalanced_at_that_one : ends "#if 0\n#if x\n" ≡ stops FaultIs.Unbalanced 2
unfolding running
then_the_unit_is_unbalanced_at_that_one = refl

in_cxx23_an_elifdef_is_a_partner : skip (kept (codes "#if 0\n#elifdef X\n#else\n#elifndef X\n#endif\n")) 0 Cxx23 ≡ Partner 1
unfolding running
in_cxx23_an_elifdef_is_a_partner = refl

in_cxx20_it_is_none : skip (kept (codes "#if 0\n#elifdef X\n#else\n#elifndef X\n#endif\n")) 0 Cxx20 ≡ Partner 2
unfolding running
in_cxx20_it_is_none = refl

in_cxx23_an_elifndef_may_be_broken : skip (kept (codes "#if 0\n#if 1\n#else\n#elifndef X\n#endif\n#endif\n")) 0 Cxx23 ≡ Broken 3
unfolding running
in_cxx23_an_elifndef_may_be_broken = refl

in_cxx20_it_is_passed_over : skip (kept (codes "#if 0\n#if 1\n#else\n#elifndef X\n#endif\n#endif\n")) 0 Cxx20 ≡ Partner 5
unfolding running
in_cxx20_it_is_passed_over = refl

text_and_module_lines_count_as_kept_lines_alone : skip (kept (codes "x\n#if 0\nint a;\nimport b;\n#define C\n#endif\n")) 0 Cxx20 ≡ Partner 3
unfolding running
text_and_module_lines_count_as_kept_lines_alone = refl
