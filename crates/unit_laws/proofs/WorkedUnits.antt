-- Units of one file, computed: each theorem is what its name says.
use Rattle.std.proofs.Common.{◌≡◌, [], ◌∷◌, map, refl, true, false, codes}
use Rattle.scan_model.specs.declared.unit_end.FaultKind.TheVariants as FaultIs
use Rattle.unit_laws.proofs.Computing.{running}
use Rattle.unit_laws.proofs.UnitForms.{ends, looks_with, requiring, providing, stops, leaves}

-- ## Module and import lines

an_interface_is_provided : ends "export module M;" ≡ providing "M" true []
unfolding running
an_interface_is_provided = refl

an_implementation_requires_its_module_once : ends "module M;\nimport N;\nimport N;\n" ≡ requiring ("M" ∷ "N" ∷ [])
unfolding running
an_implementation_requires_its_module_once = refl

a_partition_is_named_after_its_module : ends "module M:P;\nimport :Q;\n" ≡ providing "M:P" false ("M:Q" ∷ [])
unfolding running
a_partition_is_named_after_its_module = refl

a_partition_needs_a_module_before_it : ends "\nimport :P;\nmodule M;\n" ≡ stops FaultIs.PartitionOutsideModule 2
unfolding running
a_partition_needs_a_module_before_it = refl

a_header_unit_is_refused : ends "import <vector>;" ≡ stops FaultIs.HeaderUnit 1
unfolding running
a_header_unit_is_refused = refl

a_header_unit_is_refused_before_its_form : ends "import \"v\" x" ≡ stops FaultIs.HeaderUnit 1
unfolding running
a_header_unit_is_refused_before_its_form = refl

a_module_line_ends_with_a_semicolon : ends "import a" ≡ stops FaultIs.BadModuleLine 1
unfolding running
a_module_line_ends_with_a_semicolon = refl

a_unit_has_one_module : ends "module A;\nmodule B;" ≡ stops FaultIs.SecondModule 2
unfolding running
a_unit_has_one_module = refl

a_keyword_is_no_object_like_macro : ends "#define import x\nimport a;\n" ≡ stops FaultIs.KeywordIsMacro 2
unfolding running
a_keyword_is_no_object_like_macro = refl

nor_is_the_export_before_it : ends "#define export\nexport module M;\n" ≡ stops FaultIs.KeywordIsMacro 2
unfolding running
nor_is_the_export_before_it = refl

nor_is_the_keyword_after_an_export : ends "#define module x\nexport module M;\n" ≡ stops FaultIs.KeywordIsMacro 2
unfolding running
nor_is_the_keyword_after_an_export = refl

a_function_like_macro_named_as_a_keyword_stands : ends "#define import() x\nimport a;\n" ≡ requiring ("a" ∷ [])
unfolding running
a_function_like_macro_named_as_a_keyword_stands = refl

a_module_fault_comes_before_a_later_stop : ends "import a\n#error no\n" ≡ stops FaultIs.BadModuleLine 1
unfolding running
a_module_fault_comes_before_a_later_stop = refl

a_stop_before_a_bad_module_line_stands : ends "#error no\nimport a\n" ≡ stops FaultIs.ErrorDirective 1
unfolding running
a_stop_before_a_bad_module_line_stands = refl

after_a_module_fault_nothing_is_looked_at : looks_with (("/p/u.cpp", "module A;\nmodule B;\n#include \"x.h\"\n") ∷ []) ≡ map codes ("/p/u.cpp" ∷ [])
unfolding running
after_a_module_fault_nothing_is_looked_at = refl

-- ## Text

a_raw_string_hides_what_looks_like_directives : ends "auto s = R\"x(\n#define import x\n)x\";\nimport a;\n" ≡ requiring ("a" ∷ [])
unfolding running
a_raw_string_hides_what_looks_like_directives = refl

a_longer_name_begins_no_raw_string : ends "FOOR\"(\"\nimport a;\nx = \")\";\n" ≡ requiring ("a" ∷ [])
unfolding running
a_longer_name_begins_no_raw_string = refl

lines_count_splices_and_comments : ends "int a\\\n;\n/* one\ntwo\nthree */\nx\n#if __LINE__ == 7\nimport seven;\n#endif" ≡ requiring ("seven" ∷ [])
unfolding running
lines_count_splices_and_comments = refl

text_between_directives_is_replaced : leaves "#define A(x) x+x\nA(1);\nimport m;\n" ≡ map codes ("1" ∷ "+" ∷ "1" ∷ ";" ∷ "import" ∷ "m" ∷ ";" ∷ "" ∷ [])
unfolding running
text_between_directives_is_replaced = refl

a_call_goes_on_over_lines_of_text : leaves "#define A(x) x+x\nA(\n1)\n" ≡ map codes ("1" ∷ "+" ∷ "1" ∷ [])
unfolding running
a_call_goes_on_over_lines_of_text = refl

a_directive_ends_the_run : leaves "#define A(x) x+x\nA(\n#\n1)\n" ≡ map codes ("A" ∷ "(" ∷ "1" ∷ ")" ∷ [])
unfolding running
a_directive_ends_the_run = refl

the_counter_goes_on_over_runs : leaves "__COUNTER__ __COUNTER__\n#undef X\n__COUNTER__\n" ≡ map codes ("0" ∷ "1" ∷ "2" ∷ [])
unfolding running
the_counter_goes_on_over_runs = refl

a_bad_run_keeps_the_counter : leaves "#define A(x) x\n__COUNTER__ A(\n#\n__COUNTER__\n" ≡ map codes ("__COUNTER__" ∷ "A" ∷ "(" ∷ "0" ∷ [])
unfolding running
a_bad_run_keeps_the_counter = refl

a_token_put_in_has_the_line_of_the_name : leaves "#define A(x) x __LINE__\nA(\n__LINE__)\n" ≡ map codes ("3" ∷ "2" ∷ [])
unfolding running
a_token_put_in_has_the_line_of_the_name = refl

presumed_lines_go_on : leaves "#line 100\n__LINE__\n\n__LINE__\n" ≡ map codes ("100" ∷ "102" ∷ [])
unfolding running
presumed_lines_go_on = refl

words_inside_a_run_make_no_module_line : leaves "x\nimport ;\n" ≡ map codes ("x" ∷ "import" ∷ ";" ∷ [])
unfolding running
words_inside_a_run_make_no_module_line = refl

-- ## Macros

an_empty_argument_takes_no_optional_part : ends "#define EMPTY\n#define NAME(...) a ## __VA_OPT__(b)\nexport module NAME(EMPTY);\n" ≡ providing "a" true []
unfolding running
an_empty_argument_takes_no_optional_part = refl

a_macro_makes_a_module_name : ends "#define EMPTY\n#define NAME(...) a ## __VA_OPT__(b)\nexport module NAME(1);\n" ≡ providing "ab" true []
unfolding running
a_macro_makes_a_module_name = refl

a_nested_call_is_rescanned : ends "#define f(a) a*g\n#define g(a) f(a)\n#if f(2)(9) == 0\nimport yes;\n#endif\n" ≡ requiring ("yes" ∷ [])
unfolding running
a_nested_call_is_rescanned = refl

a_macro_makes_a_partition : ends "#define PART :part.two\nmodule M;\nimport PART;\n" ≡ requiring ("M" ∷ "M:part.two" ∷ [])
unfolding running
a_macro_makes_a_partition = refl

the_last_definition_counts : ends "#define A a\n#define A b\nimport A;\n" ≡ requiring ("b" ∷ [])
unfolding running
the_last_definition_counts = refl

an_undefined_macro_stands_for_itself : ends "#define A a\n#undef A\nimport A;\n" ≡ requiring ("A" ∷ [])
unfolding running
an_undefined_macro_stands_for_itself = refl

a_definition_needs_a_name : ends "#define 3 x" ≡ stops FaultIs.BadDefine 1
unfolding running
a_definition_needs_a_name = refl

an_undef_needs_a_name : ends "#undef 3" ≡ stops FaultIs.BadDefine 1
unfolding running
an_undef_needs_a_name = refl

a_call_in_a_directive_is_closed : ends "#define F(a) a\n#if F(1" ≡ stops FaultIs.ExpansionFault 2
unfolding running
a_call_in_a_directive_is_closed = refl

a_saved_macro_comes_back : ends "#define A 1\n#pragma push_macro(\"A\")\n#undef A\n#pragma pop_macro(\"A\")\n#if A\nimport a;\n#endif\n" ≡ requiring ("a" ∷ [])
unfolding running
a_saved_macro_comes_back = refl

saved_macros_come_back_in_turn : ends "#define A a\n#pragma push_macro(\"A\")\n#define A b\n#pragma push_macro(\"A\")\n#undef A\n#pragma pop_macro(\"A\")\nimport A;\n#pragma pop_macro(\"A\")\nimport A;\n#pragma pop_macro(\"A\")\nimport A;\n" ≡ requiring ("b" ∷ "a" ∷ [])
unfolding running
saved_macros_come_back_in_turn = refl

a_counter_is_text_alone : ends "int n = __COUNTER__;\n#if defined(__COUNTER__)\nimport a;\n#endif\n#if __COUNTER__\n#endif\n" ≡ stops FaultIs.CounterUsed 5
unfolding running
a_counter_is_text_alone = refl

a_module_line_has_no_counter : ends "import __COUNTER__;\n" ≡ stops FaultIs.CounterUsed 1
unfolding running
a_module_line_has_no_counter = refl

a_counter_counts_as_defined : ends "int n = __COUNTER__;\n#if defined(__COUNTER__)\nimport a;\n#endif\n" ≡ requiring ("a" ∷ [])
unfolding running
a_counter_counts_as_defined = refl

-- ## Conditionals

a_skipped_group_may_hold_an_open_quote : ends "#if 0\ndon't /*\n#endif\nimport a;\n" ≡ requiring ("a" ∷ [])
unfolding running
a_skipped_group_may_hold_an_open_quote = refl

an_unevaluated_side_may_divide_by_zero : ends "#if 1 || 1/0\nimport a;\n#endif\n" ≡ requiring ("a" ∷ [])
unfolding running
an_unevaluated_side_may_divide_by_zero = refl

a_division_by_zero_is_met : ends "#if 1 || 1/0\nimport a;\n#endif\n#if 1/0\n#endif\n" ≡ stops FaultIs.DivisionByZero 4
unfolding running
a_division_by_zero_is_met = refl

an_elif_after_a_taken_group_is_not_evaluated : ends "#if 1\n#elif 1/0\n#endif\nimport a;\n" ≡ requiring ("a" ∷ [])
unfolding running
an_elif_after_a_taken_group_is_not_evaluated = refl

an_elif_is_taken_where_none_was : ends "#if 0\nimport a;\n#elif 1\nimport b;\n#else\nimport c;\n#endif\n" ≡ requiring ("b" ∷ [])
unfolding running
an_elif_is_taken_where_none_was = refl

one_group_is_taken_at_most : ends "#if 1\nimport a;\n#elif 1\nimport b;\n#else\nimport c;\n#endif\n" ≡ requiring ("a" ∷ [])
unfolding running
one_group_is_taken_at_most = refl

an_else_is_taken_where_none_was : ends "#ifdef X\nimport a;\n#else\nimport b;\n#endif\n" ≡ requiring ("b" ∷ [])
unfolding running
an_else_is_taken_where_none_was = refl

an_ifndef_is_the_other_way_round : ends "#define X\n#ifndef X\nimport a;\n#else\nimport b;\n#endif\n" ≡ requiring ("b" ∷ [])
unfolding running
an_ifndef_is_the_other_way_round = refl

what_follows_a_closed_group_stands : ends "#if 0\n#else\n#endif\n#if 1\nimport a;\n#endif\nimport b;\n" ≡ requiring ("a" ∷ "b" ∷ [])
unfolding running
what_follows_a_closed_group_stands = refl

an_else_inside_a_skipped_group_is_skipped : ends "#if 0\n#if 0\n#else\nimport a;\n#endif\n#endif\nimport b;\n" ≡ requiring ("b" ∷ [])
unfolding running
an_else_inside_a_skipped_group_is_skipped = refl

a_condition_inside_a_skipped_group_is_not_evaluated : ends "#if 0\n#if x(\n#endif\n#elif 1\nimport a;\n#endif\n" ≡ requiring ("a" ∷ [])
unfolding running
a_condition_inside_a_skipped_group_is_not_evaluated = refl

an_import_inside_a_skipped_group_is_passed_over : ends "#if 0\nimport a\n#define B c\n#error no\n#frob\n#endif\nimport B;\n" ≡ requiring ("B" ∷ [])
unfolding running
an_import_inside_a_skipped_group_is_passed_over = refl

a_second_else_is_unbalanced_at_any_depth : ends "#if 0\n#if x\n#else\n#else\n#endif\n#endif\n" ≡ stops FaultIs.Unbalanced 4
unfolding running
a_second_else_is_unbalanced_at_any_depth = refl

an_outer_group_is_closed : ends "#if 0\n#if x\n#endif\n" ≡ stops FaultIs.Unbalanced 1
unfolding running
an_outer_group_is_closed = refl

an_open_group_is_named_by_the_innermost : ends "#if 0\n#if x\n" ≡ stops FaultIs.Unbalanced 2
unfolding running
an_open_group_is_named_by_the_innermost = refl

a_group_is_closed_in_its_file : ends "#if 1" ≡ stops FaultIs.Unbalanced 1
unfolding running
a_group_is_closed_in_its_file = refl

an_endif_closes_a_group : ends "#endif" ≡ stops FaultIs.Unbalanced 1
unfolding running
an_endif_closes_a_group = refl

an_elif_stands_in_a_group : ends "\n#elif 1" ≡ stops FaultIs.Unbalanced 2
unfolding running
an_elif_stands_in_a_group = refl

a_parenthesis_is_closed : ends "#if (1" ≡ stops FaultIs.BadCondition 1
unfolding running
a_parenthesis_is_closed = refl

an_ifdef_needs_a_name : ends "#ifdef 3\n#endif" ≡ stops FaultIs.BadCondition 1
unfolding running
an_ifdef_needs_a_name = refl

a_shift_is_below_its_width : ends "#if 1 << 64" ≡ stops FaultIs.BadShift 1
unfolding running
a_shift_is_below_its_width = refl

a_condition_has_integers_alone : ends "#if 1.5" ≡ stops FaultIs.BadNumber 1
unfolding running
a_condition_has_integers_alone = refl

-- 256 operators in a row, and one more
operators_are_not_too_deep : ends "#define A !!!!!!!!!!!!!!!!\n#define B A A A A A A A A A A A A A A A A\n#if B 1\n#endif\n#if !B 1\n" ≡ stops FaultIs.ConditionTooDeep 5
unfolding running
operators_are_not_too_deep = refl

-- ## Other directives

an_error_stops : ends "#error no" ≡ stops FaultIs.ErrorDirective 1
unfolding running
an_error_stops = refl

a_directive_is_known : ends "#frob" ≡ stops FaultIs.UnknownDirective 1
unfolding running
a_directive_is_known = refl

a_digraph_begins_a_directive : ends "%:if 1\nimport a;\n%:endif\n" ≡ requiring ("a" ∷ [])
unfolding running
a_digraph_begins_a_directive = refl

these_directives_do_nothing : ends "#\n# 33 \"x\"\n#warning no\n#ident \"x\"\n#pragma other\nimport a;\n" ≡ requiring ("a" ∷ [])
unfolding running
these_directives_do_nothing = refl

a_line_number_is_digits : ends "#line x" ≡ stops FaultIs.BadLine 1
unfolding running
a_line_number_is_digits = refl

a_line_directive_numbers_the_next_line : ends "#line 100\n#if __LINE__ == 100\nimport a;\n#endif\n" ≡ requiring ("a" ∷ [])
unfolding running
a_line_directive_numbers_the_next_line = refl

a_fault_is_placed_by_the_physical_line : ends "#line 100\n#error no\n" ≡ stops FaultIs.ErrorDirective 2
unfolding running
a_fault_is_placed_by_the_physical_line = refl
