-- Units of several files, and of several commands, computed: each theorem is what its name says.
use Rattle.std.proofs.Common.{◌≡◌, [], ◌∷◌, map, length, refl, true, codes}
use Rattle.scan_model.specs.declared.unit_end.FaultKind.TheVariants as FaultIs
use Rattle.unit_laws.proofs.Computing.{running}
use Rattle.unit_laws.proofs.UnitForms.{files_of, except, lacking, plain, with_folder, with_settings, with_forced, no_settings, ends_by, ends_with, ends, looks_by, looks_with, requiring, providing, stops_at, stops}
use Rattle.std.specs.Prelude.{Some, None}
use Rattle.scan_model.specs.declared.command.Setting.TheVariants.{Define, Undef}
use Rattle.scan_model.specs.declared.command.Dialect.TheVariants.{Cxx20}
use Rattle.scan_model.specs.declared.command.Job.TheVariants as JobIs
use Rattle.scan_model.specs.declared.command.CommandFault.TheVariants as CommandIs
use Rattle.scan_model.specs.declared.unit_end.UnitEnd.TheVariants as Ends
use Rattle.scan_model.specs.Lines.{kept}
use Rattle.scan_model.specs.Files.{Failed, Big, NoMemory}
use Rattle.scan_model.specs.Answer.{Answer, Known, answer, looked, answer_by}

-- ## Includes

an_included_file_is_there : ends "#include \"none.h\"" ≡ stops FaultIs.IncludeNotFound 1
unfolding running
an_included_file_is_there = refl

an_include_names_a_file : ends "#include 3" ≡ stops FaultIs.IncludeSyntax 1
unfolding running
an_include_names_a_file = refl

an_include_names_something : ends "#include" ≡ stops FaultIs.IncludeSyntax 1
unfolding running
an_include_names_something = refl

a_file_that_includes_itself_is_too_deep : ends "#include \"u.cpp\"\n" ≡ stops FaultIs.TooDeep 1
unfolding running
a_file_that_includes_itself_is_too_deep = refl

a_main_file_is_entered_201_deep : length (looks_with (("/p/u.cpp", "#include \"u.cpp\"\n") ∷ [])) ≡ 202
unfolding running
a_main_file_is_entered_201_deep = refl

a_forced_file_begins_one_deep : length (looks_by (files_of (("/p/f.h", "#include \"f.h\"\n") ∷ [])) (with_forced [] ("f.h" ∷ []))) ≡ 201
unfolding running
a_forced_file_begins_one_deep = refl

a_file_that_is_read_once_is_not_entered_again : ends "#pragma once\n#include \"u.cpp\"\nimport a;\n" ≡ requiring ("a" ∷ [])
unfolding running
a_file_that_is_read_once_is_not_entered_again = refl

text_before_an_include_changes_nothing : ends "#pragma once\nint x;\n#include \"u.cpp\"\nimport a;\n" ≡ requiring ("a" ∷ [])
unfolding running
text_before_an_include_changes_nothing = refl

the_main_file_is_entered_though_it_is_to_be_read_once : ends_by (files_of (("/p/u.cpp", "#pragma once\n#ifdef X\nimport again;\n#endif\n#define X\nimport a;\n") ∷ [])) (with_forced [] ("u.cpp" ∷ [])) ≡ requiring ("a" ∷ "again" ∷ [])
unfolding running
the_main_file_is_entered_though_it_is_to_be_read_once = refl

a_line_directive_names_the_file : looks_with (("/p/u.cpp", "#line 7 \"y.h\"\n#include __FILE__\n") ∷ ("/p/y.h", "") ∷ []) ≡ map codes ("/p/u.cpp" ∷ "/p/y.h" ∷ [])
unfolding running
a_line_directive_names_the_file = refl

a_skipped_include_does_not_look : looks_with (("/p/u.cpp", "#if 0\n#include \"x.h\"\n#endif\n") ∷ []) ≡ map codes ("/p/u.cpp" ∷ [])
unfolding running
a_skipped_include_does_not_look = refl

nested_files_are_read_once_or_twice : ends_with (("/p/u.cpp", "#include \"a.h\"\n#include \"b.h\"\n#include \"a.h\"\nimport u;\n") ∷ ("/p/a.h", "#pragma once\n#include \"b.h\"\nimport a;\n") ∷ ("/p/b.h", "#ifdef B\nimport again;\n#endif\n#define B\nimport b;\n") ∷ []) ≡ requiring ("b" ∷ "a" ∷ "again" ∷ "u" ∷ [])
unfolding running
nested_files_are_read_once_or_twice = refl

each_include_looks_again : looks_with (("/p/u.cpp", "#include \"a.h\"\n#include \"b.h\"\n#include \"a.h\"\nimport u;\n") ∷ ("/p/a.h", "#pragma once\n#include \"b.h\"\nimport a;\n") ∷ ("/p/b.h", "#ifdef B\nimport again;\n#endif\n#define B\nimport b;\n") ∷ []) ≡ map codes ("/p/u.cpp" ∷ "/p/a.h" ∷ "/p/b.h" ∷ "/p/b.h" ∷ "/p/a.h" ∷ [])
unfolding running
each_include_looks_again = refl

a_fault_is_placed_in_its_own_file : ends_with (("/p/u.cpp", "\n#include \"a.h\"\n") ∷ ("/p/a.h", "x\n\n#error no\n") ∷ []) ≡ stops_at FaultIs.ErrorDirective "/p/a.h" 3
unfolding running
a_fault_is_placed_in_its_own_file = refl

each_file_is_balanced_by_itself : ends_with (("/p/u.cpp", "#if 1\n#include \"a.h\"\n#endif\n") ∷ ("/p/a.h", "#endif\n") ∷ []) ≡ stops_at FaultIs.Unbalanced "/p/a.h" 1
unfolding running
each_file_is_balanced_by_itself = refl

a_file_closes_its_own_groups : ends_with (("/p/u.cpp", "#include \"a.h\"\n#endif\n") ∷ ("/p/a.h", "#if 1\n") ∷ []) ≡ stops_at FaultIs.Unbalanced "/p/a.h" 1
unfolding running
a_file_closes_its_own_groups = refl

line_numbers_begin_afresh_in_each_file : ends_with (("/p/u.cpp", "#line 100 \"x\"\n#include \"a.h\"\n#if __LINE__ == 101\nimport u;\n#endif\n") ∷ ("/p/a.h", "#if __LINE__ == 1\nimport a;\n#endif\n") ∷ []) ≡ requiring ("a" ∷ "u" ∷ [])
unfolding running
line_numbers_begin_afresh_in_each_file = refl

a_module_line_counts_in_every_file : ends_with (("/p/u.cpp", "module;\n#include \"a.h\"\nexport module M;\n") ∷ ("/p/a.h", "import a;\n") ∷ []) ≡ providing "M" true ("a" ∷ [])
unfolding running
a_module_line_counts_in_every_file = refl

-- ## Where a file is looked for

an_angled_name_is_not_looked_for_beside_the_file : ends_by (files_of (("/p/u.cpp", "#define H <v.h>\n#include H\n#include \"v.h\"\n#include \"k.h\"\n") ∷ ("/p/inc/v.h", "import v;\n") ∷ ("/p/v.h", "import w;\n") ∷ ("/p/inc/k.h", "import v;\nimport k;\n") ∷ [])) (with_folder "/p/inc") ≡ requiring ("v" ∷ "w" ∷ "k" ∷ [])
unfolding running
an_angled_name_is_not_looked_for_beside_the_file = refl

a_quoted_name_is_looked_for_beside_the_file_first : looks_by (files_of (("/p/u.cpp", "#define H <v.h>\n#include H\n#include \"v.h\"\n#include \"k.h\"\n") ∷ ("/p/inc/v.h", "import v;\n") ∷ ("/p/v.h", "import w;\n") ∷ ("/p/inc/k.h", "import v;\nimport k;\n") ∷ [])) (with_folder "/p/inc") ≡ map codes ("/p/u.cpp" ∷ "/p/inc/v.h" ∷ "/p/v.h" ∷ "/p/k.h" ∷ "/p/inc/k.h" ∷ [])
unfolding running
a_quoted_name_is_looked_for_beside_the_file_first = refl

kept_lines_give_the_same : answer_by kept (files_of (("/p/u.cpp", "#define H <v.h>\n#include H\n#include \"v.h\"\n#include \"k.h\"\n") ∷ ("/p/inc/v.h", "import v;\n") ∷ ("/p/v.h", "import w;\n") ∷ ("/p/inc/k.h", "import v;\nimport k;\n") ∷ [])) no_settings (JobIs.Run (with_folder "/p/inc")) ≡ requiring ("v" ∷ "w" ∷ "k" ∷ [])
unfolding running
kept_lines_give_the_same = refl

an_angled_name_has_this_order : looked (files_of (("/p/u.cpp", "#include <z.h>\n") ∷ [])) (record { predefines = None; program = map codes ("/o" ∷ []) }) (JobIs.Run (record plain { search = record { quote = map codes ("/q" ∷ []); angled = map codes ("/i" ∷ []); system = map codes ("/s" ∷ []); after = map codes ("/d" ∷ []) } })) ≡ map codes ("/p/u.cpp" ∷ "/i/z.h" ∷ "/s/z.h" ∷ "/o/z.h" ∷ "/d/z.h" ∷ [])
unfolding running
an_angled_name_has_this_order = refl

a_quoted_name_has_this_order : looked (files_of (("/p/u.cpp", "#include \"z.h\"\n") ∷ [])) (record { predefines = None; program = map codes ("/o" ∷ []) }) (JobIs.Run (record plain { search = record { quote = map codes ("/q" ∷ []); angled = map codes ("/i" ∷ []); system = map codes ("/s" ∷ []); after = map codes ("/d" ∷ []) } })) ≡ map codes ("/p/u.cpp" ∷ "/p/z.h" ∷ "/q/z.h" ∷ "/i/z.h" ∷ "/s/z.h" ∷ "/o/z.h" ∷ "/d/z.h" ∷ [])
unfolding running
a_quoted_name_has_this_order = refl

an_absolute_name_stands_alone : looked (files_of (("/p/u.cpp", "#include <//z//./y.h>\n") ∷ [])) (record { predefines = None; program = map codes ("/o" ∷ []) }) (JobIs.Run (record plain { search = record { quote = map codes ("/q" ∷ []); angled = map codes ("/i" ∷ []); system = map codes ("/s" ∷ []); after = map codes ("/d" ∷ []) } })) ≡ map codes ("/p/u.cpp" ∷ "/z/y.h" ∷ [])
unfolding running
an_absolute_name_stands_alone = refl

a_name_of_tokens_keeps_its_spaces : looked (files_of (("/p/u.cpp", "#define H < a/ b.h>\n#include H\n") ∷ [])) (record { predefines = None; program = map codes ("/o" ∷ []) }) (JobIs.Run (record plain { search = record { quote = map codes ("/q" ∷ []); angled = map codes ("/i" ∷ []); system = map codes ("/s" ∷ []); after = map codes ("/d" ∷ []) } })) ≡ map codes ("/p/u.cpp" ∷ "/i/a/ b.h" ∷ "/s/a/ b.h" ∷ "/o/a/ b.h" ∷ "/d/a/ b.h" ∷ [])
unfolding running
a_name_of_tokens_keeps_its_spaces = refl

a_name_beside_an_included_file : ends_with (("/p/u.cpp", "#include \"d/a.h\"\n") ∷ ("/p/d/a.h", "#include \"b.h\"\n") ∷ ("/p/d/b.h", "import d;\n") ∷ ("/p/b.h", "import p;\n") ∷ []) ≡ requiring ("d" ∷ [])
unfolding running
a_name_beside_an_included_file = refl

-- ## Questions whether a header is there

a_header_that_is_not_there : ends_with (("/p/u.cpp", "#if __has_include(\"x.h\")\nimport x;\n#else\nimport none;\n#endif\n") ∷ []) ≡ requiring ("none" ∷ [])
unfolding running
a_header_that_is_not_there = refl

a_header_that_is_there : ends_with (("/p/u.cpp", "#if __has_include(\"x.h\")\nimport x;\n#else\nimport none;\n#endif\n") ∷ ("/p/x.h", "#error no\n") ∷ []) ≡ requiring ("x" ∷ [])
unfolding running
a_header_that_is_there = refl

a_question_looks : looks_with (("/p/u.cpp", "#if __has_include(\"x.h\")\nimport x;\n#else\nimport none;\n#endif\n") ∷ []) ≡ map codes ("/p/u.cpp" ∷ "/p/x.h" ∷ [])
unfolding running
a_question_looks = refl

each_question_looks_evaluated_or_not : looks_with (("/p/u.cpp", "#if 1 || __has_include(\"x.h\") || __has_include(\"y.h\")\n#endif\n") ∷ []) ≡ map codes ("/p/u.cpp" ∷ "/p/x.h" ∷ "/p/y.h" ∷ [])
unfolding running
each_question_looks_evaluated_or_not = refl

a_skipped_question_does_not_look : looks_with (("/p/u.cpp", "#if 1\n#elif __has_include(\"x.h\")\n#endif\n") ∷ []) ≡ map codes ("/p/u.cpp" ∷ [])
unfolding running
a_skipped_question_does_not_look = refl

a_question_may_be_made_by_a_macro : ends_by (files_of (("/p/u.cpp", "#define H <x.h>\n#if __has_include(H) && !__has_include(\"x.h\" )\n#endif\n#if __has_include(H)\nimport x;\n#endif\n") ∷ ("/i/x.h", "") ∷ [])) (with_folder "/i") ≡ requiring ("x" ∷ [])
unfolding running
a_question_may_be_made_by_a_macro = refl

a_question_names_a_header : ends "#if __has_include(x.h)\n#endif\n" ≡ stops FaultIs.BadCondition 1
unfolding running
a_question_names_a_header = refl

-- ## Outcomes of reads

a_main_file_is_there : ends_by (files_of []) plain ≡ stops FaultIs.MainMissing 0
unfolding running
a_main_file_is_there = refl

a_main_file_is_read : ends_by (except "/p/u.cpp" Failed (files_of [])) plain ≡ stops FaultIs.ReadFault 0
unfolding running
a_main_file_is_read = refl

a_read_that_fails_stops : ends_by (except "/p/s.h" Failed (files_of (("/p/u.cpp", "#include \"s.h\"\n") ∷ []))) plain ≡ stops FaultIs.ReadFault 1
unfolding running
a_read_that_fails_stops = refl

a_file_is_not_too_large : ends_by (except "/p/s.h" Big (files_of (("/p/u.cpp", "#include \"s.h\"\n") ∷ []))) plain ≡ stops FaultIs.FileTooLarge 1
unfolding running
a_file_is_not_too_large = refl

want_of_memory_is_no_fault : ends_by (except "/p/s.h" NoMemory (files_of (("/p/u.cpp", "#include \"s.h\"\n") ∷ []))) plain ≡ Known Ends.NoMemory
unfolding running
want_of_memory_is_no_fault = refl

a_question_whose_read_fails_stops : ends_by (except "/p/x.h" Failed (files_of (("/p/u.cpp", "#if __has_include(\"x.h\")\nimport x;\n#else\nimport none;\n#endif\n") ∷ []))) plain ≡ stops FaultIs.ReadFault 1
unfolding running
a_question_whose_read_fails_stops = refl

a_question_whose_file_is_too_large_stops : ends_by (except "/p/x.h" Big (files_of (("/p/u.cpp", "#if __has_include(\"x.h\")\nimport x;\n#else\nimport none;\n#endif\n") ∷ []))) plain ≡ stops FaultIs.FileTooLarge 1
unfolding running
a_question_whose_file_is_too_large_stops = refl

a_file_that_is_not_known_is_needed : ends_by (lacking "/p/s.h" (files_of (("/p/u.cpp", "#include \"s.h\"\n") ∷ []))) plain ≡ Answer.Unread (codes "/p/s.h")
unfolding running
a_file_that_is_not_known_is_needed = refl

the_needed_path_is_looked_at_last : looks_by (lacking "/p/s.h" (files_of (("/p/u.cpp", "#include \"s.h\"\n") ∷ []))) plain ≡ map codes ("/p/u.cpp" ∷ "/p/s.h" ∷ [])
unfolding running
the_needed_path_is_looked_at_last = refl

a_module_fault_needs_no_later_file : ends_by (lacking "/p/s.h" (files_of (("/p/u.cpp", "import a\n#include \"s.h\"\n") ∷ []))) plain ≡ stops FaultIs.BadModuleLine 1
unfolding running
a_module_fault_needs_no_later_file = refl

-- ## The command line

a_setting_defines_and_another_undefines : ends_by (files_of (("/p/u.cpp", "import A;\nimport B;\n") ∷ [])) (with_settings (Define (codes "A x") ∷ Define (codes "B y") ∷ Undef (codes "A") ∷ [])) ≡ requiring ("A" ∷ "y" ∷ [])
unfolding running
a_setting_defines_and_another_undefines = refl

a_bad_setting_has_its_number : ends_by (files_of (("/p/u.cpp", "") ∷ [])) (with_settings (Define (codes "A 1") ∷ Define (codes "3 x") ∷ [])) ≡ stops_at FaultIs.BadDefine "<command line>" 2
unfolding running
a_bad_setting_has_its_number = refl

a_forced_file_comes_before_the_main_file : ends_by (files_of (("/p/u.cpp", "import u;\nimport A;\n") ∷ ("/p/f.h", "import f;\nimport A;\n#undef A\n") ∷ [])) (with_forced (Define (codes "A x") ∷ []) ("f.h" ∷ [])) ≡ requiring ("f" ∷ "x" ∷ "u" ∷ "A" ∷ [])
unfolding running
a_forced_file_comes_before_the_main_file = refl

forced_files_are_numbered_after_the_settings : ends_by (files_of (("/p/u.cpp", "") ∷ [])) (with_forced (Define (codes "A 1") ∷ Undef (codes "A") ∷ []) ("n.h" ∷ [])) ≡ stops_at FaultIs.IncludeNotFound "<command line>" 3
unfolding running
forced_files_are_numbered_after_the_settings = refl

a_forced_file_has_a_name : ends_by (files_of (("/p/u.cpp", "") ∷ [])) (with_forced [] ("" ∷ [])) ≡ stops_at FaultIs.IncludeSyntax "<command line>" 1
unfolding running
a_forced_file_has_a_name = refl

a_forced_file_that_is_read_once : ends_by (files_of (("/p/u.cpp", "#include \"f.h\"\n") ∷ ("/p/f.h", "#pragma once\n#ifdef F\nimport again;\n#endif\n#define F\nimport f;\n") ∷ [])) (with_forced [] ("f.h" ∷ "f.h" ∷ [])) ≡ requiring ("f" ∷ [])
unfolding running
a_forced_file_that_is_read_once = refl

predefines_come_before_the_settings : answer (files_of (("/p/u.cpp", "import A;\nimport B;\n") ∷ ("/p/predef.h", "#define A x\n#define B y\n") ∷ [])) (record { predefines = Some (codes "/p/predef.h"); program = [] }) (JobIs.Run (with_settings (Undef (codes "A") ∷ []))) ≡ requiring ("A" ∷ "y" ∷ [])
unfolding running
predefines_come_before_the_settings = refl

predefines_are_there : answer (files_of (("/p/u.cpp", "") ∷ [])) (record { predefines = Some (codes "/p/predef.h"); program = [] }) (JobIs.Run plain) ≡ stops_at FaultIs.IncludeNotFound "/p/predef.h" 0
unfolding running
predefines_are_there = refl

the_program_has_folders_of_its_own : answer (files_of (("/p/u.cpp", "#include <s.h>\n") ∷ ("/s/s.h", "import s;\n") ∷ [])) (record { predefines = None; program = codes "/s" ∷ [] }) (JobIs.Run plain) ≡ requiring ("s" ∷ [])
unfolding running
the_program_has_folders_of_its_own = refl

a_refused_command_looks_at_nothing : looked (files_of []) no_settings (JobIs.Refused CommandIs.BadCommand) ≡ []
unfolding running
a_refused_command_looks_at_nothing = refl

a_refused_command_ends_with_its_refusal : answer (files_of []) no_settings (JobIs.Refused CommandIs.BadCommand) ≡ Known (Ends.Refused CommandIs.BadCommand)
unfolding running
a_refused_command_ends_with_its_refusal = refl

a_usual_command : answer (files_of (("/p/predef.h", "#define __clang__ 1\n") ∷ ("/p/include/config.h", "#pragma once\n#if defined(__clang__) && __cplusplus >= 202002L\n#define USE_IO 1\n#endif\n") ∷ ("/opt/lib/include/lib.h", "#ifndef LIB_H\n#define LIB_H\nint lib();\n#endif\n") ∷ ("/p/main.cpp", "#include <config.h>\n#include <lib.h>\nimport core;\n#if USE_IO\nimport core.io;\n#endif\nint main() { }\n") ∷ [])) (record { predefines = Some (codes "/p/predef.h"); program = [] }) (JobIs.Run (record { directory = codes "/p/build"; main = codes "/p/main.cpp"; source = codes "/p/main.cpp"; output = codes "main.cpp.o"; settings = Define (codes "NDEBUG 1") ∷ Define (codes "NAME \"app\"") ∷ []; forced = []; search = record { quote = []; angled = codes "/p/include" ∷ []; system = codes "/opt/lib/include" ∷ []; after = [] }; dialect = Cxx20 })) ≡ Known (Ends.Record (record { output = codes "main.cpp.o"; source = codes "/p/main.cpp"; provides = None; required = map codes ("core" ∷ "core.io" ∷ []) }))
unfolding running
a_usual_command = refl

a_usual_command_looks : looked (files_of (("/p/predef.h", "#define __clang__ 1\n") ∷ ("/p/include/config.h", "#pragma once\n#if defined(__clang__) && __cplusplus >= 202002L\n#define USE_IO 1\n#endif\n") ∷ ("/opt/lib/include/lib.h", "#ifndef LIB_H\n#define LIB_H\nint lib();\n#endif\n") ∷ ("/p/main.cpp", "#include <config.h>\n#include <lib.h>\nimport core;\n#if USE_IO\nimport core.io;\n#endif\nint main() { }\n") ∷ [])) (record { predefines = Some (codes "/p/predef.h"); program = [] }) (JobIs.Run (record { directory = codes "/p/build"; main = codes "/p/main.cpp"; source = codes "/p/main.cpp"; output = codes "main.cpp.o"; settings = Define (codes "NDEBUG 1") ∷ Define (codes "NAME \"app\"") ∷ []; forced = []; search = record { quote = []; angled = codes "/p/include" ∷ []; system = codes "/opt/lib/include" ∷ []; after = [] }; dialect = Cxx20 })) ≡ map codes ("/p/predef.h" ∷ "/p/main.cpp" ∷ "/p/include/config.h" ∷ "/p/include/lib.h" ∷ "/opt/lib/include/lib.h" ∷ [])
unfolding running
a_usual_command_looks = refl
