-- Units that look further along the chain of folders, computed: each theorem is what its name says.
use Rattle.std.proofs.Common.{◌≡◌, [], ◌∷◌, map, refl, codes}
use Rattle.scan_model.specs.declared.unit_end.FaultKind.TheVariants as FaultIs
use Rattle.unit_laws.proofs.Computing.{running}
use Rattle.unit_laws.proofs.UnitForms.{files_of, except, plain, with_folders, ends_by, ends, looks_by, leaves, requiring, stops, stops_at}
use Rattle.std.specs.Prelude.{None}
use Rattle.scan_model.specs.declared.command.Job.TheVariants as JobIs
use Rattle.scan_model.specs.Files.{Failed}
use Rattle.scan_model.specs.Answer.{looked}

-- ## `#include_next`

the_next_folder_is_looked_in : ends_by (files_of (("/p/u.cpp", "#include <v.h>\n") ∷ ("/p/a/v.h", "#include_next <v.h>\nimport a;\n") ∷ ("/p/b/v.h", "import b;\n") ∷ [])) (with_folders ("/p/a" ∷ "/p/b" ∷ [])) ≡ requiring ("b" ∷ "a" ∷ [])
unfolding running
the_next_folder_is_looked_in = refl

three_paths_are_looked_at : looks_by (files_of (("/p/u.cpp", "#include <v.h>\n") ∷ ("/p/a/v.h", "#include_next <v.h>\nimport a;\n") ∷ ("/p/b/v.h", "import b;\n") ∷ [])) (with_folders ("/p/a" ∷ "/p/b" ∷ [])) ≡ map codes ("/p/u.cpp" ∷ "/p/a/v.h" ∷ "/p/b/v.h" ∷ [])
unfolding running
three_paths_are_looked_at = refl

there_may_be_none : ends_by (files_of (("/p/u.cpp", "#include <v.h>\n") ∷ ("/p/a/v.h", "#include_next <v.h>\nimport a;\n") ∷ [])) (with_folders ("/p/a" ∷ "/p/b" ∷ [])) ≡ stops_at FaultIs.IncludeNotFound "/p/a/v.h" 1
unfolding running
there_may_be_none = refl

none_before_is_looked_at_again : looks_by (files_of (("/p/u.cpp", "#include <v.h>\n") ∷ ("/p/a/v.h", "#include_next <v.h>\nimport a;\n") ∷ [])) (with_folders ("/p/a" ∷ "/p/b" ∷ [])) ≡ map codes ("/p/u.cpp" ∷ "/p/a/v.h" ∷ "/p/b/v.h" ∷ [])
unfolding running
none_before_is_looked_at_again = refl

a_file_without_a_place_looks_as_it_is_written : ends_by (files_of (("/p/u.cpp", "#include_next \"w.h\"\n") ∷ ("/p/w.h", "import w;\n") ∷ [])) plain ≡ requiring ("w" ∷ [])
unfolding running
a_file_without_a_place_looks_as_it_is_written = refl

a_quoted_name_goes_on_along_the_chain : ends_by (files_of (("/p/u.cpp", "#include <v.h>\n") ∷ ("/p/a/v.h", "#include_next \"v.h\"\n") ∷ ("/p/b/v.h", "import b;\n") ∷ [])) (with_folders ("/p/a" ∷ "/p/b" ∷ [])) ≡ requiring ("b" ∷ [])
unfolding running
a_quoted_name_goes_on_along_the_chain = refl

a_file_beside_its_includer_has_no_place : looks_by (files_of (("/p/u.cpp", "#include \"x.h\"\n") ∷ ("/p/x.h", "#include_next <v.h>\n") ∷ ("/p/a/v.h", "") ∷ [])) (with_folders ("/p/a" ∷ "/p/b" ∷ [])) ≡ map codes ("/p/u.cpp" ∷ "/p/x.h" ∷ "/p/a/v.h" ∷ [])
unfolding running
a_file_beside_its_includer_has_no_place = refl

an_absolute_name_gives_no_place : looks_by (files_of (("/p/u.cpp", "#include </p/a/v.h>\n") ∷ ("/p/a/v.h", "#include_next <w.h>\n") ∷ ("/p/a/w.h", "") ∷ [])) (with_folders ("/p/a" ∷ "/p/b" ∷ [])) ≡ map codes ("/p/u.cpp" ∷ "/p/a/v.h" ∷ "/p/a/w.h" ∷ [])
unfolding running
an_absolute_name_gives_no_place = refl

an_absolute_name_is_looked_for_alone : looks_by (files_of (("/p/u.cpp", "#include <v.h>\n") ∷ ("/p/a/v.h", "#include_next </q/w.h>\n") ∷ ("/q/w.h", "") ∷ [])) (with_folders ("/p/a" ∷ "/p/b" ∷ [])) ≡ map codes ("/p/u.cpp" ∷ "/p/a/v.h" ∷ "/q/w.h" ∷ [])
unfolding running
an_absolute_name_is_looked_for_alone = refl

the_includer_keeps_its_place : looks_by (files_of (("/p/u.cpp", "#include <v.h>\n") ∷ ("/p/a/v.h", "#include \"/p/o.h\"\n#include_next <v.h>\n") ∷ ("/p/o.h", "") ∷ ("/p/b/v.h", "") ∷ [])) (with_folders ("/p/a" ∷ "/p/b" ∷ [])) ≡ map codes ("/p/u.cpp" ∷ "/p/a/v.h" ∷ "/p/o.h" ∷ "/p/b/v.h" ∷ [])
unfolding running
the_includer_keeps_its_place = refl

a_file_is_placed_by_the_folder_that_had_it : looks_by (files_of (("/p/u.cpp", "#include <v.h>\n") ∷ ("/p/b/v.h", "#include_next <v.h>\n") ∷ [])) (with_folders ("/p/a" ∷ "/p/b" ∷ [])) ≡ map codes ("/p/u.cpp" ∷ "/p/a/v.h" ∷ "/p/b/v.h" ∷ [])
unfolding running
a_file_is_placed_by_the_folder_that_had_it = refl

past_the_chain_there_is_nothing : ends_by (files_of (("/p/u.cpp", "#include <v.h>\n") ∷ ("/p/b/v.h", "#include_next <v.h>\n") ∷ [])) (with_folders ("/p/a" ∷ "/p/b" ∷ [])) ≡ stops_at FaultIs.IncludeNotFound "/p/b/v.h" 1
unfolding running
past_the_chain_there_is_nothing = refl

a_line_directive_keeps_the_place : ends_by (files_of (("/p/u.cpp", "#include <v.h>\n") ∷ ("/p/a/v.h", "#line 7 \"y\"\n#include_next <v.h>\n") ∷ ("/p/b/v.h", "import b;\n") ∷ [])) (with_folders ("/p/a" ∷ "/p/b" ∷ [])) ≡ requiring ("b" ∷ [])
unfolding running
a_line_directive_keeps_the_place = refl

a_macro_may_give_the_name : ends_by (files_of (("/p/u.cpp", "#include <v.h>\n") ∷ ("/p/a/v.h", "#define H <v.h>\n#include_next H\n") ∷ ("/p/b/v.h", "import b;\n") ∷ [])) (with_folders ("/p/a" ∷ "/p/b" ∷ [])) ≡ requiring ("b" ∷ [])
unfolding running
a_macro_may_give_the_name = refl

it_names_a_file : ends "#include_next 3" ≡ stops FaultIs.IncludeSyntax 1
unfolding running
it_names_a_file = refl

it_is_skipped_as_others_are : ends "#if 0\n#include_next 3\n#endif\n" ≡ requiring []
unfolding running
it_is_skipped_as_others_are = refl

the_chain_has_this_order : looked (files_of (("/p/u.cpp", "#include \"z.h\"\n") ∷ ("/q/z.h", "#include_next <z.h>\n") ∷ ("/i/z.h", "#include_next <z.h>\n") ∷ ("/s/z.h", "#include_next <z.h>\n") ∷ ("/o/z.h", "#include_next <z.h>\n") ∷ ("/d/z.h", "") ∷ [])) (record { predefines = None; program = map codes ("/o" ∷ []) }) (JobIs.Run (record plain { forced = []; search = record { quote = map codes ("/q" ∷ []); angled = map codes ("/i" ∷ []); system = map codes ("/s" ∷ []); after = map codes ("/d" ∷ []) } })) ≡ map codes ("/p/u.cpp" ∷ "/p/z.h" ∷ "/q/z.h" ∷ "/i/z.h" ∷ "/s/z.h" ∷ "/o/z.h" ∷ "/d/z.h" ∷ [])
unfolding running
the_chain_has_this_order = refl

an_angled_name_begins_behind_the_quoted_folders : looked (files_of (("/p/u.cpp", "#include <z.h>\n") ∷ ("/i/z.h", "#include_next <z.h>\n") ∷ ("/s/z.h", "") ∷ [])) (record { predefines = None; program = map codes ("/o" ∷ []) }) (JobIs.Run (record plain { forced = []; search = record { quote = map codes ("/q" ∷ []); angled = map codes ("/i" ∷ []); system = map codes ("/s" ∷ []); after = map codes ("/d" ∷ []) } })) ≡ map codes ("/p/u.cpp" ∷ "/i/z.h" ∷ "/s/z.h" ∷ [])
unfolding running
an_angled_name_begins_behind_the_quoted_folders = refl

a_forced_file_of_the_chain_has_a_place : looked (files_of (("/p/u.cpp", "") ∷ ("/q/z.h", "#include_next <z.h>\n") ∷ ("/i/z.h", "") ∷ [])) (record { predefines = None; program = map codes ("/o" ∷ []) }) (JobIs.Run (record plain { forced = map codes ("z.h" ∷ []); search = record { quote = map codes ("/q" ∷ []); angled = map codes ("/i" ∷ []); system = map codes ("/s" ∷ []); after = map codes ("/d" ∷ []) } })) ≡ map codes ("/p/z.h" ∷ "/q/z.h" ∷ "/i/z.h" ∷ "/p/u.cpp" ∷ [])
unfolding running
a_forced_file_of_the_chain_has_a_place = refl

a_forced_file_of_the_directory_has_none : looked (files_of (("/p/u.cpp", "") ∷ ("/p/z.h", "#include_next <y.h>\n") ∷ ("/i/y.h", "") ∷ [])) (record { predefines = None; program = map codes ("/o" ∷ []) }) (JobIs.Run (record plain { forced = map codes ("z.h" ∷ []); search = record { quote = map codes ("/q" ∷ []); angled = map codes ("/i" ∷ []); system = map codes ("/s" ∷ []); after = map codes ("/d" ∷ []) } })) ≡ map codes ("/p/z.h" ∷ "/i/y.h" ∷ "/p/u.cpp" ∷ [])
unfolding running
a_forced_file_of_the_directory_has_none = refl

-- ## `__has_include_next`

the_next_folder_has_it : ends_by (files_of (("/p/u.cpp", "#include <v.h>\n") ∷ ("/p/a/v.h", "#if __has_include_next(<v.h>)\nimport yes;\n#endif\n") ∷ ("/p/b/v.h", "") ∷ [])) (with_folders ("/p/a" ∷ "/p/b" ∷ [])) ≡ requiring ("yes" ∷ [])
unfolding running
the_next_folder_has_it = refl

the_next_folder_lacks_it : ends_by (files_of (("/p/u.cpp", "#include <v.h>\n") ∷ ("/p/a/v.h", "#if __has_include_next(<v.h>)\nimport yes;\n#endif\n") ∷ [])) (with_folders ("/p/a" ∷ "/p/b" ∷ [])) ≡ requiring []
unfolding running
the_next_folder_lacks_it = refl

each_question_is_asked_in_its_own_way : looks_by (files_of (("/p/u.cpp", "#include <v.h>\n") ∷ ("/p/a/v.h", "#if 0 && __has_include_next(\"v.h\") && __has_include(<v.h>)\n#endif\n") ∷ ("/p/b/v.h", "") ∷ [])) (with_folders ("/p/a" ∷ "/p/b" ∷ [])) ≡ map codes ("/p/u.cpp" ∷ "/p/a/v.h" ∷ "/p/b/v.h" ∷ "/p/a/v.h" ∷ [])
unfolding running
each_question_is_asked_in_its_own_way = refl

a_file_without_a_place_asks_as_it_is_written : ends_by (files_of (("/p/u.cpp", "#if __has_include_next(\"w.h\")\nimport w;\n#endif\n") ∷ ("/p/w.h", "") ∷ [])) plain ≡ requiring ("w" ∷ [])
unfolding running
a_file_without_a_place_asks_as_it_is_written = refl

a_failed_read_stops_it : ends_by (except "/p/b/v.h" Failed (files_of (("/p/u.cpp", "#include <v.h>\n") ∷ ("/p/a/v.h", "#if __has_include_next(<v.h>)\nimport yes;\n#endif\n") ∷ []))) (with_folders ("/p/a" ∷ "/p/b" ∷ [])) ≡ stops_at FaultIs.ReadFault "/p/a/v.h" 1
unfolding running
a_failed_read_stops_it = refl

it_is_no_macro_name : ends "#define __has_include_next 1\n" ≡ stops FaultIs.BadDefine 1
unfolding running
it_is_no_macro_name = refl

it_counts_as_defined : ends "#ifdef __has_include_next\nimport a;\n#endif\n" ≡ requiring ("a" ∷ [])
unfolding running
it_counts_as_defined = refl

it_needs_a_name_in_parentheses : ends "#if __has_include_next 3\n#endif\n" ≡ stops FaultIs.BadCondition 1
unfolding running
it_needs_a_name_in_parentheses = refl

in_text_it_stands_for_itself : leaves "__has_include_next(x)\n" ≡ map codes ("__has_include_next" ∷ "(" ∷ "x" ∷ ")" ∷ [])
unfolding running
in_text_it_stands_for_itself = refl

a_macro_may_give_the_name_of_a_question : ends_by (files_of (("/p/u.cpp", "#include <v.h>\n") ∷ ("/p/a/v.h", "#define H <v.h>\n#if 0\n#elif __has_include_next(H) && !__has_include_next(\"w.h\")\nimport yes;\n#endif\n") ∷ ("/p/b/v.h", "") ∷ [])) (with_folders ("/p/a" ∷ "/p/b" ∷ [])) ≡ requiring ("yes" ∷ [])
unfolding running
a_macro_may_give_the_name_of_a_question = refl

a_question_stays_one_after_an_undef : ends_by (files_of (("/p/u.cpp", "#undef __has_include_next\n#ifdef __has_include_next\nimport no;\n#endif\n#if __has_include_next(\"w.h\")\nimport w;\n#endif\n") ∷ ("/p/w.h", "") ∷ [])) plain ≡ requiring ("w" ∷ [])
unfolding running
a_question_stays_one_after_an_undef = refl
