-- The tables of the preprocessor.
use Rattle.std.specs.Prelude.{ℕ, List, [], ◌∷◌, codes}
use Prim.Native.String.{String}
use Rattle.word_table.specs.Rows.{Entry, rows_among}

abbrev pub row : String → ℕ → Entry
row word value = (codes word, value)

-- the names of directives ([cpp.pre])
abbrev pub directive_words : List Entry
directive_words =
    row "define" 0 ∷ row "undef" 1
    ∷ row "if" 2 ∷ row "elif" 3 ∷ row "ifdef" 4 ∷ row "ifndef" 5 ∷ row "else" 6 ∷ row "endif" 7
    ∷ row "include" 8 ∷ row "line" 9 ∷ row "error" 10 ∷ row "pragma" 11 ∷ row "warning" 12 ∷ row "ident" 13
    ∷ row "elifdef" 14 ∷ row "elifndef" 15 ∷ row "include_next" 16 ∷ []

-- the punctuators that aren't words ([lex.operators]), and last the digraphs with the numbers of their primary tokens
abbrev pub punctuators : List Entry
punctuators =
    row "{" 0 ∷ row "}" 1 ∷ row "[" 2 ∷ row "]" 3 ∷ row "(" 4 ∷ row ")" 5 ∷ row ";" 6 ∷ row ":" 7
    ∷ row "..." 8 ∷ row "?" 9 ∷ row "::" 10 ∷ row "." 11 ∷ row ".*" 12 ∷ row "->" 13 ∷ row "->*" 14 ∷ row "~" 15
    ∷ row "!" 16 ∷ row "+" 17 ∷ row "-" 18 ∷ row "*" 19 ∷ row "/" 20 ∷ row "%" 21 ∷ row "^" 22 ∷ row "&" 23
    ∷ row "|" 24 ∷ row "=" 25 ∷ row "+=" 26 ∷ row "-=" 27 ∷ row "*=" 28 ∷ row "/=" 29 ∷ row "%=" 30 ∷ row "^=" 31
    ∷ row "&=" 32 ∷ row "|=" 33 ∷ row "==" 34 ∷ row "!=" 35 ∷ row "<" 36 ∷ row ">" 37 ∷ row "<=" 38 ∷ row ">=" 39
    ∷ row "<=>" 40 ∷ row "&&" 41 ∷ row "||" 42 ∷ row "<<" 43 ∷ row ">>" 44 ∷ row "<<=" 45 ∷ row ">>=" 46 ∷ row "++" 47
    ∷ row "--" 48 ∷ row "," 49 ∷ row "#" 50 ∷ row "##" 51
    ∷ row "<:" 2 ∷ row ":>" 3 ∷ row "<%" 0 ∷ row "%>" 1 ∷ row "%:" 50 ∷ row "%:%:" 51 ∷ []

-- the bytes that begin them
abbrev pub firsts : List ℕ
firsts = codes "{}[]();:.?-~!+*/%^&|=<>,#"

-- the punctuators that begin with the byte
abbrev pub rows_from : ℕ → List Entry
rows_from c = rows_among punctuators firsts c

-- the alternative words, with the numbers of the punctuators that they stand for ([lex.digraph])
abbrev pub operator_words : List Entry
operator_words =
    row "and" 41 ∷ row "or" 42 ∷ row "not" 16 ∷ row "xor" 22 ∷ row "bitand" 23 ∷ row "bitor" 24 ∷ row "compl" 15
    ∷ row "and_eq" 32 ∷ row "or_eq" 33 ∷ row "xor_eq" 31 ∷ row "not_eq" 35 ∷ []

-- the standard attributes, with the year and month of each ([cpp.cond])
abbrev pub attributes : List Entry
attributes =
    row "carries_dependency" 200809 ∷ row "deprecated" 201309 ∷ row "fallthrough" 201603
    ∷ row "likely" 201803 ∷ row "maybe_unused" 201603 ∷ row "no_unique_address" 201803
    ∷ row "nodiscard" 201907 ∷ row "noreturn" 200809 ∷ row "unlikely" 201803 ∷ []
