-- The token sets of the grammar, each as a list of kinds.
use Rattle.std.specs.Prelude.{ℕ, Bool, false, ◌||◌, List, [], ◌∷◌, ◌++◌, ◌==◌}
use Rattle.tokens.specs.Kinds.{SEMICOLON, COMMA, L_PAREN, R_PAREN, L_CURLY, R_CURLY, L_BRACK, R_BRACK, L_ANGLE, R_ANGLE, POUND, QUESTION, AMP, STAR, UNDERSCORE, DOT, COLON, BANG, MINUS, SELF_TYPE_KW, BOX_KW, CONST_KW, CRATE_KW, ENUM_KW, EXTERN_KW, FALSE_KW, FN_KW, FOR_KW, IMPL_KW, LET_KW, MACRO_KW, MOD_KW, MUT_KW, PUB_KW, REF_KW, SELF_KW, STATIC_KW, STRUCT_KW, SUPER_KW, TRAIT_KW, TRUE_KW, UNSAFE_KW, USE_KW, ASYNC_KW, DYN_KW, BYTE, BYTE_STRING, CHAR, C_STRING, FLOAT_NUMBER, INT_NUMBER, STRING, IDENT, LIFETIME_IDENT, OUTER_DOC_COMMENT}

-- the kind is one of the list
unfoldable pub has : List ℕ → ℕ → Bool
has [] k = false
has (x ∷ xs) k = x == k || has xs k

-- ---- attributes and visibility

abbrev pub OUTER_ATTR_FIRST : List ℕ
OUTER_ATTR_FIRST = POUND ∷ OUTER_DOC_COMMENT ∷ []

abbrev pub VISIBILITY_FIRST : List ℕ
VISIBILITY_FIRST = PUB_KW ∷ []

-- ---- paths

-- the name in a segment of a path
abbrev pub PATH_NAME_REF_KINDS : List ℕ
PATH_NAME_REF_KINDS = IDENT ∷ SELF_KW ∷ SUPER_KW ∷ CRATE_KW ∷ SELF_TYPE_KW ∷ []

-- COLON stands for `::`, whose first raw token it is
abbrev pub PATH_FIRST : List ℕ
PATH_FIRST = IDENT ∷ SELF_KW ∷ SUPER_KW ∷ CRATE_KW ∷ SELF_TYPE_KW ∷ COLON ∷ L_ANGLE ∷ []

-- ---- types

abbrev pub TYPE_FIRST : List ℕ
TYPE_FIRST =
    PATH_FIRST ++ (L_PAREN ∷ L_BRACK ∷ L_ANGLE ∷ BANG ∷ STAR ∷ AMP ∷ UNDERSCORE ∷ FN_KW ∷ UNSAFE_KW ∷ EXTERN_KW
    ∷ FOR_KW ∷ IMPL_KW ∷ DYN_KW ∷ SELF_TYPE_KW ∷ LIFETIME_IDENT ∷ [])

abbrev pub TYPE_RECOVERY_SET : List ℕ
TYPE_RECOVERY_SET = R_PAREN ∷ R_BRACK ∷ R_CURLY ∷ R_ANGLE ∷ COMMA ∷ PUB_KW ∷ []

-- what follows `dyn` where it is read as a keyword in edition 2015
abbrev pub WEAK_DYN_PATH_FIRST : List ℕ
WEAK_DYN_PATH_FIRST =
    IDENT ∷ SELF_KW ∷ SUPER_KW ∷ CRATE_KW ∷ SELF_TYPE_KW ∷ LIFETIME_IDENT ∷ QUESTION ∷ FOR_KW ∷ L_PAREN ∷ []

-- ---- items

abbrev pub ITEM_RECOVERY_SET : List ℕ
ITEM_RECOVERY_SET =
    FN_KW ∷ STRUCT_KW ∷ ENUM_KW ∷ IMPL_KW ∷ TRAIT_KW ∷ CONST_KW ∷ ASYNC_KW ∷ UNSAFE_KW ∷ EXTERN_KW ∷ STATIC_KW
    ∷ LET_KW ∷ MOD_KW ∷ PUB_KW ∷ CRATE_KW ∷ USE_KW ∷ MACRO_KW ∷ SEMICOLON ∷ []

abbrev pub TUPLE_FIELD_FIRST : List ℕ
TUPLE_FIELD_FIRST = TYPE_FIRST ++ (OUTER_ATTR_FIRST ++ VISIBILITY_FIRST)

-- what a token tree begins with
abbrev pub OPENING : List ℕ
OPENING = L_CURLY ∷ L_BRACK ∷ L_PAREN ∷ []

-- ---- expressions and patterns

abbrev pub LITERAL_FIRST : List ℕ
LITERAL_FIRST =
    TRUE_KW ∷ FALSE_KW ∷ INT_NUMBER ∷ FLOAT_NUMBER ∷ BYTE ∷ CHAR ∷ STRING ∷ BYTE_STRING ∷ C_STRING ∷ []

-- the literals that are no keywords
abbrev pub LITERALS : List ℕ
LITERALS = BYTE ∷ BYTE_STRING ∷ CHAR ∷ C_STRING ∷ FLOAT_NUMBER ∷ INT_NUMBER ∷ STRING ∷ []

abbrev pub EXPR_RECOVERY_SET : List ℕ
EXPR_RECOVERY_SET = L_PAREN ∷ R_CURLY ∷ R_PAREN ∷ R_BRACK ∷ COMMA ∷ []

abbrev pub PATTERN_FIRST : List ℕ
PATTERN_FIRST =
    LITERAL_FIRST ++ (PATH_FIRST ++ (BOX_KW ∷ REF_KW ∷ MUT_KW ∷ CONST_KW ∷ L_PAREN ∷ L_BRACK ∷ AMP ∷ UNDERSCORE
    ∷ MINUS ∷ DOT ∷ BANG ∷ []))

-- ---- segments of paths: where to stop when a name is missing

abbrev pub EXPR_PATH_SEGMENT_RECOVERY_SET : List ℕ
EXPR_PATH_SEGMENT_RECOVERY_SET = EXPR_RECOVERY_SET ++ ITEM_RECOVERY_SET

abbrev pub VIS_PATH_SEGMENT_RECOVERY_SET : List ℕ
VIS_PATH_SEGMENT_RECOVERY_SET = ITEM_RECOVERY_SET ++ (R_PAREN ∷ [])

-- ---- parameters

abbrev pub PARAM_FIRST : List ℕ
PARAM_FIRST = PATTERN_FIRST ++ TYPE_FIRST

abbrev pub PARAM_OR_ATTR_FIRST : List ℕ
PARAM_OR_ATTR_FIRST = PARAM_FIRST ++ OUTER_ATTR_FIRST

-- ---- generic arguments and parameters

abbrev pub GENERIC_ARG_FIRST : List ℕ
GENERIC_ARG_FIRST =
    (LIFETIME_IDENT ∷ IDENT ∷ L_CURLY ∷ TRUE_KW ∷ FALSE_KW ∷ MINUS ∷ INT_NUMBER ∷ FLOAT_NUMBER ∷ CHAR ∷ BYTE
    ∷ STRING ∷ BYTE_STRING ∷ C_STRING ∷ []) ++ TYPE_FIRST

abbrev pub GENERIC_ARG_RECOVERY_SET : List ℕ
GENERIC_ARG_RECOVERY_SET = R_ANGLE ∷ COMMA ∷ []

abbrev pub GENERIC_PARAM_FIRST : List ℕ
GENERIC_PARAM_FIRST = IDENT ∷ LIFETIME_IDENT ∷ CONST_KW ∷ []

abbrev pub GENERIC_PARAM_OR_ATTR_FIRST : List ℕ
GENERIC_PARAM_OR_ATTR_FIRST = GENERIC_PARAM_FIRST ++ OUTER_ATTR_FIRST

-- what `use<..>` captures
abbrev pub USE_BOUND_FIRST : List ℕ
USE_BOUND_FIRST = SELF_TYPE_KW ∷ IDENT ∷ LIFETIME_IDENT ∷ []

-- ---- all of them

abbrev pub grammar_sets : List (List ℕ)
grammar_sets =
    []
    ∷ OUTER_ATTR_FIRST
    ∷ VISIBILITY_FIRST
    ∷ PATH_NAME_REF_KINDS
    ∷ PATH_FIRST
    ∷ TYPE_FIRST
    ∷ TYPE_RECOVERY_SET
    ∷ WEAK_DYN_PATH_FIRST
    ∷ ITEM_RECOVERY_SET
    ∷ TUPLE_FIELD_FIRST
    ∷ OPENING
    ∷ LITERAL_FIRST
    ∷ LITERALS
    ∷ EXPR_RECOVERY_SET
    ∷ PATTERN_FIRST
    ∷ EXPR_PATH_SEGMENT_RECOVERY_SET
    ∷ VIS_PATH_SEGMENT_RECOVERY_SET
    ∷ PARAM_FIRST
    ∷ PARAM_OR_ATTR_FIRST
    ∷ GENERIC_ARG_FIRST
    ∷ GENERIC_ARG_RECOVERY_SET
    ∷ GENERIC_PARAM_FIRST
    ∷ GENERIC_PARAM_OR_ATTR_FIRST
    ∷ USE_BOUND_FIRST
    ∷ []
