-- The kinds of tokens and nodes: the number of each is its position in the list, from 0.
-- Written by tools/kinds from docs/kinds.tsv.
use Rattle.std.specs.Prelude.{ℕ}

abbrev pub TOMBSTONE : ℕ
TOMBSTONE = 0

abbrev pub EOF : ℕ
EOF = 1

abbrev pub DOLLAR : ℕ
DOLLAR = 2

abbrev pub SEMICOLON : ℕ
SEMICOLON = 3

abbrev pub COMMA : ℕ
COMMA = 4

abbrev pub L_PAREN : ℕ
L_PAREN = 5

abbrev pub R_PAREN : ℕ
R_PAREN = 6

abbrev pub L_CURLY : ℕ
L_CURLY = 7

abbrev pub R_CURLY : ℕ
R_CURLY = 8

abbrev pub L_BRACK : ℕ
L_BRACK = 9

abbrev pub R_BRACK : ℕ
R_BRACK = 10

abbrev pub L_ANGLE : ℕ
L_ANGLE = 11

abbrev pub R_ANGLE : ℕ
R_ANGLE = 12

abbrev pub AT : ℕ
AT = 13

abbrev pub POUND : ℕ
POUND = 14

abbrev pub TILDE : ℕ
TILDE = 15

abbrev pub QUESTION : ℕ
QUESTION = 16

abbrev pub AMP : ℕ
AMP = 17

abbrev pub PIPE : ℕ
PIPE = 18

abbrev pub PLUS : ℕ
PLUS = 19

abbrev pub STAR : ℕ
STAR = 20

abbrev pub SLASH : ℕ
SLASH = 21

abbrev pub CARET : ℕ
CARET = 22

abbrev pub PERCENT : ℕ
PERCENT = 23

abbrev pub UNDERSCORE : ℕ
UNDERSCORE = 24

abbrev pub DOT : ℕ
DOT = 25

abbrev pub DOT2 : ℕ
DOT2 = 26

abbrev pub DOT3 : ℕ
DOT3 = 27

abbrev pub DOT2EQ : ℕ
DOT2EQ = 28

abbrev pub COLON : ℕ
COLON = 29

abbrev pub COLON2 : ℕ
COLON2 = 30

abbrev pub EQ : ℕ
EQ = 31

abbrev pub EQ2 : ℕ
EQ2 = 32

abbrev pub FAT_ARROW : ℕ
FAT_ARROW = 33

abbrev pub BANG : ℕ
BANG = 34

abbrev pub NEQ : ℕ
NEQ = 35

abbrev pub MINUS : ℕ
MINUS = 36

abbrev pub THIN_ARROW : ℕ
THIN_ARROW = 37

abbrev pub LTEQ : ℕ
LTEQ = 38

abbrev pub GTEQ : ℕ
GTEQ = 39

abbrev pub PLUSEQ : ℕ
PLUSEQ = 40

abbrev pub MINUSEQ : ℕ
MINUSEQ = 41

abbrev pub PIPEEQ : ℕ
PIPEEQ = 42

abbrev pub AMPEQ : ℕ
AMPEQ = 43

abbrev pub CARETEQ : ℕ
CARETEQ = 44

abbrev pub SLASHEQ : ℕ
SLASHEQ = 45

abbrev pub STAREQ : ℕ
STAREQ = 46

abbrev pub PERCENTEQ : ℕ
PERCENTEQ = 47

abbrev pub AMP2 : ℕ
AMP2 = 48

abbrev pub PIPE2 : ℕ
PIPE2 = 49

abbrev pub SHL : ℕ
SHL = 50

abbrev pub SHR : ℕ
SHR = 51

abbrev pub SHLEQ : ℕ
SHLEQ = 52

abbrev pub SHREQ : ℕ
SHREQ = 53

abbrev pub SELF_TYPE_KW : ℕ
SELF_TYPE_KW = 54

abbrev pub ABSTRACT_KW : ℕ
ABSTRACT_KW = 55

abbrev pub AS_KW : ℕ
AS_KW = 56

abbrev pub BECOME_KW : ℕ
BECOME_KW = 57

abbrev pub BOX_KW : ℕ
BOX_KW = 58

abbrev pub BREAK_KW : ℕ
BREAK_KW = 59

abbrev pub CONST_KW : ℕ
CONST_KW = 60

abbrev pub CONTINUE_KW : ℕ
CONTINUE_KW = 61

abbrev pub CRATE_KW : ℕ
CRATE_KW = 62

abbrev pub DO_KW : ℕ
DO_KW = 63

abbrev pub ELSE_KW : ℕ
ELSE_KW = 64

abbrev pub ENUM_KW : ℕ
ENUM_KW = 65

abbrev pub EXTERN_KW : ℕ
EXTERN_KW = 66

abbrev pub FALSE_KW : ℕ
FALSE_KW = 67

abbrev pub FINAL_KW : ℕ
FINAL_KW = 68

abbrev pub FN_KW : ℕ
FN_KW = 69

abbrev pub FOR_KW : ℕ
FOR_KW = 70

abbrev pub IF_KW : ℕ
IF_KW = 71

abbrev pub IMPL_KW : ℕ
IMPL_KW = 72

abbrev pub IN_KW : ℕ
IN_KW = 73

abbrev pub LET_KW : ℕ
LET_KW = 74

abbrev pub LOOP_KW : ℕ
LOOP_KW = 75

abbrev pub MACRO_KW : ℕ
MACRO_KW = 76

abbrev pub MATCH_KW : ℕ
MATCH_KW = 77

abbrev pub MOD_KW : ℕ
MOD_KW = 78

abbrev pub MOVE_KW : ℕ
MOVE_KW = 79

abbrev pub MUT_KW : ℕ
MUT_KW = 80

abbrev pub OVERRIDE_KW : ℕ
OVERRIDE_KW = 81

abbrev pub PRIV_KW : ℕ
PRIV_KW = 82

abbrev pub PUB_KW : ℕ
PUB_KW = 83

abbrev pub REF_KW : ℕ
REF_KW = 84

abbrev pub RETURN_KW : ℕ
RETURN_KW = 85

abbrev pub SELF_KW : ℕ
SELF_KW = 86

abbrev pub STATIC_KW : ℕ
STATIC_KW = 87

abbrev pub STRUCT_KW : ℕ
STRUCT_KW = 88

abbrev pub SUPER_KW : ℕ
SUPER_KW = 89

abbrev pub TRAIT_KW : ℕ
TRAIT_KW = 90

abbrev pub TRUE_KW : ℕ
TRUE_KW = 91

abbrev pub TYPE_KW : ℕ
TYPE_KW = 92

abbrev pub TYPEOF_KW : ℕ
TYPEOF_KW = 93

abbrev pub UNSAFE_KW : ℕ
UNSAFE_KW = 94

abbrev pub UNSIZED_KW : ℕ
UNSIZED_KW = 95

abbrev pub USE_KW : ℕ
USE_KW = 96

abbrev pub VIRTUAL_KW : ℕ
VIRTUAL_KW = 97

abbrev pub WHERE_KW : ℕ
WHERE_KW = 98

abbrev pub WHILE_KW : ℕ
WHILE_KW = 99

abbrev pub YIELD_KW : ℕ
YIELD_KW = 100

abbrev pub ASM_KW : ℕ
ASM_KW = 101

abbrev pub ASYNC_KW : ℕ
ASYNC_KW = 102

abbrev pub ATT_SYNTAX_KW : ℕ
ATT_SYNTAX_KW = 103

abbrev pub AUTO_KW : ℕ
AUTO_KW = 104

abbrev pub AWAIT_KW : ℕ
AWAIT_KW = 105

abbrev pub BIKESHED_KW : ℕ
BIKESHED_KW = 106

abbrev pub BUILTIN_KW : ℕ
BUILTIN_KW = 107

abbrev pub CFG_ATTR_KW : ℕ
CFG_ATTR_KW = 108

abbrev pub CFG_KW : ℕ
CFG_KW = 109

abbrev pub CLOBBER_ABI_KW : ℕ
CLOBBER_ABI_KW = 110

abbrev pub DEFAULT_KW : ℕ
DEFAULT_KW = 111

abbrev pub DEREF_KW : ℕ
DEREF_KW = 112

abbrev pub DYN_KW : ℕ
DYN_KW = 113

abbrev pub FORMAT_ARGS_KW : ℕ
FORMAT_ARGS_KW = 114

abbrev pub GEN_KW : ℕ
GEN_KW = 115

abbrev pub GLOBAL_ASM_KW : ℕ
GLOBAL_ASM_KW = 116

abbrev pub INCLUDE_BYTES_KW : ℕ
INCLUDE_BYTES_KW = 117

abbrev pub INLATEOUT_KW : ℕ
INLATEOUT_KW = 118

abbrev pub INOUT_KW : ℕ
INOUT_KW = 119

abbrev pub IS_KW : ℕ
IS_KW = 120

abbrev pub LABEL_KW : ℕ
LABEL_KW = 121

abbrev pub LATEOUT_KW : ℕ
LATEOUT_KW = 122

abbrev pub MACRO_RULES_KW : ℕ
MACRO_RULES_KW = 123

abbrev pub MAY_UNWIND_KW : ℕ
MAY_UNWIND_KW = 124

abbrev pub NAKED_ASM_KW : ℕ
NAKED_ASM_KW = 125

abbrev pub NOMEM_KW : ℕ
NOMEM_KW = 126

abbrev pub NORETURN_KW : ℕ
NORETURN_KW = 127

abbrev pub NOSTACK_KW : ℕ
NOSTACK_KW = 128

abbrev pub NULL_KW : ℕ
NULL_KW = 129

abbrev pub OFFSET_OF_KW : ℕ
OFFSET_OF_KW = 130

abbrev pub OPTIONS_KW : ℕ
OPTIONS_KW = 131

abbrev pub OUT_KW : ℕ
OUT_KW = 132

abbrev pub PATTERN_TYPE_KW : ℕ
PATTERN_TYPE_KW = 133

abbrev pub PRESERVES_FLAGS_KW : ℕ
PRESERVES_FLAGS_KW = 134

abbrev pub PURE_KW : ℕ
PURE_KW = 135

abbrev pub RAW_KW : ℕ
RAW_KW = 136

abbrev pub READONLY_KW : ℕ
READONLY_KW = 137

abbrev pub SAFE_KW : ℕ
SAFE_KW = 138

abbrev pub SYM_KW : ℕ
SYM_KW = 139

abbrev pub TRY_KW : ℕ
TRY_KW = 140

abbrev pub UNION_KW : ℕ
UNION_KW = 141

abbrev pub YEET_KW : ℕ
YEET_KW = 142

abbrev pub BYTE : ℕ
BYTE = 143

abbrev pub BYTE_STRING : ℕ
BYTE_STRING = 144

abbrev pub CHAR : ℕ
CHAR = 145

abbrev pub C_STRING : ℕ
C_STRING = 146

abbrev pub FLOAT_NUMBER : ℕ
FLOAT_NUMBER = 147

abbrev pub INT_NUMBER : ℕ
INT_NUMBER = 148

abbrev pub STRING : ℕ
STRING = 149

abbrev pub COMMENT : ℕ
COMMENT = 150

abbrev pub ERROR : ℕ
ERROR = 151

abbrev pub FRONTMATTER : ℕ
FRONTMATTER = 152

abbrev pub IDENT : ℕ
IDENT = 153

abbrev pub INNER_DOC_COMMENT : ℕ
INNER_DOC_COMMENT = 154

abbrev pub LIFETIME_IDENT : ℕ
LIFETIME_IDENT = 155

abbrev pub NEWLINE : ℕ
NEWLINE = 156

abbrev pub OUTER_DOC_COMMENT : ℕ
OUTER_DOC_COMMENT = 157

abbrev pub SHEBANG : ℕ
SHEBANG = 158

abbrev pub WHITESPACE : ℕ
WHITESPACE = 159

abbrev pub ABI : ℕ
ABI = 160

abbrev pub ARG_LIST : ℕ
ARG_LIST = 161

abbrev pub ARRAY_EXPR : ℕ
ARRAY_EXPR = 162

abbrev pub ARRAY_TYPE : ℕ
ARRAY_TYPE = 163

abbrev pub ASM_CLOBBER_ABI : ℕ
ASM_CLOBBER_ABI = 164

abbrev pub ASM_CONST : ℕ
ASM_CONST = 165

abbrev pub ASM_DIR_SPEC : ℕ
ASM_DIR_SPEC = 166

abbrev pub ASM_EXPR : ℕ
ASM_EXPR = 167

abbrev pub ASM_LABEL : ℕ
ASM_LABEL = 168

abbrev pub ASM_OPERAND_EXPR : ℕ
ASM_OPERAND_EXPR = 169

abbrev pub ASM_OPERAND_NAMED : ℕ
ASM_OPERAND_NAMED = 170

abbrev pub ASM_OPTION : ℕ
ASM_OPTION = 171

abbrev pub ASM_OPTIONS : ℕ
ASM_OPTIONS = 172

abbrev pub ASM_REG_OPERAND : ℕ
ASM_REG_OPERAND = 173

abbrev pub ASM_REG_SPEC : ℕ
ASM_REG_SPEC = 174

abbrev pub ASM_SYM : ℕ
ASM_SYM = 175

abbrev pub ASSOC_ITEM_LIST : ℕ
ASSOC_ITEM_LIST = 176

abbrev pub ASSOC_TYPE_ARG : ℕ
ASSOC_TYPE_ARG = 177

abbrev pub ATTR : ℕ
ATTR = 178

abbrev pub AWAIT_EXPR : ℕ
AWAIT_EXPR = 179

abbrev pub BECOME_EXPR : ℕ
BECOME_EXPR = 180

abbrev pub BIN_EXPR : ℕ
BIN_EXPR = 181

abbrev pub BLOCK_EXPR : ℕ
BLOCK_EXPR = 182

abbrev pub BOX_PAT : ℕ
BOX_PAT = 183

abbrev pub BREAK_EXPR : ℕ
BREAK_EXPR = 184

abbrev pub CALL_EXPR : ℕ
CALL_EXPR = 185

abbrev pub CAST_EXPR : ℕ
CAST_EXPR = 186

abbrev pub CFG_ATOM : ℕ
CFG_ATOM = 187

abbrev pub CFG_ATTR_META : ℕ
CFG_ATTR_META = 188

abbrev pub CFG_COMPOSITE : ℕ
CFG_COMPOSITE = 189

abbrev pub CFG_META : ℕ
CFG_META = 190

abbrev pub CFG_PRED_EXPR : ℕ
CFG_PRED_EXPR = 191

abbrev pub CFG_PRED_PAT : ℕ
CFG_PRED_PAT = 192

abbrev pub CLOSURE_EXPR : ℕ
CLOSURE_EXPR = 193

abbrev pub CONST : ℕ
CONST = 194

abbrev pub CONST_ARG : ℕ
CONST_ARG = 195

abbrev pub CONST_BLOCK_PAT : ℕ
CONST_BLOCK_PAT = 196

abbrev pub CONST_PARAM : ℕ
CONST_PARAM = 197

abbrev pub CONTINUE_EXPR : ℕ
CONTINUE_EXPR = 198

abbrev pub DEREF_PAT : ℕ
DEREF_PAT = 199

abbrev pub DOC_COMMENT : ℕ
DOC_COMMENT = 200

abbrev pub DYN_TRAIT_TYPE : ℕ
DYN_TRAIT_TYPE = 201

abbrev pub ENUM : ℕ
ENUM = 202

abbrev pub EXPR_STMT : ℕ
EXPR_STMT = 203

abbrev pub EXTERN_BLOCK : ℕ
EXTERN_BLOCK = 204

abbrev pub EXTERN_CRATE : ℕ
EXTERN_CRATE = 205

abbrev pub EXTERN_ITEM_LIST : ℕ
EXTERN_ITEM_LIST = 206

abbrev pub FIELD_EXPR : ℕ
FIELD_EXPR = 207

abbrev pub FN : ℕ
FN = 208

abbrev pub FN_PTR_TYPE : ℕ
FN_PTR_TYPE = 209

abbrev pub FORMAT_ARGS_ARG : ℕ
FORMAT_ARGS_ARG = 210

abbrev pub FORMAT_ARGS_EXPR : ℕ
FORMAT_ARGS_EXPR = 211

abbrev pub FOR_BINDER : ℕ
FOR_BINDER = 212

abbrev pub FOR_EXPR : ℕ
FOR_EXPR = 213

abbrev pub FOR_TYPE : ℕ
FOR_TYPE = 214

abbrev pub GENERIC_ARG_LIST : ℕ
GENERIC_ARG_LIST = 215

abbrev pub GENERIC_PARAM_LIST : ℕ
GENERIC_PARAM_LIST = 216

abbrev pub IDENT_PAT : ℕ
IDENT_PAT = 217

abbrev pub IF_EXPR : ℕ
IF_EXPR = 218

abbrev pub IMPL : ℕ
IMPL = 219

abbrev pub IMPL_RESTRICTION : ℕ
IMPL_RESTRICTION = 220

abbrev pub IMPL_TRAIT_TYPE : ℕ
IMPL_TRAIT_TYPE = 221

abbrev pub INCLUDE_BYTES_EXPR : ℕ
INCLUDE_BYTES_EXPR = 222

abbrev pub INDEX_EXPR : ℕ
INDEX_EXPR = 223

abbrev pub INFER_TYPE : ℕ
INFER_TYPE = 224

abbrev pub ITEM_LIST : ℕ
ITEM_LIST = 225

abbrev pub KEY_VALUE_META : ℕ
KEY_VALUE_META = 226

abbrev pub LABEL : ℕ
LABEL = 227

abbrev pub LET_ELSE : ℕ
LET_ELSE = 228

abbrev pub LET_EXPR : ℕ
LET_EXPR = 229

abbrev pub LET_STMT : ℕ
LET_STMT = 230

abbrev pub LIFETIME : ℕ
LIFETIME = 231

abbrev pub LIFETIME_ARG : ℕ
LIFETIME_ARG = 232

abbrev pub LIFETIME_PARAM : ℕ
LIFETIME_PARAM = 233

abbrev pub LITERAL : ℕ
LITERAL = 234

abbrev pub LITERAL_PAT : ℕ
LITERAL_PAT = 235

abbrev pub LOOP_EXPR : ℕ
LOOP_EXPR = 236

abbrev pub MACRO_CALL : ℕ
MACRO_CALL = 237

abbrev pub MACRO_DEF : ℕ
MACRO_DEF = 238

abbrev pub MACRO_EXPR : ℕ
MACRO_EXPR = 239

abbrev pub MACRO_ITEMS : ℕ
MACRO_ITEMS = 240

abbrev pub MACRO_PAT : ℕ
MACRO_PAT = 241

abbrev pub MACRO_RULES : ℕ
MACRO_RULES = 242

abbrev pub MACRO_STMTS : ℕ
MACRO_STMTS = 243

abbrev pub MACRO_TYPE : ℕ
MACRO_TYPE = 244

abbrev pub MATCH_ARM : ℕ
MATCH_ARM = 245

abbrev pub MATCH_ARM_LIST : ℕ
MATCH_ARM_LIST = 246

abbrev pub MATCH_EXPR : ℕ
MATCH_EXPR = 247

abbrev pub MATCH_GUARD : ℕ
MATCH_GUARD = 248

abbrev pub METHOD_CALL_EXPR : ℕ
METHOD_CALL_EXPR = 249

abbrev pub MODULE : ℕ
MODULE = 250

abbrev pub MUT_RESTRICTION : ℕ
MUT_RESTRICTION = 251

abbrev pub NAME : ℕ
NAME = 252

abbrev pub NAME_REF : ℕ
NAME_REF = 253

abbrev pub NEVER_TYPE : ℕ
NEVER_TYPE = 254

abbrev pub NOT_NULL : ℕ
NOT_NULL = 255

abbrev pub OFFSET_OF_EXPR : ℕ
OFFSET_OF_EXPR = 256

abbrev pub OR_PAT : ℕ
OR_PAT = 257

abbrev pub PARAM : ℕ
PARAM = 258

abbrev pub PARAM_LIST : ℕ
PARAM_LIST = 259

abbrev pub PARENTHESIZED_ARG_LIST : ℕ
PARENTHESIZED_ARG_LIST = 260

abbrev pub PAREN_EXPR : ℕ
PAREN_EXPR = 261

abbrev pub PAREN_PAT : ℕ
PAREN_PAT = 262

abbrev pub PAREN_TYPE : ℕ
PAREN_TYPE = 263

abbrev pub PATH : ℕ
PATH = 264

abbrev pub PATH_EXPR : ℕ
PATH_EXPR = 265

abbrev pub PATH_META : ℕ
PATH_META = 266

abbrev pub PATH_PAT : ℕ
PATH_PAT = 267

abbrev pub PATH_SEGMENT : ℕ
PATH_SEGMENT = 268

abbrev pub PATH_TYPE : ℕ
PATH_TYPE = 269

abbrev pub PATTERN_TYPE : ℕ
PATTERN_TYPE = 270

abbrev pub PREFIX_EXPR : ℕ
PREFIX_EXPR = 271

abbrev pub PTR_TYPE : ℕ
PTR_TYPE = 272

abbrev pub RANGE_EXPR : ℕ
RANGE_EXPR = 273

abbrev pub RANGE_PAT : ℕ
RANGE_PAT = 274

abbrev pub RECORD_EXPR : ℕ
RECORD_EXPR = 275

abbrev pub RECORD_EXPR_FIELD : ℕ
RECORD_EXPR_FIELD = 276

abbrev pub RECORD_EXPR_FIELD_LIST : ℕ
RECORD_EXPR_FIELD_LIST = 277

abbrev pub RECORD_FIELD : ℕ
RECORD_FIELD = 278

abbrev pub RECORD_FIELD_LIST : ℕ
RECORD_FIELD_LIST = 279

abbrev pub RECORD_PAT : ℕ
RECORD_PAT = 280

abbrev pub RECORD_PAT_FIELD : ℕ
RECORD_PAT_FIELD = 281

abbrev pub RECORD_PAT_FIELD_LIST : ℕ
RECORD_PAT_FIELD_LIST = 282

abbrev pub REF_EXPR : ℕ
REF_EXPR = 283

abbrev pub REF_PAT : ℕ
REF_PAT = 284

abbrev pub REF_TYPE : ℕ
REF_TYPE = 285

abbrev pub RENAME : ℕ
RENAME = 286

abbrev pub REST_PAT : ℕ
REST_PAT = 287

abbrev pub RETURN_EXPR : ℕ
RETURN_EXPR = 288

abbrev pub RETURN_TYPE_SYNTAX : ℕ
RETURN_TYPE_SYNTAX = 289

abbrev pub RET_TYPE : ℕ
RET_TYPE = 290

abbrev pub SELF_PARAM : ℕ
SELF_PARAM = 291

abbrev pub SLICE_PAT : ℕ
SLICE_PAT = 292

abbrev pub SLICE_TYPE : ℕ
SLICE_TYPE = 293

abbrev pub SOURCE_FILE : ℕ
SOURCE_FILE = 294

abbrev pub STATIC : ℕ
STATIC = 295

abbrev pub STMT_LIST : ℕ
STMT_LIST = 296

abbrev pub STRUCT : ℕ
STRUCT = 297

abbrev pub TOKEN_TREE : ℕ
TOKEN_TREE = 298

abbrev pub TOKEN_TREE_META : ℕ
TOKEN_TREE_META = 299

abbrev pub TRAIT : ℕ
TRAIT = 300

abbrev pub TRY_BLOCK_MODIFIER : ℕ
TRY_BLOCK_MODIFIER = 301

abbrev pub TRY_EXPR : ℕ
TRY_EXPR = 302

abbrev pub TUPLE_EXPR : ℕ
TUPLE_EXPR = 303

abbrev pub TUPLE_FIELD : ℕ
TUPLE_FIELD = 304

abbrev pub TUPLE_FIELD_LIST : ℕ
TUPLE_FIELD_LIST = 305

abbrev pub TUPLE_PAT : ℕ
TUPLE_PAT = 306

abbrev pub TUPLE_STRUCT_PAT : ℕ
TUPLE_STRUCT_PAT = 307

abbrev pub TUPLE_TYPE : ℕ
TUPLE_TYPE = 308

abbrev pub TYPE_ALIAS : ℕ
TYPE_ALIAS = 309

abbrev pub TYPE_ANCHOR : ℕ
TYPE_ANCHOR = 310

abbrev pub TYPE_ARG : ℕ
TYPE_ARG = 311

abbrev pub TYPE_BOUND : ℕ
TYPE_BOUND = 312

abbrev pub TYPE_BOUND_LIST : ℕ
TYPE_BOUND_LIST = 313

abbrev pub TYPE_PARAM : ℕ
TYPE_PARAM = 314

abbrev pub UNDERSCORE_EXPR : ℕ
UNDERSCORE_EXPR = 315

abbrev pub UNION : ℕ
UNION = 316

abbrev pub UNSAFE_META : ℕ
UNSAFE_META = 317

abbrev pub USE : ℕ
USE = 318

abbrev pub USE_BOUND_GENERIC_ARGS : ℕ
USE_BOUND_GENERIC_ARGS = 319

abbrev pub USE_TREE : ℕ
USE_TREE = 320

abbrev pub USE_TREE_LIST : ℕ
USE_TREE_LIST = 321

abbrev pub VARIANT : ℕ
VARIANT = 322

abbrev pub VARIANT_LIST : ℕ
VARIANT_LIST = 323

abbrev pub VISIBILITY : ℕ
VISIBILITY = 324

abbrev pub VISIBILITY_INNER : ℕ
VISIBILITY_INNER = 325

abbrev pub WHERE_CLAUSE : ℕ
WHERE_CLAUSE = 326

abbrev pub WHERE_PRED : ℕ
WHERE_PRED = 327

abbrev pub WHILE_EXPR : ℕ
WHILE_EXPR = 328

abbrev pub WILDCARD_PAT : ℕ
WILDCARD_PAT = 329

abbrev pub YEET_EXPR : ℕ
YEET_EXPR = 330

abbrev pub YIELD_EXPR : ℕ
YIELD_EXPR = 331

abbrev pub LAST : ℕ
LAST = 332
