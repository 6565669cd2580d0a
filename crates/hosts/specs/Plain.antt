-- The plain host: single tokens, blocks, and runs.
use Rattle.std.specs.Prelude.{ℕ, ◌+◌, true, false, cond, List, [], ◌∷◌, length, drop, Some, None, ◌==◌, nat_lt, slice_index_or}
use Rattle.tokens.specs.declared.rows.Hook.{Hook}
use Rattle.tokens.specs.declared.rows.Hook.TheVariants.{Expr, BlockExpr, Literal, ExprBlockContents, Meta, Pattern, PatternSingle}
use Rattle.tokens.specs.declared.rows.Answer.{Answer}
use Rattle.tokens.specs.Kinds.{EOF, L_CURLY, UNDERSCORE, IDENT, LITERAL, PATH_EXPR, BLOCK_EXPR, TOKEN_TREE_META, IDENT_PAT, WILDCARD_PAT}
use Rattle.tokens.specs.Islands.{is_literal}
use Rattle.hosts.specs.declared.run.Stop.TheVariants.{Closer}
use Rattle.hosts.specs.Host.{Columns}
use Rattle.hosts.specs.Runs.{stops_at, run_length, run_of}
use Rattle.tokens.specs.Islands.{nothing, bare_fault}
use Rattle.hosts.specs.Answers.{one_token, tree}

-- by the kind of the first token

-- a literal, or else this
abbrev pub literal_or : Answer → ℕ → Answer
literal_or other k = cond (is_literal k) (one_token LITERAL) other

-- an identifier as a path, anything else as a fault
abbrev pub path_expr : ℕ → Answer
path_expr k = cond (k == IDENT) (one_token PATH_EXPR) bare_fault

-- an identifier or `_` as a pattern, anything else as a fault
abbrev pub token_pattern : ℕ → Answer
token_pattern k = cond (k == IDENT) (one_token IDENT_PAT) (cond (k == UNDERSCORE) (one_token WILDCARD_PAT) bare_fault)

-- by the tokens from the first on

-- how many tokens follow before a bracket closes that they did not open, or the end
abbrev pub contents : List ℕ → ℕ
contents ahead = run_length (stops_at Closer) ahead

-- as contents of a block: no node, and never a fault
abbrev pub plain_contents : List ℕ → Answer
plain_contents ahead = record { tokens = contents ahead; kind = None; fault = false }

-- A block, by what follows its `{`: its closer is the token behind the run; without one it goes to the end, with a fault.
abbrev pub block : List ℕ → Answer
block inner = cond (nat_lt (contents inner) (length inner))
    (record { tokens = contents inner + 2; kind = Some BLOCK_EXPR; fault = false })
    (record { tokens = length inner + 1; kind = Some BLOCK_EXPR; fault = true })

abbrev pub plain_block : List ℕ → Answer
plain_block [] = bare_fault
plain_block (k ∷ inner) = cond (k == L_CURLY) (block inner) bare_fault

abbrev pub plain_ahead : Hook → List ℕ → Answer
plain_ahead Expr ahead = literal_or (path_expr (slice_index_or ahead 0 EOF)) (slice_index_or ahead 0 EOF)
plain_ahead BlockExpr ahead = plain_block ahead
plain_ahead Literal ahead = literal_or nothing (slice_index_or ahead 0 EOF)
plain_ahead ExprBlockContents ahead = plain_contents ahead
plain_ahead Meta ahead = tree TOKEN_TREE_META (run_of (stops_at Closer) ahead)
plain_ahead Pattern ahead = token_pattern (slice_index_or ahead 0 EOF)
plain_ahead PatternSingle ahead = token_pattern (slice_index_or ahead 0 EOF)

abbrev pub plain_answer : Hook → Columns → ℕ → Answer
plain_answer h c place = plain_ahead h (drop place c.kinds)
