-- Islands: what may lie at a token place, and the laws that an answer keeps.
use Rattle.std.specs.Prelude.{ℕ, zero, suc, ◌-◌, Bool, true, false, not, ◌&&◌, ◌||◌, List, [], ◌∷◌, length, is_some, Some, None, Option, ◌==◌, nat_le, nat_lt, slice_index_or}
use Rattle.std.specs.List.{list_all}
use Rattle.tokens.specs.declared.rows.Hook.{Hook}
use Rattle.tokens.specs.declared.rows.Hook.TheVariants.{Expr, BlockExpr, Literal, ExprBlockContents, Meta, Pattern, PatternSingle}
use Rattle.tokens.specs.declared.rows.Answer.{Answer}
use Rattle.tokens.specs.declared.rows.Row.{Row}
use Rattle.tokens.specs.Kinds.{EOF, L_CURLY, UNDERSCORE, IDENT, TRUE_KW, FALSE_KW, INT_NUMBER, FLOAT_NUMBER, CHAR, BYTE, STRING, BYTE_STRING, C_STRING, ABI, LAST}

-- the hooks, in their order
abbrev pub hook_number : Hook → ℕ
hook_number Expr = 1
hook_number BlockExpr = 2
hook_number Literal = 3
hook_number ExprBlockContents = 4
hook_number Meta = 5
hook_number Pattern = 6
hook_number PatternSingle = 7

abbrev pub answer_of : Row → Hook → Answer
answer_of r Expr = r.expr
answer_of r BlockExpr = r.block_expr
answer_of r Literal = r.literal
answer_of r ExprBlockContents = r.expr_block_contents
answer_of r Meta = r.meta
answer_of r Pattern = r.pattern
answer_of r PatternSingle = r.pattern_single

-- no tokens and no node
abbrev pub has_nothing : Answer → Bool
has_nothing a = a.tokens == 0 && not (is_some a.kind)

-- a node around at least one token
abbrev pub has_node : Answer → Bool
has_node a = nat_lt 0 a.tokens && is_some a.kind

-- a kind that a node has
abbrev pub is_node : ℕ → Bool
is_node k = nat_le ABI k && nat_lt k LAST

abbrev pub node_or_none : Option ℕ → Bool
node_or_none None = true
node_or_none (Some k) = is_node k

-- its kind, if it has one, is a node's
abbrev pub names_node : Answer → Bool
names_node a = node_or_none a.kind

-- there are so many tokens from this place on
abbrev pub exists_from : List ℕ → ℕ → ℕ → Bool
exists_from kinds place n = nat_le n (length kinds - place)

-- a literal, `true` or `false`
abbrev pub is_literal : ℕ → Bool
is_literal k =
    (k == TRUE_KW) || (k == FALSE_KW || (k == INT_NUMBER || (k == FLOAT_NUMBER || (k == CHAR
    || (k == BYTE || (k == STRING || (k == BYTE_STRING || k == C_STRING)))))))

-- What a hook may answer without a fault: a node of at least one token; for a literal also nothing at all, and for the contents of a block anything.
abbrev pub may_lack_fault : Hook → Answer → Bool
may_lack_fault Expr a = has_node a
may_lack_fault BlockExpr a = has_node a
may_lack_fault Literal a = has_node a || has_nothing a
may_lack_fault ExprBlockContents a = true
may_lack_fault Meta a = has_node a
may_lack_fault Pattern a = has_node a
may_lack_fault PatternSingle a = has_node a

-- Where a hook takes at least one token, fault or not: a block at `{`, a literal at one, a single pattern at an identifier or `_`.
abbrev pub must_take : Hook → ℕ → Bool
must_take Expr k = false
must_take BlockExpr k = k == L_CURLY
must_take Literal k = is_literal k
must_take ExprBlockContents k = false
must_take Meta k = false
must_take Pattern k = false
must_take PatternSingle k = k == IDENT || k == UNDERSCORE

-- with a fault it may answer anything
abbrev pub may_answer : Hook → Answer → Bool
may_answer h a = a.fault || may_lack_fault h a

-- it takes a token where it must take one of this kind
abbrev pub takes_enough : Hook → ℕ → Answer → Bool
takes_enough h k a = nat_lt 0 a.tokens || not (must_take h k)

-- The laws of an answer to a hook at a place.
unfoldable pub lawful_answer : List ℕ → ℕ → Hook → Answer → Bool
lawful_answer kinds place h a =
    exists_from kinds place a.tokens && (names_node a && (may_answer h a && takes_enough h (slice_index_or kinds place EOF) a))

abbrev pub hooks : List Hook
hooks = Expr ∷ (BlockExpr ∷ (Literal ∷ (ExprBlockContents ∷ (Meta ∷ (Pattern ∷ (PatternSingle ∷ []))))))

-- the answer of a row to a hook is lawful at this place
abbrev pub lawful_at : List ℕ → ℕ → Row → Hook → Bool
lawful_at kinds place r h = lawful_answer kinds place h (answer_of r h)

-- Every answer of a row is lawful at this place.
abbrev pub lawful_row : List ℕ → ℕ → Row → Bool
lawful_row kinds place r = list_all (lawful_at kinds place r) hooks

-- Rows for a file

-- no tokens and no node, without a fault
abbrev pub nothing : Answer
nothing = record { tokens = 0; kind = None; fault = false }

-- a fault alone
abbrev pub bare_fault : Answer
bare_fault = record { tokens = 0; kind = None; fault = true }

-- a row that is not there has no answers
abbrev pub no_row : Row
no_row = record { expr = nothing; block_expr = nothing; literal = nothing; expr_block_contents = nothing; meta = nothing; pattern = nothing; pattern_single = nothing }

abbrev pub row_at : List Row → ℕ → Row
row_at rows i = slice_index_or rows i no_row

-- each number below n passes the test
unfoldable pub every_below : (ℕ → Bool) → ℕ → Bool
every_below p zero = true
every_below p (suc n) = every_below p n && p n

-- There is a row for each token, and each is lawful at its place.
abbrev pub rows_fit : List ℕ → List Row → Bool
rows_fit kinds rows = length rows == length kinds && every_below (λ i. lawful_row kinds i (row_at rows i)) (length kinds)
