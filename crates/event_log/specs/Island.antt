-- Islands in the log: what lies in expressions, patterns and attributes is not read, but recorded as the rows answer it.
use Rattle.std.specs.Prelude.{ℕ, zero, suc, ◌+◌, cond, Some, None, Option, ◌==◌}
use Rattle.tokens.specs.declared.rows.Hook.{Hook}
use Rattle.tokens.specs.declared.rows.Hook.TheVariants.{Expr, BlockExpr, Literal, ExprBlockContents, Meta, Pattern, PatternSingle}
use Rattle.tokens.specs.declared.rows.Answer.{Answer}
use Rattle.tokens.specs.Kinds.{EOF}
use Rattle.tokens.specs.Islands.{answer_of, hook_number, nothing, bare_fault, row_at}
use Rattle.event_log.specs.Program.{Env, kind_at, ◌>>◌}
use Rattle.event_log.specs.Program.Prog.{give, here}
use Rattle.event_log.specs.Steps.{Step, when, complete, bump_any, err}

-- the number of the error of an island at fault is this and the hook's
abbrev pub island_fault : ℕ
island_fault = 200

-- At the end of the tokens a literal and the contents of a block are nothing, and all else is a fault alone.
abbrev pub answer_at_end : Hook → Answer
answer_at_end Expr = bare_fault
answer_at_end BlockExpr = bare_fault
answer_at_end Literal = nothing
answer_at_end ExprBlockContents = nothing
answer_at_end Meta = bare_fault
answer_at_end Pattern = bare_fault
answer_at_end PatternSingle = bare_fault

-- what a hook answers at a place
unfoldable pub answer_at : Env → ℕ → Hook → Answer
answer_at e i h = cond (kind_at e i == EOF) (answer_at_end h) (answer_of (row_at e.rows i) h)

-- so many raw tokens, each as it is
unfoldable pub bumps : ℕ → Step
bumps zero = give tt
bumps (suc n) = bump_any >> bumps n

-- an error, if it is at fault
abbrev pub island_error : Hook → Answer → Step
island_error h a = when a.fault (err (island_fault + hook_number h))

-- and its tokens
abbrev pub island_inside : Hook → Answer → Step
island_inside h a = island_error h a >> bumps a.tokens

-- with a node around it, if there is a kind
abbrev pub island_node : Option ℕ → Step → Step
island_node None s = s
island_node (Some k) s = complete k s

unfoldable pub island : Hook → Step
island h = here λ e i. island_node (answer_at e i h).kind (island_inside h (answer_at e i h))
