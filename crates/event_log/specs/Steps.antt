-- The steps that a grammar is made of: the calls of the parser as programs, and the forms that join them.
use Rattle.std.specs.Prelude.{ℕ, Bool, true, false, cond, Some, None, Option, ◌==◌}
use Rattle.tokens.specs.Kinds.{TOMBSTONE, EOF, ERROR}
use Rattle.tokens.specs.Parts.{width}
use Rattle.event_log.specs.Program.{Env, Turn, Prog, kind_at, ahead, present, readable, ◌>>◌}
use Rattle.event_log.specs.Program.Turn.{again, done}
use Rattle.event_log.specs.Program.Prog.{give, ◌>>=◌, here, take, fault, chain, repeat}
use Rattle.event_log.specs.Program.Wraps.{end}

-- a step that answers nothing
abbrev pub Step : Type 1
Step = Prog (Unit {0})

-- Forms

-- one step or none, as a test was answered
abbrev pub when : Bool → Step → Step
when b a = cond b a (give tt)

-- one step or another, as a token of this kind is next or not
abbrev pub if_at : {A : Type 0} → ℕ → Prog A → Prog A → Prog A
if_at k a b = here λ e i. cond (ahead e i k) a b

-- one step or none, as a token of this kind is next or not
abbrev pub when_at : ℕ → Step → Step
when_at k a = if_at k a (give tt)

-- one turn of a loop, by what the body answers: whether to go on
abbrev pub turn_by : Prog Bool → Prog (Turn (Unit {0}))
turn_by body = body >>= λ on. cond on (give (again tt)) (give (done tt))

-- while the test holds and the body answers that it is to go on
abbrev pub while : (Env → ℕ → Bool) → Prog Bool → Step
while test body = repeat (λ _. here λ e i. cond (test e i) (turn_by body) (give (done tt))) tt

-- Nodes

-- a node of the kind that the body answers, or none; answers that kind
abbrev pub start : Prog (Option ℕ) → Prog (Option ℕ)
start body = chain body end

-- the same, where the kind is not asked for
abbrev pub node : Prog (Option ℕ) → Step
node body = start body >> give tt

-- a node of this kind around a body
abbrev pub complete : {A : Type 0} → ℕ → Prog A → Step
complete k body = node (body >> give (Some k))

-- whether a node was completed
abbrev pub is_some : {A : Type 0} → Option A → Bool
is_some (Some a) = true
is_some None = false

-- Tokens

-- a token of this kind, which is next
unfoldable pub bump : ℕ → Step
bump k = take k (width k)

-- a token of this kind, if it is next
unfoldable pub eat : ℕ → Prog Bool
eat k = here λ e i. cond (present e i k) (bump k >> give true) (give false)

-- the next raw token, if there is one
abbrev pub bump_any : Prog (Unit {0})
bump_any = here λ e i. cond (kind_at e i == EOF) (give tt) (take (kind_at e i) 1)

-- the next raw token, read as this keyword, if there is one
unfoldable pub bump_remap : ℕ → Step
bump_remap k = here λ e i. cond (kind_at e i == EOF) (give tt) (take k 1)

-- an identifier that can be read as this keyword, if it is next
unfoldable pub eat_contextual : ℕ → Prog Bool
eat_contextual k = here λ e i. cond (readable e i k) (bump_remap k >> give true) (give false)

-- Errors

-- the number of the error that carries the kind that was expected
abbrev pub expected_kind : ℕ
expected_kind = 0

-- an error that carries no kind
unfoldable pub err : ℕ → Step
err n = fault n TOMBSTONE

-- a token of this kind, or an error that carries it; answers whether it was there
unfoldable pub expect : ℕ → Prog Bool
expect k = eat k >>= λ ate. cond ate (give true) (fault expected_kind k >> give false)

-- an error and the next raw token, if there is one
abbrev pub err_and_bump_body : ℕ → Step
err_and_bump_body n = err n >> bump_any

-- in a node
unfoldable pub err_and_bump : ℕ → Step
err_and_bump n = complete ERROR (err_and_bump_body n)
