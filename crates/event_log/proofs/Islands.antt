-- Islands: what a hook answers, so many tokens one by one, and a node around them or none.
use Rattle.std.proofs.Common.{◌≡◌, ℕ, suc, ◌+◌, ◌-◌, ◌<◌, ◌≤◌, true, false, eqb, length, get_or, IsErrAnd, Some, None, Ok, Err, Option, Result, sym, refl, ap, ◌∙◌, ⊎_elim, arith}
use Rattle.std.proofs.lemmas.List.{get_or_default}
use Rattle.std.proofs.lemmas.Option.{none-some}
use Rattle.std.proofs.lemmas.Bool.{eqb-false, cases_Bool}
use Rattle.refusals.specs.declared.Refusal.{Refusal}
use Rattle.event_log.specs.Model.{State, Does}
use Rattle.tokens.specs.declared.rows.Hook.{Hook}
use Rattle.tokens.specs.declared.rows.Hook.TheVariants.{Expr, BlockExpr, Literal, ExprBlockContents, Meta, Pattern, PatternSingle}
use Rattle.tokens.specs.declared.rows.Answer.{Answer}
use Rattle.tokens.specs.declared.rows.Row.{Row}
use Rattle.tokens.specs.Kinds.{EOF}
use Rattle.tokens.specs.Islands.{answer_of, no_row, lawful_answer, rows_fit}
use Rattle.tokens.proofs.Laws.{row_lawful, kind_of_node}
use Rattle.event_log.specs.Program.{Env, kind_at}
use Rattle.event_log.specs.Steps.{Step, complete, bump_any}
use Rattle.event_log.specs.Island.{answer_at, answer_at_end, bumps, island_node, island_inside}
use Rattle.event_log.proofs.Ahead.{within}
use Rattle.event_log.proofs.Kit.{gives, then, exits}

-- Answers at a place

pub no_answer : (e : Env) (i : ℕ) (h : Hook) → eqb (kind_at e i) EOF ≡ true → answer_at e i h ≡ answer_at_end h
unfolding answer_at
no_answer e i h p = rw p

pub answer_is : (e : Env) (i : ℕ) (h : Hook) (r : Row) → eqb (kind_at e i) EOF ≡ false → i < length e.rows → answer_at e i h ≡ answer_of (get_or e.rows i r) h
unfolding answer_at
answer_is e i h r p lt = rw p (ap (λ (x : Row). answer_of x h) (get_or_default e.rows i no_row r lt))

none_at_end : (h : Hook) → (answer_at_end h).kind ≡ None
none_at_end Expr = refl
none_at_end BlockExpr = refl
none_at_end Literal = refl
none_at_end ExprBlockContents = refl
none_at_end Meta = refl
none_at_end Pattern = refl
none_at_end PatternSingle = refl

-- what is answered at a token is lawful
pub answer_lawful : (e : Env) (i : ℕ) (h : Hook) → rows_fit e.kinds e.rows ≡ true → eqb (kind_at e i) EOF ≡ false → lawful_answer e.kinds i h (answer_at e i h) ≡ true
unfolding answer_at
answer_lawful e i h fit p = rw p (row_lawful e.kinds e.rows i h fit (within e i (eqb-false _ _ p)))

-- a node of an island has a kind
pub kind_named : (e : Env) (i : ℕ) (h : Hook) {a : Answer} {k : ℕ} → rows_fit e.kinds e.rows ≡ true → a ≡ answer_at e i h → a.kind ≡ Some k → 0 < k
kind_named e i h {k = k} fit p q =
    let kind : (answer_at e i h).kind ≡ Some k = ap (λ (x : Answer). x.kind) (sym p) ∙ q in
    ⊎_elim (λ z. absurd (none-some k (sym (none_at_end h) ∙ ap (λ (x : Answer). x.kind) (sym (no_answer e i h z)) ∙ kind)))
    (λ z. omega (arith, kind_of_node e.kinds i h _ k (answer_lawful e i h fit z) kind))
    (cases_Bool (eqb (kind_at e i) EOF))

-- Tokens one by one: i of n were taken

as_many : {m n : ℕ} {s t : State} {r : Result (Unit {0}) Refusal} → m ≡ n → Does (bumps m) s t r → Does (bumps n) s t r
as_many e h = rw e at h

pub bumps_again : (n i : ℕ) {s t u : State} {x : Unit {0}} {r : Result (Unit {0}) Refusal} → i < n → Does bump_any s t (Ok x) → Does (bumps (n - (i + 1))) t u r → Does (bumps (n - i)) s u r
unfolding bumps
bumps_again n i lt h k = as_many {m = suc (n - (i + 1))} (omega (arith, lt)) (then h k)

pub bumps_exit : (n i : ℕ) {s t : State} {e : Refusal} → i < n → Does bump_any s t (Err e) → (r : Result (Unit {0}) Refusal) → IsErrAnd r (λ f. f ≡ e) → Does (bumps (n - i)) s t r
unfolding bumps
bumps_exit n i lt h r p = as_many {m = suc (n - (i + 1))} (omega (arith, lt)) (exits h r p)

pub bumps_last : (n i : ℕ) {s : State} → n ≤ i → Does (bumps (n - i)) s s (Ok tt)
unfolding bumps
bumps_last n i le = let none : 0 ≡ n - i = omega arith in as_many none gives

-- A node around them, or none

pub in_node : {k : Option ℕ} {n : ℕ} {m : Step} {s t : State} {r : Result (Unit {0}) Refusal} → k ≡ Some n → Does (complete n m) s t r → Does (island_node k m) s t r
in_node e h = rw e h

pub bare : {k : Option ℕ} {m : Step} {s t : State} {r : Result (Unit {0}) Refusal} → k ≡ None → Does m s t r → Does (island_node k m) s t r
bare e h = rw e h

-- what an answer comes to by another name
pub island_by : (h : Hook) {a b : Answer} {s t : State} {r : Result (Unit {0}) Refusal} → a ≡ b → Does (island_node a.kind (island_inside h a)) s t r → Does (island_node b.kind (island_inside h b)) s t r
island_by h e d = rw e at d
