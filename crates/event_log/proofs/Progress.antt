-- Which programs take a token whenever they are accepted: a rule for each form.
use Rattle.std.proofs.Common.{◌≡◌, ℕ, zero, suc, ◌+◌, ◌<◌, Bool, true, false, cond, eqb, length, Some, None, Ok, Option, sym, refl, ap, ◌∙◌, ⊎_elim, not-suc-le-zero, arith}
use Rattle.std.proofs.lemmas.Bool.{both_ways, eqb-true, false_from_ne_true}
use Rattle.tokens.specs.declared.rows.Hook.{Hook}
use Rattle.tokens.specs.declared.rows.Hook.TheVariants.{Expr, BlockExpr, Literal, ExprBlockContents, Meta, Pattern, PatternSingle}
use Rattle.tokens.specs.declared.rows.Answer.{Answer}
use Rattle.tokens.specs.Kinds.{TOMBSTONE, EOF}
use Rattle.tokens.specs.Islands.{must_take, rows_fit, hook_number}
use Rattle.tokens.proofs.Laws.{takes_some}
use Rattle.event_log.specs.Forest.{Forest, wide, wides, wide_node}
use Rattle.event_log.specs.Forest.Node.{node}
use Rattle.event_log.specs.Forest.Forest.{nil}
use Rattle.event_log.specs.Program.{Env, Prog, Held, kind_at, size, run, ◌>>◌}
use Rattle.event_log.specs.Program.Prog.{give, ◌>>=◌, here, take}
use Rattle.event_log.specs.Program.Wraps.{end}
use Rattle.event_log.specs.Program.Out.{ok}
use Rattle.event_log.specs.Model.{State, Does}
use Rattle.event_log.specs.Model.Does.{did}
use Rattle.event_log.specs.Steps.{Step, start, complete, bump_any, err}
use Rattle.event_log.specs.Island.{island_fault, answer_at, bumps, island_error, island_inside, island_node, island}
use Rattle.event_log.proofs.Sizes.{wides_append}
use Rattle.event_log.proofs.Inversion.{give_ok, here_ok, if_ok, take_ok, fault_ok, bind_ok, end_ok, chain_some, chain_none}
use Rattle.event_log.proofs.Moves.{Moves}
use Rattle.event_log.proofs.Islands.{answer_lawful}

-- An accepted run from so many records and a place takes at least one token.
abbrev pub Takes : {A : Type 0} → Prog A → Env → ℕ → ℕ → Type 0
Takes {A} m e c i = (f : Forest) (a : A) → run m e c i ≡ ok f a → 0 < wides f

-- so a call that meets it moves on
pub takes_moves : {A : Type 0} (m : Prog A) {s t : State} {a : A} → Takes m s.env (length s.recs) s.place → Does m s t (Ok a) → Moves s t
takes_moves m h (did f e g) = record { on = omega (arith, h f _ e, g.place); same = ap (λ (x : Env). length x.kinds) g.same }

-- Forms

pub takes_take : (k w : ℕ) (e : Env) (c i : ℕ) → 0 < w → Takes (take k w) e c i
unfolding wides wide
takes_take k w e c i h f a r = omega (arith, h, ap wides (take_ok k w e c i f a r).2)

pub takes_first : {A B : Type 0} (m : Prog A) (k : A → Prog B) (e : Env) (c i : ℕ) → Takes m e c i → Takes (m >>= k) e c i
takes_first m k e c i h f b r =
    let q = bind_ok m k e c i f b r in
    omega (arith, h q.first q.answered q.ran, ap wides q.joined, wides_append q.first q.second)

pub takes_second : {A B : Type 0} (m : Prog A) (k : A → Prog B) (e : Env) (c i : ℕ)
    → ((f : Forest) (a : A) → run m e c i ≡ ok f a → Takes (k a) e (c + size f) (i + wides f)) → Takes (m >>= k) e c i
takes_second m k e c i h f b r =
    let q = bind_ok m k e c i f b r in
    omega (arith, h q.first q.answered q.ran q.second b q.went_on, ap wides q.joined, wides_append q.first q.second)

pub takes_here : {A : Type 0} (g : Env → ℕ → Prog A) (e : Env) (c i : ℕ) → Takes (g e i) e c i → Takes (here g) e c i
takes_here g e c i h f a r = h f a (here_ok g e c i f a r)

pub takes_yes : {A : Type 0} {b : Bool} (m n : Prog A) (e : Env) (c i : ℕ) → b ≡ true → Takes m e c i → Takes (cond b m n) e c i
takes_yes m n e c i p h = rw p h

pub takes_nay : {A : Type 0} {b : Bool} (m n : Prog A) (e : Env) (c i : ℕ) → b ≡ false → Takes n e c i → Takes (cond b m n) e c i
takes_nay m n e c i p h = rw p h

-- a node that nothing precedes takes what its body does
pub takes_start : (body : Prog (Option ℕ)) (e : Env) (c i : ℕ) → Takes body e (c + 1) i → Takes (start body) e c i
unfolding wides wide wide_node
takes_start body e c i h f (Some k) r =
    let q = chain_some body end e c i f k r in
    let z = (end_ok q.kind e c i (node q.kind q.body) nil _ q.preceded).1 in
    omega (arith, h q.body (Some q.kind) q.ran, ap wides q.alone, ap (λ (x : Held ℕ). wide_node x.held) z)
takes_start body e c i h f None r =
    let q = chain_none body end e c i f r in
    omega (arith, h q.body None q.ran, ap wides q.alone)

pub takes_complete : {A : Type 0} (k : ℕ) (m : Prog A) (e : Env) (c i : ℕ) → Takes m e (c + 1) i → Takes (complete k m) e c i
takes_complete k m e c i h = takes_first (start (m >> give (Some k))) _ e c i (takes_start (m >> give (Some k)) e c i (takes_first m _ e (c + 1) i h))

-- the next raw token, where there is one
pub takes_any : (e : Env) (c i : ℕ) → eqb (kind_at e i) EOF ≡ false → Takes bump_any e c i
takes_any e c i h = takes_here _ e c i (takes_nay (give tt) (take (kind_at e i) 1) e c i h (takes_take (kind_at e i) 1 e c i (omega arith)))

-- Islands

takes_bumps : (n : ℕ) (e : Env) (c i : ℕ) → 0 < n → eqb (kind_at e i) EOF ≡ false → Takes (bumps n) e c i
unfolding bumps
takes_bumps zero e c i lt h = absurd (not-suc-le-zero lt)
takes_bumps (suc n) e c i lt h = takes_first bump_any (λ _. bumps n) e c i (takes_any e c i h)

-- the error of an island takes none
error_narrow : (h : Hook) (a : Answer) (e : Env) (c i : ℕ) (f : Forest) (u : Unit {0}) → run (island_error h a) e c i ≡ ok f u → wides f ≡ 0
unfolding wides wide err
error_narrow h a e c i f u r =
    ⊎_elim (λ q. ap wides (fault_ok (island_fault + hook_number h) TOMBSTONE e c i f u q.1).1) (λ q. ap wides (give_ok tt e c i f u q.1).0)
    (if_ok a.fault (err (island_fault + hook_number h)) (give tt) e c i f u r)

takes_inside : (h : Hook) (a : Answer) (e : Env) (c i : ℕ) → 0 < a.tokens → eqb (kind_at e i) EOF ≡ false → Takes (island_inside h a) e c i
takes_inside h a e c i some there =
    takes_second (island_error h a) (λ _. bumps a.tokens) e c i
    (λ f u r. let same : i + wides f ≡ i = omega (arith, error_narrow h a e c i f u r) in
    takes_bumps a.tokens e (c + size f) (i + wides f) some (ap (λ (j : ℕ). eqb (kind_at e j) EOF) same ∙ there))

takes_node : (k : Option ℕ) (s : Step) (e : Env) (c i : ℕ) → ((d : ℕ) → Takes s e d i) → Takes (island_node k s) e c i
takes_node None s e c i h = h c
takes_node (Some k) s e c i h = takes_complete k s e c i (h (c + 1))

-- no hook has to take the end
not_the_end : (h : Hook) → must_take h EOF ≡ false
not_the_end Expr = refl
not_the_end BlockExpr = refl
not_the_end Literal = refl
not_the_end ExprBlockContents = refl
not_the_end Meta = refl
not_the_end Pattern = refl
not_the_end PatternSingle = refl

there : (h : Hook) (k : ℕ) → must_take h k ≡ true → eqb k EOF ≡ false
there h k m = false_from_ne_true _ (λ z. both_ways (must_take h EOF) (not_the_end h) (ap (must_take h) (sym (eqb-true k EOF z)) ∙ m))

-- An island takes a token: a block at `{`, a literal at one, and a single pattern at an identifier or `_`.
pub takes_island : (h : Hook) (e : Env) (c i : ℕ) → rows_fit e.kinds e.rows ≡ true → must_take h (kind_at e i) ≡ true → Takes (island h) e c i
unfolding island
takes_island h e c i fit must =
    let token = there h (kind_at e i) must in
    let some = takes_some e.kinds i h (answer_at e i h) (answer_lawful e i h fit token) must in
    takes_here _ e c i (takes_node (answer_at e i h).kind (island_inside h (answer_at e i h)) e c i (λ d. takes_inside h (answer_at e i h) e d i some token))

pub island_moves : (h : Hook) {s t : State} {x : Unit {0}} → rows_fit s.env.kinds s.env.rows ≡ true → must_take h (kind_at s.env s.place) ≡ true → Does (island h) s t (Ok x) → Moves s t
island_moves h {s} fit must d = takes_moves (island h) (takes_island h s.env (length s.recs) s.place fit must) d
