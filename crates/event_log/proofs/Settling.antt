-- That a program comes to an answer or a refusal: that it takes only tokens that are there, completes only nodes of some kind, and that each turn
-- of a loop takes a token. One rule for each step; with `Inversion`, which says what an accepted step went through, they are all that a
-- proof about one function of a grammar needs.
use Rattle.std.proofs.Common.{◌≡◌, ℕ, zero, suc, ◌+◌, ◌<◌, ◌≤◌, Bool, true, false, cond, length, Some, None, Option, sym, refl, ap, ◌∙◌, subst, arith}
use Rattle.refusals.specs.declared.Refusal.{Refusal}
use Rattle.event_log.specs.Forest.{Node, Forest, wides, wide_node}
use Rattle.event_log.specs.Forest.Tree.{token, error}
use Rattle.event_log.specs.Forest.Node.{node, wrap}
use Rattle.event_log.specs.Forest.Forest.{nil, cons}
use Rattle.event_log.specs.Program.{Env, Prog, Wraps, Turn, Out, Held, size, size_node, spells, next, record_due, completed, turned, spin, turns}
use Rattle.event_log.specs.Program.{on_node, wind, wrapped, in_forest, closed, run, precede}
use Rattle.event_log.specs.Program.Prog.{give, stop, ◌>>=◌, here, take, fault, chain, repeat}
use Rattle.event_log.specs.Program.Wraps.{end, see, ◌>-◌, around, many}
use Rattle.event_log.specs.Program.Turn.{again, done}
use Rattle.event_log.specs.Program.Out.{ok, no, never}
use Rattle.event_log.specs.Settling.{Settled}
use Rattle.event_log.proofs.Fuel.{settled_grow}
use Rattle.event_log.proofs.Induction.{on_due, on_named}
use Rattle.event_log.proofs.Spelling.{run_fine}
use Rattle.event_log.proofs.Inversion.{precede_nil}

settled_due : {A : Type 0} (e : Env) (c i : ℕ) (o : Out A) → Settled o → Settled (record_due e c i o)
settled_due e c i o h = on_due Settled (λ _. tt) e c i o (λ _. h)

settled_completed : {A : Type 0} (e : Env) (k c i : ℕ) (o : Out A) → 0 < k → Settled o → Settled (completed e k c i o)
settled_completed e k c i o z h = on_named Settled (λ _. tt) e k c i o z (λ _. h)

settled_next : {A B : Type 0} (o : Out A) (k : A → ℕ → ℕ → Out B) (c i : ℕ) → Settled o → ((f : Forest) (a : A) → o ≡ ok f a → Settled (k a (c + size f) (i + wides f))) → Settled (next o k c i)
unfolding next
settled_next (ok f a) k c i h s = rw (settled_grow f (k a (c + size f) (i + wides f))) (s f a refl)
settled_next (no r) k c i h s = tt
settled_next never k c i h s = h

-- ---- the steps

pub settled_give : {A : Type 0} (a : A) (e : Env) (c i : ℕ) → Settled (run (give a) e c i)
unfolding run
settled_give a e c i = tt

pub settled_stop : (A : Type 0) (refusal : ℕ → Refusal) (e : Env) (c i : ℕ) → Settled (run (stop {A = A} refusal) e c i)
unfolding run
settled_stop A refusal e c i = tt

pub settled_bind : {A B : Type 0} (m : Prog A) (k : A → Prog B) (e : Env) (c i : ℕ) → Settled (run m e c i)
    → ((f : Forest) (a : A) → run m e c i ≡ ok f a → Settled (run (k a) e (c + size f) (i + wides f))) → Settled (run (m >>= k) e c i)
unfolding run
settled_bind m k e c i h s = settled_next (run m e c i) (λ a. run (k a) e) c i h s

pub settled_here : {A : Type 0} (g : Env → ℕ → Prog A) (e : Env) (c i : ℕ) → Settled (run (g e i) e c i) → Settled (run (here g) e c i)
unfolding run
settled_here g e c i h = h

-- a choice between two programs
pub settled_if : {A : Type 0} (b : Bool) (m n : Prog A) (e : Env) (c i : ℕ) → (b ≡ true → Settled (run m e c i)) → (b ≡ false → Settled (run n e c i)) → Settled (run (cond b m n) e c i)
settled_if true m n e c i h k = h refl
settled_if false m n e c i h k = k refl

pub settled_take : (k w : ℕ) (e : Env) (c i : ℕ) → spells e i k w ≡ true → Settled (run (take k w) e c i)
unfolding run
settled_take k w e c i h =
    subst (λ (b : Bool). Settled (cond b (record_due e c i (ok (cons (token k w) nil) (tt {0}))) never)) (sym h)
    (settled_due e c i (ok (cons (token k w) nil) (tt {0})) tt)

pub settled_fault : (n k : ℕ) (e : Env) (c i : ℕ) → Settled (run (fault n k) e c i)
unfolding run
settled_fault n k e c i = settled_due e c i (ok (cons (error n k) nil) (tt {0})) tt

settled_in_forest : {A : Type 0} (o : Out (Held A)) → Settled o → Settled (in_forest o)
unfolding in_forest
settled_in_forest (ok f h) s = tt
settled_in_forest (no r) s = tt
settled_in_forest never s = s

settled_closed : {A : Type 0} (e : Env) (c i : ℕ) (o : Out (Option ℕ)) (w : ℕ → Node → Out (Held A)) → Settled o
    → ((f : Forest) (k : ℕ) → o ≡ ok f (Some k) → (0 < k) × Settled (w k (node k f))) → Settled (closed e c i o w)
unfolding closed
settled_closed e c i (ok f None) w h s = tt
settled_closed e c i (ok f (Some k)) w h s =
    let r = s f k refl in settled_completed e k (c + 1 + size f) (i + wides f) (in_forest (w k (node k f))) r.0 (settled_in_forest (w k (node k f)) r.1)
settled_closed e c i (no r) w h s = tt
settled_closed e c i never w h s = h

pub settled_chain : {A : Type 0} (b : Prog (Option ℕ)) (w : ℕ → Wraps A) (e : Env) (c i : ℕ) → Settled (run b e (c + 1) i)
    → ((f : Forest) (k : ℕ) → run b e (c + 1) i ≡ ok f (Some k) → (0 < k) × Settled (precede (w k) e c i (node k f))) → Settled (run (chain b w) e c i)
unfolding run
settled_chain b w e c i h s = settled_due e c i _ (settled_closed e c i (run b e (c + 1) i) (λ k. precede (w k) e c i) h s)

-- ---- what precedes a node

settled_wrapped : (e : Env) (c i : ℕ) (n : Node) (o : Out ℕ) → Settled o → ((f : Forest) (k : ℕ) → o ≡ ok f k → 0 < k) → Settled (wrapped e c i n o)
unfolding wrapped
settled_wrapped e c i n (ok f k) h s = settled_completed e k (c + size_node n + 1 + size f) (i + wide_node n + wides f) (ok nil (record { held = wrap n k f; answer = k })) (s f k refl) tt
settled_wrapped e c i n (no r) h s = tt
settled_wrapped e c i n never h s = h

pub settled_end : {A : Type 0} (a : A) (e : Env) (c i : ℕ) (n : Node) → Settled (precede (end a) e c i n)
unfolding precede
settled_end a e c i n = tt

pub settled_see : {A : Type 0} (g : Env → ℕ → Wraps A) (e : Env) (c i : ℕ) (n : Node) → Settled (precede (g e (i + wide_node n)) e c i n) → Settled (precede (see g) e c i n)
unfolding precede
settled_see g e c i n h = h

settled_on_node : {A B : Type 0} (o : Out (Held A)) (k : A → Node → Out (Held B)) → Settled o → ((f : Forest) (h : Held A) → o ≡ ok f h → Settled (k h.answer h.held)) → Settled (on_node o k)
unfolding on_node
settled_on_node (ok f h) k s t = t f h refl
settled_on_node (no r) k s t = tt
settled_on_node never k s t = s

-- one thing after the other
pub settled_then : {A B : Type 0} (w : Wraps A) (v : A → Wraps B) (e : Env) (c i : ℕ) (n : Node) → Settled (precede w e c i n)
    → ((y : Node) (a : A) → precede w e c i n ≡ ok nil (record { held = y; answer = a }) → Settled (precede (v a) e c i y)) → Settled (precede (w >- v) e c i n)
unfolding precede
settled_then {A = A} w v e c i n h s =
    settled_on_node (precede w e c i n) (λ a. precede (v a) e c i) h
    (λ f x p. s x.held x.answer (p ∙ ap (λ g. ok g x) (precede_nil w e c i n f x p)))

pub settled_around : (b : Prog ℕ) (e : Env) (c i : ℕ) (n : Node) → Settled (run b e (c + size_node n + 1) (i + wide_node n))
    → ((f : Forest) (k : ℕ) → run b e (c + size_node n + 1) (i + wide_node n) ≡ ok f k → 0 < k) → Settled (precede (around b) e c i n)
unfolding precede
settled_around b e c i n h s = settled_due e (c + size_node n) (i + wide_node n) _ (settled_wrapped e c i n (run b e (c + size_node n + 1) (i + wide_node n)) h s)

-- ---- loops

-- A loop settles if this holds when it begins, its turns settle where this holds, and each turn that asks for another one takes a token and keeps this.
module _ {S : Type 0} (b : S → Prog (Turn S)) (e : Env) (Inv : S → ℕ → ℕ → Type 0)
    (settles : (s : S) (c i : ℕ) → Inv s c i → Settled (run (b s) e c i))
    (goes_on : (s : S) (c i : ℕ) (f : Forest) (t : S) → Inv s c i → run (b s) e c i ≡ ok f (again t) → (0 < wides f) × Inv t (c + size f) (i + wides f)) where
  settled_spin : (n : ℕ) (s : S) (c i : ℕ) → i ≤ length e.kinds → length e.kinds < n + i → Inv s c i → Settled (spin n (λ x. run (b x) e) s c i)
  unfolding spin turned
  settled_spin zero s c i h l v = absurd (omega arith)
  settled_spin (suc n) s c i h l v =
      settled_next (run (b s) e c i) (λ t. turned t (spin n (λ x. run (b x) e))) c i (settles s c i v) (λ f t p. go f t p (λ d j x. settled_spin n x d j))
    where
      go : (f : Forest) (t : Turn S) → run (b s) e c i ≡ ok f t
          → ((d j : ℕ) (x : S) → j ≤ length e.kinds → length e.kinds < n + j → Inv x d j → Settled (spin n (λ x. run (b x) e) x d j))
          → Settled (turned t (spin n (λ x. run (b x) e)) (c + size f) (i + wides f))
      go f (again t) p ih =
          let g = goes_on s c i f t v p in
          let r : i + wides f ≤ length e.kinds = (run_fine (b s) e c i f (again t) p).inside h in
          let z : 0 < wides f = g.0 in
          ih (c + size f) (i + wides f) t r (omega arith) g.1
      go f (done t) p ih = tt

  pub settled_repeat : (s : S) (c i : ℕ) → i ≤ length e.kinds → Inv s c i → Settled (run (repeat b s) e c i)
  unfolding run
  settled_repeat s c i h v = settled_spin (turns e i) s c i h (omega arith) v

-- The same of the nodes that a loop puts one around the other.
module _ (t : Env → ℕ → Bool) (b : Prog ℕ) (e : Env) (c i : ℕ) (Inv : Node → Type 0)
    (settles : (n : Node) → Inv n → t e (i + wide_node n) ≡ true → Settled (run b e (c + size_node n + 1) (i + wide_node n)))
    (goes_on : (n : Node) (f : Forest) (k : ℕ) → Inv n → t e (i + wide_node n) ≡ true → run b e (c + size_node n + 1) (i + wide_node n) ≡ ok f k → (0 < k) × (0 < wides f) × Inv (wrap n k f)) where
  abbrev more : Node → Out (Held ℕ)
  more x = record_due e (c + size_node x) (i + wide_node x) (wrapped e c i x (run b e (c + size_node x + 1) (i + wide_node x)))

  -- where the loop ends, this still holds, and the test does not
  abbrev pub Ended : Out (Held (Unit {0})) → Type 0
  Ended (ok f h) = Inv h.held × (t e (i + wide_node h.held) ≡ false)
  Ended (no r) = Unit {0}
  Ended never = ⊥

  -- one turn
  abbrev Turned : Out (Held ℕ) → ℕ → Type 0
  Turned (ok f h) j = Inv h.held × (j < wide_node h.held) × (i + wide_node h.held ≤ length e.kinds)
  Turned (no r) j = Unit {0}
  Turned never j = ⊥

  turned_more : (x : Node) → Inv x → t e (i + wide_node x) ≡ true → i + wide_node x ≤ length e.kinds → Turned (more x) (wide_node x)
  unfolding wrapped wide_node
  turned_more x v p l = on_due (λ o. Turned o (wide_node x)) (λ _. tt) e (c + size_node x) (i + wide_node x) _ (λ _. go (run b e (c + size_node x + 1) (i + wide_node x)) refl (settles x v p))
    where
      go : (o : Out ℕ) → run b e (c + size_node x + 1) (i + wide_node x) ≡ o → Settled o → Turned (wrapped e c i x o) (wide_node x)
      go (ok f k) q s =
          let g = goes_on x f k v p q in
          let z : 0 < wides f = g.1 in
          let r : i + wide_node x + wides f ≤ length e.kinds = (run_fine b e (c + size_node x + 1) (i + wide_node x) f k q).inside l in
          on_named (λ o. Turned o (wide_node x)) (λ _. tt) e k (c + size_node x + 1 + size f) (i + wide_node x + wides f) (ok nil (record { held = wrap x k f; answer = k })) g.0 (λ _. (g.2, omega arith, omega arith))
      go (no r) q s = tt
      go never q s = s

  ended_wind : (m : ℕ) (x : Node) → Inv x → i + wide_node x ≤ length e.kinds → length e.kinds < m + (i + wide_node x) → Ended (wind m (λ y. t e (i + wide_node y)) more x)
  unfolding wind on_node
  ended_wind zero x v l h = absurd (omega arith)
  ended_wind (suc m) x v l h = go (t e (i + wide_node x)) refl (λ y. ended_wind m y)
    where
      on : (o : Out (Held ℕ)) → Turned o (wide_node x)
          → ((y : Node) → Inv y → i + wide_node y ≤ length e.kinds → length e.kinds < m + (i + wide_node y) → Ended (wind m (λ z. t e (i + wide_node z)) more y))
          → Ended (on_node o (λ _. wind m (λ z. t e (i + wide_node z)) more))
      on (ok f y) u ih = let z = u.1 in ih y.held u.0 u.2 (omega arith)
      on (no r) u ih = tt
      on never u ih = u

      go : (v : Bool) → t e (i + wide_node x) ≡ v
          → ((y : Node) → Inv y → i + wide_node y ≤ length e.kinds → length e.kinds < m + (i + wide_node y) → Ended (wind m (λ z. t e (i + wide_node z)) more y))
          → Ended (elim v as (λ _. Out (Held (Unit {0}))) [ true ↦ on_node (more x) (λ _. wind m (λ y. t e (i + wide_node y)) more) | false ↦ ok nil (record { held = x; answer = tt {0} }) ])
      go true p ih = on (more x) (turned_more x v p l) ih
      go false p ih = (v, p)

  pub ended_many : (n : Node) → i + wide_node n ≤ length e.kinds → Inv n → Ended (precede (many t b) e c i n)
  unfolding precede
  ended_many n l v = ended_wind (turns e (i + wide_node n)) n v l (omega arith)

  pub settled_many : (n : Node) → i + wide_node n ≤ length e.kinds → Inv n → Settled (precede (many t b) e c i n)
  settled_many n l v = go (precede (many t b) e c i n) (ended_many n l v)
    where
      go : (o : Out (Held (Unit {0}))) → Ended o → Settled o
      go (ok f h) u = tt
      go (no r) u = tt
      go never u = u
