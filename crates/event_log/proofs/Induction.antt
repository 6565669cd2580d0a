-- The one induction over programs: what each step keeps holds of whatever a program comes to.
use Rattle.std.proofs.Common.{◌≡◌, ℕ, zero, suc, ◌+◌, ◌<◌, Bool, true, false, Some, None, Option, sym, subst, ⊎_elim, suc-le-suc, zero-le}
use Rattle.std.proofs.lemmas.Bool.{cond_both, cases_lt}
use Rattle.refusals.specs.declared.Refusal.{Refusal}
use Rattle.refusals.specs.declared.Refusal.TheVariants.{LogFull}
use Rattle.event_log.specs.Forest.{Node, Forest, ◌<>◌, wides, wide_node}
use Rattle.event_log.specs.Forest.Tree.{token, error, whole, gone}
use Rattle.event_log.specs.Forest.Node.{node, wrap}
use Rattle.event_log.specs.Forest.Forest.{nil, cons}
use Rattle.event_log.specs.Program.{Env, Prog, Wraps, Turn, Out, Held, size, size_node, spells, grow, next, record_due, completed, turned, spin, turns}
use Rattle.event_log.specs.Program.{on_node, wind, wrapped, in_forest, closed, run, precede}
use Rattle.event_log.proofs.Due.{due_ok, due_no, completed_due}
use Rattle.event_log.specs.Program.Prog.{give, stop, ◌>>=◌, here, take, fault, chain, repeat}
use Rattle.event_log.specs.Program.Wraps.{end, see, ◌>-◌, around, many}
use Rattle.event_log.specs.Program.Turn.{again, done}
use Rattle.event_log.specs.Program.Out.{ok, no, never}

-- What each step keeps: P of a forest, and Q of a node with what precedes it so far, begun at so many records and a place.
pub record Kept (e : Env) (P : ℕ → ℕ → Forest → Type 0) (Q : ℕ → ℕ → Node → Type 0) : Type 0 where
  pub nothing : (c i : ℕ) → P c i nil
  pub append : (c i : ℕ) (f g : Forest) → P c i f → P (c + size f) (i + wides f) g → P c i (f <> g)
  pub of_token : (c i k w : ℕ) → spells e i k w ≡ true → c < e.room → P c i (cons (token k w) nil)
  pub of_error : (c i n k : ℕ) → c < e.room → P c i (cons (error n k) nil)
  pub of_gone : (c i : ℕ) (f : Forest) → c < e.room → P (c + 1) i f → P c i (cons (gone f) nil)
  pub of_whole : (c i : ℕ) (n : Node) → Q c i n → P c i (cons (whole n) nil)
  pub of_node : (c i k : ℕ) (f : Forest) → c < e.room → P (c + 1) i f → 0 < k → c + 1 + size f < e.room → Q c i (node k f)
  pub of_wrap : (c i : ℕ) (n : Node) (k : ℕ) (f : Forest) → Q c i n → c + size_node n < e.room → P (c + size_node n + 1) (i + wide_node n) f
      → 0 < k → c + size_node n + 1 + size f < e.room → Q c i (wrap n k f)

-- a statement on the forest of what a program comes to; and on the node of what precedes one
abbrev pub OnOk : {A : Type 0} → (Forest → Type 0) → Out A → Type 0
OnOk P (ok f a) = P f
OnOk P (no r) = Unit {0}
OnOk P never = Unit {0}

abbrev pub OnHeld : {A : Type 0} → (Node → Type 0) → Out (Held A) → Type 0
OnHeld Q (ok f h) = Q h.held
OnHeld Q (no r) = Unit {0}
OnHeld Q never = Unit {0}

-- A statement of whatever a step comes to that holds of every refusal: where one record more is due, and where a node is completed.
pub on_due : {A : Type 0} (S : Out A → Type 0) (s : (r : Refusal) → S (no r)) (e : Env) (c i : ℕ) (o : Out A) → (c < e.room → S o) → S (record_due e c i o)
on_due S s e c i o h = ⊎_elim (λ l. subst S (sym (due_ok e c i o l)) (h l)) (λ g. subst S (sym (due_no e c i o g)) (s (LogFull i))) (cases_lt c e.room)

pub on_completed : {A : Type 0} (S : Out A → Type 0) (s : (r : Refusal) → S (no r)) (z : S never) (e : Env) (k c i : ℕ) (o : Out A) → (0 < k → c < e.room → S o) → S (completed e k c i o)
unfolding completed
on_completed S s z e zero c i o h = z
on_completed S s z e (suc k) c i o h = on_due S s e c i o (h (suc-le-suc zero-le))

-- the same, if the kind is known not to be 0
pub on_named : {A : Type 0} (S : Out A → Type 0) (s : (r : Refusal) → S (no r)) (e : Env) (k c i : ℕ) (o : Out A) → 0 < k → (c < e.room → S o) → S (completed e k c i o)
on_named S s e k c i o z h = subst S (sym (completed_due e k c i o z)) (on_due S s e c i o h)

module _ (e : Env) (P : ℕ → ℕ → Forest → Type 0) (Q : ℕ → ℕ → Node → Type 0) (K : Kept e P Q) where
  keep_next : {A B : Type 0} (o : Out A) (k : A → ℕ → ℕ → Out B) (c i : ℕ) → OnOk (P c i) o → ((a : A) (d j : ℕ) → OnOk (P d j) (k a d j)) → OnOk (P c i) (next o k c i)
  unfolding next grow
  keep_next {B = B} (ok f a) k c i h s = go (k a (c + size f) (i + wides f)) (s a (c + size f) (i + wides f))
    where
      go : (o : Out B) → OnOk (P (c + size f) (i + wides f)) o → OnOk (P c i) (grow f o)
      go (ok g b) t = K.append c i f g h t
      go (no r) t = tt
      go never t = tt
  keep_next {B = B} (no r) k c i h s = tt
  keep_next {B = B} never k c i h s = tt

  keep_turned : {S : Type 0} (t : Turn S) (k : S → ℕ → ℕ → Out S) (c i : ℕ) → ((s : S) (d j : ℕ) → OnOk (P d j) (k s d j)) → OnOk (P c i) (turned t k c i)
  unfolding turned
  keep_turned (again s) k c i h = h s c i
  keep_turned (done s) k c i h = K.nothing c i

  keep_spin : {S : Type 0} (n : ℕ) (f : S → ℕ → ℕ → Out (Turn S)) (s : S) (c i : ℕ) → ((s : S) (d j : ℕ) → OnOk (P d j) (f s d j)) → OnOk (P c i) (spin n f s c i)
  unfolding spin
  keep_spin zero f s c i h = tt
  keep_spin (suc n) f s c i h = keep_next (f s c i) (λ t. turned t (spin n f)) c i (h s c i) (λ t d j. keep_turned t (spin n f) d j (λ x d j. keep_spin n f x d j h))

  keep_on_node : {A B : Type 0} (c i : ℕ) (o : Out (Held A)) (k : A → Node → Out (Held B)) → OnHeld (Q c i) o → ((a : A) (n : Node) → Q c i n → OnHeld (Q c i) (k a n)) → OnHeld (Q c i) (on_node o k)
  unfolding on_node
  keep_on_node c i (ok f h) k t s = s h.answer h.held t
  keep_on_node c i (no r) k t s = tt
  keep_on_node c i never k t s = tt

  keep_wind : (m : ℕ) (t : Node → Bool) (f : Node → Out (Held ℕ)) (c i : ℕ) → ((n : Node) → Q c i n → OnHeld (Q c i) (f n)) → (n : Node) → Q c i n → OnHeld (Q c i) (wind m t f n)
  unfolding wind
  keep_wind zero t f c i h n q = tt
  keep_wind (suc m) t f c i h n q =
      elim (t n) as (λ b. OnHeld (Q c i) (elim b [ true ↦ on_node (f n) (λ _. wind m t f) | false ↦ ok nil (record { held = n; answer = tt {0} }) ]))
      [ true ↦ keep_on_node c i (f n) (λ _. wind m t f) (h n q) (λ _. keep_wind m t f c i h) | false ↦ q ]

  keep_wrapped : (c i : ℕ) (n : Node) (o : Out ℕ) → Q c i n → c + size_node n < e.room → OnOk (P (c + size_node n + 1) (i + wide_node n)) o → OnHeld (Q c i) (wrapped e c i n o)
  unfolding wrapped
  keep_wrapped c i n (ok f k) q r t =
      on_completed (OnHeld (Q c i)) (λ _. tt) tt e k (c + size_node n + 1 + size f) (i + wide_node n + wides f) (ok nil (record { held = wrap n k f; answer = k }))
      (λ z l. K.of_wrap c i n k f q r t z l)
  keep_wrapped c i n (no x) q r t = tt
  keep_wrapped c i n never q r t = tt

  keep_in_forest : {A : Type 0} (c i : ℕ) (o : Out (Held A)) → OnHeld (Q c i) o → OnOk (P c i) (in_forest o)
  unfolding in_forest
  keep_in_forest c i (ok f h) q = K.of_whole c i h.held q
  keep_in_forest c i (no r) q = tt
  keep_in_forest c i never q = tt

  keep_closed : {A : Type 0} (c i : ℕ) (o : Out (Option ℕ)) (w : ℕ → Node → Out (Held A)) → c < e.room → OnOk (P (c + 1) i) o
      → ((k : ℕ) (y : Node) → Q c i y → OnHeld (Q c i) (w k y)) → OnOk (P c i) (closed e c i o w)
  unfolding closed
  keep_closed c i (ok f None) w r t s = K.of_gone c i f r t
  keep_closed c i (ok f (Some k)) w r t s =
      on_completed (OnOk (P c i)) (λ _. tt) tt e k (c + 1 + size f) (i + wides f) (in_forest (w k (node k f)))
      (λ z l. keep_in_forest c i (w k (node k f)) (s k (node k f) (K.of_node c i k f r t z l)))
  keep_closed c i (no x) w r t s = tt
  keep_closed c i never w r t s = tt

  keep_take : (c i k w : ℕ) → OnOk (P c i) (run (take k w) e c i)
  unfolding run
  keep_take c i k w =
      cond_both (spells e i k w) (record_due e c i (ok (cons (token k w) nil) (tt {0}))) never (OnOk (P c i))
      (λ t. on_due (OnOk (P c i)) (λ _. tt) e c i (ok (cons (token k w) nil) tt) (K.of_token c i k w t))
      (λ t. tt)

  mutual
    unfolding run precede

    pub keep : {A : Type 0} (m : Prog A) (c i : ℕ) → OnOk (P c i) (run m e c i)
    keep (give a) c i = K.nothing c i
    keep (stop n) c i = tt
    keep (m >>= k) c i = keep_next (run m e c i) (λ a. run (k a) e) c i (keep m c i) (λ a d j. keep (k a) d j)
    keep (here f) c i = keep (f e i) c i
    keep (take k w) c i = keep_take c i k w
    keep (fault n k) c i = on_due (OnOk (P c i)) (λ _. tt) e c i (ok (cons (error n k) nil) tt) (K.of_error c i n k)
    keep (chain b w) c i =
        on_due (OnOk (P c i)) (λ _. tt) e c i (closed e c i (run b e (c + 1) i) (λ k. precede (w k) e c i))
        (λ r. keep_closed c i (run b e (c + 1) i) (λ k. precede (w k) e c i) r (keep b (c + 1) i) (λ k y q. keep_wraps (w k) c i y q))
    keep (repeat b s) c i = keep_spin (turns e i) (λ x. run (b x) e) s c i (λ x d j. keep (b x) d j)

    pub keep_wraps : {A : Type 0} (w : Wraps A) (c i : ℕ) (n : Node) → Q c i n → OnHeld (Q c i) (precede w e c i n)
    keep_wraps (end a) c i n q = q
    keep_wraps (see g) c i n q = keep_wraps (g e (i + wide_node n)) c i n q
    keep_wraps (w >- k) c i n q = keep_on_node c i (precede w e c i n) (λ a. precede (k a) e c i) (keep_wraps w c i n q) (λ a y p. keep_wraps (k a) c i y p)
    keep_wraps (around b) c i n q =
        on_due (OnHeld (Q c i)) (λ _. tt) e (c + size_node n) (i + wide_node n) (wrapped e c i n (run b e (c + size_node n + 1) (i + wide_node n)))
        (λ r. keep_wrapped c i n (run b e (c + size_node n + 1) (i + wide_node n)) q r (keep b (c + size_node n + 1) (i + wide_node n)))
    keep_wraps (many t b) c i n q =
        keep_wind (turns e (i + wide_node n)) (λ x. t e (i + wide_node x)) _ c i
        (λ x p. on_due (OnHeld (Q c i)) (λ _. tt) e (c + size_node x) (i + wide_node x) _
        (λ r. keep_wrapped c i x (run b e (c + size_node x + 1) (i + wide_node x)) p r (keep b (c + size_node x + 1) (i + wide_node x))))
        n q
