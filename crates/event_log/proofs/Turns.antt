-- Where each turn takes a token, a loop comes to the same with any turns allowed that are more than the tokens left: it never runs out of them.
use Rattle.std.proofs.Common.{◌≡◌, ℕ, zero, suc, ◌+◌, ◌<◌, ◌≤◌, Bool, length, sym, refl, ap, ◌∙◌, ⊎_elim, arith}
use Rattle.std.proofs.lemmas.Bool.{cases_Bool}
use Rattle.event_log.specs.Forest.{Node, Forest, wides, wide_node}
use Rattle.event_log.specs.Forest.Node.{wrap}
use Rattle.event_log.specs.Program.{Env, Prog, Turn, Out, Held, size, size_node, turned, spin, wind, run, precede}
use Rattle.event_log.specs.Program.Wraps.{around}
use Rattle.event_log.specs.Program.Turn.{again, done}
use Rattle.event_log.specs.Program.Out.{ok}
use Rattle.event_log.specs.Theory.{loop_of, wraps_of, Advances, AdvancesWhile}
use Rattle.event_log.proofs.Spelling.{run_fine}
use Rattle.event_log.proofs.Inversion.{around_ok}
use Rattle.event_log.proofs.Fuel.{next_eq, on_node_eq, wind_stop, wind_go}

pub loop_enough : {S : Type 0} (turn : S → Prog (Turn S)) (e : Env) → Advances turn e → (n m : ℕ) (s : S) (c i : ℕ) → i ≤ length e.kinds
    → length e.kinds < n + i → length e.kinds < m + i → loop_of turn n s e c i ≡ loop_of turn m s e c i
unfolding spin turned
loop_enough turn e adv zero m s c i l p q = absurd (omega arith)
loop_enough turn e adv (suc n) zero s c i l p q = absurd (omega arith)
loop_enough {S = S} turn e adv (suc n) (suc m) s c i l p q =
    next_eq (run (turn s) e c i) (λ t. turned t (spin n (λ x. run (turn x) e))) (λ t. turned t (spin m (λ x. run (turn x) e))) c i
    (λ f t r. go f t r (λ x d j. loop_enough turn e adv n m x d j))
  where
    go : (f : Forest) (t : Turn S) → run (turn s) e c i ≡ ok f t
        → ((x : S) (d j : ℕ) → j ≤ length e.kinds → length e.kinds < n + j → length e.kinds < m + j → loop_of turn n x e d j ≡ loop_of turn m x e d j)
        → turned t (spin n (λ x. run (turn x) e)) (c + size f) (i + wides f) ≡ turned t (spin m (λ x. run (turn x) e)) (c + size f) (i + wides f)
    go f (again t) r ih =
        let z : 0 < wides f = adv s t c i f r in
        ih t (c + size f) (i + wides f) ((run_fine (turn s) e c i f (again t) r).inside l) (omega arith) (omega arith)
    go f (done t) r ih = refl

pub wraps_enough : (test : Env → ℕ → Bool) (body : Prog ℕ) (e : Env) → AdvancesWhile test body e → (n m : ℕ) (x : Node) (c i : ℕ) → i + wide_node x ≤ length e.kinds
    → length e.kinds < n + (i + wide_node x) → length e.kinds < m + (i + wide_node x) → wraps_of test body n x e c i ≡ wraps_of test body m x e c i
unfolding wide_node
wraps_enough test body e adv zero m x c i l p q = absurd (omega arith)
wraps_enough test body e adv (suc n) zero x c i l p q = absurd (omega arith)
wraps_enough test body e adv (suc n) (suc m) x c i l p q =
    ⊎_elim (λ t.
    wind_go n T one x t
    ∙ on_node_eq (one x) (λ _. wind n T one) (λ _. wind m T one)
    (λ g h r.
    let a = around_ok body e c i x g h r in
    let k : ℕ = a.0 in
    let f : Forest = a.1 in
    let z : 0 < wides f = adv (c + size_node x + 1) (i + wide_node x) f k t a.2.ran in
    let y : i + wide_node x + wides f ≤ length e.kinds = (run_fine body e (c + size_node x + 1) (i + wide_node x) f k a.2.ran).inside l in
    let w : h.held ≡ wrap x k f = ap (λ (v : Held ℕ). v.held) a.4 in
    ap (wind n T one) w ∙ wraps_enough test body e adv n m (wrap x k f) c i (omega arith) (omega arith) (omega arith) ∙ ap (wind m T one) (sym w))
    ∙ sym (wind_go m T one x t))
    (λ t. wind_stop n T one x t ∙ sym (wind_stop m T one x t))
    (cases_Bool (T x))
  where
    T : Node → Bool
    T y = test e (i + wide_node y)

    one : Node → Out (Held ℕ)
    one = precede (around body) e c i
