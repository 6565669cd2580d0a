-- A loop is its first turn and then the loop again: what a proof goes by that follows the turns of a loop in code. Each law wants that the
-- turn takes a token and that the loop settles after it, which `Settling` shows.
use Rattle.std.proofs.Common.{◌≡◌, ℕ, suc, ◌+◌, ◌-◌, ◌<◌, ◌≤◌, Bool, true, false, length, sym, refl, ap, ◌∙◌, arith}
use Rattle.event_log.specs.Forest.{Node, Forest, wides, wide_node}
use Rattle.event_log.specs.Forest.Node.{wrap}
use Rattle.event_log.specs.Forest.Forest.{nil}
use Rattle.event_log.specs.Program.{Env, Prog, Turn, Held, size, size_node, turned, spin, turns, wind, run, precede}
use Rattle.event_log.specs.Program.Prog.{give, ◌>>=◌, repeat}
use Rattle.event_log.specs.Program.Wraps.{◌>-◌, around, many}
use Rattle.event_log.specs.Program.Turn.{again, done}
use Rattle.event_log.specs.Program.Out.{ok}
use Rattle.event_log.specs.Settling.{Settled}
use Rattle.event_log.proofs.Fuel.{next_eq, spin_more, on_node_eq, wind_stop, wind_go, wind_more}
use Rattle.event_log.proofs.Spelling.{run_fine}
use Rattle.event_log.proofs.Inversion.{around_ok}

-- ---- `repeat`

-- what follows a turn
abbrev pub after_turn : {S : Type 0} → (S → Prog (Turn S)) → Turn S → Prog S
after_turn b (again s) = repeat b s
after_turn b (done s) = give s

pub repeat_unroll : {S : Type 0} (b : S → Prog (Turn S)) (s : S) (e : Env) (c i : ℕ) → i ≤ length e.kinds
    → ((f : Forest) (t : S) → run (b s) e c i ≡ ok f (again t) → (0 < wides f) × Settled (run (repeat b t) e (c + size f) (i + wides f)))
    → run (repeat b s) e c i ≡ run (b s >>= after_turn b) e c i
unfolding run spin turned
repeat_unroll {S = S} b s e c i l h =
    let n : turns e i ≡ suc (length e.kinds - i) = omega arith in
    ap (λ (m : ℕ). spin m (λ x. run (b x) e) s c i) n
    ∙ next_eq (run (b s) e c i) (λ t. turned t (spin (length e.kinds - i) (λ x. run (b x) e))) (λ t. run (after_turn b t) e) c i go
  where
    go : (f : Forest) (t : Turn S) → run (b s) e c i ≡ ok f t
        → turned t (spin (length e.kinds - i) (λ x. run (b x) e)) (c + size f) (i + wides f) ≡ run (after_turn b t) e (c + size f) (i + wides f)
    go f (again t) p =
        let r = h f t p in
        let z : 0 < wides f = r.0 in
        let k : i + wides f ≤ length e.kinds = (run_fine (b s) e c i f (again t) p).inside l in
        spin_more (turns e (i + wides f)) (length e.kinds - i) (λ x. run (b x) e) t (c + size f) (i + wides f) (omega arith) r.1
    go f (done t) p = refl

-- ---- `many`

module _ (t : Env → ℕ → Bool) (b : Prog ℕ) (e : Env) (c i : ℕ) (n : Node) where
  -- where the test does not hold, nothing more precedes the node by this loop
  pub many_stop : i + wide_node n ≤ length e.kinds → t e (i + wide_node n) ≡ false → precede (many t b) e c i n ≡ ok nil (record { held = n; answer = tt })
  unfolding precede
  many_stop l p =
      let m : turns e (i + wide_node n) ≡ suc (length e.kinds - (i + wide_node n)) = omega arith in
      ap (λ (x : ℕ). wind x (λ y. t e (i + wide_node y)) (precede (around b) e c i) n) m ∙ wind_stop (length e.kinds - (i + wide_node n)) (λ y. t e (i + wide_node y)) (precede (around b) e c i) n p

  -- where it holds, one node precedes it, and then the loop goes on
  pub many_unroll : i + wide_node n ≤ length e.kinds → t e (i + wide_node n) ≡ true
      → ((f : Forest) (k : ℕ) → run b e (c + size_node n + 1) (i + wide_node n) ≡ ok f k → (0 < wides f) × Settled (precede (many t b) e c i (wrap n k f)))
      → precede (many t b) e c i n ≡ precede (around b >- λ _. many t b) e c i n
  unfolding precede wide_node
  many_unroll l p h =
      let m : turns e (i + wide_node n) ≡ suc left = omega arith in
      ap (λ (x : ℕ). wind x T (precede (around b) e c i) n) m ∙ wind_go left T (precede (around b) e c i) n p
      ∙ on_node_eq (precede (around b) e c i n) (λ _. wind left T (precede (around b) e c i)) (λ _. precede (many t b) e c i) go
    where
      left : ℕ
      left = length e.kinds - (i + wide_node n)

      T : Node → Bool
      T y = t e (i + wide_node y)

      go : (g : Forest) (x : Held ℕ) → precede (around b) e c i n ≡ ok g x → wind left T (precede (around b) e c i) x.held ≡ precede (many t b) e c i x.held
      go g x q =
          let a = around_ok b e c i n g x q in
          let k : ℕ = a.0 in
          let f : Forest = a.1 in
          let r = h f k a.2.ran in
          let z : 0 < wides f = r.0 in
          let y : i + wide_node n + wides f ≤ length e.kinds = (run_fine b e (c + size_node n + 1) (i + wide_node n) f k a.2.ran).inside l in
          let w : x.held ≡ wrap n k f = ap (λ (v : Held ℕ). v.held) a.4 in
          ap (wind left T (precede (around b) e c i)) w
          ∙ wind_more (turns e (i + wide_node (wrap n k f))) left T (precede (around b) e c i) (wrap n k f) (omega arith) r.1
          ∙ ap (precede (many t b) e c i) (sym w)
