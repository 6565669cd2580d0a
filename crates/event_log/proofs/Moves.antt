-- Which calls move on, so that a loop over them ends.
use Rattle.std.proofs.Common.{◌≡◌, ℕ, ◌+◌, ◌-◌, ◌<◌, ◌≤◌, Bool, true, false, cond, List, length, Ok, Err, Result, sym, refl, ap, ◌∙◌, arith}
use Rattle.std.proofs.lemmas.Bool.{false≢true}
use Rattle.event_log.specs.declared.event.Record.{Record}
use Rattle.refusals.specs.declared.Refusal.{Refusal}
use Rattle.event_log.specs.declared.marker.Marker.{Marker}
use Rattle.event_log.specs.declared.marker.CompletedMarker.{CompletedMarker}
use Rattle.tokens.specs.declared.composite.RawTokens.{RawTokens}
use Rattle.tokens.specs.declared.composite.RawTokens.TheVariants.{One, Two, Three}
use Rattle.tokens.specs.Parts.{parts, length_of, width}
use Rattle.event_log.specs.Forest.{Node, Forest, wide, wides, wide_node}
use Rattle.event_log.specs.Forest.Forest.{nil}
use Rattle.event_log.specs.Program.{Env, Prog, present, run, ◌>>◌}
use Rattle.event_log.specs.Program.Prog.{give, take, ◌>>=◌}
use Rattle.event_log.specs.Program.Out.{ok}
use Rattle.event_log.specs.Steps.{bump, eat}
use Rattle.event_log.specs.Model.{State, Grown, from, Does}
use Rattle.event_log.specs.Marks.{Inside, Finished, Pending, Last, Led}
use Rattle.event_log.specs.Model.Does.{did, refused}
use Rattle.event_log.specs.Marks.Closed.{closed}
use Rattle.event_log.specs.Marks.Finished.{completed, passed}
use Rattle.event_log.specs.Marks.Led.{led}
use Rattle.event_log.proofs.Sizes.{wides_append}
use Rattle.event_log.proofs.Inversion.{take_ok, bind_ok}
use Rattle.event_log.proofs.Kit.{inside}
use Rattle.event_log.proofs.Wraps.{leads, after}

-- the place is further on, among the same tokens
pub record Moves (s t : State) : Type 0 where
  pub on : s.place < t.place
  pub same : length t.env.kinds ≡ length s.env.kinds

-- the place is no further back
pub record Stays (s t : State) : Type 0 where
  pub from_on : s.place ≤ t.place
  pub same : length t.env.kinds ≡ length s.env.kinds

grown_stays : {s t : State} {rs : List Record} {w : ℕ} → Grown s t rs w → Stays s t
grown_stays g = record { from_on = omega (arith, g.place); same = ap (λ (e : Env). length e.kinds) g.same }

pub stays : {A : Type 0} {m : Prog A} {s t : State} {r : Result A Refusal} → Does m s t r → Stays s t
stays (did f e g) = grown_stays g
stays (refused rs w e g) = grown_stays g

-- what is left falls
pub falls : {s t : State} → Moves s t → t.place ≤ length t.env.kinds → length t.env.kinds - t.place < length s.env.kinds - s.place
falls m h = omega (arith, m.on, m.same, h)

pub moves_then : {s t u : State} → Moves s t → Stays t u → Moves s u
moves_then m n = record { on = omega (arith, m.on, n.from_on); same = n.same ∙ m.same }

pub then_moves : {s t u : State} → Stays s t → Moves t u → Moves s u
then_moves m n = record { on = omega (arith, m.from_on, n.on); same = n.same ∙ m.same }

-- A token that was taken was there

some_long : (r : RawTokens) → 1 ≤ length_of r
some_long (One a) = omega arith
some_long (Two a b) = omega arith
some_long (Three a b c) = omega arith

eat_wide : (k : ℕ) (s : State) (p : Bool) (f : Forest) (b : Bool) → from (cond p (take k (width k) >> give true) (give false)) s ≡ ok f b → p ≡ true → 1 ≤ wides f
unfolding wides wide
eat_wide k s true f b e p =
    let q = bind_ok (take k (width k)) (λ _. give true) s.env (length s.recs) s.place f b e in
    omega (arith, ap wides q.joined, wides_append q.first q.second, ap wides (take_ok k (width k) s.env (length s.recs) s.place q.first q.answered q.ran).2, some_long (parts k))
eat_wide k s false f b e p = absurd (false≢true p)

eat_true : (k : ℕ) (s : State) (p : Bool) (f : Forest) → from (cond p (take k (width k) >> give true) (give false)) s ≡ ok f true → p ≡ true
unfolding run
eat_true k s true f e = refl
eat_true k s false f e = let h : ok nil false ≡ ok f true = e in cc

-- a token was eaten
pub ate : (k : ℕ) {s t : State} → Does (eat k) s t (Ok true) → Moves s t
unfolding run eat bump
ate k {s} (did f e g) = let n = eat_wide k s (present s.env s.place k) f true e (eat_true k s _ f e) in record { on = omega (arith, n, g.place); same = (grown_stays g).same }

-- a token that is there is eaten first
pub eats_first : {A : Type 0} (k : ℕ) {m : Bool → Prog A} {s t : State} {a : A} → present s.env s.place k ≡ true → Does (eat k >>= m) s t (Ok a) → Moves s t
unfolding run eat bump
eats_first k {m} {s} {a = a} h (did f e g) =
    let q = bind_ok (eat k) m s.env (length s.recs) s.place f a e in
    let n = eat_wide k s (present s.env s.place k) q.first q.answered q.ran h in
    record { on = omega (arith, n, ap wides q.joined, wides_append q.first q.second, g.place); same = (grown_stays g).same }

-- A node that precedes another one moves on with its body

led_place : {b : State} {n : Node} {s t : State} {m : Marker} → Led b n s t (Ok m) → (t.place ≡ b.place + wide_node n) × (length t.env.kinds ≡ length b.env.kinds)
led_place (led at lt g) = (g.place, (grown_stays g).same)

-- where the body has refused, so has the call
abbrev Refused : Result CompletedMarker Refusal → Type 0
Refused (Ok c) = ⊥
Refused (Err e) = Unit {0}

not_finished : {A : Type 0} {b : State} {rs : List Record} {w k : ℕ} {u v : State} {e : Refusal} {x : Result CompletedMarker Refusal} → Finished {A = A} b rs w k u v (Err e) x → Refused x
not_finished (passed more g) = tt

around_on : {A : Type 0} {a : A} {k : ℕ} {c d : CompletedMarker} {b s t u v : State} {n : Node} {m : Marker} {rs : List Record} {w : ℕ}
    → Pending b n c s → Led b n s t (Ok m) → Inside (after b n) rs w m u → Finished (after b n) rs w k u v (Ok a) (Ok d) → Moves t u → Moves s v
around_on h l i (completed (closed nz lt g at to kind)) mv =
    let p = led_place l in
    record { on = omega (arith, mv.on, p.0, g.place, h.grown.place, i.grown.place); same = (grown_stays g).same ∙ sym (grown_stays h.grown).same }

around_inside : {A : Type 0} {body : Prog A} {k : ℕ} {c d : CompletedMarker} {s t u v : State} {m : Marker} {r : Result A Refusal}
    → (b : State) (n : Node) → Pending b n c s → Led b n s t (Ok m) → Does body t u r → ((b : State) (rs : List Record) (w : ℕ) → Inside b rs w m u → Finished b rs w k u v r (Ok d))
    → ((a : A) → Does body t u (Ok a) → Moves t u) → Moves s v
around_inside b n h l (did f e g) k mv = let i = inside (leads h l) g in around_on h l i (k (after b n) _ _ i) (mv _ (did f e g))
around_inside b n h l (refused rs w e g) k mv = absurd (not_finished (k (after b n) _ _ (inside (leads h l) g)))

pub around_moves : {A : Type 0} {body : Prog A} {k : ℕ} {c d : CompletedMarker} {s t u v : State} {m : Marker} {r : Result A Refusal}
    → Last c s → ((b : State) (n : Node) → Pending b n c s → Led b n s t (Ok m)) → Does body t u r
    → ((b : State) (rs : List Record) (w : ℕ) → Inside b rs w m u → Finished b rs w k u v r (Ok d)) → ((a : A) → Does body t u (Ok a) → Moves t u) → Moves s v
around_moves l f d k mv = around_inside l.0 l.1 l.2 (f l.0 l.1 l.2) d k mv

-- what lies ahead where its body begins lay ahead before
led_at : {X : Type 0} {b : State} {n : Node} {c : CompletedMarker} {s t : State} {m : Marker} (P : Env → ℕ → X) → Pending b n c s → Led b n s t (Ok m) → P t.env t.place ≡ P s.env s.place
led_at P h (led at lt g) = λ j. P ((g.same ∙ sym h.grown.same) j) ((g.place ∙ sym h.grown.place) j)

pub led_same : {X : Type 0} {c : CompletedMarker} {s t : State} {m : Marker} (P : Env → ℕ → X) → Last c s → ((b : State) (n : Node) → Pending b n c s → Led b n s t (Ok m))
    → P t.env t.place ≡ P s.env s.place
led_same P l f = led_at P l.2 (f l.0 l.1 l.2)
