-- How what one call does joins with what the next one does. The lemmas go by the shape of the code:
-- a proof of a grammar function is one term of them for each way through it.
use Rattle.std.proofs.Common.{◌≡◌, ℕ, suc, ◌+◌, ◌-◌, ◌<◌, ◌≤◌, Bool, true, false, cond, List, [], ◌∷◌, ◌++◌, length, IsErrAnd, Ok, Err, Option, Result, sym, refl, ap, ◌∙◌, subst, add-zero, zero-add, arith}
use Rattle.std.specs.Result.{result_map_both}
use Rattle.event_log.specs.declared.event.Record.{Record}
use Rattle.event_log.specs.declared.event.Record.TheVariants.{Token, Error}
use Rattle.refusals.specs.declared.Refusal.{Refusal}
use Rattle.event_log.specs.declared.marker.Marker.{Marker}
use Rattle.event_log.specs.Forest.{Forest, ◌<>◌, flat, flats, wide, wides, blank}
use Rattle.event_log.specs.Forest.Tree.{token, error}
use Rattle.event_log.specs.Forest.Forest.{nil, cons}
use Rattle.event_log.specs.Program.{Env, Prog, Out, Turn, size, grow, next, turned, spin, turns, spells, run, ◌>>◌}
use Rattle.event_log.specs.Program.{completed as completed_at}
use Rattle.event_log.specs.Program.Prog.{give, stop, ◌>>=◌, here, take, fault, repeat}
use Rattle.event_log.specs.Program.Out.{ok, no, never}
use Rattle.event_log.specs.Program.Turn.{again, done}
use Rattle.refusals.specs.declared.Refusal.TheVariants.{LogFull}
use Rattle.event_log.specs.Model.{State, Grown, from, Does, Pushes, Full}
use Rattle.event_log.specs.Marks.{Starts, Inside, Open, Named}
use Rattle.event_log.specs.Settling.{Settled}
use Rattle.event_log.specs.Model.Does.{did, refused}
use Rattle.event_log.specs.Model.Pushes.{pushed, stuck}
use Rattle.event_log.specs.Marks.Starts.{started}
use Rattle.event_log.proofs.Telling.{flats_append}
use Rattle.event_log.proofs.Sizes.{wides_append}
use Rattle.event_log.proofs.Inversion.{nil_right}
use Rattle.event_log.proofs.Fuel.{settled_ends, spin_more}
use Rattle.event_log.proofs.Due.{due_ok, due_no, completed_due}
use Rattle.event_log.proofs.Growth.{still, grown_then, grown_as, records, there}

-- what goes by them goes by where a forest ends
past : {X : Type 0} {s t : State} (f : Forest) (P : Env → ℕ → ℕ → X) → Grown s t (flats f) (wides f)
    → P t.env (length t.recs) t.place ≡ P s.env (length s.recs + size f) (s.place + wides f)
past f P g = there P g

-- Answers, refusals, and one call after the other

pub gives : {A : Type 0} {a : A} {s : State} → Does (give a) s s (Ok a)
unfolding run flats wides
gives {s = s} = did nil refl (still s)

pub stops : {A : Type 0} {s : State} {refusal : ℕ → Refusal} {e : Refusal} → e ≡ refusal s.place → Does (stop {A = A} refusal) s s (Err e)
unfolding run
stops {s = s} p = refused [] 0 (ap {B = _} (λ (x : Refusal). no x) (sym p)) (still s)

next_ok : {A B : Type 0} (m : Prog A) (k : A → Prog B) {s t : State} {a : A} (f : Forest) → from m s ≡ ok f a → Grown s t (flats f) (wides f)
    → from (m >>= k) s ≡ grow f (from (k a) t)
unfolding run next
next_ok m k {a = a} f e g = rw e (ap (grow f) (sym (past f (run (k a)) g)))

pub then : {A B : Type 0} {m : Prog A} {k : A → Prog B} {s t u : State} {a : A} {r : Result B Refusal} → Does m s t (Ok a) → Does (k a) t u r → Does (m >>= k) s u r
unfolding grow
then {m = m} {k} (did f e g) (did h d i) = did (f <> h) (next_ok m k f e g ∙ ap (grow f) d) (grown_as (sym (flats_append f h)) (sym (wides_append f h)) (grown_then g i))
then {m = m} {k} (did f e g) (refused rs w d i) = refused (flats f ++ rs) (wides f + w) (next_ok m k f e g ∙ ap (grow f) d) (grown_then g i)

pub fails : {A B : Type 0} {m : Prog A} {k : A → Prog B} {s t : State} {e : Refusal} → Does m s t (Err e) → Does (m >>= k) s t (Err e)
unfolding run next
fails (refused rs w d g) = refused rs w (rw d refl) g

-- an answer in the place of the one that a call gives, and a call that is followed by it
abbrev pub answers : {A B : Type 0} → B → Result A Refusal → Result B Refusal
answers b = result_map_both (λ _. b) (λ e. e)

pub then_gives : {A B : Type 0} {m : Prog A} {b : B} {s t : State} {r : Result A Refusal} → Does m s t r → Does (m >> give b) s t (answers b r)
then_gives (did f e g) = then (did f e g) gives
then_gives (refused rs w e g) = fails (refused rs w e g)

-- the exit of a `?`
pub exits : {A B : Type 0} {m : Prog A} {k : A → Prog B} {s t : State} {e : Refusal} → Does m s t (Err e) → (r : Result B Refusal) → IsErrAnd r (λ f. f ≡ e) → Does (m >>= k) s t r
exits h (Ok b) x = absurd x
exits h (Err f) x = rw x (fails h)

-- the exit of a `?` after which nothing is to come
pub exited : {A : Type 0} {m : Prog A} {s t : State} {e : Refusal} → Does m s t (Err e) → (r : Result A Refusal) → IsErrAnd r (λ f. f ≡ e) → Does m s t r
exited h (Ok b) x = absurd x
exited h (Err f) x = rw x h

-- what was answered, by another name
pub said : {A : Type 0} {m : Prog A} {s t : State} {a b : A} → a ≡ b → Does m s t (Ok a) → Does m s t (Ok b)
said e h = rw e at h

-- By what lies ahead

pub looks : {A : Type 0} {f : Env → ℕ → Prog A} {s t : State} {r : Result A Refusal} → Does (f s.env s.place) s t r → Does (here f) s t r
unfolding run
looks (did f e g) = did f e g
looks (refused rs w e g) = refused rs w e g

pub yes : {A : Type 0} {b : Bool} {m : Prog A} (n : Prog A) {s t : State} {r : Result A Refusal} → b ≡ true → Does m s t r → Does (cond b m n) s t r
yes n e h = rw e h

pub nay : {A : Type 0} {b : Bool} (m : Prog A) {n : Prog A} {s t : State} {r : Result A Refusal} → b ≡ false → Does n s t r → Does (cond b m n) s t r
nay m e h = rw e h

-- One record more

-- the refusal of a log that is full
pub full_no : {A : Type 0} {s t : State} {e : Refusal} → Full s t e → ◌≡◌ {A = Out A} (no (LogFull s.place)) (no e)
full_no h = ap (λ (x : Refusal). no x) (sym h.refusal)

pub faults : {n k : ℕ} {s t : State} {r : Result (Unit {0}) Refusal} → Pushes (Error n k) s t r → Does (fault n k) s t r
unfolding run flats flat wides wide
faults {n} {k} {s} (pushed lt g) = did (cons (error n k) nil) (due_ok _ _ _ _ lt) g
faults {n} {k} {s} (stuck h) = refused [] 0 (due_no _ _ _ _ h.full ∙ full_no h) (rw h.still (still s))

-- the place has moved on over what a token spells
pub taken : {k w : ℕ} {s t u : State} {x : Unit {0}} → spells s.env s.place k w ≡ true → Pushes (Token k w) s t (Ok x)
    → u.recs ≡ t.recs → u.place ≡ t.place + w → u.clean ≡ t.clean → u.env ≡ t.env → u.long ≡ t.long → Does (take k w) s u (Ok x)
unfolding run flats flat wides wide
taken {k} {w} {s} sp (pushed lt g) rs p c e l = did (cons (token k w) nil) (rw sp (due_ok _ _ _ _ lt)) (record {
  by = rs ∙ g.by;
  place = p ∙ ap (λ (n : ℕ). n + w) g.place ∙ omega arith;
  clean = c ∙ g.clean;
  same = e ∙ g.same;
  long = l ∙ g.long;
})

pub not_taken : {k w : ℕ} {s t : State} {e : Refusal} → spells s.env s.place k w ≡ true → Pushes (Token k w) s t (Err e)
    → (r : Result (Unit {0}) Refusal) → IsErrAnd r (λ f. f ≡ e) → Does (take k w) s t r
unfolding run
not_taken sp (stuck h) (Ok x) p = absurd p
not_taken {s = s} {e = e} sp (stuck h) (Err f) p =
    rw p (refused {e = e} [] 0 (rw sp (due_no _ _ _ _ h.full ∙ full_no h)) (rw h.still (still s)))

-- the same token, by other names
pub took : {j k v w : ℕ} {s t : State} {r : Result (Unit {0}) Refusal} → j ≡ k → v ≡ w → Does (take j v) s t r → Does (take k w) s t r
took p q h = rw (← p, ← q) h

-- what was spelt before the end is taken before it
pub pushed_within : {r : Record} {s t : State} {x : Unit {0}} (w : ℕ) → Pushes r s t (Ok x) → s.place + w ≤ length s.env.kinds → t.place + w ≤ length t.env.kinds
pushed_within w (pushed lt g) h = omega (arith, h, g.place, ap (λ (e : Env). length e.kinds) g.same)

-- A node: its start, its body, and its end

-- what the body does, it does inside the node
pub inside : {s t u : State} {m : Marker} {rs : List Record} {w : ℕ} → Starts s t (Ok m) → Grown t u rs w → Inside s rs w m u
inside {w = w} (started at lt g) h = record { grown = grown_as refl (zero-add w) (grown_then g h); at = at }

pub opens : {A : Type 0} {body : Prog A} {s t u : State} {m : Marker} {r : Result A Refusal} → Starts s t (Ok m) → Does body t u r → Open m u
opens h (did f e g) = let i = inside h g in rw (i.at, records i.grown) (omega arith)
opens h (refused rs w e g) = let i = inside h g in rw (i.at, records i.grown) (omega arith)

-- the records and the place that the body begins with
pub begun : {X : Type 0} {s t : State} (P : Env → ℕ → ℕ → X) → Grown s t (blank ∷ []) 0 → P s.env (length s.recs + 1) s.place ≡ P t.env (length t.recs) t.place
begun {s = s} P g = ap (λ (i : ℕ). P s.env (length s.recs + 1) i) (sym (add-zero s.place)) ∙ sym (there P g)

-- the records and the place that it ends with
pub ended : {X : Type 0} {s u : State} (f : Forest) (P : Env → ℕ → ℕ → X) → Grown s u (blank ∷ flats f) (wides f)
    → P s.env (length s.recs + 1 + size f) (s.place + wides f) ≡ P u.env (length u.recs) u.place
ended {s = s} f P g = ap (λ (c : ℕ). P s.env c (s.place + wides f)) (omega arith) ∙ sym (there P g)

-- what it comes to where there is no room for its end
pub refuses : {A : Type 0} {k : ℕ} {s t : State} {e : Refusal} (o : Out A) → 0 < k → Full s t e → completed_at s.env k (length s.recs) s.place o ≡ no e
refuses {k = k} o z h = completed_due _ k _ _ o z ∙ due_no _ _ _ _ h.full ∙ full_no h

-- an exit of a body that answers with a kind
pub named_exit : (e : Refusal) (r : Result (Option ℕ) Refusal) → IsErrAnd r (λ f. f ≡ e) → Named r
named_exit e (Ok x) p = absurd p
named_exit e (Err f) p = tt

-- Loops

-- what ends is not without end
pub ends : {A : Type 0} (o : Out A) {x : Out A} → o ≡ x → Settled x → o ≡ never → ⊥
ends o p z q = subst Settled (sym p ∙ q) z

-- the turns of a loop that is at s, but for one
abbrev rest : {S : Type 0} → (S → Prog (Turn S)) → State → S → ℕ → ℕ → Out S
rest b s = spin (length s.env.kinds - s.place) (λ y. run (b y) s.env)

-- a loop is a turn, and then those that are left
turn_is : {S : Type 0} (b : S → Prog (Turn S)) (x : S) (s : State) → s.place ≤ length s.env.kinds
    → from (repeat b x) s ≡ next (from (b x) s) (λ t. turned t (rest b s)) (length s.recs) s.place
unfolding run spin
turn_is b x s h = ap (λ (n : ℕ). spin n (λ y. run (b y) s.env) x (length s.recs) s.place) more
  where
    more : turns s.env s.place ≡ suc (length s.env.kinds - s.place)
    more = omega arith

-- a turn that moves on leaves turns enough
again_is : {S : Type 0} (b : S → Prog (Turn S)) (x y : S) {s t : State} (f : Forest) → from (b x) s ≡ ok f (again y) → Grown s t (flats f) (wides f)
    → s.place < t.place → t.place ≤ length t.env.kinds → (from (repeat b y) t ≡ never → ⊥)
    → from (repeat b x) s ≡ grow f (from (repeat b y) t)
unfolding run next turned
again_is b x y {s} {t} f e g lt le finite =
    turn_is b x s within
    ∙ rw e (ap (grow f) (spin_more _ _ _ y _ _ fewer (settled_ends _ (λ q. finite (past f (run (repeat b y)) g ∙ q))) ∙ sym (past f (run (repeat b y)) g)))
  where
    kinds : length t.env.kinds ≡ length s.env.kinds
    kinds = ap (λ (e : Env). length e.kinds) g.same

    within : s.place ≤ length s.env.kinds
    within = omega (arith, kinds)

    fewer : turns s.env (s.place + wides f) ≤ length s.env.kinds - s.place
    fewer = omega (arith, kinds, g.place)

pub turn_again : {S : Type 0} {b : S → Prog (Turn S)} {x y : S} {s t u : State} {r : Result S Refusal}
    → Does (b x) s t (Ok (again y)) → s.place < t.place → t.place ≤ length t.env.kinds → Does (repeat b y) t u r → Does (repeat b x) s u r
unfolding grow
turn_again {b = b} {x} {y} (did f e g) lt le (did h d i) =
    did (f <> h) (again_is b x y f e g lt le (ends _ d tt) ∙ ap (grow f) d) (grown_as (sym (flats_append f h)) (sym (wides_append f h)) (grown_then g i))
turn_again {b = b} {x} {y} (did f e g) lt le (refused rs w d i) =
    refused (flats f ++ rs) (wides f + w) (again_is b x y f e g lt le (ends _ d tt) ∙ ap (grow f) d) (grown_then g i)

pub last_turn : {S : Type 0} {b : S → Prog (Turn S)} {x y : S} {s t : State} → s.place ≤ length s.env.kinds → Does (b x) s t (Ok (done y)) → Does (repeat b x) s t (Ok y)
unfolding next turned grow
last_turn {b = b} {x} {y} {s} le (did f e g) =
    did f (turn_is b x s le ∙ rw e (ap (λ (h : Forest). ok h y) (nil_right f))) g

pub last_no : {S : Type 0} {b : S → Prog (Turn S)} {x : S} {s t : State} {e : Refusal} → s.place ≤ length s.env.kinds → Does (b x) s t (Err e) → Does (repeat b x) s t (Err e)
unfolding next
last_no {b = b} {x} {s} le (refused rs w e g) = refused rs w (turn_is b x s le ∙ rw e refl) g

-- the exit of a `?` in a turn
pub last_exit : {S : Type 0} {b : S → Prog (Turn S)} {x : S} {s t : State} {e : Refusal} → s.place ≤ length s.env.kinds → Does (b x) s t (Err e)
    → (r : Result S Refusal) → IsErrAnd r (λ f. f ≡ e) → Does (repeat b x) s t r
last_exit le h (Ok y) p = absurd p
last_exit le h (Err f) p = rw p (last_no le h)
