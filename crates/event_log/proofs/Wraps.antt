-- How calls that take a completed node, and put others around it, join with each other.
use Rattle.std.proofs.Common.{◌≡◌, ℕ, suc, ◌+◌, ◌-◌, ◌<◌, ◌≤◌, Bool, true, false, cond, ◌&&◌, List, [], ◌∷◌, ◌++◌, length, IsErrAnd, Some, None, Ok, Err, Result, sym, refl, ap, ◌∙◌, append_assoc, add-zero, arith, length-append}
use Rattle.std.proofs.Math.Bool.{and_assoc}
use Rattle.event_log.specs.declared.event.Record.{Record}
use Rattle.event_log.specs.declared.event.Record.TheVariants.{Finish}
use Rattle.refusals.specs.declared.Refusal.{Refusal}
use Rattle.event_log.specs.declared.marker.Marker.{Marker}
use Rattle.event_log.specs.declared.marker.CompletedMarker.{CompletedMarker}
use Rattle.event_log.specs.Forest.{Node, Forest, flats, flat_node, own, kind_of, wides, wide_node, blank}
use Rattle.event_log.specs.Forest.Node.{wrap}
use Rattle.event_log.specs.Forest.Forest.{nil}
use Rattle.event_log.specs.Program.{Env, Prog, Wraps, Out, Held, size, size_node, turns, run, precede, on_node, wind, wrapped, ◌>>◌}
use Rattle.event_log.specs.Program.{completed as completed_at}
use Rattle.event_log.specs.Program.Prog.{give}
use Rattle.event_log.specs.Program.Wraps.{end, see, ◌>-◌, around, many}
use Rattle.event_log.specs.Program.Out.{ok, no, never}
use Rattle.refusals.specs.declared.Refusal.TheVariants.{LogFull}
use Rattle.event_log.specs.Model.{State, faultless, Grown, from, Does}
use Rattle.event_log.specs.Marks.{Starts, Inside, Open, Closed, Finished, Pending, Last, Winds, Precedes, Led, by_kind, only}
use Rattle.event_log.specs.Model.Does.{did, refused}
use Rattle.event_log.specs.Marks.Starts.{started}
use Rattle.event_log.specs.Marks.Closed.{closed, unclosed}
use Rattle.event_log.specs.Marks.Finished.{completed as finished_so, passed as passed_on}
use Rattle.event_log.specs.Marks.Winds.{wound, refused as unwound}
use Rattle.event_log.specs.Marks.Led.{led, stuck}
use Rattle.event_log.proofs.Fuel.{settled_ends, wind_stop, wind_go, wind_more}
use Rattle.event_log.proofs.Sizes.{length_flat_node}
use Rattle.event_log.proofs.Due.{due_ok, due_no, completed_due}
use Rattle.event_log.proofs.Growth.{faultless_append, grown_then, records}
use Rattle.event_log.proofs.Kit.{full_no, inside, opens, begun, ended, refuses, ends, gives, answers, then_gives}

-- What precedes a node

abbrev pub outcome : {A : Type 0} → Wraps A → State → Node → Out (Held A)
outcome w b n = precede w b.env (length b.recs) b.place n

-- what comes to the same
winds_as : {X A : Type 0} {show : X → CompletedMarker × A} (w v : Wraps A) {b : State} (n m : Node) {t : State} {r : Result X Refusal}
    → outcome w b n ≡ outcome v b m → Winds show v b m t r → Winds show w b n t r
winds_as w v n m d (wound k e p) = wound k (d ∙ e) p
winds_as w v n m d (unwound rs x e g) = unwound rs x (d ∙ e) g

-- nothing more
pub wraps_end : {X A : Type 0} (show : X → CompletedMarker × A) (x : X) {s : State} → Precedes show (end (show x).1) (show x).0 s s (Ok x)
unfolding precede
wraps_end show x b n h = wound n refl h

-- by what lies ahead
pub wraps_see : {X A : Type 0} {show : X → CompletedMarker × A} {f : Env → ℕ → Wraps A} {c : CompletedMarker} {s t : State} {r : Result X Refusal}
    → Precedes show (f s.env s.place) c s t r → Precedes show (see f) c s t r
unfolding precede
wraps_see {f = f} {s = s} k b n h =
    winds_as (see f) (f s.env s.place) n n (λ j. outcome (f (sym h.grown.same j) (sym h.grown.place j)) b n) (k b n h)

pub wraps_yes : {X A : Type 0} {show : X → CompletedMarker × A} {b : Bool} {v : Wraps A} (w : Wraps A) {c : CompletedMarker} {s t : State} {r : Result X Refusal}
    → b ≡ true → Precedes show v c s t r → Precedes show (cond b v w) c s t r
wraps_yes w e h = rw e h

pub wraps_nay : {X A : Type 0} {show : X → CompletedMarker × A} {b : Bool} (v : Wraps A) {w : Wraps A} {c : CompletedMarker} {s t : State} {r : Result X Refusal}
    → b ≡ false → Precedes show w c s t r → Precedes show (cond b v w) c s t r
wraps_nay v e h = rw e h

-- one call after the other
pub wraps_then : {X Y A B : Type 0} {show : X → CompletedMarker × A} {show' : Y → CompletedMarker × B} {w : Wraps A} {k : A → Wraps B} {c : CompletedMarker} {s t u : State} {x : X} {r : Result Y Refusal}
    → Precedes show w c s t (Ok x) → Precedes show' (k (show x).1) (show x).0 t u r → Precedes show' (w >- k) c s u r
unfolding precede on_node
wraps_then {X} {show = show} {show'} {w} {k} {t = t} {u} {x} {r} f g b n h = go (f b n h)
  where
    go : Winds show w b n t (Ok x) → Winds show' (w >- k) b n u r
    go (wound m e p) = winds_as (w >- k) (k (show x).1) n m (rw e refl) (g b m p)

pub wraps_fail : {X Y A B : Type 0} {show : X → CompletedMarker × A} {show' : Y → CompletedMarker × B} {w : Wraps A} {k : A → Wraps B} {c : CompletedMarker} {s t : State} {e : Refusal}
    → Precedes show w c s t (Err e) → Precedes show' (w >- k) c s t (Err e)
unfolding precede on_node
wraps_fail {show = show} {show'} {w} {k} {t = t} {e} f b n h = go (f b n h)
  where
    go : Winds show w b n t (Err e) → Winds show' (w >- k) b n t (Err e)
    go (unwound rs v d g) = unwound rs v (rw d refl) g

-- the exit of a `?`
pub wraps_exit : {X Y A : Type 0} {show : X → CompletedMarker × A} {show' : Y → CompletedMarker × A} {w : Wraps A} {c : CompletedMarker} {s t : State} {e : Refusal}
    → Precedes show w c s t (Err e) → (r : Result Y Refusal) → IsErrAnd r (λ f. f ≡ e) → Precedes show' w c s t r
wraps_exit f (Ok y) p b n h = absurd p
wraps_exit {show = show} {show'} {w} {t = t} {e} f (Err y) p b n h = go (f b n h)
  where
    go : Winds show w b n t (Err e) → Winds show' w b n t (Err y)
    go (unwound rs v d g) = unwound rs v (rw p d) g

pub wraps_exits : {X Y A B : Type 0} {show : X → CompletedMarker × A} {show' : Y → CompletedMarker × B} {w : Wraps A} {k : A → Wraps B} {c : CompletedMarker} {s t : State} {e : Refusal}
    → Precedes show w c s t (Err e) → (r : Result Y Refusal) → IsErrAnd r (λ f. f ≡ e) → Precedes show' (w >- k) c s t r
wraps_exits {show' = show'} {k = k} f r p = wraps_exit {show = show'} (wraps_fail {show' = show'} {k = k} f) r p

-- the marker alone
pub wraps_only : {w : Wraps ℕ} {c : CompletedMarker} {s t : State} {r : Result CompletedMarker Refusal} → Precedes by_kind w c s t r → Precedes only (w >- λ _. end tt) c s t r
wraps_only {r = Ok d} f = wraps_then {show = by_kind} {show' = only} f (wraps_end only d)
wraps_only {r = Err e} f = wraps_fail {show = by_kind} {show' = only} f

-- A node that precedes another one

-- where its own start is
abbrev pub after : State → Node → State
after b n = record {
  recs = b.recs ++ flat_node n (Some (own n));
  place = b.place + wide_node n;
  clean = b.clean && faultless (flat_node n (Some (own n)));
  env = b.env;
  long = b.long;
}

since : (b : State) (n : Node) → Grown b (after b n) (flat_node n (Some (own n))) (wide_node n)
since b n = record { by = refl; place = refl; clean = refl; same = refl; long = refl }

length_after : (b : State) (n : Node) → length (after b n).recs ≡ length b.recs + size_node n
length_after b n = length-append b.recs _ ∙ ap (λ (k : ℕ). length b.recs + k) (length_flat_node n (Some (own n)))

-- the state where the marker was at hand is as long
at_after : {b : State} {n : Node} {c : CompletedMarker} {s : State} → Pending b n c s → length s.recs ≡ length (after b n).recs
at_after {b} {n} h = records h.grown ∙ ap (λ (k : ℕ). length b.recs + k) (length_flat_node n None) ∙ sym (length_after b n)

pub leads : {b : State} {n : Node} {c : CompletedMarker} {s t : State} {m : Marker} → Pending b n c s → Led b n s t (Ok m) → Starts (after b n) t (Ok m)
leads {b} {n} {s = s} h (led at lt g) = started (at ∙ at_after h) (omega (arith, at_after h, ap (λ (e : Env). e.room) h.grown.same, lt))
    (record {
      by = g.by ∙ sym (append_assoc b.recs (flat_node n (Some (own n))) (blank ∷ []));
      place = g.place ∙ sym (add-zero _);
      clean = g.clean ∙ ap (λ (x : Bool). b.clean && x) (faultless_append (flat_node n (Some (own n))) (blank ∷ [])) ∙ sym (and_assoc b.clean _ _);
      same = g.same;
      long = g.long;
    })

-- it is open while its body goes on
pub leads_open : {A : Type 0} {body : Prog A} {c : CompletedMarker} {s t u : State} {m : Marker} {r : Result A Refusal}
    → Last c s → ((b : State) (n : Node) → Pending b n c s → Led b n s t (Ok m)) → Does body t u r → Open m u
leads_open l f d = opens (leads l.2 (f l.0 l.1 l.2)) d

-- what it comes to where there is room for its start
around_is : (body : Prog ℕ) (b : State) (n : Node) {t : State} {m : Marker} → Starts (after b n) t (Ok m)
    → outcome (around body) b n ≡ wrapped b.env (length b.recs) b.place n (from body t)
unfolding precede
around_is body b n (started at lt g) =
    due_ok _ _ _ _ (rw (← length_after b n) lt)
    ∙ ap (wrapped b.env (length b.recs) b.place n)
    (ap (λ (c : ℕ). run body b.env (c + 1) (b.place + wide_node n)) (sym (length_after b n)) ∙ begun (run body) g)

-- and where its body has answered
wrapped_is : (body : Prog ℕ) (b : State) (n : Node) {t u : State} {m : Marker} {k : ℕ} (f : Forest)
    → Starts (after b n) t (Ok m) → from body t ≡ ok f k → Grown (after b n) u (blank ∷ flats f) (wides f)
    → outcome (around body) b n ≡ completed_at u.env k (length u.recs) u.place (ok nil (record { held = wrap n k f; answer = k }))
unfolding wrapped
wrapped_is body b n {k = k} f st e g =
    around_is body b n st ∙ ap (wrapped b.env (length b.recs) b.place n) e
    ∙ ap (λ (c : ℕ). completed_at b.env k (c + 1 + size f) (b.place + wide_node n + wides f) (ok nil (record { held = wrap n k f; answer = k }))) (sym (length_after b n))
    ∙ ended f (λ e c i. completed_at e k c i (ok nil (record { held = wrap n k f; answer = k }))) g

-- what the program's body answered decides
data Answered (b : State) (rs : List Record) (w : ℕ) (s t : State) : Result ℕ Refusal → Result CompletedMarker Refusal → Type 0 where
  completed : {k : ℕ} {r : Result CompletedMarker Refusal} → Closed b rs w k s t r → Answered b rs w s t (Ok k) r
  passed : {e : Refusal} (more : List Record) → Grown b t more w → Answered b rs w s t (Err e) (Err e)

finished : (body : Prog ℕ) (b : State) (n : Node) {t u v : State} {m : Marker} {k : ℕ} {x : Result CompletedMarker Refusal} (f : Forest)
    → Starts (after b n) t (Ok m) → from body t ≡ ok f k → Inside (after b n) (flats f) (wides f) m u → Closed (after b n) (flats f) (wides f) k u v x
    → Winds by_kind (around body) b n v x
unfolding flat_node wide_node own kind_of
finished body b n {k = k} f st e i (closed nz lt g at to kind) =
    wound (wrap n k f)
    (wrapped_is body b n f st e i.grown ∙ completed_due _ k _ _ _ nz ∙ due_ok _ _ _ _ lt
    ∙ ap (λ (j : ℕ). ok nil (record { held = wrap n k f; answer = j })) (sym kind))
    (record { grown = grown_then (since b n) g; start = omega (arith, at, records g, length-append (flats f) (Finish ∷ [])); end = to; kind = kind })
finished body b n {k = k} f st e i (unclosed more z why g) =
    unwound _ _
    (wrapped_is body b n f st e i.grown ∙ refuses _ z why)
    (grown_then (since b n) g)

around_passes : (body : Prog ℕ) (b : State) (n : Node) {t u v : State} {m : Marker} {e : Refusal} {x : Result CompletedMarker Refusal} {rs : List Record} {w : ℕ}
    → Starts (after b n) t (Ok m) → from body t ≡ no e → Answered (after b n) rs w u v (Err e) x → Winds by_kind (around body) b n v x
unfolding wrapped
around_passes body b n st e (passed more g) = unwound _ _ (around_is body b n st ∙ ap (wrapped b.env (length b.recs) b.place n) e) (grown_then (since b n) g)

around_answers : (body : Prog ℕ) (b : State) (n : Node) {t u v : State} {m : Marker} {k : ℕ} {x : Result CompletedMarker Refusal} (f : Forest)
    → Starts (after b n) t (Ok m) → from body t ≡ ok f k → Inside (after b n) (flats f) (wides f) m u → Answered (after b n) (flats f) (wides f) u v (Ok k) x
    → Winds by_kind (around body) b n v x
around_answers body b n f st e i (completed c) = finished body b n f st e i c

arounds_by : {body : Prog ℕ} {c : CompletedMarker} {s t u v : State} {m : Marker} {r : Result ℕ Refusal} {x : Result CompletedMarker Refusal}
    → ((b : State) (n : Node) → Pending b n c s → Led b n s t (Ok m)) → Does body t u r
    → ((b : State) (rs : List Record) (w : ℕ) → Inside b rs w m u → Answered b rs w u v r x)
    → Precedes by_kind (around body) c s v x
arounds_by {body} f (did g e h) k b n p = let st = leads p (f b n p) in let i = inside st h in around_answers body b n g st e i (k (after b n) (flats g) (wides g) i)
arounds_by {body} f (refused rs w e h) k b n p = let st = leads p (f b n p) in around_passes body b n st e (k (after b n) rs w (inside st h))

answered : {A : Type 0} {b : State} {rs : List Record} {w k : ℕ} {s t : State} {r : Result A Refusal} {x : Result CompletedMarker Refusal} → Finished b rs w k s t r x → Answered b rs w s t (answers k r) x
answered (finished_so h) = completed h
answered (passed_on more g) = passed more g

-- The body of a node that precedes another one, between its start and where it is finished with its kind
pub arounds : {A : Type 0} {m : Prog A} {k : ℕ} {c : CompletedMarker} {s t u v : State} {a : Marker} {r : Result A Refusal} {x : Result CompletedMarker Refusal}
    → ((b : State) (n : Node) → Pending b n c s → Led b n s t (Ok a)) → Does m t u r
    → ((b : State) (rs : List Record) (w : ℕ) → Inside b rs w a u → Finished b rs w k u v r x)
    → Precedes by_kind (around (m >> give k)) c s v x
arounds f d h = arounds_by f (then_gives d) (λ b rs w i. answered (h b rs w i))

-- the same with no body
pub arounds_now : {k : ℕ} {c : CompletedMarker} {s t v : State} {m : Marker} {x : Result CompletedMarker Refusal}
    → ((b : State) (n : Node) → Pending b n c s → Led b n s t (Ok m)) → ((b : State) (rs : List Record) (w : ℕ) → Inside b rs w m t → Closed b rs w k t v x)
    → Precedes by_kind (around (give k)) c s v x
arounds_now f k = arounds_by f gives (λ b rs w i. completed (k b rs w i))

pub leads_open_now : {c : CompletedMarker} {s t : State} {m : Marker} → Last c s → ((b : State) (n : Node) → Pending b n c s → Led b n s t (Ok m)) → Open m t
leads_open_now l f = leads_open {body = give (tt {0})} l f gives

-- its start found no room
no_lead : (body : Prog ℕ) {b : State} {n : Node} {c : CompletedMarker} {s t : State} {e : Refusal} → Pending b n c s → Led b n s t (Err e) → Winds by_kind (around body) b n t (Err e)
unfolding precede
no_lead body {n = n} p (stuck h) =
    unwound (flat_node n None) (wide_node n)
    (due_no _ _ _ _ (omega (arith, h.full, records p.grown, length_flat_node n None, ap (λ (e : Env). e.room) p.grown.same)) ∙ ap {B = _} (λ (i : ℕ). no (LogFull i)) (sym p.grown.place) ∙ full_no h)
    (rw h.still p.grown)

pub no_around : {body : Prog ℕ} {c : CompletedMarker} {s t : State} {e : Refusal} → ((b : State) (n : Node) → Pending b n c s → Led b n s t (Err e)) → Precedes by_kind (around body) c s t (Err e)
no_around {body} f b n p = no_lead body p (f b n p)

-- While a test holds

-- the test at a node is the test at the place
test_is : (t : Env → ℕ → Bool) {b : State} {n : Node} {c : CompletedMarker} {s : State} → Pending b n c s → t b.env (b.place + wide_node n) ≡ t s.env s.place
test_is t h = λ j. t (sym h.grown.same j) (sym h.grown.place j)

-- the nodes of a loop that is at the node n, but for one
abbrev turns_left : State → Node → ℕ
turns_left b n = length b.env.kinds - (b.place + wide_node n)

abbrev tested : (Env → ℕ → Bool) → State → Node → Bool
tested t b x = t b.env (b.place + wide_node x)

kinds_same : {b : State} {n : Node} {c : CompletedMarker} {s : State} → Pending b n c s → length s.env.kinds ≡ length b.env.kinds
kinds_same h = ap (λ (e : Env). length e.kinds) h.grown.same

-- a loop is a turn, and then those that are left
many_is : (t : Env → ℕ → Bool) (body : Prog ℕ) {b : State} {n : Node} {c : CompletedMarker} {s : State} → Pending b n c s → s.place ≤ length s.env.kinds
    → outcome (many t body) b n ≡ wind (suc (turns_left b n)) (tested t b) (outcome (around body) b) n
unfolding precede
many_is t body {b} {n} h le = ap (λ (k : ℕ). wind k (tested t b) (outcome (around body) b) n) more
  where
    more : turns b.env (b.place + wide_node n) ≡ suc (turns_left b n)
    more = omega (arith, kinds_same h, h.grown.place)

many_true : (t : Env → ℕ → Bool) (body : Prog ℕ) {b : State} {n : Node} {c : CompletedMarker} {s : State} → Pending b n c s → t s.env s.place ≡ true → s.place ≤ length s.env.kinds
    → outcome (many t body) b n ≡ on_node (outcome (around body) b n) (λ _. wind (turns_left b n) (tested t b) (outcome (around body) b))
many_true t body {b} {n} h e le = many_is t body h le ∙ wind_go (turns_left b n) (tested t b) (outcome (around body) b) n (test_is t h ∙ e)

-- a turn that moves on leaves turns enough
many_same : (t : Env → ℕ → Bool) (body : Prog ℕ) {b : State} {n m : Node} {c d : CompletedMarker} {s u : State} (k : ℕ) → Pending b n c s → Pending b m d u
    → t s.env s.place ≡ true → outcome (around body) b n ≡ ok nil (record { held = m; answer = k }) → s.place < u.place → u.place ≤ length u.env.kinds
    → (outcome (many t body) b m ≡ never → ⊥) → outcome (many t body) b n ≡ outcome (many t body) b m
unfolding on_node precede
many_same t body {b} {n} {m} {s = s} {u} k h i e d lt le finite =
    many_true t body h e (omega (arith, kinds_same h, kinds_same i, le, lt))
    ∙ ap (λ o. on_node o (λ _. wind (turns_left b n) (tested t b) (outcome (around body) b))) d
    ∙ wind_more _ _ (tested t b) (outcome (around body) b) m fewer (settled_ends _ finite)
  where
    fewer : turns b.env (b.place + wide_node m) ≤ turns_left b n
    fewer = omega (arith, kinds_same i, h.grown.place, i.grown.place, le, lt)

finite : {X A : Type 0} {show : X → CompletedMarker × A} {w : Wraps A} {b : State} {n : Node} {t : State} {r : Result X Refusal} → Winds show w b n t r → outcome w b n ≡ never → ⊥
finite (wound m e p) q = ends _ e tt q
finite (unwound rs v e g) q = ends _ e tt q

many_on : (t : Env → ℕ → Bool) (body : Prog ℕ) {b : State} {n : Node} {c d : CompletedMarker} {s u v : State} {r : Result CompletedMarker Refusal}
    → Pending b n c s → t s.env s.place ≡ true → Winds by_kind (around body) b n u (Ok d) → s.place < u.place → u.place ≤ length u.env.kinds
    → Precedes only (many t body) d u v r → Winds only (many t body) b n v r
many_on t body {b} {n} {d = d} h e (wound m o p) lt le k =
    let w = k b m p in winds_as (many t body) (many t body) n m (many_same t body d.kind h p e o lt le (finite w)) w

-- one more node, and then what the rest of the loop comes to
pub many_again : {t : Env → ℕ → Bool} {body : Prog ℕ} {c d : CompletedMarker} {s u v : State} {r : Result CompletedMarker Refusal}
    → t s.env s.place ≡ true → Precedes by_kind (around body) c s u (Ok d) → s.place < u.place → u.place ≤ length u.env.kinds
    → Precedes only (many t body) d u v r → Precedes only (many t body) c s v r
many_again {t} {body} e f lt le k b n h = many_on t body h e (f b n h) lt le k

pub many_end : {t : Env → ℕ → Bool} {body : Prog ℕ} {c : CompletedMarker} {s : State}
    → t s.env s.place ≡ false → s.place ≤ length s.env.kinds → Precedes only (many t body) c s s (Ok c)
many_end {t} {body} e le b n h = wound n (many_is t body h le ∙ wind_stop (turns_left b n) (tested t b) (outcome (around body) b) n (test_is t h ∙ e)) h

many_off : (t : Env → ℕ → Bool) (body : Prog ℕ) {b : State} {n : Node} {c : CompletedMarker} {s u : State} {e : Refusal}
    → Pending b n c s → t s.env s.place ≡ true → s.place ≤ length s.env.kinds → Winds by_kind (around body) b n u (Err e) → Winds only (many t body) b n u (Err e)
unfolding on_node
many_off t body {b} {n} h e le (unwound rs v d g) =
    unwound rs v (many_true t body h e le ∙ rw d refl) g

pub many_fail : {t : Env → ℕ → Bool} {body : Prog ℕ} {c : CompletedMarker} {s u : State} {e : Refusal}
    → t s.env s.place ≡ true → s.place ≤ length s.env.kinds → Precedes by_kind (around body) c s u (Err e) → Precedes only (many t body) c s u (Err e)
many_fail {t} {body} e le f b n h = many_off t body h e le (f b n h)

-- The log ends with the node that a call has given

wound_last : {X A : Type 0} {show : X → CompletedMarker × A} {w : Wraps A} {b : State} {n : Node} {t : State} {x : X} → Winds show w b n t (Ok x) → Last (show x).0 t
wound_last {b = b} (wound m e p) = (b, m, p)

pub last_wound : {X A : Type 0} {show : X → CompletedMarker × A} {w : Wraps A} {c : CompletedMarker} {s t : State} {x : X} → Last c s → Precedes show w c s t (Ok x) → Last (show x).0 t
last_wound l f = wound_last (f l.0 l.1 l.2)
