-- A node: its start, its body, its end, and what then precedes it.
use Rattle.std.proofs.Common.{◌≡◌, ℕ, List, [], ◌∷◌, length, Some, None, Ok, Err, Option, Result, sym, ap, ◌∙◌, append-nil, add-zero, arith, length-append}
use Rattle.std.specs.Result.{result_map_both}
use Rattle.event_log.specs.declared.event.Record.{Record}
use Rattle.event_log.specs.declared.event.Record.TheVariants.{Finish}
use Rattle.refusals.specs.declared.Refusal.{Refusal}
use Rattle.event_log.specs.declared.marker.Marker.{Marker}
use Rattle.event_log.specs.declared.marker.CompletedMarker.{CompletedMarker}
use Rattle.event_log.specs.Forest.{Forest, flat, flats, flat_node, own, kind_of, wide, wides, wide_node}
use Rattle.event_log.specs.Forest.Tree.{whole, gone}
use Rattle.event_log.specs.Forest.Node.{node}
use Rattle.event_log.specs.Forest.Forest.{nil, cons}
use Rattle.event_log.specs.Program.{Prog, Wraps, Out, run, in_forest, ◌>>◌}
use Rattle.event_log.specs.Program.{completed as completed_at, closed as ClosedAt}
use Rattle.event_log.specs.Program.Prog.{give, chain}
use Rattle.event_log.specs.Program.Wraps.{end}
use Rattle.event_log.specs.Program.Out.{ok, no}
use Rattle.event_log.specs.Model.{State, Grown, from, Does}
use Rattle.event_log.specs.Marks.{Starts, Inside, Settled, Finished, let_go, Pending, Last, Winds, Precedes, by_kind}
use Rattle.event_log.specs.Model.Does.{did, refused}
use Rattle.event_log.specs.Marks.Starts.{started, stuck}
use Rattle.event_log.specs.Marks.Closed.{closed, unclosed}
use Rattle.event_log.specs.Marks.Settled.{completed, uncompleted, abandoned, passed}
use Rattle.event_log.specs.Marks.Finished.{completed as finished_so, passed as passed_on}
use Rattle.event_log.specs.Marks.Winds.{wound, refused as unwound}
use Rattle.event_log.specs.Steps.{start, node as node_of, complete}
use Rattle.event_log.proofs.Due.{due_ok, due_no, completed_due}
use Rattle.event_log.proofs.Growth.{still, grown_as, records}
use Rattle.event_log.proofs.Kit.{full_no, inside, begun, ended, refuses, gives, then, fails, answers, then_gives}
use Rattle.event_log.proofs.Wraps.{outcome, wraps_end}

-- no node could be started
pub no_chain : {A : Type 0} {body : Prog (Option ℕ)} {w : ℕ → Wraps A} {s t : State} {e : Refusal} → Starts s t (Err e) → Does (chain body w) s t (Err e)
unfolding run
no_chain {s = s} (stuck h) = refused [] 0 (due_no _ _ _ _ h.full ∙ full_no h) (rw h.still (still s))

-- Where a chain has come to once its node was settled: the node is completed, and what precedes it is to follow; it was abandoned; or a refusal was handed on.
pub data Chained {A : Type 0} (body : Prog (Option ℕ)) (w : ℕ → Wraps A) (s t : State) : Result (Option CompletedMarker) Refusal → Type 0 where
  held : {c : CompletedMarker} (k : ℕ) (f : Forest) → from (chain body w) s ≡ in_forest (outcome (w k) s (node k f)) → Pending s (node k f) c t → c.kind ≡ k
      → Chained body w s t (Ok (Some c))
  left : (f : Forest) → from (chain body w) s ≡ ok f None → Grown s t (flats f) (wides f) → Chained body w s t (Ok None)
  failed : {e : Refusal} (rs : List Record) (v : ℕ) → from (chain body w) s ≡ no e → Grown s t rs v → Chained body w s t (Err e)

abbrev closed_since : {A : Type 0} → (ℕ → Wraps A) → State → Out (Option ℕ) → Out (Option A)
closed_since w s o = ClosedAt s.env (length s.recs) s.place o (λ k. outcome (w k) s)

-- what a chain comes to where there is room for its start
chain_is : {A : Type 0} (body : Prog (Option ℕ)) (w : ℕ → Wraps A) {s t : State} {m : Marker} → Starts s t (Ok m) → from (chain body w) s ≡ closed_since w s (from body t)
unfolding run
chain_is body w {s} (started at lt g) = due_ok _ _ _ _ lt ∙ ap (closed_since w s) (begun (run body) g)

-- and where its body has answered with a kind
closed_is : {A : Type 0} (body : Prog (Option ℕ)) (w : ℕ → Wraps A) {s t u : State} {m : Marker} {k : ℕ} (f : Forest)
    → Starts s t (Ok m) → from body t ≡ ok f (Some k) → Inside s (flats f) (wides f) m u
    → from (chain body w) s ≡ completed_at u.env k (length u.recs) u.place (in_forest (outcome (w k) s (node k f)))
unfolding ClosedAt
closed_is body w {s} {k = k} f st e i =
    chain_is body w st ∙ ap (closed_since w s) e ∙ ended f (λ e c i. completed_at e k c i (in_forest (outcome (w k) s (node k f)))) i.grown

-- the body has answered
settled : {A : Type 0} (body : Prog (Option ℕ)) (w : ℕ → Wraps A) {s t u v : State} {m : Marker} {a : Option ℕ} {x : Result (Option CompletedMarker) Refusal} (f : Forest)
    → Starts s t (Ok m) → from body t ≡ ok f a → Inside s (flats f) (wides f) m u → Settled s (flats f) (wides f) u v (Ok a) x → Chained body w s v x
unfolding ClosedAt flats wides flat wide flat_node wide_node own kind_of
settled body w {s} f st e i (completed {k = k} (closed nz lt g at to kind)) =
    held k f
    (closed_is body w f st e i ∙ completed_due _ k _ _ _ nz ∙ due_ok _ _ _ _ lt)
    (record { grown = g; start = omega (arith, at, records g, length-append (flats f) (Finish ∷ [])); end = to; kind = kind })
    kind
settled body w {s} f st e i (uncompleted {k = k} (unclosed more nz why g)) =
    failed more _ (closed_is body w f st e i ∙ refuses _ nz why) g
settled body w {s} f st e i (abandoned g) =
    left (cons (gone f) nil) (chain_is body w st ∙ ap (closed_since w s) e) (grown_as (sym (append-nil _)) (sym (add-zero _)) g)

-- the body has refused
passes : {A : Type 0} (body : Prog (Option ℕ)) (w : ℕ → Wraps A) {s t u v : State} {m : Marker} {e : Refusal} {x : Result (Option CompletedMarker) Refusal} {rs : List Record} {n : ℕ}
    → Starts s t (Ok m) → from body t ≡ no e → Settled s rs n u v (Err e) x → Chained body w s v x
unfolding ClosedAt
passes body w {s} {n = n} st e (passed more g) = failed more n (chain_is body w st ∙ ap (closed_since w s) e) g

-- The body of a node, between its start and where its answer settles it
pub settles : {A : Type 0} {body : Prog (Option ℕ)} {w : ℕ → Wraps A} {s t u v : State} {m : Marker} {r : Result (Option ℕ) Refusal} {x : Result (Option CompletedMarker) Refusal}
    → Starts s t (Ok m) → Does body t u r → ((b : State) (rs : List Record) (n : ℕ) → Inside b rs n m u → Settled b rs n u v r x) → Chained body w s v x
settles {body = body} {w} {s} st (did f e g) h = let i = inside st g in settled body w f st e i (h s (flats f) (wides f) i)
settles {body = body} {w} {s} st (refused rs n e g) h = passes body w st e (h s rs n (inside st g))

abbrev pub some_of : Result CompletedMarker Refusal → Result (Option CompletedMarker) Refusal
some_of = result_map_both Some (λ e. e)

as_settled : {A : Type 0} {b : State} {rs : List Record} {w k : ℕ} {s t : State} {r : Result A Refusal} {x : Result CompletedMarker Refusal}
    → Finished b rs w k s t r x → Settled b rs w s t (answers (Some k) r) (some_of x)
as_settled (finished_so (closed nz lt g at to kind)) = completed (closed nz lt g at to kind)
as_settled (finished_so (unclosed more nz why g)) = uncompleted (unclosed more nz why g)
as_settled (passed_on more g) = passed more g

-- The same for a node that is finished with this kind
pub finishes : {A B : Type 0} {m : Prog B} {k : ℕ} {w : ℕ → Wraps A} {s t u v : State} {a : Marker} {r : Result B Refusal} {x : Result CompletedMarker Refusal}
    → Starts s t (Ok a) → Does m t u r → ((b : State) (rs : List Record) (n : ℕ) → Inside b rs n a u → Finished b rs n k u v r x) → Chained (m >> give (Some k)) w s v (some_of x)
finishes st d h = settles st (then_gives d) (λ b rs n i. as_settled (h b rs n i))

-- in the arms of a match on what was settled
pub held_some : {A : Type 0} {body : Prog (Option ℕ)} {w : ℕ → Wraps A} {s t : State} {o : Option CompletedMarker} {c : CompletedMarker} → o ≡ Some c → Chained body w s t (Ok o) → Chained body w s t (Ok (Some c))
held_some e h = rw e at h

pub held_none : {A : Type 0} {body : Prog (Option ℕ)} {w : ℕ → Wraps A} {s t : State} {o : Option CompletedMarker} → o ≡ None → Chained body w s t (Ok o) → Chained body w s t (Ok None)
held_none e h = rw e at h

-- the log ends with the node that was completed
held_last : {A : Type 0} {body : Prog (Option ℕ)} {w : ℕ → Wraps A} {s t : State} {c : CompletedMarker} → Chained body w s t (Ok (Some c)) → Last c t
held_last {s = s} (held k f e p q) = (s, node k f, p)

pub settled_last : {body : Prog (Option ℕ)} {s t u v : State} {m : Marker} {r : Result (Option ℕ) Refusal} {o : Option CompletedMarker} {c : CompletedMarker}
    → o ≡ Some c → Starts s t (Ok m) → Does body t u r → ((b : State) (rs : List Record) (n : ℕ) → Inside b rs n m u → Settled b rs n u v r (Ok o)) → Last c v
settled_last e st d h = held_last {w = λ _. end (tt {0})} (held_some e (settles st d h))

pub finished_last : {A : Type 0} {m : Prog A} {k : ℕ} {s t u v : State} {a : Marker} {r : Result A Refusal} {c : CompletedMarker}
    → Starts s t (Ok a) → Does m t u r → ((b : State) (rs : List Record) (n : ℕ) → Inside b rs n a u → Finished b rs n k u v r (Ok c)) → Last c v
finished_last st d h = held_last {w = λ _. end (tt {0})} (finishes st d h)

-- What precedes it, and the whole

by_its_kind : {A : Type 0} (w : ℕ → Wraps A) (s : State) (c : CompletedMarker) (k : ℕ) (f : Forest) → c.kind ≡ k → in_forest (outcome (w k) s (node k f)) ≡ in_forest (outcome (w c.kind) s (node k f))
by_its_kind w s c k f q = ap (λ (j : ℕ). in_forest (outcome (w j) s (node k f))) (sym q)

wound_whole : {Y A : Type 0} {show : Y → CompletedMarker × A} {body : Prog (Option ℕ)} {w : ℕ → Wraps A} {v : Wraps A} {s u : State} {k : ℕ} {f : Forest} {y : Y}
    → from (chain body w) s ≡ in_forest (outcome v s (node k f)) → Winds show v s (node k f) u (Ok y) → Does (chain body w) s u (Ok (Some (show y).1))
unfolding in_forest flats wides flat wide
wound_whole e (wound m d p) = did (cons (whole m) nil) (e ∙ ap in_forest d) (grown_as (sym (append-nil _)) (sym (add-zero _)) p.grown)

wound_no : {Y A : Type 0} {show : Y → CompletedMarker × A} {body : Prog (Option ℕ)} {w : ℕ → Wraps A} {v : Wraps A} {s u : State} {k : ℕ} {f : Forest} {e : Refusal}
    → from (chain body w) s ≡ in_forest (outcome v s (node k f)) → Winds show v s (node k f) u (Err e) → Does (chain body w) s u (Err e)
unfolding in_forest
wound_no e (unwound rs n d g) = refused rs n (e ∙ ap in_forest d) g

pub chains : {Y A : Type 0} {show : Y → CompletedMarker × A} {body : Prog (Option ℕ)} {w : ℕ → Wraps A} {s t u : State} {c : CompletedMarker} {y : Y}
    → Chained body w s t (Ok (Some c)) → Precedes show (w c.kind) c t u (Ok y) → Does (chain body w) s u (Ok (Some (show y).1))
chains {w = w} {s} {c = c} (held k f e p q) h = wound_whole (e ∙ by_its_kind w s c k f q) (h s (node k f) p)

pub chains_fail : {Y A : Type 0} {show : Y → CompletedMarker × A} {body : Prog (Option ℕ)} {w : ℕ → Wraps A} {s t u : State} {c : CompletedMarker} {e : Refusal}
    → Chained body w s t (Ok (Some c)) → Precedes show (w c.kind) c t u (Err e) → Does (chain body w) s u (Err e)
chains_fail {w = w} {s} {c = c} (held k f e p q) h = wound_no (e ∙ by_its_kind w s c k f q) (h s (node k f) p)

-- nothing precedes it
pub chains_alone : {body : Prog (Option ℕ)} {s t : State} {c : CompletedMarker} → Chained body end s t (Ok (Some c)) → Does (start body) s t (Ok (Some c.kind))
chains_alone {c = c} h = chains h (wraps_end by_kind c)

-- it was abandoned
pub chains_none : {A : Type 0} {body : Prog (Option ℕ)} {w : ℕ → Wraps A} {s t : State} → Chained body w s t (Ok None) → Does (chain body w) s t (Ok None)
chains_none (left f e g) = did f e g

-- a refusal was handed on
pub chains_no : {A : Type 0} {body : Prog (Option ℕ)} {w : ℕ → Wraps A} {s t : State} {e : Refusal} → Chained body w s t (Err e) → Does (chain body w) s t (Err e)
chains_no (failed rs v e g) = refused rs v e g

-- the same, of a node that nothing precedes
pub starts_none : {body : Prog (Option ℕ)} {s t : State} → Chained body end s t (Ok None) → Does (start body) s t (Ok None)
starts_none h = chains_none h

pub starts_no : {body : Prog (Option ℕ)} {s t : State} {e : Refusal} → Chained body end s t (Err e) → Does (start body) s t (Err e)
starts_no h = chains_no h

pub no_start : {body : Prog (Option ℕ)} {s t : State} {e : Refusal} → Starts s t (Err e) → Does (start body) s t (Err e)
no_start h = no_chain h

-- The whole of a function that makes a node whose kind its body picked, which nothing precedes

pub no_node : {body : Prog (Option ℕ)} {s t : State} {e : Refusal} → Starts s t (Err e) → Does (node_of body) s t (Err e)
no_node h = fails (no_start h)

pub node_no : {body : Prog (Option ℕ)} {s t : State} {e : Refusal} → Chained body end s t (Err e) → Does (node_of body) s t (Err e)
node_no h = fails (starts_no h)

pub settled_whole : {body : Prog (Option ℕ)} {s t : State} {o : Option CompletedMarker} → Chained body end s t (Ok o) → Does (node_of body) s t (Ok tt)
settled_whole {o = Some c} h = then (chains_alone h) gives
settled_whole {o = None} h = then (starts_none h) gives

-- The whole of a function that makes a node of one kind, which nothing precedes

pub no_complete : {A : Type 0} {m : Prog A} {k : ℕ} {s t : State} {e : Refusal} → Starts s t (Err e) → Does (complete k m) s t (Err e)
no_complete h = no_node h

closed_up : {body : Prog (Option ℕ)} {s t : State} (y : Result CompletedMarker Refusal) → Chained body end s t (some_of y) → Does (node_of body) s t (let_go y)
closed_up (Ok c) h = settled_whole h
closed_up (Err e) h = node_no h

closes_by : {body : Prog (Option ℕ)} {s t u v : State} {m : Marker} {r : Result (Option ℕ) Refusal} {x : Result (Unit {0}) Refusal}
    → Starts s t (Ok m) → Does body t u r
    → ((b : State) (rs : List Record) (n : ℕ) → Inside b rs n m u → (y : Result CompletedMarker Refusal) × Settled b rs n u v r (some_of y) × (x ≡ let_go y))
    → Does (node_of body) s v x
closes_by {body} {s} st (did f e g) h =
    let i = inside st g in
    let q = h s (flats f) (wides f) i in
    rw q.2 (closed_up q.0 (settled body end f st e i q.1))
closes_by {body} {s} st (refused rs n e g) h =
    let q = h s rs n (inside st g) in
    rw q.2 (closed_up q.0 (passes body end st e q.1))

pub closes : {A : Type 0} {m : Prog A} {k : ℕ} {s t u v : State} {a : Marker} {r : Result A Refusal} {x : Result (Unit {0}) Refusal}
    → Starts s t (Ok a) → Does m t u r
    → ((b : State) (rs : List Record) (n : ℕ) → Inside b rs n a u → (y : Result CompletedMarker Refusal) × Finished b rs n k u v r y × (x ≡ let_go y))
    → Does (complete k m) s v x
closes st d h = closes_by st (then_gives d) (λ b rs n i. let q = h b rs n i in (q.0, as_settled q.1, q.2))
