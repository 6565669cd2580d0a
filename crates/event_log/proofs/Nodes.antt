-- What starting, completing, abandoning and preceding a node leave in the log.
use Rattle.std.proofs.Common.{◌≡◌, ℕ, ◌+◌, ◌-◌, ◌<◌, ◌≤◌, Bool, ◌&&◌, List, [], ◌∷◌, ◌++◌, length, take, set, IsErrAnd, Some, None, Ok, Err, Option, Result, sym, refl, ap, ◌∙◌, append_assoc, append-nil, add-zero, arith, length-append, length-set, take_at}
use lib.Seq.{set_at}
use Rattle.std.proofs.lemmas.List.{nil_from_length}
use Rattle.refusals.specs.declared.Refusal.{Refusal}
use Rattle.tokens.specs.Kinds.{TOMBSTONE}
use Rattle.event_log.specs.declared.event.Record.{Record}
use Rattle.event_log.specs.declared.event.Record.TheVariants.{Start, Finish}
use Rattle.event_log.specs.declared.marker.Marker.{Marker}
use Rattle.event_log.specs.declared.marker.CompletedMarker.{CompletedMarker}
use Rattle.event_log.specs.declared.parser.Parser.{Parser}
use Rattle.event_log.specs.Forest.{Node, flat_node, own, kind_of, blank, left_in}
use Rattle.event_log.specs.Model.{State, of, faultless, Grown, Pushes}
use Rattle.event_log.specs.Model.Pushes.{pushed, stuck}
use Rattle.event_log.specs.Marks.{Starts, Inside, Closed, Settled, Finished, Pending, Last, Led}
use Rattle.event_log.specs.Marks.Starts.{started, stuck as not_started}
use Rattle.event_log.specs.Marks.Closed.{closed, unclosed}
use Rattle.event_log.specs.Marks.Settled.{completed, uncompleted, abandoned, passed}
use Rattle.event_log.specs.Marks.Finished.{completed as answered, passed as handed_on}
use Rattle.event_log.specs.Marks.Led.{led, stuck as not_led}
use Rattle.event_log.proofs.Trees.{front, back, flat_node_is, own_is}
use Rattle.event_log.proofs.Growth.{faultless_start, grown_then, grown_as, records}
use Rattle.event_log.proofs.Slots.{counted}

-- One record more

pub no_start : {r : Record} {s t : State} {e : Refusal} → Pushes r s t (Err e) → (x : Result Marker Refusal) → IsErrAnd x (λ f. f ≡ e) → Starts s t x
no_start (stuck h) (Ok m) p = absurd p
no_start (stuck h) (Err f) p = rw p (not_started h)

pub starts : {s t : State} {m : Marker} {x : Unit {0}} → m.at ≡ length s.recs → Pushes blank s t (Ok x) → Starts s t (Ok m)
starts at (pushed lt g) = started at lt g

pub count_pushed : {r : Record} (p q : Parser) {x : Unit {0}} → Pushes r (of p) (of q) (Ok x) → q.count ≡ p.count + 1
count_pushed p q (pushed lt g) = omega (arith, counted p, counted q, records g)

pub count_started : (p q : Parser) {m : Marker} → Starts (of p) (of q) (Ok m) → q.count ≡ p.count + 1
count_started p q (started at lt g) = omega (arith, counted p, counted q, records g)

-- A start that is written over another one

-- only the records are other ones
pub record Beside (s t : State) : Type 0 where
  pub place : t.place ≡ s.place
  pub clean : t.clean ≡ s.clean
  pub same : t.env ≡ s.env
  pub long : t.long ≡ s.long

pub written : {b s : State} {w : ℕ} (pre post : List Record) (j k : ℕ) (p q : Option ℕ) (at : ℕ) (t : State) → Grown b s (pre ++ Start j p ∷ post) w → at ≡ length b.recs + length pre
    → t.recs ≡ set s.recs at (Start k q) → Beside s t → Grown b t (pre ++ Start k q ∷ post) w
written {b} pre post j k p q at t g i e h = record {
  by = e ∙ ap (λ (l : List Record). set l at (Start k q)) (g.by ∙ sym (append_assoc b.recs pre (Start j p ∷ post)))
      ∙ set_at (b.recs ++ pre) (Start j p) post (Start k q) at (length-append b.recs pre ∙ sym i) ∙ append_assoc b.recs pre (Start k q ∷ post);
  place = h.place ∙ g.place;
  clean = h.clean ∙ g.clean ∙ ap (λ (x : Bool). b.clean && x) (faultless_start pre post j k p q);
  same = h.same ∙ g.same;
  long = h.long ∙ g.long;
}

-- The end of a node

pub no_complete : {b s t : State} {rs : List Record} {w k : ℕ} {m : Marker} {e : Refusal} → 0 < k → Pushes Finish s t (Err e) → (r : Result CompletedMarker Refusal) → IsErrAnd r (λ f. f ≡ e)
    → Inside b rs w m s → Closed b rs w k s t r
no_complete nz (stuck h) (Ok c) p i = absurd p
no_complete {rs = rs} nz (stuck h) (Err f) p i = rw p (unclosed (blank ∷ rs) nz h (rw h.still i.grown))

pub completes : {b s t : State} {rs : List Record} {w k : ℕ} {m : Marker} {x : Unit {0}} (u : State) (c : CompletedMarker) → 0 < k → Pushes Finish s t (Ok x) → Inside b rs w m s
    → u.recs ≡ set t.recs m.at (Start k None) → Beside t u
    → c.start ≡ m.at → c.end ≡ length t.recs → c.kind ≡ k → Closed b rs w k s u (Ok c)
completes {rs = rs} {w} {k} {m} u c nz (pushed lt g) i e h at to kind =
    closed nz lt
    (written [] (rs ++ Finish ∷ []) TOMBSTONE k None None m.at u (grown_as refl (add-zero w) (grown_then i.grown g)) (i.at ∙ sym (add-zero _)) e h)
    (at ∙ i.at) (to ∙ sym (ap length e ∙ length-set _ _ _)) kind

-- A node that is abandoned

left_in_some : (rs : List Record) → (length rs ≡ 0 → ⊥) → left_in rs ≡ blank ∷ rs
unfolding left_in
left_in_some [] e = absurd (e refl)
left_in_some (r ∷ rs) e = refl

-- its start was the last record, and is taken back
pub taken_back : {b s : State} {rs : List Record} {w : ℕ} {m : Marker} (t : State) → Inside b rs w m s → length s.recs ≡ m.at + 1
    → t.recs ≡ take m.at s.recs → Beside s t → Grown b t (left_in rs) w
unfolding faultless left_in
taken_back {b} {rs = rs} {m = m} t i n e h = grown_as (sym (ap left_in (nil_from_length rs none))) refl (record {
  by = e ∙ ap (take m.at) i.grown.by ∙ take_at b.recs (blank ∷ rs) m.at (sym i.at) ∙ sym (append-nil _);
  place = h.place ∙ i.grown.place;
  clean = h.clean ∙ i.grown.clean ∙ ap (λ (xs : List Record). b.clean && faultless xs) (nil_from_length rs none);
  same = h.same ∙ i.grown.same;
  long = h.long ∙ i.grown.long;
})
  where
    none : length rs ≡ 0
    none = omega (arith, n, records i.grown, i.at)

pub left_there : {b s : State} {rs : List Record} {w : ℕ} {m : Marker} → Inside b rs w m s → (length s.recs ≡ m.at + 1 → ⊥) → Grown b s (left_in rs) w
left_there {rs = rs} i n = grown_as (sym (left_in_some rs (λ z. n (omega (arith, z, records i.grown, i.at))))) refl i.grown

-- What a body answered decides

pub settles_some : {b s t : State} {rs : List Record} {w k : ℕ} {a : Option ℕ} {r : Result (Option ℕ) Refusal} {c : CompletedMarker} → r ≡ Ok a → a ≡ Some k
    → Closed b rs w k s t (Ok c) → Settled b rs w s t r (Ok (Some c))
settles_some p q h = rw (p, q) (completed h)

pub settles_full : {b s t : State} {rs : List Record} {w k : ℕ} {a : Option ℕ} {r : Result (Option ℕ) Refusal} {e : Refusal} → r ≡ Ok a → a ≡ Some k
    → Closed b rs w k s t (Err e) → (x : Result (Option CompletedMarker) Refusal) → IsErrAnd x (λ f. f ≡ e) → Settled b rs w s t r x
settles_full p q h (Ok c) z = absurd z
settles_full p q h (Err f) z = rw (p, q, z) (uncompleted h)

pub settles_none : {b s t : State} {rs : List Record} {w : ℕ} {a : Option ℕ} {r : Result (Option ℕ) Refusal} → r ≡ Ok a → a ≡ None
    → Grown b t (left_in rs) w → Settled b rs w s t r (Ok None)
settles_none p q h = rw (p, q) (abandoned h)

pub settles_no : {b s t : State} {rs : List Record} {w : ℕ} {r : Result (Option ℕ) Refusal} {e : Refusal} → r ≡ Err e → Grown b t (left_in rs) w → Settled b rs w s t r (Err e)
settles_no {rs = rs} p h = rw p (passed (left_in rs) h)

pub finishes_ok : {A : Type 0} {b s t : State} {rs : List Record} {w k : ℕ} {a : A} {r : Result A Refusal} {x : Result CompletedMarker Refusal} → r ≡ Ok a → Closed b rs w k s t x → Finished b rs w k s t r x
finishes_ok p h = rw p (answered h)

pub finishes_no : {A : Type 0} {b s t : State} {rs : List Record} {w k : ℕ} {r : Result A Refusal} {e : Refusal} → r ≡ Err e → Grown b t (left_in rs) w → Finished b rs w k s t r (Err e)
finishes_no {rs = rs} p h = rw p (handed_on (left_in rs) h)

-- A node that precedes another one

pub no_precede : {b s t : State} {n : Node} {e : Refusal} → Starts s t (Err e) → (r : Result Marker Refusal) → IsErrAnd r (λ f. f ≡ e) → Led b n s t r
no_precede (not_started h) (Ok m) p = absurd p
no_precede (not_started h) (Err f) p = rw p (not_led h)

-- where the node's own start is
own_start : {b s : State} {n : Node} {c : CompletedMarker} → Pending b n c s → c.start ≡ length b.recs + length (front n)
own_start {n = n} h = omega (arith, h.start, records h.grown, own_is n, ap length (flat_node_is n None), length-append (front n) (Start (kind_of n) None ∷ back n))

pub start_below : {c : CompletedMarker} {s : State} → Last c s → c.start < length s.recs
start_below l = omega (arith, l.2.start, own_is l.1)

pub below : {c : CompletedMarker} {s t : State} {m : Marker} → Last c s → Starts s t (Ok m) → c.start ≤ m.at
below l (started at lt g) = omega (arith, start_below l, at)

around_start : (n : Node) (p : Option ℕ) → flat_node n p ++ blank ∷ [] ≡ front n ++ Start (kind_of n) p ∷ (back n ++ blank ∷ [])
around_start n p = ap (λ (l : List Record). l ++ blank ∷ []) (flat_node_is n p) ∙ append_assoc (front n) _ _

pub precedes : {b s t : State} {n : Node} {c : CompletedMarker} {m : Marker} (u : State) → Pending b n c s → Starts s t (Ok m)
    → u.recs ≡ set t.recs c.start (Start c.kind (Some (m.at - c.start))) → Beside t u → Led b n s u (Ok m)
precedes {n = n} {c} {m} u h (started at lt g) e p =
    led at lt (grown_as (ap (λ (r : Record). front n ++ r ∷ (back n ++ blank ∷ [])) start ∙ sym (around_start n (Some (own n)))) refl
    (written (front n) (back n ++ blank ∷ []) (kind_of n) c.kind None (Some (m.at - c.start)) c.start u
    (grown_as (around_start n None) (add-zero _) (grown_then h.grown g)) (own_start h) e p))
  where
    far : m.at - c.start ≡ own n
    far = omega (arith, at, h.start)

    start : Start c.kind (Some (m.at - c.start)) ≡ Start (kind_of n) (Some (own n))
    start = λ j. Start (h.kind j) (Some (far j))
