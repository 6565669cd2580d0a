-- A whole call: it begins, does what its program comes to, and is concluded.
use Rattle.std.proofs.Common.{◌≡◌, ℕ, ◌+◌, ◌-◌, ◌&&◌, List, ◌++◌, length, take, replicate, Result, sym, ap, ◌∙◌, arith, length-append, take-append-drop, take_at}
use Rattle.std.proofs.lemmas.List.{take-take}
use Rattle.event_log.specs.declared.event.Record.{Record}
use Rattle.event_log.specs.declared.parser.Parser.{Parser}
use Rattle.event_log.specs.declared.records.Taken.{Taken}
use Rattle.event_log.specs.declared.records.Checkpoint.{Checkpoint}
use Rattle.refusals.specs.declared.Refusal.{Refusal}
use Rattle.event_log.specs.Forest.{blank}
use Rattle.event_log.specs.Program.{Prog}
use Rattle.event_log.specs.Model.{State, of, env, filled, faultless, Grown, from, Does, Holds, Begins, Since, Concludes, Performs}
use Rattle.event_log.specs.Model.Does.{did, refused}
use Rattle.event_log.specs.Model.Concludes.{accepted, taken_back}
use Rattle.event_log.specs.Model.Performs.{performed, refused as not_performed}
use Rattle.event_log.proofs.Slots.{counted, blanks_are}

-- The records that a log holds, whole
whole_is : (l : Parser) → l.records.now ≡ filled (of l).recs (length l.records.now)
whole_is l =
    sym (take-append-drop l.count l.records.now) ∙ ap (λ (xs : List Record). (of l).recs ++ xs) (blanks_are l.records.now l.count l.blanks)
    ∙ ap (λ (n : ℕ). (of l).recs ++ replicate (length l.records.now - n) blank) (sym (counted l))

-- A log that has grown since a call began.
module _ {l k : Parser} (q : Parser) {c : Checkpoint} {rs : List Record} {w : ℕ} (b : Begins l k c) (g : Grown (of k) (of q) rs w) where
  grown_place : q.place ≡ l.place + w
  grown_place = g.place ∙ ap (λ (s : State). s.place + w) b.seen

  grown_recs : (of q).recs ≡ (of l).recs ++ rs
  grown_recs = g.by ∙ ap (λ (s : State). s.recs ++ rs) b.seen

  grown_count : q.count ≡ l.count + length rs
  grown_count = sym (counted q) ∙ ap length grown_recs ∙ length-append (of l).recs rs ∙ ap (λ (n : ℕ). n + length rs) (counted l)

  grown_long : length q.records.now ≡ length l.records.now
  grown_long = g.long ∙ ap (λ (s : State). s.long) b.seen

  grown_same : env q ≡ env l
  grown_same = g.same ∙ ap (λ (s : State). s.env) b.seen

  grown_clean : q.clean ≡ faultless rs
  grown_clean = g.clean ∙ ap (λ (s : State). s.clean && faultless rs) b.seen

  since_grown : Since c q
  since_grown = record { place = omega (arith, b.place, grown_place); count = omega (arith, b.count, grown_count) }

  -- where it is kept
  grown_holds : Holds l q ((of l).recs ++ rs) (l.place + w)
  grown_holds = record {
    log = whole_is q ∙ (λ j. filled (grown_recs j) (grown_long j));
    count = sym (counted q) ∙ ap length grown_recs;
    place = grown_place;
    same = grown_same;
  }

  -- what stood before is still there
  still_there : take c.count q.records.now ≡ (of l).recs
  still_there =
      sym (take-take c.count q.count q.records.now (omega (arith, b.count, grown_count)))
      ∙ ap (take c.count) grown_recs ∙ take_at (of l).recs rs c.count (counted l ∙ sym b.count)

  -- where it is put back
  back_holds : {m : Parser} → Holds q m (take c.count q.records.now) c.place → Holds l m (of l).recs l.place
  back_holds h = record {
    log = h.log ∙ (λ j. filled (still_there j) (grown_long j));
    count = h.count ∙ ap length still_there;
    place = h.place ∙ b.place;
    same = h.same ∙ grown_same;
  }

-- what a program comes to where the call began
begun_there : {A : Type 0} (m : Prog A) {l k : Parser} {c : Checkpoint} → Begins l k c → from m (of k) ≡ from m (of l)
begun_there m b = ap (λ (s : State). from m s) b.seen

pub since : {A : Type 0} {m : Prog A} {l k q : Parser} {c : Checkpoint} {r : Result A Refusal} → Begins l k c → Does m (of k) (of q) r → Since c q
since {A} {m} {l} {k} {q} {c} b d = go d
  where
    go : {r : Result A Refusal} → Does m (of k) (of q) r → Since c q
    go (did f e g) = since_grown q b g
    go (refused rs w e g) = since_grown q b g

pub performs : {m : Prog (Unit {0})} {l k q n : Parser} {c : Checkpoint} {r : Result (Unit {0}) Refusal} {x : Result Taken Refusal}
    → Begins l k c → Does m (of k) (of q) r → Concludes c q n r x → Performs m l n x
performs {m} {l} {k} {q} {n} {c} b d e = go d e
  where
    go : {r : Result (Unit {0}) Refusal} {x : Result Taken Refusal} → Does m (of k) (of q) r → Concludes c q n r x → Performs m l n x
    go (did {a} f e g) (accepted same tokens clean) =
        performed f a (sym (begun_there m b) ∙ e) (rw same (grown_holds q b g))
        (tokens ∙ omega (arith, grown_place q b g, b.place)) (clean ∙ grown_clean q b g)
    go (refused rs w e g) (taken_back h) = not_performed (sym (begun_there m b) ∙ e) (back_holds q b g h)
