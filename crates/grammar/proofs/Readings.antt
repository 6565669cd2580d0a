-- A reading from call to call: that some list of calls has led to it.
use Rattle.std.proofs.Common.{◌≡◌, ℕ, List, [], ◌∷◌, ◌++◌, map, length, take, None, Result, sym, refl, ap, ◌∙◌, take_at}
use Rattle.std.proofs.lemmas.List.{length-replicate, map-append}
use mathlib.Core.Logic.{∥∥₁_map}
use Rattle.event_log.specs.declared.event.Record.{Record}
use Rattle.event_log.specs.declared.parser.Parser.{Parser}
use Rattle.event_log.specs.declared.records.Log.{Log}
use Rattle.event_log.specs.declared.records.Taken.{Taken}
use Rattle.tokens.specs.declared.input.Input.{Input}
use Rattle.tokens.specs.declared.rows.Row.{Row}
use Rattle.refusals.specs.declared.Refusal.{Refusal}
use Rattle.event_log.specs.Program.{Env, Prog, Out, run}
use Rattle.event_log.specs.Program.Out.{ok, no}
use Rattle.event_log.specs.Forest.{blank}
use Rattle.event_log.specs.Sound.{Few, Short}
use Rattle.event_log.specs.Model.{of, env, BlankLog, Resumes, New, NewWithRows, Holds, Performs}
use Rattle.grammar.specs.Verdict.{verdict}
use Rattle.grammar.proofs.Verdicts.{few_tokens, few_records}
use Rattle.event_log.specs.Model.Performs.{performed, refused}
use Rattle.event_log.specs.Reading.{Call as program_call, Reading, begun, kept, called, after}
use Rattle.event_log.specs.Reading.Call.{call}
use Rattle.grammar.specs.Calls.{Call, program, seen, Leads, Reached}

-- A log before the first token, that a parser goes on with

pub new_by : {i : Input} {n : ℕ} {l : Log} {p : Parser} → BlankLog i [] n l → Resumes l p → New i n p
new_by b r = record { log = r.log ∙ b.log; count = r.count ∙ b.count; place = r.place ∙ b.place; clean = r.clean ∙ b.clean; same = r.same ∙ b.same }

pub new_with_rows_by : {i : Input} {rows : List Row} {n : ℕ} {l : Log} {p : Parser} → BlankLog i rows n l → Resumes l p → NewWithRows i rows n p
new_with_rows_by b r = record { log = r.log ∙ b.log; count = r.count ∙ b.count; place = r.place ∙ b.place; clean = r.clean ∙ b.clean; same = r.same ∙ b.same }

-- columns that are not refused are few, and so are the records
pub few_of : {i : Input} {rows : List Row} {n : ℕ} {l : Log} → BlankLog i rows n l → verdict i n ≡ None → Few l.input.kinds.now × Short l.records.now
few_of {i} {rows} {n} b v =
    (rw (ap (λ (e : Env). length e.kinds) b.same) (few_tokens i n v), rw (ap length b.log ∙ length-replicate n blank) (few_records i n v))

-- No calls lead to a parser that nothing was recorded in yet.
pub reached_none : (l : Parser) → l.count ≡ 0 → l.place ≡ 0 → Reached l
unfolding after
reached_none l c p = ∣ ([], (λ j. record { log = take (sym c j) l.records.now; place = sym p j })) ∣₁

-- one call more
after_more : (e : Env) (ms : List program_call) (m : program_call) (r : Reading) → after e (ms ++ m ∷ []) r ≡ called e m (after e ms r)
unfolding after
after_more e [] m r = refl
after_more e (n ∷ ms) m r = after_more e ms m (called e n r)

-- what a parser holds, it is seen to hold
holds_seen : {l m : Parser} {rs : List Record} {i : ℕ} → Holds l m rs i → seen m ≡ record { log = rs; place = i }
holds_seen {l} {m} {rs} h = λ j. record { log = recs j; place = h.place j }
  where
    recs : take m.count m.records.now ≡ rs
    recs = ap (take m.count) h.log ∙ take_at rs _ m.count (sym h.count)

-- The calls that led to a parser, and one more, lead to what that one leaves.
leads_more : {A : Type 0} (p : Prog A) (c : Call) → program c ≡ call p → (l m : Parser) (o : Out A) → run p (env l) (length (of l).recs) l.place ≡ o
    → env m ≡ env l → seen m ≡ kept (seen l) o → (cs : List Call) → Leads l cs → Leads m (cs ++ c ∷ [])
leads_more p c runs l m o e same k cs h =
    (λ j. after (same j) (map program (cs ++ c ∷ [])) begun) ∙ ap (λ ms. after (env l) ms begun) (map-append program cs (c ∷ []))
    ∙ after_more (env l) (map program cs) (program c) begun ∙ ap (called (env l) (program c)) h ∙ ap (λ q. called (env l) q (seen l)) runs ∙ ap (kept (seen l)) e ∙ sym k

pub reached_more : {A : Type 0} {p : Prog A} {l m : Parser} {x : Result Taken Refusal} (c : Call) → program c ≡ call p → Performs p l m x → Reached l → Reached m
reached_more {p = p} {l} {m} c runs (performed f a e h t k) r = ∥∥₁_map r (λ q. (q.0 ++ c ∷ [], leads_more p c runs l m (ok f a) e h.same (holds_seen h) q.0 q.1))
reached_more {p = p} {l} {m} c runs (refused {e} n h) r = ∥∥₁_map r (λ q. (q.0 ++ c ∷ [], leads_more p c runs l m (no e) n h.same (holds_seen h) q.0 q.1))
