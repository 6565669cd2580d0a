-- Tokens that are taken one by one, up to the last.
use Rattle.std.proofs.Common.{◌≡◌, ℕ, Bool, true, false, cond, eqb, ltb, length, IsErrAnd, Ok, Err, Result, sym, refl, ap, ◌∙◌, arith}
use Rattle.std.proofs.lemmas.Bool.{eqb-true, eqb-false}
use Rattle.event_log.specs.declared.parser.Parser.{Parser}
use Rattle.event_log.specs.declared.records.Taken.{Taken}
use Rattle.refusals.specs.declared.Refusal.{Refusal}
use Rattle.tokens.specs.Kinds.{EOF}
use Rattle.refusals.specs.declared.Refusal.TheVariants.{LogFull}
use Rattle.event_log.specs.Forest.{Forest, wide, wides}
use Rattle.event_log.specs.Forest.Tree.{token}
use Rattle.event_log.specs.Forest.Forest.{nil, cons}
use Rattle.event_log.specs.Program.{Env, Out, kind_at, record_due, run}
use Rattle.event_log.specs.Program.Prog.{give, take}
use Rattle.event_log.specs.Program.Out.{ok, no}
use Rattle.event_log.specs.Steps.{bump_any}
use Rattle.event_log.specs.Model.{of, env, Performs}
use Rattle.event_log.specs.Model.Performs.{performed, refused}
use Rattle.event_log.proofs.Ahead.{spells_raw}
use Rattle.reader.specs.List.{AllTaken, TakesAll}
use Rattle.reader.specs.List.TakesAll.{stuck}

-- What comes of the next token: at the end nothing, and before it one token, or the log is full.
data Bumped (e : Env) (i : ℕ) : Out (Unit {0}) → Type 0 where
  at_end : {a : Unit {0}} → kind_at e i ≡ EOF → Bumped e i (ok nil a)
  one : {a : Unit {0}} (k : ℕ) → Bumped e i (ok (cons (token k 1) nil) a)
  full : Bumped e i (no (LogFull i))

bumped : (e : Env) (c i : ℕ) → Bumped e i (run bump_any e c i)
unfolding run record_due
bumped e c i = go (eqb (kind_at e i) EOF) refl
  where
    due : (b : Bool) → Bumped e i (elim b [ true ↦ ok (cons (token (kind_at e i) 1) nil) (tt {0}) | false ↦ no (LogFull i) ])
    due true = one (kind_at e i)
    due false = full

    go : (b : Bool) → eqb (kind_at e i) EOF ≡ b → Bumped e i (run (cond b (give tt) (take (kind_at e i) 1)) e c i)
    go true h = at_end (eqb-true _ _ h)
    go false h = rw (spells_raw e i (kind_at e i) (eqb-false _ _ h) refl) (due (ltb c e.room))

-- one that takes no token is at the end
ends : (e : Env) (i : ℕ) (o : Out (Unit {0})) {f : Forest} {a : Unit {0}} → Bumped e i o → o ≡ ok f a → wides f ≡ 0 → kind_at e i ≡ EOF
unfolding wides wide
ends e i o (at_end h) p z = h
ends e i o {f} (one k) p z = absurd (let q : cons (token k 1) nil ≡ f = cc in omega (arith, ap wides q, z))
ends e i o full p z = absurd (let q : ◌≡◌ {A = ℕ} 0 1 = cc in omega arith)

stops : (e : Env) (i : ℕ) (o : Out (Unit {0})) {r : Refusal} → Bumped e i o → o ≡ no r → r ≡ LogFull i
stops e i o (at_end h) p = absurd (let q : ◌≡◌ {A = ℕ} 0 1 = cc in omega arith)
stops e i o (one k) p = absurd (let q : ◌≡◌ {A = ℕ} 0 1 = cc in omega arith)
stops e i o full p = cc

pub ended : {l m : Parser} {t : Taken} → Performs bump_any l m (Ok t) → t.tokens ≡ 0 → AllTaken l m
ended {l} {m} (performed f a e h tokens clean) z = record {
  same = h.same;
  ended = (λ j. kind_at (h.same j) (place j)) ∙ ends (env l) l.place _ (bumped (env l) (length (of l).recs) l.place) e (sym tokens ∙ z);
}
  where
    place : m.place ≡ l.place
    place = h.place ∙ omega (arith, tokens, z)

-- after others
pub after : {k l m : Parser} → env l ≡ env k → AllTaken l m → AllTaken k m
after e h = record { same = h.same ∙ e; ended = h.ended }

-- the exit of a `?`
pub stuck_at : {k l m : Parser} {e : Refusal} → Performs bump_any l m (Err e) → (r : Result (Unit {0}) Refusal) → IsErrAnd r (λ f. f ≡ e) → TakesAll k m r
stuck_at {l = l} (refused h n) (Ok x) p = absurd p
stuck_at {l = l} (refused h n) (Err f) p = stuck l.place (p ∙ stops (env l) l.place _ (bumped (env l) (length (of l).recs) l.place) h)
