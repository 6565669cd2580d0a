-- What the log of a reading tells is lawful, whichever calls have led to it. The list of those calls is not known, only that there is one;
-- so the law is first brought into facts that can hold in one way only.
use Rattle.std.proofs.Common.{◌≡◌, ℕ, ◌+◌, ◌≤◌, true, false, List, [], ◌∷◌, map, length, is_some, Some, None, Option, Result, refl, ap, subst, arith}
use mathlib.Core.Bool.{Bool-set}
use mathlib.Core.Logic.{∥∥₁_elim}
use mathlib.Core.HLevel.{×_prop}
use Prim.{IsProp}
use native.Mathlib.Nat.{ℕ_set}
use Rattle.std.proofs.lemmas.Bool.{both_ways}
use Rattle.event_log.specs.declared.item.Item.{Item}
use Rattle.event_log.specs.declared.item.Item.TheVariants.{Enter, Leave, Token, Error}
use Rattle.event_log.specs.declared.parser.Parser.{Parser}
use Rattle.refusals.specs.declared.Refusal.{Refusal}
use Rattle.event_log.specs.Program.{Env}
use Rattle.event_log.specs.Model.{of, env}
use Rattle.event_log.specs.Tell.{tell}
use Rattle.event_log.specs.Spelling.{Spelled, width}
use Rattle.event_log.specs.Balance.{Span, match}
use Rattle.event_log.proofs.Readings.{Stands, stands_tokens, stands_balanced, after_stands}
use Rattle.event_log.proofs.Balancing.{matched_balanced}
use Rattle.event_log.proofs.Spelling.{held_once, held_by_none}
use Rattle.grammar.specs.declared.reading.Reading.{Reading}
use Rattle.grammar.specs.Calls.{Call, program, seen, Leads}
use Rattle.sinks.specs.Sink.{Heard}
use Rattle.sinks.specs.Sink.Tells.{told}
use Rattle.sinks.specs.Walk.{TellsAll, Walks, Lawful, WalkLaw}
use Rattle.sinks.specs.Walk.TellsAll.{all, part}
use Rattle.sinks.specs.Walk.Walks.{walked, no_marks}

-- the tokens spell the raw tokens, up to the place, and the enters and leaves match
abbrev Facts : Env → ℕ → List Item → Type 0
Facts e place items = Spelled e 0 items × ((width items ≡ place) × (is_some (match 0 [] items) ≡ true))

spelled_prop : (e : Env) (is : List Item) (i : ℕ) → IsProp (Spelled e i is)
spelled_prop e [] i = λ u v. refl
spelled_prop e (Enter k ∷ is) i = spelled_prop e is i
spelled_prop e (Leave ∷ is) i = spelled_prop e is i
spelled_prop e (Token k w ∷ is) i = ×_prop (Bool-set _ _) (spelled_prop e is (i + w))
spelled_prop e (Error n k ∷ is) i = spelled_prop e is i

facts_prop : (e : Env) (place : ℕ) (items : List Item) → IsProp (Facts e place items)
facts_prop e place items = ×_prop (spelled_prop e items 0) (×_prop (ℕ_set _ _) (Bool-set _ _))

led_facts : (l : Parser) (cs : List Call) → Leads l cs → Facts (env l) l.place (tell (of l).recs)
led_facts l cs h =
    let s : Stands (env l) (seen l) = subst (Stands (env l)) h (after_stands (env l) (map program cs)) in
    let t = stands_tokens (env l) (seen l) s in
    (t.spelled, (t.up_to, ap is_some (stands_balanced (env l) (seen l) s).matched))

some_of : {A : Type 0} (o : Option A) → is_some o ≡ true → (x : A) × (o ≡ Some x)
some_of None h = absurd (both_ways false refl h)
some_of (Some x) h = (x, refl)

facts_lawful : (e : Env) (place : ℕ) (items : List Item) → place ≤ length e.kinds → Facts e place items → Lawful e place items
facts_lawful e place items inside h =
    let m : (ss : List Span) × (match 0 [] items ≡ Some ss) = some_of (match 0 [] items) h.1.1 in
    record {
      tokens = record {
        spelled = h.0;
        up_to = h.1.0;
        inside = inside;
        once = λ p lt. held_once p items 0 (omega arith) (omega (arith, h.1.0));
        no_more = λ p le. held_by_none p items 0 (omega (arith, h.1.0));
      };
      nodes = matched_balanced items m.0 m.1;
    }

pub lawful : (r : Reading) → Lawful (env r.parser) r.parser.place (tell (of r.parser).recs)
lawful r =
    let e = env r.parser in
    let items = tell (of r.parser).recs in
    facts_lawful e r.parser.place items r.parser.inside (∥∥₁_elim r.reached (facts_prop e r.parser.place items) (λ q. led_facts r.parser q.0 q.1))

tell_law : {size : Item → ℕ} {s t : Heard} {x : Result (Unit {0}) Refusal} (r : Reading) → TellsAll size (of r.parser).recs s t x → WalkLaw r.parser s t x
tell_law r (all (told f i n)) = record { told = tell (of r.parser).recs; more = i; such = lawful r }
tell_law r (part e h p) = tt

pub walk_law : {size : Item → ℕ} {l m : List ℕ} {s t : Heard} {x : Result (Unit {0}) Refusal} (r : Reading) → Walks size (of r.parser).recs l m s t x → WalkLaw r.parser s t x
walk_law r (walked le h a) = tell_law r h
walk_law r (no_marks lt e a b) = tt
