-- How a log grows: its records, its place, and whether it is clean.
use Rattle.std.proofs.Common.{◌≡◌, ℕ, ◌+◌, Bool, true, ◌&&◌, List, [], ◌∷◌, ◌++◌, length, Option, sym, refl, ap, ◌∙◌, append_assoc, append-nil, add-zero, add_assoc, length-append}
use Rattle.std.proofs.Math.Bool.{and-true, and_assoc}
use Rattle.event_log.specs.declared.event.Record.{Record}
use Rattle.event_log.specs.declared.event.Record.TheVariants.{Start, Finish, Token, Error}
use Rattle.event_log.specs.Program.{Env}
use Rattle.event_log.specs.Model.{State, faultless, Grown}

-- Clean

pub faultless_append : (xs ys : List Record) → faultless (xs ++ ys) ≡ (faultless xs && faultless ys)
unfolding faultless
faultless_append [] ys = refl
faultless_append (Start k fp ∷ xs) ys = faultless_append xs ys
faultless_append (Finish ∷ xs) ys = faultless_append xs ys
faultless_append (Token k w ∷ xs) ys = faultless_append xs ys
faultless_append (Error n k ∷ xs) ys = refl

-- a record that is no error
pub faultless_one : (r : Record) → ((n k : ℕ) → r ≡ Error n k → ⊥) → faultless (r ∷ []) ≡ true
unfolding faultless
faultless_one (Start k fp) h = refl
faultless_one Finish h = refl
faultless_one (Token k w) h = refl
faultless_one (Error n k) h = absurd (h n k refl)

-- a start is no error, whatever it says
pub faultless_start : (xs ys : List Record) (j k : ℕ) (p q : Option ℕ) → faultless (xs ++ Start j p ∷ ys) ≡ faultless (xs ++ Start k q ∷ ys)
unfolding faultless
faultless_start xs ys j k p q = faultless_append xs (Start j p ∷ ys) ∙ sym (faultless_append xs (Start k q ∷ ys))

-- Growth

pub still : (s : State) → Grown s s [] 0
unfolding faultless
still s = record { by = sym (append-nil _); place = sym (add-zero _); clean = sym (and-true s.clean); same = refl; long = refl }

pub grown_then : {s t u : State} {a b : List Record} {v w : ℕ} → Grown s t a v → Grown t u b w → Grown s u (a ++ b) (v + w)
grown_then {s} {a = a} {b} {v} {w} g h = record {
  by = h.by ∙ ap (λ (rs : List Record). rs ++ b) g.by ∙ append_assoc _ a b;
  place = h.place ∙ ap (λ (n : ℕ). n + w) g.place ∙ add_assoc _ v w;
  clean = h.clean ∙ ap (λ (x : Bool). x && faultless b) g.clean ∙ and_assoc s.clean (faultless a) (faultless b)
      ∙ ap (λ (x : Bool). s.clean && x) (sym (faultless_append a b));
  same = h.same ∙ g.same;
  long = h.long ∙ g.long;
}

-- the same by other names
pub grown_as : {s t : State} {a b : List Record} {v w : ℕ} → a ≡ b → v ≡ w → Grown s t a v → Grown s t b w
grown_as p q g = rw (← p, ← q) g

pub records : {s t : State} {rs : List Record} {w : ℕ} → Grown s t rs w → length t.recs ≡ length s.recs + length rs
records {s} {rs = rs} g = ap length g.by ∙ length-append s.recs rs

-- What goes by the environment, the number of records and the place goes by where the log has come to.
pub there : {X : Type 0} {s t : State} {rs : List Record} {w : ℕ} (P : Env → ℕ → ℕ → X) → Grown s t rs w
    → P t.env (length t.recs) t.place ≡ P s.env (length s.recs + length rs) (s.place + w)
there P g = λ j. P (g.same j) (records g j) (g.place j)
