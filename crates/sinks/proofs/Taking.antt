-- Items that a sink is told, one after the other.
use Rattle.std.proofs.Common.{◌≡◌, ℕ, ◌+◌, ◌-◌, ◌<◌, ◌≤◌, Bool, cond, List, [], ◌∷◌, ◌++◌, length, IsErrAnd, Ok, Err, Result, sym, refl, ap, ◌∙◌, append_assoc, append-nil, arith, length-append}
use Rattle.std.proofs.lemmas.Bool.{le-leb, lt-leb}
use Rattle.std.proofs.lemmas.Bool.Decides.{nat_tests}
use Rattle.std.proofs.lemmas.Grind.{common_steps}
use Rattle.std.proofs.lemmas.List.Recursion.{is_sum_by}
use Rattle.event_log.specs.declared.item.Item.{Item}
use Rattle.sinks.specs.declared.sink.Full.{Full}
use Rattle.sinks.specs.Sink.{Heard, Takes, fitting, sizes, Tells}
use Rattle.sinks.specs.Sink.Takes.{took, full as too_large}
use Rattle.sinks.specs.Sink.Tells.{told, full}

module _ (size : Item → ℕ) where
  sizes_append : (xs ys : List Item) → sizes size (xs ++ ys) ≡ sizes size xs + sizes size ys
  unfolding sizes
  sizes_append xs ys = grind (arith, common_steps, is_sum_by (sizes size) size refl (λ _ _. refl))

  -- what fits is a front
  fitting_shorter : (xs : List Item) (n : ℕ) → length (fitting size n xs) ≤ length xs
  unfolding fitting
  fitting_shorter [] n = omega arith
  fitting_shorter (x ∷ xs) n = grind (arith, nat_tests, fitting_shorter xs (n - size x))

  -- All of these fit, and then as many of the others as fit into the room that is left.
  fitting_on : (xs ys : List Item) (n : ℕ) → length xs ≤ length (fitting size n xs) → fitting size n (xs ++ ys) ≡ xs ++ fitting size (n - sizes size xs) ys
  unfolding fitting sizes
  fitting_on [] ys n h = ap (λ (k : ℕ). fitting size k ys) (omega arith)
  fitting_on (x ∷ xs) ys n h = grind (arith, nat_tests, fitting_on xs ys (n - size x))

  -- Not all of these fit, whatever comes after them.
  fitting_stops : (xs ys : List Item) (n : ℕ) → length (fitting size n xs) < length xs → fitting size n (xs ++ ys) ≡ fitting size n xs
  unfolding fitting
  fitting_stops [] ys n h = absurd (omega arith)
  fitting_stops (x ∷ xs) ys n h = grind (arith, nat_tests, fitting_stops xs ys (n - size x))

pub tells_none : {size : Item → ℕ} {s : Heard} → Tells size [] s s (Ok tt)
unfolding fitting sizes
tells_none = told refl (sym (append-nil _)) (omega arith)

pub tells_one : {size : Item → ℕ} {x : Item} {s t : Heard} {r : Result (Unit {0}) Full} → Takes size x s t r → Tells size (x ∷ []) s t r
unfolding fitting sizes
tells_one {size} {x} {s} (took h i n) = told (ap (λ (b : Bool). cond b (x ∷ []) []) (le-leb (size x) s.room h)) i (omega (arith, n, h))
tells_one {size} {x} {s} (too_large h e) =
    let none : fitting size s.room (x ∷ []) ≡ [] = ap (λ (b : Bool). cond b (x ∷ []) []) (lt-leb (size x) s.room h) in
    full (omega (arith, ap length none)) (rw (none, e) (sym (append-nil _))) (rw (none, e) (omega arith))

pub tells_then : {size : Item → ℕ} {xs ys : List Item} {s t u : Heard} {a : Unit {0}} {r : Result (Unit {0}) Full} → Tells size xs s t (Ok a) → Tells size ys t u r → Tells size (xs ++ ys) s u r
tells_then {size} {xs} {ys} {s} {t} (told f i n) d = go d
  where
    left : s.room - sizes size xs ≡ t.room
    left = omega arith

    all : fitting size s.room (xs ++ ys) ≡ xs ++ fitting size t.room ys
    all = fitting_on size xs ys s.room (omega (arith, ap length f)) ∙ ap (λ (m : ℕ). xs ++ fitting size m ys) left

    go : {u : Heard} {r : Result (Unit {0}) Full} → Tells size ys t u r → Tells size (xs ++ ys) s u r
    go {u} (told g j m) = told (all ∙ ap (λ (zs : List Item). xs ++ zs) g) (j ∙ ap (λ (zs : List Item). zs ++ ys) i ∙ append_assoc s.items xs ys) (omega (arith, sizes_append size xs ys))
    go {u} (full l j m) = full
        (rw all (omega (arith, length-append xs (fitting size t.room ys), length-append xs ys)))
        (rw all (j ∙ ap (λ (zs : List Item). zs ++ fitting size t.room ys) i ∙ append_assoc s.items xs (fitting size t.room ys)))
        (rw all (omega (arith, sizes_append size xs (fitting size t.room ys))))

pub tells_stop : {size : Item → ℕ} {xs : List Item} (ys : List Item) {s t : Heard} {e : Full} → Tells size xs s t (Err e) → Tells size (xs ++ ys) s t (Err e)
tells_stop {size} {xs} ys {s} (full l i n) =
    let same : fitting size s.room (xs ++ ys) ≡ fitting size s.room xs = fitting_stops size xs ys s.room l in
    full (rw same (omega (arith, length-append xs ys))) (rw same i) (rw same n)

-- the exit of a `?`
pub tells_exit : {size : Item → ℕ} {xs : List Item} (ys : List Item) {s t : Heard} {e : Full} → Tells size xs s t (Err e) → (r : Result (Unit {0}) Full) → IsErrAnd r (λ f. f ≡ e) → Tells size (xs ++ ys) s t r
tells_exit ys h (Ok x) p = absurd p
tells_exit ys h (Err f) p = rw p (tells_stop ys h)

-- the same items, by other names
pub tells_as : {size : Item → ℕ} {xs ys : List Item} {s t : Heard} {r : Result (Unit {0}) Full} → xs ≡ ys → Tells size xs s t r → Tells size ys s t r
tells_as e h = rw e at h
