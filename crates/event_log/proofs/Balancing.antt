-- What the stack machine matches is balanced, and it matches what a forest tells.
use Rattle.std.proofs.Common.{◌≡◌, ℕ, zero, suc, ◌+◌, ◌<◌, ◌≤◌, Bool, true, false, cond, eqb, ◌⊎◌, List, [], ◌∷◌, ◌++◌, Some, None, Option, sym, refl, ap, ◌∙◌, subst, inl, inr, ⊎_elim, append_assoc, append-nil, add-zero, zero-add, arith, eq-eqb, ne_eqb}
use Rattle.event_log.specs.Forest.{Tree, Node, Forest}
use Rattle.event_log.specs.Forest.Tree.{whole, gone}
use Rattle.event_log.specs.Forest.Node.{node, wrap}
use Rattle.event_log.specs.Forest.Forest.{nil, cons}
use Rattle.event_log.specs.declared.item.Item.{Item}
use Rattle.event_log.specs.declared.item.Item.TheVariants.{Enter as enter, Leave as leave, Token as token, Error as error}
use Rattle.event_log.specs.Told.{told_tree, told_node, told}
use Rattle.event_log.specs.Balance.{Span, also, match, is_enter, is_leave, at_place, begin_at, end_at, Forward, Apart, Each, Pairwise, Balanced}

-- ---- the machine, from any place and with any enters open

-- among the open enters
abbrev In : ℕ → List ℕ → Type 0
In a [] = ⊥
In a (o ∷ os) = (a ≡ o) ⊎ In a os

-- the open enters lie before this place, each before the one that was opened after it
abbrev Under : ℕ → List ℕ → Type 0
Under i [] = Unit {0}
Under i (o ∷ os) = (o < i) × Under o os

in_under : (i : ℕ) (os : List ℕ) → Under i os → (a : ℕ) → In a os → a < i
in_under i [] u a m = elim m [ ]
in_under i (o ∷ os) u a (inl e) = let h = u.0 in omega arith
in_under i (o ∷ os) u a (inr m) = let h = u.0 in let k = in_under o os u.1 a m in omega arith

under_more : (i j : ℕ) (os : List ℕ) → i ≤ j → Under i os → Under j os
under_more i j [] h u = tt
under_more i j (o ∷ os) h u = ((let k = u.0 in omega arith), u.1)

-- how many of the open enters are at this place
open_at : List ℕ → ℕ → ℕ
open_at [] a = 0
open_at (o ∷ os) a = cond (eqb o a) 1 0 + open_at os a

-- how many items at this place are such, if the items begin at the place i
from : (Item → ℕ) → ℕ → List Item → ℕ → ℕ
from p i [] a = 0
from p i (x ∷ is) a = cond (eqb i a) (p x) 0 + from p (suc i) is a

-- what lies ahead of the place i, where these enters are open
abbrev Ahead : ℕ → List ℕ → Span → Type 0
Ahead i os s = (i ≤ s.last) × ((i ≤ s.first) ⊎ In s.first os)

record Run (i : ℕ) (os : List ℕ) (is : List Item) (ss : List Span) : Type 0 where
  begun : (a : ℕ) → begin_at ss a ≡ open_at os a + from is_enter i is a
  ended : (a : ℕ) → end_at ss a ≡ from is_leave i is a
  ahead : Each (Ahead i os) ss
  forward : Under i os → Each Forward ss
  apart : Under i os → Pairwise Apart ss

abbrev On : (List Span → Type 0) → Option (List Span) → Type 0
On P None = Unit {0}
On P (Some ss) = P ss

each_map : (P Q : Span → Type 0) → ((s : Span) → P s → Q s) → (ss : List Span) → Each P ss → Each Q ss
each_map P Q f [] h = tt
each_map P Q f (s ∷ ss) h = (f s h.0, each_map P Q f ss h.1)

on_map : (P Q : List Span → Type 0) → ((ss : List Span) → P ss → Q ss) → (o : Option (List Span)) → On P o → On Q o
on_map P Q f None h = tt
on_map P Q f (Some ss) h = f ss h

cond_same : (b : Bool) → ◌≡◌ {A = ℕ} (cond b 0 0) 0
cond_same true = refl
cond_same false = refl

-- what lies ahead of the next place lies ahead of this one
ahead_sooner : (i : ℕ) (os qs : List ℕ) → ((a : ℕ) → In a qs → (i ≤ a) ⊎ In a os) → (ss : List Span) → Each (Ahead (suc i) qs) ss → Each (Ahead i os) ss
ahead_sooner i os qs h = each_map (Ahead (suc i) qs) (Ahead i os) (λ s a. ((let l = a.0 in omega arith), ⊎_elim (λ l. inl (omega arith)) (h s.first) a.1))

-- nothing is open, and nothing is left
run_over : (i : ℕ) → Run i [] [] []
unfolding begin_at end_at open_at from
run_over i = record { begun = λ a. refl; ended = λ a. refl; ahead = tt; forward = λ _. tt; apart = λ _. tt }

run_enter : (i : ℕ) (os : List ℕ) (k : ℕ) (is : List Item) (ss : List Span) → Run (suc i) (i ∷ os) is ss → Run i os (enter k ∷ is) ss
unfolding open_at from
run_enter i os k is ss r = record {
  begun = λ a. r.begun a ∙ omega arith;
  ended = λ a. r.ended a ∙ omega (arith, cond_same (eqb i a));
  ahead = ahead_sooner i os (i ∷ os) (λ a m. ⊎_elim (λ e. inl (omega arith)) (λ m. inr m) m) ss r.ahead;
  forward = λ u. r.forward (deeper u);
  apart = λ u. r.apart (deeper u);
}
  where
    deeper : Under i os → Under (suc i) (i ∷ os)
    deeper u = (omega arith, u)

run_leave : (i o : ℕ) (os : List ℕ) (is : List Item) (ss : List Span) → Run (suc i) os is ss → Run i (o ∷ os) (leave ∷ is) (record { first = o; last = i } ∷ ss)
unfolding open_at from begin_at end_at
run_leave i o os is ss r = record {
  begun = λ a. omega (arith, r.begun a, cond_same (eqb i a));
  ended = λ a. omega (arith, r.ended a);
  ahead = ((omega arith, inr (inl refl)), ahead_sooner i (o ∷ os) os (λ a m. inr (inr m)) ss r.ahead);
  forward = λ u. (u.0, r.forward (shallower u));
  apart = λ u. (each_map (Ahead (suc i) os) (Apart (record { first = o; last = i })) (λ s h. away u s h.0 h.1) ss r.ahead, r.apart (shallower u));
}
  where
    shallower : Under i (o ∷ os) → Under (suc i) os
    shallower u = under_more o (suc i) os (let h = u.0 in omega arith) u.1

    away : Under i (o ∷ os) → (s : Span) → suc i ≤ s.last → (suc i ≤ s.first) ⊎ In s.first os → Apart (record { first = o; last = i }) s
    away u s l (inl h) = inr (inr (inl h))
    away u s l (inr m) = inl (in_under o os u.1 s.first m, l)

-- an item that is neither an enter nor a leave
run_other : (i : ℕ) (os : List ℕ) (x : Item) (is : List Item) (ss : List Span) → is_enter x ≡ 0 → is_leave x ≡ 0 → Run (suc i) os is ss → Run i os (x ∷ is) ss
unfolding from
run_other i os x is ss p q r = record {
  begun = λ a. r.begun a ∙ rw p (omega (arith, cond_same (eqb i a)));
  ended = λ a. r.ended a ∙ rw q (omega (arith, cond_same (eqb i a)));
  ahead = ahead_sooner i os os (λ a m. inr m) ss r.ahead;
  forward = λ u. r.forward (under_more i (suc i) os (omega arith) u);
  apart = λ u. r.apart (under_more i (suc i) os (omega arith) u);
}

on_also : (P Q : List Span → Type 0) (s : Span) → ((ss : List Span) → P ss → Q (s ∷ ss)) → (o : Option (List Span)) → On P o → On Q (also s o)
on_also P Q s f None h = tt
on_also P Q s f (Some ss) h = f ss h

runs : (is : List Item) (i : ℕ) (os : List ℕ) → On (Run i os is) (match i os is)
unfolding match
runs [] i [] = run_over i
runs [] i (o ∷ os) = tt
runs (enter k ∷ is) i os = on_map (Run (suc i) (i ∷ os) is) (Run i os (enter k ∷ is)) (run_enter i os k is) (match (suc i) (i ∷ os) is) (runs is (suc i) (i ∷ os))
runs (leave ∷ is) i [] = tt
runs (leave ∷ is) i (o ∷ os) = on_also (Run (suc i) os is) (Run i (o ∷ os) (leave ∷ is)) (record { first = o; last = i }) (run_leave i o os is) (match (suc i) os is) (runs is (suc i) os)
runs (token k w ∷ is) i os = on_map (Run (suc i) os is) (Run i os (token k w ∷ is)) (λ ss. run_other i os (token k w) is ss refl refl) (match (suc i) os is) (runs is (suc i) os)
runs (error n k ∷ is) i os = on_map (Run (suc i) os is) (Run i os (error n k ∷ is)) (λ ss. run_other i os (error n k) is ss refl refl) (match (suc i) os is) (runs is (suc i) os)

-- ---- places counted from the first item

from_before : (p : Item → ℕ) (is : List Item) (i a : ℕ) → a < i → from p i is a ≡ 0
unfolding from
from_before p [] i a h = refl
from_before p (x ∷ is) i a h = rw (ne_eqb i a (omega arith)) (omega (arith, from_before p is (suc i) a (omega arith)))

from_at : (p : Item → ℕ) (is : List Item) (i a : ℕ) → from p i is (i + a) ≡ at_place p is a
unfolding from at_place
from_at p [] i a = refl
from_at p (x ∷ is) i zero = rw (add-zero i, eq-eqb i i refl) (omega (arith, from_before p is (suc i) i (omega arith)))
from_at p (x ∷ is) i (suc a) =
    let e : i + suc a ≡ suc i + a = omega arith in
    rw (ne_eqb i (i + suc a) (omega arith), e) (omega (arith, from_at p is (suc i) a))

from_zero : (p : Item → ℕ) (is : List Item) (a : ℕ) → from p 0 is a ≡ at_place p is a
from_zero p is a = ap (from p 0 is) (sym (zero-add a)) ∙ from_at p is 0 a

-- what the machine matches is balanced
pub matched_balanced : (is : List Item) (ss : List Span) → match 0 [] is ≡ Some ss → Balanced is
unfolding open_at
matched_balanced is ss e =
    let r : Run 0 [] is ss = subst (On (Run 0 [] is)) e (runs is 0 []) in
    record {
      nodes = ss;
      matched = e;
      entered = λ a. r.begun a ∙ zero-add (from is_enter 0 is a) ∙ from_zero is_enter is a;
      left = λ a. r.ended a ∙ from_zero is_leave is a;
      forward = r.forward tt;
      apart = r.apart tt;
    }

-- ---- the machine on what a forest tells

-- from any place, with these enters open, the items are matched
abbrev Closes : List ℕ → List Item → Type 0
Closes os is = (i : ℕ) → (ss : List Span) × (match i os is ≡ Some ss)

-- these items leave the open enters as they are
abbrev Even : List Item → Type 0
Even is = (os : List ℕ) (rest : List Item) → Closes os rest → Closes os (is ++ rest)

even_append : (is js : List Item) → Even is → Even js → Even (is ++ js)
even_append is js h k os rest c i = rw (append_assoc is js rest) (h os (js ++ rest) (k os rest c) i)

even_node : (k : ℕ) (is : List Item) → Even is → Even (enter k ∷ (is ++ leave ∷ []))
unfolding match
even_node k is h os rest c i =
    rw (append_assoc is (leave ∷ []) rest) (h (i ∷ os) (leave ∷ rest) (λ j. let r = c (suc j) in (record { first = i; last = j } ∷ r.0, ap (also (record { first = i; last = j })) r.1)) (suc i))

mutual
  unfolding told_tree told_node told match

  tree_even : (t : Tree) → Even (told_tree t)
  tree_even (Tree.token k w) = λ os rest c i. c (suc i)
  tree_even (Tree.error n k) = λ os rest c i. c (suc i)
  tree_even (whole n) = node_even n
  tree_even (gone f) = forest_even f

  node_even : (n : Node) → Even (told_node n)
  node_even (node k f) = even_node k (told f) (forest_even f)
  node_even (wrap n k f) = rw (← (append_assoc (told_node n) (told f) (leave ∷ []))) (even_node k (told_node n ++ told f) (even_append (told_node n) (told f) (node_even n) (forest_even f)))

  forest_even : (f : Forest) → Even (told f)
  forest_even nil = λ os rest c. c
  forest_even (cons t f) = even_append (told_tree t) (told f) (tree_even t) (forest_even f)

-- ---- the theorem

-- What a forest tells is balanced, of whatever kinds its nodes are.
pub told_balanced : (f : Forest) → Balanced (told f)
unfolding match
told_balanced f =
    let r : (ss : List Span) × (match 0 [] (told f ++ []) ≡ Some ss) = forest_even f [] [] (λ i. ([], refl)) 0 in
    matched_balanced (told f) r.0 (sym (ap (match 0 []) (append-nil (told f))) ∙ r.1)
