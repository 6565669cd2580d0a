-- Which node the next item stands in: what one more item adds to a table, and where a table says which node is around an open one.
use Rattle.std.proofs.Common.{◌≡◌, ℕ, suc, ◌+◌, ◌-◌, ◌<◌, ◌≤◌, List, [], ◌∷◌, ◌++◌, length, get_or, refl, ap, ◌∙◌, append_assoc, append-nil, arith}
use Rattle.std.proofs.lemmas.List.{length_push, get_or_append_left, get_or_push}
use Rattle.event_log.specs.declared.item.Item.{Item}
use Rattle.event_log.specs.declared.item.Item.TheVariants.{Enter, Leave, Token, Error}
use Rattle.sinks.specs.Nodes.{innermost, closed, past, past_all, around_each, open_after, around}

-- ---- one item more

past_push : (n : ℕ) (ns : List ℕ) (xs : List Item) (x : Item) → past_all n ns (xs ++ x ∷ []) ≡ past (n + length xs) x (past_all n ns xs)
unfolding past_all
past_push n ns [] x = ap (λ (m : ℕ). past m x ns) (omega arith)
past_push n ns (y ∷ xs) x = past_push (suc n) (past n y ns) xs x ∙ ap (λ (m : ℕ). past m x (past_all (suc n) (past n y ns) xs)) (omega arith)

each_push : (n : ℕ) (ns : List ℕ) (xs : List Item) (x : Item) → around_each n ns (xs ++ x ∷ []) ≡ around_each n ns xs ++ innermost (past_all n ns xs) ∷ []
unfolding past_all around_each
each_push n ns [] x = refl
each_push n ns (y ∷ xs) x = ap (λ (ms : List ℕ). innermost ns ∷ ms) (each_push (suc n) (past n y ns) xs x)

pub open_push : (xs : List Item) (x : Item) → open_after (xs ++ x ∷ []) ≡ past (length xs + 1) x (open_after xs)
open_push xs x = past_push 1 [] xs x ∙ ap (λ (m : ℕ). past m x (open_after xs)) (omega arith)

pub around_push : (xs : List Item) (x : Item) → around (xs ++ x ∷ []) ≡ around xs ++ innermost (open_after xs) ∷ []
around_push xs x = each_push 1 [] xs x

-- ---- the node around an open one

-- Each of these open nodes has its enter among the items, and the table has there the one that is around it.
abbrev Nested : List ℕ → List ℕ → Type 0
Nested ms [] = Unit {0}
Nested ms (n ∷ ns) = (0 < n) × (n ≤ length ms) × (get_or ms (n - 1) 0 ≡ innermost ns) × Nested ms ns

nested_more : (ms : List ℕ) (m : ℕ) (ns : List ℕ) → Nested ms ns → Nested (ms ++ m ∷ []) ns
nested_more ms m [] h = tt
nested_more ms m (n ∷ ns) h = (
  h.0,
  omega (arith, length_push ms m),
  get_or_append_left ms (m ∷ []) 0 (n - 1) (omega arith) ∙ h.2,
  nested_more ms m ns h.3,
)

nested_closed : (ms ns : List ℕ) → Nested ms ns → Nested ms (closed ns)
nested_closed ms [] h = tt
nested_closed ms (n ∷ ns) h = h.3

nested_past : (ms ns : List ℕ) (x : Item) → Nested ms ns → Nested (ms ++ innermost ns ∷ []) (past (suc (length ms)) x ns)
nested_past ms ns (Enter k) h = (
  omega arith,
  omega (arith, length_push ms (innermost ns)),
  get_or_push ms (innermost ns) 0 (suc (length ms) - 1) (omega arith),
  nested_more ms (innermost ns) ns h,
)
nested_past ms ns Leave h = nested_closed _ ns (nested_more ms (innermost ns) ns h)
nested_past ms ns (Token k w) h = nested_more ms (innermost ns) ns h
nested_past ms ns (Error m k) h = nested_more ms (innermost ns) ns h

nested_all : (ms ns : List ℕ) (n : ℕ) (xs : List Item) → n ≡ suc (length ms) → Nested ms ns → Nested (ms ++ around_each n ns xs) (past_all n ns xs)
unfolding past_all around_each
nested_all ms ns n [] e h = rw append-nil h
nested_all ms ns n (x ∷ xs) e h =
    let m = innermost ns in
    let next : Nested (ms ++ m ∷ []) (past n x ns) = rw e (nested_past ms ns x h) in
    rw append_assoc at (nested_all (ms ++ m ∷ []) (past n x ns) (suc n) xs (omega (arith, length_push ms m)) next)

nested : (xs : List Item) → Nested (around xs) (open_after xs)
nested xs = nested_all [] [] 1 xs refl tt

-- a leave with a node open: the node's enter is among the items, and the table has there the node that is around it
closes_by : (ms ns : List ℕ) → Nested ms ns → 0 < innermost ns → (innermost ns ≤ length ms) × (get_or ms (innermost ns - 1) 0 ≡ innermost (closed ns))
closes_by ms [] h lt = absurd (omega arith)
closes_by ms (n ∷ ns) h lt = (h.1, h.2)

pub closes : (xs : List Item) → 0 < innermost (open_after xs)
    → (innermost (open_after xs) ≤ length (around xs)) × (get_or (around xs) (innermost (open_after xs) - 1) 0 ≡ innermost (closed (open_after xs)))
closes xs lt = closes_by (around xs) (open_after xs) (nested xs) lt

-- and one with none open
closes_none_by : (ms ns : List ℕ) → Nested ms ns → innermost ns ≡ 0 → innermost (closed ns) ≡ 0
closes_none_by ms [] h e = refl
closes_none_by ms (n ∷ ns) h e = absurd (omega arith)

pub closes_none : (xs : List Item) → innermost (open_after xs) ≡ 0 → innermost (closed (open_after xs)) ≡ 0
closes_none xs e = closes_none_by (around xs) (open_after xs) (nested xs) e
