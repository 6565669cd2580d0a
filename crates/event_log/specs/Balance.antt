-- When items are balanced: each enter has exactly one leave and each leave one enter, a leave closes the last enter that is still open,
-- and two nodes are nested or disjoint. It speaks of a list of items, and knows nothing of forests.
use Rattle.std.specs.Prelude.{◌≡◌, ℕ, zero, suc, ◌+◌, ◌<◌, cond, ◌⊎◌, List, [], ◌∷◌, Some, None, Option, ◌==◌}
use Rattle.event_log.specs.declared.item.Item.{Item}
use Rattle.event_log.specs.declared.item.Item.TheVariants.{Enter as enter, Leave as leave, Token as token, Error as error}

-- a node among the items: the place of its enter, and that of its leave
pub record Span : Type 0 where
  pub first : ℕ
  pub last : ℕ

abbrev pub also : Span → Option (List Span) → Option (List Span)
also s None = None
also s (Some ss) = Some (s ∷ ss)

-- The nodes of the items that begin at the place i, in the order in which they are left, where these enters are open, the last one first.
-- A leave closes the last one. There is no answer where a leave finds none open, or where one is still open at the end.
unfoldable pub match : ℕ → List ℕ → List Item → Option (List Span)
match i [] [] = Some []
match i (o ∷ os) [] = None
match i os (enter k ∷ is) = match (suc i) (i ∷ os) is
match i [] (leave ∷ is) = None
match i (o ∷ os) (leave ∷ is) = also (record { first = o; last = i }) (match (suc i) os is)
match i os (token k w ∷ is) = match (suc i) os is
match i os (error n k ∷ is) = match (suc i) os is

-- 1 at an enter, and at a leave
abbrev pub is_enter : Item → ℕ
is_enter (enter k) = 1
is_enter leave = 0
is_enter (token k w) = 0
is_enter (error n k) = 0

abbrev pub is_leave : Item → ℕ
is_leave (enter k) = 0
is_leave leave = 1
is_leave (token k w) = 0
is_leave (error n k) = 0

-- how many items at this place are such: 1 or 0
unfoldable pub at_place : (Item → ℕ) → List Item → ℕ → ℕ
at_place p [] a = 0
at_place p (x ∷ is) zero = p x
at_place p (x ∷ is) (suc a) = at_place p is a

-- how many nodes have their enter at this place, and how many their leave
unfoldable pub begin_at : List Span → ℕ → ℕ
begin_at [] a = 0
begin_at (s ∷ ss) a = cond (s.first == a) 1 0 + begin_at ss a

unfoldable pub end_at : List Span → ℕ → ℕ
end_at [] a = 0
end_at (s ∷ ss) a = cond (s.last == a) 1 0 + end_at ss a

abbrev pub Forward : Span → Type 0
Forward s = s.first < s.last

abbrev pub Inside : Span → Span → Type 0
Inside s t = (t.first < s.first) × (s.last < t.last)

abbrev pub Before : Span → Span → Type 0
Before s t = s.last < t.first

-- nested or disjoint
abbrev pub Apart : Span → Span → Type 0
Apart s t = Inside s t ⊎ (Inside t s ⊎ (Before s t ⊎ Before t s))

abbrev pub Each : (Span → Type 0) → List Span → Type 0
Each P [] = Unit {0}
Each P (s ∷ ss) = P s × Each P ss

abbrev pub Pairwise : (Span → Span → Type 0) → List Span → Type 0
Pairwise R [] = Unit {0}
Pairwise R (s ∷ ss) = Each (R s) ss × Pairwise R ss

pub record Balanced (items : List Item) : Type 0 where
  pub nodes : List Span
  -- each leave closes the last enter that is still open, and all are closed
  pub matched : match 0 [] items ≡ Some nodes
  -- each enter is that of exactly one node, and a node begins at an enter
  pub entered : (a : ℕ) → begin_at nodes a ≡ at_place is_enter items a
  -- each leave is that of exactly one node, and a node ends at a leave
  pub left : (a : ℕ) → end_at nodes a ≡ at_place is_leave items a
  pub forward : Each Forward nodes
  pub apart : Pairwise Apart nodes
