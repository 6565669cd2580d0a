-- What a sink takes: one item after the other, while there is room.
use Rattle.std.specs.Prelude.{◌≡◌, ℕ, ◌+◌, ◌-◌, ◌<◌, ◌≤◌, cond, List, [], ◌∷◌, ◌++◌, length, Ok, Err, Result, nat_le}
use Rattle.event_log.specs.declared.item.Item.{Item}
use Rattle.sinks.specs.declared.sink.Full.{Full}

-- each item takes some room
abbrev pub TakesRoom : (Item → ℕ) → Type 0
TakesRoom size = (x : Item) → 1 ≤ size x

-- A sink, by its meaning: what it was told so far, and the room that is left.
pub record Heard : Type 0 where
  pub items : List Item
  pub room : ℕ

-- One item is appended, and the room falls by its size; or it is larger than the room, and everything is kept.
pub data Takes (size : Item → ℕ) (x : Item) (s t : Heard) : Result (Unit {0}) Full → Type 0 where
  took : {a : Unit {0}} → size x ≤ s.room → t.items ≡ s.items ++ x ∷ [] → t.room ≡ s.room - size x → Takes size x s t (Ok a)
  full : {e : Full} → s.room < size x → t ≡ s → Takes size x s t (Err e)

-- the first of these items, as many as fit into so much room, one after the other
unfoldable pub fitting : (Item → ℕ) → ℕ → List Item → List Item
fitting size n [] = []
fitting size n (x ∷ xs) = cond (nat_le (size x) n) (x ∷ fitting size (n - size x) xs) []

-- what these items take in all
unfoldable pub sizes : (Item → ℕ) → List Item → ℕ
sizes size [] = 0
sizes size (x ∷ xs) = size x + sizes size xs

-- A list of items is told, all of it; or as many of them as fit, where that is not all.
pub data Tells (size : Item → ℕ) (xs : List Item) (s t : Heard) : Result (Unit {0}) Full → Type 0 where
  told : {a : Unit {0}} → fitting size s.room xs ≡ xs → t.items ≡ s.items ++ xs → t.room + sizes size xs ≡ s.room → Tells size xs s t (Ok a)
  full : {e : Full} → length (fitting size s.room xs) < length xs → t.items ≡ s.items ++ fitting size s.room xs
      → t.room + sizes size (fitting size s.room xs) ≡ s.room → Tells size xs s t (Err e)
