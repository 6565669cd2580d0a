-- When the tokens among items spell the raw tokens; and what holds of each forest that a program comes to.
use Rattle.std.specs.Prelude.{◌≡◌, ℕ, ◌+◌, ◌<◌, ◌≤◌, true, cond, ◌&&◌, List, [], ◌∷◌, length, nat_le, nat_lt}
use Rattle.event_log.specs.Forest.{Forest, wides}
use Rattle.event_log.specs.Program.{Env, spells, size}
use Rattle.event_log.specs.declared.item.Item.{Item}
use Rattle.event_log.specs.declared.item.Item.TheVariants.{Enter as enter, Leave as leave, Token as token, Error as error}
use Rattle.event_log.specs.Told.{told, Kinds}

-- The tokens among these items spell the raw tokens from the place i on, in order, each as many as it says.
abbrev pub Spelled : Env → ℕ → List Item → Type 0
Spelled e i [] = Unit {0}
Spelled e i (enter k ∷ is) = Spelled e i is
Spelled e i (leave ∷ is) = Spelled e i is
Spelled e i (token k w ∷ is) = (spells e i k w ≡ true) × Spelled e (i + w) is
Spelled e i (error n k ∷ is) = Spelled e i is

-- how many raw tokens they hold in all
unfoldable pub width : List Item → ℕ
width [] = 0
width (enter k ∷ is) = width is
width (leave ∷ is) = width is
width (token k w ∷ is) = w + width is
width (error n k ∷ is) = width is

-- how many of the tokens among these items, which begin at the place i, hold the raw token p
unfoldable pub holding : ℕ → List Item → ℕ → ℕ
holding p [] i = 0
holding p (enter k ∷ is) i = holding p is i
holding p (leave ∷ is) i = holding p is i
holding p (token k w ∷ is) i = cond (nat_le i p && nat_lt p (i + w)) 1 0 + holding p is (i + w)
holding p (error n k ∷ is) i = holding p is i

-- The tokens among these items spell the raw tokens from the first one up to this place.
pub record Tokens (e : Env) (place : ℕ) (items : List Item) : Type 0 where
  -- in order, and each as many as it says
  pub spelled : Spelled e 0 items
  -- up to the place, which lies inside
  pub up_to : width items ≡ place
  pub inside : place ≤ length e.kinds
  -- each raw token before the place lies in exactly one token, and each one behind it in none
  pub once : (p : ℕ) → p < place → holding p items 0 ≡ 1
  pub no_more : (p : ℕ) → place ≤ p → holding p items 0 ≡ 0

-- What holds of a forest that a program comes to, from so many records and a place.
pub record Fine (e : Env) (c i : ℕ) (f : Forest) : Type 0 where
  -- the tokens that it tells spell the raw tokens from that place on
  pub spelled : Spelled e i (told f)
  -- they are as many as the forest is wide
  pub measured : width (told f) ≡ wides f
  -- each node has a kind
  pub named : Kinds f
  -- it stays inside the raw tokens, and inside the room
  pub inside : i ≤ length e.kinds → i + wides f ≤ length e.kinds
  pub fits : c ≤ e.room → c + size f ≤ e.room
