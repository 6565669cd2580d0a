-- A listing: a line for each item, and how lines are read back.
use Rattle.std.specs.Prelude.{ℕ, ◌+◌, ◌-◌, ◌*◌, ◌^◌, ◌<◌, Bool, cond, ◌&&◌, List, [], ◌∷◌, ◌++◌, codes, decimal, fold, ◌==◌, nat_le}
use Rattle.event_log.specs.declared.item.Item.{Item}
use Rattle.event_log.specs.declared.item.Item.TheVariants.{Enter, Leave, Token, Error}

-- what ends a line
abbrev pub newline : List ℕ
newline = 10 ∷ []

-- a number, and a space before it
abbrev pub spaced : ℕ → List ℕ
spaced n = codes " " ++ decimal n

-- the numbers of an item are as small as their types say
abbrev pub Small : Item → Type 0
Small (Enter k) = k < 2 ^ 16
Small Leave = Unit {0}
Small (Token k w) = (k < 2 ^ 16) × (w < 2 ^ 8)
Small (Error n k) = (n < 2 ^ 8) × (k < 2 ^ 16)

abbrev pub line : Item → List ℕ
line (Enter k) = codes "+" ++ spaced k ++ newline
line Leave = codes "-" ++ newline
line (Token k w) = codes "=" ++ spaced k ++ spaced w ++ newline
line (Error n k) = codes "!" ++ spaced n ++ spaced k ++ newline

unfoldable pub listing : List Item → List ℕ
listing [] = []
listing (x ∷ xs) = line x ++ listing xs

-- What was read: the items of the lines that ended, and the tag and the two numbers that came last.
pub record Reading : Type 0 where
  pub items : List Item
  pub tag : ℕ
  pub first : ℕ
  pub second : ℕ

abbrev pub so_far : List Item → ℕ → ℕ → ℕ → Reading
so_far is t m n = record { items = is; tag = t; first = m; second = n }

-- the item of a line with this tag: `+`, `-`, `=`, or else `!`
unfoldable pub tagged : ℕ → ℕ → ℕ → Item
tagged t m n = cond (t == 43) (Enter n) (cond (t == 45) Leave (cond (t == 61) (Token m n) (Error m n)))

unfoldable pub is_digit : ℕ → Bool
is_digit c = nat_le 48 c && nat_le c 57

-- One byte more: a newline ends the line, after a space another number begins, a digit goes on with it, and all else is a tag.
unfoldable pub step : Reading → ℕ → Reading
step r c =
    let record { items = is; tag = t; first = m; second = n } = r in
    cond (c == 10) (so_far (is ++ tagged t m n ∷ []) t m n)
    (cond (c == 32) (so_far is t n 0)
    (cond (is_digit c) (so_far is t m (10 * n + (c - 48)))
    (so_far is c m n)))

-- the items of these lines
unfoldable pub read : List ℕ → List Item
read bs = (fold step (so_far [] 0 0 0) bs).items
