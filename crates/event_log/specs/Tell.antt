-- What the records of a log tell, by the rule on bare records. It knows nothing of forests.
--
-- The records go in order. A start that is not used yet follows its forward parents to the end of their chain: each names how many
-- records further on the next start lies. Those are then used. The kinds of the chain are entered, the last one of the chain first,
-- since it is outermost; TOMBSTONE, the kind 0, is left out. A finish leaves. A token and an error tell themselves.
use Rattle.std.specs.Prelude.{ℕ, zero, suc, ◌-◌, Bool, true, false, cond, List, [], ◌∷◌, ◌++◌, map, length, Some, None, Option, nat_lt}
use Rattle.event_log.specs.declared.event.Record.{Record}
use Rattle.event_log.specs.declared.event.Record.TheVariants.{Start, Finish, Token, Error}
use Rattle.event_log.specs.declared.item.Item.{Item}
use Rattle.event_log.specs.declared.item.Item.TheVariants.{Enter as enter, Leave as leave, Token as told_token, Error as told_error}

-- A place ahead, if any: `Some n` is the record that has n records before it. This is the same place, seen from one record further on.
-- (A place that is not ahead is none.)
abbrev pub nearer : Option ℕ → Option ℕ
nearer None = None
nearer (Some zero) = None
nearer (Some (suc n)) = Some n

-- the kinds of a chain of starts, from the one at this place on to the end of the chain
unfoldable pub climb : Option ℕ → List Record → List ℕ
climb None rs = []
climb (Some n) [] = []
climb (Some (suc n)) (r ∷ rs) = climb (Some n) rs
climb (Some zero) (Start k fp ∷ rs) = k ∷ climb (nearer fp) rs
climb (Some zero) (Finish ∷ rs) = []
climb (Some zero) (Token k w ∷ rs) = []
climb (Some zero) (Error n k ∷ rs) = []

-- One mark for each record that is still ahead: whether it is a start that was used. With none left, nothing is used.
abbrev pub first_used : List Bool → Bool
first_used [] = false
first_used (u ∷ us) = u

abbrev pub others : List Bool → List Bool
others [] = []
others (u ∷ us) = us

-- the marks, with that same chain of starts used
unfoldable pub use_up : Option ℕ → List Record → List Bool → List Bool
use_up None rs us = us
use_up (Some n) [] us = us
use_up (Some (suc n)) (r ∷ rs) us = first_used us ∷ use_up (Some n) rs (others us)
use_up (Some zero) (Start k fp ∷ rs) us = true ∷ use_up (nearer fp) rs (others us)
use_up (Some zero) (Finish ∷ rs) us = us
use_up (Some zero) (Token k w ∷ rs) us = us
use_up (Some zero) (Error n k ∷ rs) us = us

unfoldable pub enter_unless_0 : ℕ → List Item
enter_unless_0 zero = []
enter_unless_0 (suc k) = enter (suc k) ∷ []

-- these kinds are entered, the last one first
unfoldable pub enters : List ℕ → List Item
enters [] = []
enters (k ∷ ks) = enters ks ++ enter_unless_0 k

-- What each record tells, one list of items for each.
unfoldable pub tell_each : List Record → List Bool → List (List Item)
tell_each [] us = []
tell_each (Start k fp ∷ rs) us = elim (first_used us) [
  | true ↦ [] ∷ tell_each rs (others us)
  | false ↦ enters (k ∷ climb (nearer fp) rs) ∷ tell_each rs (use_up (nearer fp) rs (others us))
]
tell_each (Finish ∷ rs) us = (leave ∷ []) ∷ tell_each rs (others us)
tell_each (Token k w ∷ rs) us = (told_token k w ∷ []) ∷ tell_each rs (others us)
tell_each (Error n k ∷ rs) us = (told_error n k ∷ []) ∷ tell_each rs (others us)

-- these lists, one after the other
unfoldable pub joined : {A : Type 0} → List (List A) → List A
joined [] = []
joined (xs ∷ xss) = xs ++ joined xss

unfoldable pub tell_from : List Record → List Bool → List Item
tell_from rs us = joined (tell_each rs us)

-- no record is used yet
abbrev pub unused : List Record → List Bool
unused rs = map (λ _. false) rs

abbrev pub tell : List Record → List Item
tell rs = tell_from rs (unused rs)

-- Which record tells the item that has so many items before it.
unfoldable pub teller : {A : Type 0} → ℕ → List (List A) → ℕ
teller n [] = 0
teller n (xs ∷ xss) = cond (nat_lt n (length xs)) 0 (suc (teller (n - length xs) xss))
