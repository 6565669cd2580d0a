-- Which node each item stands in. Items are numbered from 1. A node is open from its enter on, until a leave closes it, and a leave closes
-- the node that was entered last among those that are open.
use Rattle.std.specs.Prelude.{ℕ, suc, List, [], ◌∷◌, map}
use Rattle.event_log.specs.declared.item.Item.{Item}
use Rattle.event_log.specs.declared.item.Item.TheVariants.{Enter, Leave, Token, Error}
use Rattle.sinks.specs.declared.table.entry.Entry.{Entry}

-- Open nodes, by the numbers of their enters, the one that was entered last first. The innermost is that one; 0 stands for none.
abbrev pub innermost : List ℕ → ℕ
innermost [] = 0
innermost (n ∷ ns) = n

-- without the innermost
abbrev pub closed : List ℕ → List ℕ
closed [] = []
closed (n ∷ ns) = ns

-- the nodes that are open after the item with the number n, where these were open before it
abbrev pub past : ℕ → Item → List ℕ → List ℕ
past n (Enter k) ns = n ∷ ns
past n Leave ns = closed ns
past n (Token k w) ns = ns
past n (Error m k) ns = ns

-- The same after several items, the first of which has the number n.
unfoldable pub past_all : ℕ → List ℕ → List Item → List ℕ
past_all n ns [] = ns
past_all n ns (x ∷ xs) = past_all (suc n) (past n x ns) xs

-- For each of these items the innermost node that is open where the item stands. For a leave that is the node that it closes.
unfoldable pub around_each : ℕ → List ℕ → List Item → List ℕ
around_each n ns [] = []
around_each n ns (x ∷ xs) = innermost ns ∷ around_each (suc n) (past n x ns) xs

-- from the first item on, where no node is open
abbrev pub open_after : List Item → List ℕ
open_after xs = past_all 1 [] xs

abbrev pub around : List Item → List ℕ
around xs = around_each 1 [] xs

-- the two columns of a table
abbrev pub items_in : List Entry → List Item
items_in es = map (λ (e : Entry). e.item) es

abbrev pub nodes_in : List Entry → List ℕ
nodes_in es = map (λ (e : Entry). e.node) es
