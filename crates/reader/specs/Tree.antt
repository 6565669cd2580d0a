-- The tree that the program prints: a line for each item but leaves, set in by the nodes that it stands in.
use Rattle.std.specs.Prelude.{ℕ, zero, suc, ◌+◌, ◌-◌, cond, List, [], ◌∷◌, ◌++◌, map, codes, decimal, ◌==◌, slice_index_or}
use Rattle.std.specs.Borrow.{Bor}
use Rattle.event_log.specs.declared.item.Item.{Item}
use Rattle.event_log.specs.declared.item.Item.TheVariants.{Enter, Leave, Token, Error}
use Rattle.tokens.specs.Kinds.{TOMBSTONE}
use Rattle.reader.specs.KindNames.{kind_names}

-- what stands for the name of a number that is no kind
abbrev pub unknown : List ℕ
unknown = codes "?"

abbrev pub name_of : ℕ → List ℕ
name_of k = slice_index_or kind_names k unknown

-- the texts of a table
abbrev pub texts : List (Bor (List ℕ)) → List (List ℕ)
texts rs = map (λ x. x.now) rs

-- a node and a token by the name of its kind, and a token that is not made of one raw token by how many as well
abbrev pub token_label : ℕ → ℕ → List ℕ
token_label k w = name_of k ++ cond (w == 1) [] (codes " " ++ decimal w)

-- an error by its number, and by the kind that was expected, where it names one
abbrev pub error_label : ℕ → ℕ → List ℕ
error_label n k = codes "error " ++ decimal n ++ cond (k == TOMBSTONE) [] (codes ": expected " ++ name_of k)

abbrev pub label : Item → List ℕ
label (Enter k) = name_of k
label Leave = []
label (Token k w) = token_label k w
label (Error n k) = error_label n k

-- four spaces for each node
unfoldable pub indent : ℕ → List ℕ
indent zero = []
indent (suc d) = codes "    " ++ indent d

-- the line of an item inside of d nodes
abbrev pub labelled : ℕ → List ℕ → List ℕ
labelled d text = indent d ++ text ++ codes "\n"

abbrev pub line : ℕ → Item → List ℕ
line d (Enter k) = labelled d (label (Enter k))
line d Leave = []
line d (Token k w) = labelled d (label (Token k w))
line d (Error n k) = labelled d (label (Error n k))

-- in how many nodes the next item stands, where this one stands in d; where there is no node to leave, there is none then either
abbrev pub depth_after : ℕ → Item → ℕ
depth_after d (Enter k) = d + 1
depth_after d Leave = d - 1
depth_after d (Token k w) = d
depth_after d (Error n k) = d

-- the lines of these items, the first of which stands in d nodes
unfoldable pub lines : ℕ → List Item → List ℕ
lines d [] = []
lines d (x ∷ xs) = line d x ++ lines (depth_after d x) xs

abbrev pub tree : List Item → List ℕ
tree xs = lines 0 xs
