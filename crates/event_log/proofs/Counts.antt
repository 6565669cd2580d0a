-- How many records a forest, a tree and a node come to, by their shape: numbers alone, so that they compute without making the records.
use Rattle.std.proofs.Common.{◌≡◌, ℕ, zero, suc, ◌+◌, List, [], ◌∷◌, ◌++◌, length, Some, None, Option, refl, ap, ◌∙◌, arith, length-append}
use Rattle.event_log.specs.declared.event.Record.{Record}
use Rattle.event_log.specs.declared.event.Record.TheVariants.{Start, Finish}
use Rattle.event_log.specs.Forest.{Tree, Node, Forest, flat, flat_node, flats, own, left_in}
use Rattle.event_log.specs.Forest.Tree.{token, error, whole, gone}
use Rattle.event_log.specs.Forest.Node.{node, wrap}
use Rattle.event_log.specs.Forest.Forest.{nil, cons}
use Rattle.event_log.specs.Program.{size}

-- How many records there are, with that of an abandoned start, which is there only before others.
unfoldable pub count_left : ℕ → ℕ
count_left zero = zero
count_left (suc n) = suc (suc n)

unfoldable mutual
  -- how many records it has: the length of `flat`, without making them
  pub count_tree : Tree → ℕ
  count_tree (token k w) = 1
  count_tree (error n k) = 1
  count_tree (whole n) = count_node n
  count_tree (gone f) = count_left (counts f)

  pub count_node : Node → ℕ
  count_node (node k f) = 2 + counts f
  count_node (wrap n k f) = count_node n + (2 + counts f)

  pub counts : Forest → ℕ
  counts nil = 0
  counts (cons t f) = count_tree t + counts f

-- These are the records.

length_left_in : (xs : List Record) → length (left_in xs) ≡ count_left (length xs)
unfolding count_left left_in
length_left_in [] = refl
length_left_in (x ∷ xs) = refl

-- a node between its start and its finish
length_inner : (k : ℕ) (fp : Option ℕ) (f : Forest) → length (flats f) ≡ counts f → length (Start k fp ∷ (flats f ++ Finish ∷ [])) ≡ 2 + counts f
length_inner k fp f h = rw (length-append (flats f) (Finish ∷ [])) (omega (arith, h))

mutual
  unfolding flat flat_node flats count_tree count_node counts

  pub tree_counted : (t : Tree) → length (flat t) ≡ count_tree t
  tree_counted (token k w) = refl
  tree_counted (error n k) = refl
  tree_counted (whole n) = node_counted n None
  tree_counted (gone f) = length_left_in (flats f) ∙ ap count_left (size_counted f)

  -- whatever its forward parent
  pub node_counted : (n : Node) (fp : Option ℕ) → length (flat_node n fp) ≡ count_node n
  node_counted (node k f) fp = length_inner k fp f (size_counted f)
  node_counted (wrap n k f) fp =
      length-append (flat_node n (Some (own n))) (Start k fp ∷ (flats f ++ Finish ∷ []))
      ∙ (λ j. node_counted n (Some (own n)) j + length_inner k fp f (size_counted f) j)

  pub size_counted : (f : Forest) → size f ≡ counts f
  size_counted nil = refl
  size_counted (cons t f) = length-append (flat t) (flats f) ∙ (λ j. tree_counted t j + size_counted f j)
