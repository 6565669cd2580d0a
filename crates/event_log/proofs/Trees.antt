-- The records of a node about its own start.
use Rattle.std.proofs.Common.{◌≡◌, ℕ, ◌+◌, List, [], ◌∷◌, ◌++◌, length, Some, Option, refl, arith, length-append}
use Rattle.event_log.specs.declared.event.Record.{Record}
use Rattle.event_log.specs.declared.event.Record.TheVariants.{Start, Finish}
use Rattle.event_log.specs.Forest.{Node, flats, flat_node, own, kind_of}
use Rattle.event_log.specs.Forest.Node.{node, wrap}

-- The records of a node are its own start, what lies before that, and what lies after it.
unfoldable pub front : Node → List Record
front (node k f) = []
front (wrap n k f) = flat_node n (Some (own n))

unfoldable pub back : Node → List Record
back (node k f) = flats f ++ Finish ∷ []
back (wrap n k f) = flats f ++ Finish ∷ []

pub flat_node_is : (n : Node) (p : Option ℕ) → flat_node n p ≡ front n ++ Start (kind_of n) p ∷ back n
unfolding flat_node front back kind_of
flat_node_is (node k f) p = refl
flat_node_is (wrap n k f) p = refl

pub own_is : (n : Node) → own n ≡ 1 + length (back n)
unfolding own back
own_is (node k f) = simp length-append (omega arith)
own_is (wrap n k f) = simp length-append (omega arith)
