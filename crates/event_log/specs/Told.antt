-- What a forest tells, by its shape; and which forests have a kind for each node.
use Rattle.std.specs.Prelude.{◌<◌, List, [], ◌∷◌, ◌++◌}
use Rattle.event_log.specs.Forest.{Tree, Node, Forest}
use Rattle.event_log.specs.Forest.Tree.{token, error, whole, gone}
use Rattle.event_log.specs.Forest.Node.{node, wrap}
use Rattle.event_log.specs.Forest.Forest.{nil, cons}
use Rattle.event_log.specs.declared.item.Item.{Item}
use Rattle.event_log.specs.declared.item.Item.TheVariants.{Enter as enter, Leave as leave, Token as told_token, Error as told_error}

unfoldable mutual
  pub told_tree : Tree → List Item
  told_tree (token k w) = told_token k w ∷ []
  told_tree (error n k) = told_error n k ∷ []
  told_tree (whole n) = told_node n
  -- an abandoned node tells no more than what stands in it
  told_tree (gone f) = told f

  pub told_node : Node → List Item
  told_node (node k f) = enter k ∷ (told f ++ leave ∷ [])
  -- the node that is preceded is the first child
  told_node (wrap n k f) = enter k ∷ (told_node n ++ (told f ++ leave ∷ []))

  pub told : Forest → List Item
  told nil = []
  told (cons t f) = told_tree t ++ told f

-- Every node that was completed has a kind other than TOMBSTONE, which is 0.
abbrev mutual
  pub KindsTree : Tree → Type 0
  KindsTree (token k w) = Unit {0}
  KindsTree (error n k) = Unit {0}
  KindsTree (whole n) = KindsNode n
  KindsTree (gone f) = Kinds f

  pub KindsNode : Node → Type 0
  KindsNode (node k f) = (0 < k) × Kinds f
  KindsNode (wrap n k f) = KindsNode n × (0 < k) × Kinds f

  pub Kinds : Forest → Type 0
  Kinds nil = Unit {0}
  Kinds (cons t f) = KindsTree t × Kinds f
