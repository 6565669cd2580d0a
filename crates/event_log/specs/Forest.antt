-- What the records of a log stand for: trees, some of whose nodes were abandoned.
use Rattle.std.specs.Prelude.{ℕ, ◌+◌, List, [], ◌∷◌, ◌++◌, length, Some, None, Option}
use Rattle.tokens.specs.Kinds.{TOMBSTONE}
use Rattle.event_log.specs.declared.event.Record.{Record}
use Rattle.event_log.specs.declared.event.Record.TheVariants.{Start, Finish, Token, Error}

mutual
  pub data Tree : Type 0 where
    -- a kind, and how many raw tokens it holds
    token : ℕ → ℕ → Tree
    -- a number, and a kind
    error : ℕ → ℕ → Tree
    -- a node that was completed
    whole : Node → Tree
    -- a node that was abandoned, by what stood in it
    gone : Forest → Tree

  pub data Node : Type 0 where
    node : ℕ → Forest → Node
    -- a node that precedes another one, which is its first child
    wrap : Node → ℕ → Forest → Node

  pub data Forest : Type 0 where
    nil : Forest
    cons : Tree → Forest → Forest

-- the kind of the outermost node
unfoldable pub kind_of : Node → ℕ
kind_of (node k f) = k
kind_of (wrap n k f) = k

infixr 40 ◌<>◌
unfoldable pub ◌<>◌ : Forest → Forest → Forest
nil <> g = g
(cons t f) <> g = cons t (f <> g)

abbrev pub blank : Record
blank = Start TOMBSTONE None

-- An abandoned start is removed only when it is the last record.
unfoldable pub left_in : List Record → List Record
left_in [] = []
left_in (r ∷ rs) = blank ∷ (r ∷ rs)

unfoldable mutual
  pub flat : Tree → List Record
  flat (token k w) = Token k w ∷ []
  flat (error n k) = Error n k ∷ []
  flat (whole n) = flat_node n None
  flat (gone f) = left_in (flats f)

  -- the records of a node, whose own start has this forward parent
  pub flat_node : Node → Option ℕ → List Record
  flat_node (node k f) fp = Start k fp ∷ (flats f ++ Finish ∷ [])
  flat_node (wrap n k f) fp = flat_node n (Some (own n)) ++ (Start k fp ∷ (flats f ++ Finish ∷ []))

  -- how far a node's own start lies before its end
  pub own : Node → ℕ
  own (node k f) = 2 + length (flats f)
  own (wrap n k f) = 2 + length (flats f)

  pub flats : Forest → List Record
  flats nil = []
  flats (cons t f) = flat t ++ flats f

unfoldable mutual
  -- how many raw tokens lie in it
  pub wide : Tree → ℕ
  wide (token k w) = w
  wide (error n k) = 0
  wide (whole n) = wide_node n
  wide (gone f) = wides f

  pub wide_node : Node → ℕ
  wide_node (node k f) = wides f
  wide_node (wrap n k f) = wide_node n + wides f

  pub wides : Forest → ℕ
  wides nil = 0
  wides (cons t f) = wide t + wides f
