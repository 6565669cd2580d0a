-- The records of the path `a::a::a..`: around each segment a PATH, which precedes the one before it.
use Rattle.std.specs.Prelude.{ℕ, zero, suc, List, [], ◌∷◌, ◌++◌, Some, None, Option}
use Rattle.event_log.specs.declared.event.Record.{Record}
use Rattle.event_log.specs.declared.event.Record.TheVariants.{Start, Finish, Token}
use Rattle.tokens.specs.Kinds.{PATH, PATH_SEGMENT, NAME_REF, IDENT, COLON2}

-- a segment, and the end of its path
abbrev pub segment : List Record
segment = Start PATH_SEGMENT None ∷ Start NAME_REF None ∷ Token IDENT 1 ∷ Finish ∷ Finish ∷ Finish ∷ []

-- the forward parent of a path that has so many records: right behind it, unless it is the last
abbrev pub parent : ℕ → ℕ → Option ℕ
parent records zero = None
parent records (suc left) = Some records

-- so many paths more
unfoldable pub onward : ℕ → List Record
onward zero = []
onward (suc left) = (Start PATH (parent 8 left) ∷ Token COLON2 2 ∷ segment) ++ onward left

-- a path of one segment and so many more
abbrev pub path : ℕ → List Record
path more = (Start PATH (parent 7 more) ∷ segment) ++ onward more
