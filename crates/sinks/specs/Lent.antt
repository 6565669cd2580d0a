-- A vector over lent memory: what it keeps, and what one that takes more is then.
use Rattle.std.specs.Prelude.{◌≡◌, ℕ, ◌+◌, ◌-◌, ◌<◌, ◌≤◌, List, ◌++◌, length, take, drop, Ok, Err, Result}
use Rattle.sinks.specs.declared.lent.LentVec.{LentVec}
use Rattle.sinks.specs.declared.sink.Full.{Full}

module _ {T : Type 0} where
  -- the items that are kept
  abbrev pub stored : LentVec T → List T
  stored v = take v.len v.memory.now

  -- how many more fit
  abbrev pub room : LentVec T → ℕ
  room v = length v.memory.now - v.len

  -- these items from an index on, in place of as many others
  abbrev pub over : List T → ℕ → List T → List T
  over xs i ys = take i xs ++ ys ++ drop (i + length ys) xs

  -- The items xs follow those that are kept, and that leaves the memory zs; or they are more than the room, and everything stays as it is.
  pub data Appends (xs zs : List T) (v w : LentVec T) : Result (Unit {0}) Full → Type 0 where
    appended : {a : Unit {0}} → length xs ≤ room v → w.memory.now ≡ zs → w.len ≡ v.len + length xs
        → stored w ≡ stored v ++ xs → room w ≡ room v - length xs → Appends xs zs v w (Ok a)
    stays : {e : Full} → room v < length xs → w ≡ v → Appends xs zs v w (Err e)
