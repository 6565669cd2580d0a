-- What a listing takes, byte by byte.
use Rattle.std.specs.Prelude.{◌≡◌, ℕ, ◌+◌, ◌<◌, ◌≤◌, List, length, Ok, Err, Result}
use Rattle.std.proofs.Common.{zero-le, suc-le-suc}
use Rattle.event_log.specs.declared.item.Item.{Item}
use Rattle.sinks.specs.declared.sink.Full.{Full}
use Rattle.sinks.specs.declared.listing.Listing.{Listing}
use Rattle.event_log.specs.declared.item.Item.TheVariants.{Enter, Leave, Token, Error}
use Rattle.sinks.specs.Sink.{Heard, TakesRoom}
use Rattle.sinks.specs.Lent.{stored, room, over}
use Rattle.sinks.specs.Lines.{line, read}

abbrev pub items_of : Listing → List Item
items_of s = read (stored s.lines)

abbrev pub room_of : Listing → ℕ
room_of s = room s.lines

abbrev pub heard_of : Listing → Heard
heard_of s = record { items = items_of s; room = room_of s }

-- the bytes of an item's line
abbrev pub bytes_for : Item → ℕ
bytes_for x = length (line x)

-- of which the one that ends it is one
pub some_bytes : TakesRoom bytes_for
some_bytes (Enter k) = suc-le-suc zero-le
some_bytes Leave = suc-le-suc zero-le
some_bytes (Token k w) = suc-le-suc zero-le
some_bytes (Error n k) = suc-le-suc zero-le

-- The line of the item follows what was written, and from there on each byte is as before; or it is longer than the room, and everything is kept.
pub data Writes (x : Item) (s t : Listing) : Result (Unit {0}) Full → Type 0 where
  wrote : {a : Unit {0}} → bytes_for x ≤ room_of s
      → t.lines.memory.now ≡ over s.lines.memory.now s.lines.len (line x)
      → t.lines.len ≡ s.lines.len + bytes_for x → Writes x s t (Ok a)
  kept : {e : Full} → room_of s < bytes_for x
      → t.lines.memory.now ≡ s.lines.memory.now → t.lines.len ≡ s.lines.len → Writes x s t (Err e)
