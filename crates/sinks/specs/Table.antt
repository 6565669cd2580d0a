-- What a node table takes.
use Rattle.std.specs.Prelude.{◌≡◌, ℕ, ◌+◌, ◌<◌, List, length, Ok, Err, Result, slice_set}
use Rattle.std.proofs.Common.{zero-le, suc-le-suc}
use Rattle.event_log.specs.declared.item.Item.{Item}
use Rattle.sinks.specs.declared.sink.Full.{Full}
use Rattle.sinks.specs.declared.table.NodeTable.{NodeTable}
use Rattle.sinks.specs.declared.table.entry.Entry.{Entry}
use Rattle.sinks.specs.Sink.{Heard, TakesRoom}
use Rattle.sinks.specs.Lent.{stored, room}
use Rattle.sinks.specs.Nodes.{items_in, innermost, open_after}

abbrev pub items_of : NodeTable → List Item
items_of s = items_in (stored s.entries)

abbrev pub room_of : NodeTable → ℕ
room_of s = room s.entries

abbrev pub heard_of : NodeTable → Heard
heard_of s = record { items = items_of s; room = room_of s }

-- every item takes one entry
abbrev pub one_entry : Item → ℕ
one_entry x = 1

pub some_entry : TakesRoom one_entry
some_entry x = suc-le-suc zero-le

-- the next item, with the node that it stands in
abbrev pub next_entry : Item → NodeTable → Entry
next_entry x s = record { item = x; node = innermost (open_after (items_of s)) }

-- The item's entry follows those that were kept, and all other memory is as before; or there is no room, and everything is kept.
pub data Keeps (x : Item) (s t : NodeTable) : Result (Unit {0}) Full → Type 0 where
  wrote : {a : Unit {0}} → s.entries.len < length s.entries.memory.now
      → t.entries.memory.now ≡ slice_set s.entries.memory.now s.entries.len (next_entry x s)
      → t.entries.len ≡ s.entries.len + 1 → Keeps x s t (Ok a)
  kept : {e : Full} → s.entries.len ≡ length s.entries.memory.now
      → t.entries.memory.now ≡ s.entries.memory.now → t.entries.len ≡ s.entries.len → t.node ≡ s.node → Keeps x s t (Err e)
