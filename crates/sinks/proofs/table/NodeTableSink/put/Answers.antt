use Rattle.std.proofs.Common.{◌≡◌, ℕ, [], ◌∷◌, ◌++◌, refl, set, Ok, Err, Result, IsErrAnd, ap, ◌∙◌, arith}
use Rattle.event_log.specs.declared.item.Item.{Item}
use Rattle.sinks.specs.declared.lent.LentVec.{LentVec}
use Rattle.sinks.specs.declared.sink.Full.{Full}
use Rattle.sinks.specs.declared.table.NodeTable.{NodeTable}
use Rattle.sinks.specs.declared.table.entry.Entry.{Entry}
use Rattle.sinks.specs.Lent.{stored, room, Appends}
use Rattle.sinks.specs.Lent.Appends.{appended, stays}
use Rattle.sinks.specs.Nodes.{items_in, nodes_in, around, innermost, open_after}
use Rattle.sinks.specs.Sink.{Takes}
use Rattle.sinks.specs.Table.{items_of, heard_of, one_entry, Keeps}
use Rattle.sinks.specs.Sink.Takes.{took, full}
use Rattle.sinks.specs.Table.Keeps.{wrote, kept}
use Rattle.sinks.proofs.Tables.{items_after, kept_after, inside_after}
use Rattle.sinks.proofs.table.NodeTableSink.put.Goals as goal

abbrev entry : NodeTable → Item → Entry
entry s x = record { item = x; node = s.node }

-- what the entry of an item leaves of a table
abbrev Pushed : NodeTable → Item → LentVec Entry → Result (Unit {0}) Full → Type 0
Pushed s x q r = Appends (entry s x ∷ []) (set s.entries.memory.now s.entries.len (entry s x)) s.entries q r

same : (s : NodeTable) (x : Item) {q : LentVec Entry} {e : Full} → Pushed s x q (Err e) → q ≡ s.entries
same s x (stays more is) = is

refuses : (s t : NodeTable) (x : Item) {e : Full} (P : Full → Type 0) → Pushed s x t.entries (Err e) → t.node ≡ s.node
    → (r : Result (Unit {0}) Full) → IsErrAnd r P → Takes one_entry x (heard_of s) (heard_of t) r × Keeps x s t r
refuses s t x P h node (Ok a) p = absurd p
refuses s t x P (stays more is) node (Err e) p = (
  full (omega (arith, more)) (ap (λ (v : LentVec Entry). record { items = items_in (stored v); room = room v }) is),
  kept (omega (arith, more, s.entries.within)) (ap (λ (v : LentVec Entry). v.memory.now) is) (ap (λ (v : LentVec Entry). v.len) is) node,
)

takes : (s t : NodeTable) (x : Item) {a b : Unit {0}} → Pushed s x t.entries (Ok a) → Takes one_entry x (heard_of s) (heard_of t) (Ok b) × Keeps x s t (Ok b)
takes s t x (appended fits memory len new less) = (
  took (omega (arith, fits)) (items_after s _ _ new) less,
  wrote (omega (arith, fits)) (memory ∙ ap (λ (n : ℕ). set s.entries.memory.now s.entries.len (record { item = x; node = n })) s.inside) len,
)

holds : (s : NodeTable) {x : Item} {q : LentVec Entry} {a : Unit {0}} {n : ℕ} → Pushed s x q (Ok a) → n ≡ innermost (open_after (items_of s ++ x ∷ []))
    → (nodes_in (stored q) ≡ around (items_in (stored q))) × (n ≡ innermost (open_after (items_in (stored q))))
holds s (appended fits memory len new less) next = (kept_after s _ _ new, inside_after s _ _ new next)

pub invariant_of-self : goal.invariant_of-self
invariant_of-self c =
    let s = c.args.self.now in
    record { kept = rw (same s c.args.item c.in_err-push.ensures) s.kept; inside = rw (same s c.args.item c.in_err-push.ensures) s.inside }

pub returns-in_err-push : goal.returns-in_err-push
returns-in_err-push c =
    let r = refuses c.args.self.now _ c.args.item _ c.in_err-push.ensures refl c.from_residual.result c.from_residual.ensures.1 in
    record { takes = r.0; keeps = r.1 }

pub invariant_of-self-2 : goal.invariant_of-self-2
invariant_of-self-2 c =
    let h = holds c.args.self.now c.in_ok-push.ensures c.node_after-node.ensures in
    record { kept = h.0; inside = h.1 }

pub returns : goal.returns
returns c =
    let r = takes c.args.self.now _ c.args.item c.in_ok-push.ensures in
    record { takes = r.0; keeps = r.1 }
