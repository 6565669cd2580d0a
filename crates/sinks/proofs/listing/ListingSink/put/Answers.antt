use Rattle.std.proofs.Common.{◌≡◌, ℕ, List, Result, ap, ◌∙◌}
use Rattle.event_log.specs.declared.item.Item.{Item}
use Rattle.sinks.specs.declared.lent.LentVec.{LentVec}
use Rattle.sinks.specs.declared.listing.Listing.{Listing}
use Rattle.sinks.specs.declared.sink.Full.{Full}
use Rattle.sinks.specs.Lent.{stored, room, over, Appends}
use Rattle.sinks.specs.Lent.Appends.{appended, stays}
use Rattle.sinks.specs.Lines.{line, listing, read, Small}
use Rattle.sinks.specs.Listing.{heard_of, bytes_for, Writes}
use Rattle.sinks.specs.Listing.Writes.{wrote, kept}
use Rattle.sinks.specs.Sink.{Takes}
use Rattle.sinks.specs.Sink.Takes.{took, full}
use Rattle.sinks.proofs.Lines.{read_after, listed_after}
use Rattle.sinks.proofs.listing.ListingSink.put.Goals as goal

abbrev Written : Listing → LentVec ℕ → List ℕ → Result (Unit {0}) Full → Type 0
Written p q bs r = Appends bs (over p.lines.memory.now p.lines.len bs) p.lines q r

-- these bytes are the item's line
as_line : (p : Listing) {q : LentVec ℕ} {r : Result (Unit {0}) Full} {bs : List ℕ} (x : Item) → bs ≡ line x → Written p q bs r → Written p q (line x) r
as_line p x text h = rw text at h

lists : (p : Listing) {q : LentVec ℕ} {r : Result (Unit {0}) Full} (x : Item) → Small x → Written p q (line x) r → stored q ≡ listing (read (stored q))
lists p x small (appended fits memory len new less) = listed_after _ _ x small new p.listed
lists p x small (stays more same) = rw same p.listed

puts : (p t : Listing) {r : Result (Unit {0}) Full} (x : Item) → Small x → Written p t.lines (line x) r
    → Takes bytes_for x (heard_of p) (heard_of t) r × Writes x p t r
puts p t x small (appended fits memory len new less) = (took fits (read_after _ _ x small new) less, wrote fits memory len)
puts p t x small (stays more same) = (
  full more (ap (λ (v : LentVec ℕ). record { items = read (stored v); room = room v }) same),
  kept more (ap (λ (v : LentVec ℕ). v.memory.now) same) (ap (λ (v : LentVec ℕ). v.len) same),
)

pub invariant_of-self : goal.invariant_of-self
invariant_of-self c =
    let text = c.as_bytes.ensures.value ∙ c.as_str.ensures.value ∙ c.line_of-line.ensures.text in
    record { listed = lists c.args.self.now c.args.item c.line_of-line.ensures.small (as_line c.args.self.now c.args.item text c.extend_from_slice.ensures) }

pub returns : goal.returns
returns c =
    let text = c.as_bytes.ensures.value ∙ c.as_str.ensures.value ∙ c.line_of-line.ensures.text in
    let p = puts c.args.self.now _ c.args.item c.line_of-line.ensures.small (as_line c.args.self.now c.args.item text c.extend_from_slice.ensures) in
    record { takes = p.0; writes = p.1 }
