use Rattle.std.proofs.Common.{◌≡◌, ◌+◌, ◌-◌, ◌≤◌, length, drop}
use Rattle.sinks.specs.Walk.{chain, used, mark_chain}
use Rattle.sinks.proofs.walk.start.Start.use_chain.Given as goal

-- what is left of the chain from the last start on, and what is left to mark
abbrev pub invariant-loop-next : goal.invariant-loop-next
invariant-loop-next l =
    let rs = l.self.records.now in
    (l.last.records.now ≡ rs) × (l.starts ≤ l.last.at + 1) × (l.starts + length (chain rs l.last.at) ≡ length (chain rs l.self.at) + 1)
    × (mark_chain rs l.last.at (used (length rs) l.marks) ≡ mark_chain rs l.self.at (used (length rs) l.initial.marks))
    × (drop (length rs) l.marks ≡ drop (length rs) l.initial.marks)

abbrev pub decreases-loop-next : goal.decreases-loop-next
decreases-loop-next l = length l.self.records.now - l.last.at
