use Rattle.std.proofs.Common.{◌≡◌, drop}
use Rattle.sinks.specs.Walk.{chain}
use Rattle.sinks.proofs.walk.start.Start.ancestor.Given as goal

-- so many steps along the chain
abbrev pub invariant-loop : goal.invariant-loop
invariant-loop l = chain l.last.records.now l.last.at ≡ drop l.counter (chain l.self.records.now l.self.at)
