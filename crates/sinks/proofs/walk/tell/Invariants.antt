use Rattle.sinks.proofs.Groups.{SoFar}
use Rattle.sinks.proofs.walk.tell.Given as goal

abbrev pub invariant-loop-at : goal.invariant-loop-at
invariant-loop-at g l =
    SoFar g.S.Sink.size l.records l.at-counter l.initial.marks l.marks
    (g.S.Sink.heard l.initial.sink) (g.S.Sink.heard l.sink)
