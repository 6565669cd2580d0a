use Rattle.hosts.specs.Runs.{stops_at}
use Rattle.hosts.proofs.Runs.{Goes_on}
use Rattle.hosts.proofs.run.Run.of.Given as goal

abbrev pub invariant-loop-tokens : goal.invariant-loop-tokens
invariant-loop-tokens l = Goes_on (stops_at l.stop) l.kinds l.tokens l.depth
