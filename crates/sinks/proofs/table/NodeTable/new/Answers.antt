use Rattle.std.proofs.Common.{rules}
use Rattle.sinks.specs.Nodes.{past_all, around_each}
use Rattle.sinks.proofs.table.NodeTable.new.Goals as goal

pub invariant_of-result : goal.invariant_of-result
unfolding past_all around_each
invariant_of-result c = search rules
