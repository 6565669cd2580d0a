use Rattle.sinks.proofs.walk.start.Start.+enter_chain.Given as goal

abbrev pub decreases-enter_chain : goal.decreases-enter_chain
decreases-enter_chain g l = l.starts
