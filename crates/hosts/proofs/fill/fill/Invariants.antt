use Rattle.hosts.proofs.Filling.{Filled}
use Rattle.hosts.proofs.fill.fill.Given as goal

abbrev pub invariant-loop-place : goal.invariant-loop-place
invariant-loop-place g l = Filled (g.H.Host.meaning l.host) l.input l.rows l.place
