use Rattle.grammar.proofs.Readings.{reached_none}
use Rattle.grammar.proofs.reading.Reading.new.Goals as goal

pub invariant_of-result : goal.invariant_of-result
invariant_of-result c = let e = c.empty.ensures in record { reached = reached_none c.empty.result e.count e.place }
