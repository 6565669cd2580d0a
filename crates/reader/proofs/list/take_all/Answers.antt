use Rattle.std.proofs.Common.{arith}
use Rattle.reader.specs.List.TakesAll.{taken}
use Rattle.reader.proofs.Taking.{ended, after, stuck_at}
use Rattle.reader.proofs.list.take_all.Goals as goal

pub returns-in_err-skip : goal.returns-in_err-skip
returns-in_err-skip c = stuck_at c.in_err-skip.ensures _ c.from_residual.ensures.1

pub returns : goal.returns
returns c = taken (after c.loop.invariant (ended c.in_ok-skip.ensures (omega arith)))
