use Rattle.event_log.specs.Steps.{err}
use Rattle.event_log.proofs.Kit.{faults}
use Rattle.event_log.proofs.parser.Parser.error.Goals as goal

pub returns : goal.returns
unfolding err
returns c = faults c.push.ensures
