use Rattle.event_log.proofs.Kit.{faults}
use Rattle.event_log.proofs.parser.Parser.expected.Goals as goal

pub returns : goal.returns
returns c = faults c.push.ensures
