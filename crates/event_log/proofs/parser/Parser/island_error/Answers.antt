use Rattle.event_log.proofs.Kit.{gives, nay}
use Rattle.event_log.proofs.parser.Parser.island_error.Goals as goal

pub returns : goal.returns
returns c = nay _ c.if-answer.false gives
