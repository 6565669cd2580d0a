use Rattle.std.proofs.Common.{sym}
use Rattle.event_log.proofs.Slots.{counted}
use Rattle.event_log.proofs.Nodes.{starts, no_start}
use Rattle.event_log.proofs.parser.Parser.start.Goals as goal

pub returns-in_err-push : goal.returns-in_err-push
returns-in_err-push c = no_start c.in_err-push.ensures _ c.from_residual.ensures.1

pub returns : goal.returns
returns c = starts (sym (counted c.args.self.now)) c.in_ok-push.ensures
