use Rattle.event_log.proofs.Kit.{then, exits}
use Rattle.event_log.proofs.parser.Parser.error_and_token.Goals as goal

pub returns-in_err-error : goal.returns-in_err-error
returns-in_err-error c = exits c.in_err-error.ensures _ c.from_residual.ensures.1

pub returns : goal.returns
returns c = then c.in_ok-error.ensures c.bump_any.ensures
