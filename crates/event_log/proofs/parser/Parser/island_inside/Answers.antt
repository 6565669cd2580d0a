use Rattle.event_log.proofs.Kit.{then, exits}
use Rattle.event_log.proofs.parser.Parser.island_inside.Goals as goal

pub returns-in_err-island_error : goal.returns-in_err-island_error
returns-in_err-island_error c = exits c.in_err-island_error.ensures _ c.from_residual.ensures.1

pub returns : goal.returns
returns c = then c.in_ok-island_error.ensures c.bumps.ensures
