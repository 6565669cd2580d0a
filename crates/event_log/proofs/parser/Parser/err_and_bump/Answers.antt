use Rattle.event_log.specs.Steps.{err_and_bump}
use Rattle.event_log.proofs.Kit.{opens, exited}
use Rattle.event_log.proofs.Chains.{no_complete, closes}
use Rattle.event_log.proofs.parser.Parser.err_and_bump.Goals as goal

pub returns-in_err-m : goal.returns-in_err-m
unfolding err_and_bump
returns-in_err-m c = exited (no_complete c.in_err-m.ensures) _ c.from_residual.ensures.1

pub close-requires-clause-opened : goal.close-requires-clause-opened
close-requires-clause-opened c = opens c.in_ok-m.ensures c.error_and_token-r.ensures

pub returns : goal.returns
unfolding err_and_bump
returns c = closes c.in_ok-m.ensures c.error_and_token-r.ensures c.close.ensures
