use Rattle.event_log.proofs.Islands.{bumps_again, bumps_exit, bumps_last}
use Rattle.event_log.proofs.parser.Parser.bumps.Goals as goal

pub returns-in_err-bump_any : goal.returns-in_err-bump_any
returns-in_err-bump_any c = c.loop.invariant _ _ (bumps_exit c.args.tokens c.loop.counter c.loop-test.true c.in_err-bump_any.ensures _ c.from_residual.ensures.1)

pub loop-preserved : goal.loop-preserved
loop-preserved c u r h = c.loop.invariant u r (bumps_again c.args.tokens c.loop.counter c.loop-test.true c.in_ok-bump_any.ensures h)

pub returns : goal.returns
returns c = c.loop.invariant _ _ (bumps_last c.args.tokens c.loop.counter c.loop-test.false)
