use Rattle.event_log.specs.Steps.{expect}
use Rattle.event_log.proofs.Kit.{gives, then, exits, yes, nay}
use Rattle.event_log.proofs.parser.Parser.expect.Goals as goal

pub returns-in_err-eat : goal.returns-in_err-eat
unfolding expect
returns-in_err-eat c = exits c.in_err-eat.ensures _ c.from_residual.ensures.1

pub returns-then-branch : goal.returns-then-branch
unfolding expect
returns-then-branch c = then c.in_ok-eat.ensures (yes _ c.if-branch.true gives)

pub returns-in_err-expected : goal.returns-in_err-expected
unfolding expect
returns-in_err-expected c =
    then c.in_ok-eat.ensures (nay _ c.if-branch.false
    (exits c.in_err-expected.ensures _ c.from_residual-in_err-expected.ensures.1))

pub returns : goal.returns
unfolding expect
returns c =
    then c.in_ok-eat.ensures (nay _ c.if-branch.false
    (then c.in_ok-expected.ensures
    gives))
