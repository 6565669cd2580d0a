use Rattle.event_log.specs.Steps.{eat}
use Rattle.event_log.proofs.Kit.{gives, looks, yes, nay, then, exits}
use Rattle.event_log.proofs.parser.Parser.eat.Goals as goal

pub returns-then-not-is_present : goal.returns-then-not-is_present
unfolding eat
returns-then-not-is_present c = looks (nay _ c.if-not-is_present.ensures gives)

pub returns-in_err-bump : goal.returns-in_err-bump
unfolding eat
returns-in_err-bump c = looks (yes _ c.if-not-is_present.ensures (exits c.in_err-bump.ensures _ c.from_residual.ensures.1))

pub returns : goal.returns
unfolding eat
returns c = looks (yes _ c.if-not-is_present.ensures (then c.in_ok-bump.ensures gives))
