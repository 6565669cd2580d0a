use Rattle.event_log.specs.Steps.{eat_contextual}
use Rattle.event_log.proofs.Kit.{gives, looks, yes, nay, then, exits}
use Rattle.event_log.proofs.parser.Parser.eat_contextual_kw.Goals as goal

pub returns-then-not-is_readable : goal.returns-then-not-is_readable
unfolding eat_contextual
returns-then-not-is_readable c = looks (nay _ c.if-not-is_readable.ensures gives)

pub returns-in_err-bump_remap : goal.returns-in_err-bump_remap
unfolding eat_contextual
returns-in_err-bump_remap c = looks (yes _ c.if-not-is_readable.ensures (exits c.in_err-bump_remap.ensures _ c.from_residual.ensures.1))

pub returns : goal.returns
unfolding eat_contextual
returns c = looks (yes _ c.if-not-is_readable.ensures (then c.in_ok-bump_remap.ensures gives))
