use Rattle.std.proofs.Common.{sym, refl}
use Rattle.std.proofs.Math.Bool.{and-false}
use Rattle.event_log.specs.Model.{faultless}
use Rattle.event_log.proofs.Growth.{faultless_one}
use Rattle.event_log.proofs.parser.calls.stays_clean.Goals as goal
use Rattle.event_log.proofs.parser.calls.stays_clean.Goals.{in-Error, in_default}

pub returns-after-matches : goal.returns-after-matches
unfolding faultless
returns-after-matches c = elim c.match-matches.branch [
  | in-Error w ↦ rw (w.matches-is, w.in-Error.is) (sym (and-false c.args.clean))
  | in_default w ↦ rw (w.matches-is, faultless_one c.args.entry w.in_default.not-Error, c.if-clean.true) refl
]
