use Rattle.event_log.specs.Model.Concludes.{taken_back}
use Rattle.event_log.proofs.Slots.{concludes_ok}
use Rattle.event_log.proofs.parser.Parser.conclude.Goals as goal

pub returns-in-Err : goal.returns-in-Err
returns-in-Err c = rw c.in-Err.is (taken_back c.put_back.ensures)

pub returns : goal.returns
returns c = concludes_ok c.args.r c.in_default.not-Err c.taken_since.ensures.tokens c.taken_since.ensures.clean
