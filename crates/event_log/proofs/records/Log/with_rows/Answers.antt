use Rattle.std.proofs.Common.{length}
use Rattle.event_log.proofs.Slots.{all_blank_filled}
use Rattle.event_log.proofs.records.Log.with_rows.Goals as goal

pub invariant_of-result-clause-blanks : goal.invariant_of-result-clause-blanks
invariant_of-result-clause-blanks c = all_blank_filled 0 (length c.args.records.now) (c.fill.ensures.after (λ y e. e))
