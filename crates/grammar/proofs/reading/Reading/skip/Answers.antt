use Rattle.std.proofs.Common.{refl}
use Rattle.event_log.proofs.Performing.{since, performs}
use Rattle.grammar.specs.Calls.Call.{skip}
use Rattle.grammar.proofs.Readings.{reached_more}
use Rattle.grammar.proofs.reading.Reading.skip.Goals as goal

pub conclude-requires : goal.conclude-requires
conclude-requires c = since c.begin-began.ensures c.skip_token-r.ensures

pub invariant_of-self : goal.invariant_of-self
invariant_of-self c =
    record { reached = reached_more skip refl (performs c.begin-began.ensures c.skip_token-r.ensures c.conclude.ensures) c.args.self.now.reached }

pub returns : goal.returns
returns c = performs c.begin-began.ensures c.skip_token-r.ensures c.conclude.ensures
