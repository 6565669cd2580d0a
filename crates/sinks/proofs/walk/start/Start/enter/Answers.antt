use Rattle.std.proofs.Common.{sym, ◌∙◌}
use Rattle.sinks.proofs.Chains.{first_entered, first_abandoned}
use Rattle.sinks.proofs.walk.start.Start.enter.Goals as goal

pub returns-in-Start : goal.returns-in-Start
returns-in-Start g c =
    let s = c.args.self.now in
    first_entered s.records.now s.at (sym c.record.ensures ∙ c.in-Start.is) c.if-kind-ne-TOMBSTONE.true c.put.ensures

pub returns-in_default : goal.returns-in_default
returns-in_default g c =
    let s = c.args.self.now in
    first_abandoned s.records.now s.at (sym c.record.ensures ∙ c.in-Start.is) c.if-kind-ne-TOMBSTONE.false
