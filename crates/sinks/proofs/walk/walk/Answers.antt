use Rattle.sinks.proofs.Laws.{walk_law}
use Rattle.sinks.proofs.Walking.{walks_of}
use Rattle.sinks.proofs.walk.walk.Goals as goal

pub returns : goal.returns
returns g c =
    let w = walks_of c.records-records.ensures c.process.ensures in
    record { told = w; law = walk_law c.args.reading.now w }
