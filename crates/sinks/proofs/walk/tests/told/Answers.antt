use Rattle.std.proofs.Common.{rules}
use Rattle.sinks.proofs.Walking.{fresh}
use Rattle.sinks.proofs.walk.tests.told.Goals as goal

pub tell-requires : goal.tell-requires
tell-requires g c = fresh c.args.records.now _ (search rules) (c.fill.ensures.after (λ y e. e))
