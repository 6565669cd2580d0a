use Rattle.std.proofs.Common.{◌≡◌, ◌-◌, length}
use Rattle.event_log.specs.Model.{env}
use Rattle.reader.proofs.list.take_all.Given as goal

abbrev pub invariant-loop : goal.invariant-loop
invariant-loop l = env l.reading.parser ≡ env l.initial.reading.parser

abbrev pub decreases-loop : goal.decreases-loop
decreases-loop l = length l.reading.parser.input.kinds.now - l.reading.parser.place
