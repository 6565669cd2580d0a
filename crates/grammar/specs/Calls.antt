-- The calls on a reading, and where they lead.
use Rattle.std.specs.Prelude.{◌≡◌, List, map}
use Rattle.event_log.specs.declared.parser.Parser.{Parser}
use Rattle.event_log.specs.Steps.{bump_any}
use Rattle.event_log.specs.Model.{of, env}
use Rattle.event_log.specs.Reading.{Call as program_call, Reading, begun, after}
use Rattle.event_log.specs.Reading.Call.{call}

pub data Call : Type 0 where
  skip : Call

-- what a call runs
abbrev pub program : Call → program_call
program skip = call bump_any

-- a parser's records and place
abbrev pub seen : Parser → Reading
seen l = record { log = (of l).recs; place = l.place }

-- this list of calls since it was opened, refused ones too, has led here
abbrev pub Leads : Parser → List Call → Type 0
Leads l cs = after (env l) (map program cs) begun ≡ seen l

-- some list of calls has
abbrev pub Reached : Parser → Type 0
Reached l = ∥ ((cs : List Call) × Leads l cs) ∥₁
