-- What opening a reading does.
use Rattle.std.specs.Prelude.{◌≡◌, true, List, [], length, Some, None, Ok, Err, Result}
use Rattle.std.specs.Borrow.{MutBor}
use Rattle.event_log.specs.declared.event.Record.{Record}
use Rattle.tokens.specs.declared.input.Input.{Input}
use Rattle.tokens.specs.declared.rows.Row.{Row}
use Rattle.event_log.specs.declared.parser.Parser.{Parser}
use Rattle.tokens.specs.Islands.{rows_fit}
use Rattle.event_log.specs.Model.{env, New, NewWithRows}
use Rattle.grammar.specs.declared.reading.Reading.{Reading}
use Rattle.grammar.specs.declared.reading.Unopened.{Unopened}
use Rattle.grammar.specs.Verdict.{verdict, verdict_with_rows}

-- no tokens, and no records
pub record Empty (l : Parser) : Type 0 where
  pub tokens : env l ≡ record { kinds = []; contextual = []; joint = []; editions = []; rows = []; room = 0 }
  pub records : l.records.now ≡ []
  pub count : l.count ≡ 0
  pub place : l.place ≡ 0

-- Accepted, the reading is at the first of these tokens, with every record of the log blank. Refused, the reading is as before,
-- and the log is handed back as it was.
pub data Opens (i : Input) (l : MutBor (List Record)) (r s : Reading) : Result (Unit {0}) Unopened → Type 0 where
  opened : {x : Unit {0}} → verdict i (length l.now) ≡ None → New i (length l.now) s.parser → Opens i l r s (Ok x)
  refused : {e : Unopened} → verdict i (length l.now) ≡ Some e.refusal → e.records ≡ l → s ≡ r → Opens i l r s (Err e)

-- The same with rows: accepted, the reading has them, and there is a lawful row for each token.
pub data OpensWithRows (i : Input) (rows : List Row) (l : MutBor (List Record)) (r s : Reading) : Result (Unit {0}) Unopened → Type 0 where
  opened : {x : Unit {0}} → verdict_with_rows i rows (length l.now) ≡ None → rows_fit i.kinds.now rows ≡ true → NewWithRows i rows (length l.now) s.parser → OpensWithRows i rows l r s (Ok x)
  refused : {e : Unopened} → verdict_with_rows i rows (length l.now) ≡ Some e.refusal → e.records ≡ l → s ≡ r → OpensWithRows i rows l r s (Err e)
