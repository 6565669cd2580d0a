-- How many records a log has at most.
use Rattle.std.specs.Prelude.{ℕ}

abbrev pub max_records : ℕ
max_records = 65535
