-- The raw host: at every hook the run, which also stops at marks, as a token tree.
use Rattle.std.specs.Prelude.{ℕ, List, drop}
use Rattle.tokens.specs.declared.rows.Hook.{Hook}
use Rattle.tokens.specs.declared.rows.Answer.{Answer}
use Rattle.tokens.specs.Kinds.{TOKEN_TREE}
use Rattle.hosts.specs.declared.run.Stop.TheVariants.{Mark}
use Rattle.hosts.specs.Host.{Columns}
use Rattle.hosts.specs.Runs.{stops_at, run_of}
use Rattle.hosts.specs.Answers.{tree}

-- by the tokens from the first on
abbrev pub raw_ahead : List ℕ → Answer
raw_ahead ahead = tree TOKEN_TREE (run_of (stops_at Mark) ahead)

abbrev pub raw_answer : Hook → Columns → ℕ → Answer
raw_answer h c place = raw_ahead (drop place c.kinds)
