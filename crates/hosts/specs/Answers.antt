-- Answers that hosts give.
use Rattle.std.specs.Prelude.{ℕ, false, cond, Some, ◌==◌}
use Rattle.tokens.specs.declared.rows.Answer.{Answer}
use Rattle.tokens.specs.Islands.{bare_fault}
use Rattle.hosts.specs.declared.run.Run.{Run}

-- a node of this kind around one token
abbrev pub one_token : ℕ → Answer
one_token k = record { tokens = 1; kind = Some k; fault = false }

-- A run as a node of this kind, with a fault if a bracket is open at its end; a fault alone if the run is empty.
abbrev pub tree : ℕ → Run → Answer
tree k r = cond (r.tokens == 0) bare_fault (record { tokens = r.tokens; kind = Some k; fault = r.unclosed })
