use Rattle.std.proofs.Common.{ℕ, ◌<◌, false}
use Rattle.grammar.specs.Each.{Answers}
use Rattle.grammar.proofs.check.check_each.Given as goal

-- no entry before this one is wrong
abbrev pub invariant-loop-place : goal.invariant-loop-place
invariant-loop-place g l = (i : ℕ) → i < l.place → Answers g.W.Fn l.wrong l.column i false
