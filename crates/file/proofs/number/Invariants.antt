use Rattle.std.proofs.Common.{◌≡◌}
use Rattle.file.specs.TokenFile.{number_at}
use Rattle.file.proofs.number.Given as goal

-- the bits so far
abbrev pub invariant-loop-i : goal.invariant-loop-i
invariant-loop-i l = l.value ≡ number_at l.bytes l.from l.i
