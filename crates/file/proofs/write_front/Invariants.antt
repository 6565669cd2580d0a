use Rattle.std.proofs.Common.{ℕ, ◌<◌, get_or}
use Rattle.file.proofs.write_front.Given as goal

-- the entries so far
abbrev pub invariant-loop-i : goal.invariant-loop-i
invariant-loop-i g l = (k : ℕ) (d : _) → k < l.i → goal.F-post g l.entry k (get_or l.slot-items k d)
