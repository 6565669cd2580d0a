use Rattle.std.proofs.Common.{take}
use Rattle.tokens.proofs.Members.{Collects}
use Rattle.tokens.proofs.token_set.TokenSet.new.Given as goal

abbrev pub invariant-loop-kind : goal.invariant-loop-kind
invariant-loop-kind l = Collects l.words (take l.kind-index l.kinds)
