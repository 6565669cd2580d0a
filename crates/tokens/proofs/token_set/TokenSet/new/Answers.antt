use Rattle.tokens.proofs.Members.{collects_none, takes_in, leaves_out}
use Rattle.tokens.proofs.token_set.TokenSet.new.Goals as goal
use Rattle.tokens.proofs.token_set.TokenSet.new.Goals.{then-kind-le-SHEBANG, else-kind-le-SHEBANG}

pub loop-kind-init : goal.loop-kind-init
loop-kind-init c = collects_none

pub loop-kind-preserved : goal.loop-kind-preserved
loop-kind-preserved c =
    let kinds = c.args.kinds.now in
    let i = c.loop-kind.kind-index in
    elim c.if-kind-le-SHEBANG.branch [
      | then-kind-le-SHEBANG w ↦
          takes_in kinds i _ _ c.loop-kind-test.true w.if-kind-le-SHEBANG.true (cc) c.loop-kind.invariant
      | else-kind-le-SHEBANG w ↦
          leaves_out kinds i _ _ c.loop-kind-test.true w.if-kind-le-SHEBANG.false w.words-is c.loop-kind.invariant
    ]
