use Rattle.std.proofs.Common.{arith}
use Rattle.grammar.specs.Each.Checks.{fine, refused}
use Rattle.grammar.proofs.Firsts.{one_more}
use Rattle.grammar.proofs.check.check_each.Goals as goal

pub returns-then-wrong : goal.returns-then-wrong
returns-then-wrong g c =
    refused c.loop-place.invariant c.loop-place-test.true (record { entry = _; stands = c.index-column-place.is; says = c.if-wrong.ensures }) c.refusal.ensures

pub loop-place-preserved : goal.loop-place-preserved
loop-place-preserved g c = one_more c.loop-place.invariant (record { entry = _; stands = c.index-column-place.is; says = c.if-wrong.ensures })

pub returns : goal.returns
returns g c = fine (λ i lt. c.loop-place.invariant i (omega (arith, lt, c.loop-place.auto.place-end)))
