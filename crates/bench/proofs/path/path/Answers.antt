use Rattle.std.proofs.Common.{vec_items, sym, ◌∙◌, arith}
use Rattle.bench.proofs.Paths.{one_more, no_more}
use Rattle.bench.proofs.path.path.Goals as goal

pub loop-left-preserved : goal.loop-left-preserved
loop-left-preserved c =
    one_more (vec_items c.loop-left.records) (vec_items c.push-in-loop-left.new.self) (vec_items c.push-in-loop-left-2.new.self) _ c.loop-left.left _
    (omega (arith, c.loop-left-test.true)) c.forward-in-loop-left.ensures
    c.in_ok-push-2.ensures.items c.in_ok-push-3.ensures.items c.in_ok-extend_from_slice-2.ensures.items
    ∙ c.loop-left.invariant

pub returns : goal.returns
returns c = sym (no_more (vec_items c.loop-left.records) c.loop-left.left (omega (arith, c.loop-left-test.false))) ∙ c.loop-left.invariant
