use Rattle.std.proofs.Common.{◌≡◌, length, sym, ap, ◌∙◌, arith, drop-set-lt}
use Rattle.sinks.specs.Walk.{used, mark_chain}
use Rattle.sinks.proofs.Chains.{Next, Top, onward}
use Rattle.sinks.proofs.Marks.{used_set, length_used}
use Rattle.sinks.proofs.walk.start.Start.use_chain.Goals as goal

pub loop-next-preserved : goal.loop-next-preserved
loop-next-preserved c =
    let rs = c.args.self.now.records.now in
    let ms = c.loop-next.marks in
    let j = c.in-Some.next.at in
    let inv = c.loop-next.invariant in
    let n : Next rs c.loop-next.last.at j = onward _ _ c.loop-next.last.here inv.0 c.in-Some.ensures.place in
    let long : length (used (length rs) ms) ≡ length rs = length_used (length rs) ms (omega (arith, c.requires, c.loop-next.auto.marks)) in (
      c.in-Some.ensures.same_records ∙ inv.0,
      omega (arith, n.further, inv.1),
      omega (arith, inv.2, ap length n.chained),
      ap (mark_chain rs j) (used_set (length rs) ms j n.within) ∙ sym (n.marked (used (length rs) ms) long) ∙ inv.3,
      drop-set-lt (length rs) ms j 1 n.within ∙ inv.4,
    )

pub returns-clause-starts : goal.returns-clause-starts
returns-clause-starts c =
    let inv = c.loop-next.invariant in
    let t : Top c.args.self.now.records.now c.loop-next.last.at = onward _ _ c.loop-next.last.here inv.0 c.in_default.ensures.place in
    omega (arith, inv.2, ap length t.chained)

pub returns-clause-marks_used : goal.returns-clause-marks_used
returns-clause-marks_used c =
    let rs = c.args.self.now.records.now in
    let ms = c.loop-next.marks in
    let inv = c.loop-next.invariant in
    let t : Top c.args.self.now.records.now c.loop-next.last.at = onward _ _ c.loop-next.last.here inv.0 c.in_default.ensures.place in
    sym (t.marked (used (length rs) ms) (length_used (length rs) ms (omega (arith, c.requires, c.loop-next.auto.marks)))) ∙ inv.3
