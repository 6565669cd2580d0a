use Rattle.std.proofs.Common.{◌≡◌, IfSome, subst, sym, ap, ◌∙◌, arith}
use Rattle.std.specs.Option.{option_map}
use Rattle.sinks.specs.Walk.{chain}
use Rattle.sinks.proofs.Chains.{is_on, along}
use Rattle.sinks.proofs.walk.start.Start.ancestor.Goals as goal

pub unwrap-last-requires : goal.unwrap-last-requires
unwrap-last-requires c =
    let s = c.args.self.now in
    let last = c.loop.last in
    is_on last.records.now last.at c.loop.counter (chain s.records.now s.at) last.here c.loop.invariant (λ x. x.at) c.parent.result
    (omega (arith, c.requires, c.loop-test.true)) c.parent.ensures.place

pub loop-preserved : goal.loop-preserved
loop-preserved c =
    let s = c.args.self.now in
    let last = c.loop.last in
    let is = c.unwrap-last.ensures in
    along last.records.now last.at c.loop.counter (chain s.records.now s.at) last.here c.loop.invariant
    (subst (λ o. IfSome o (λ x. x.records.now ≡ last.records.now)) is c.parent.ensures.same_records)
    (ap (option_map (λ x. x.at)) (sym is) ∙ c.parent.ensures.place)
