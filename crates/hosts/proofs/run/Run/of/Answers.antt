use Rattle.std.proofs.Common.{◌≡◌, length, sym, arith}
use Rattle.hosts.specs.Runs.{stops_at}
use Rattle.hosts.proofs.Runs.{goes_none, goes_more, inside, unstopped, run_stops, run_to_end}
use Rattle.hosts.proofs.run.Run.of.Goals as goal
use Rattle.hosts.proofs.run.Run.of.Goals.{else-depth-eq0-via-then-depth-eq0+else-ends_run, else-depth-eq0-via-else-depth-eq0}

pub loop-tokens-init : goal.loop-tokens-init
loop-tokens-init c = goes_none _ _

pub returns-then-ends_run : goal.returns-then-ends_run
returns-then-ends_run c = run_stops _ _ c.loop-tokens.invariant c.if-depth-eq0.true (sym c.if-ends_run.ensures) c.loop-tokens-test.true

pub loop-tokens-preserved : goal.loop-tokens-preserved
loop-tokens-preserved c =
    goes_more _ _ c.loop-tokens.invariant
    (elim c.else-depth-eq0.branch [
      | else-depth-eq0-via-then-depth-eq0+else-ends_run w ↦ unstopped (stops_at c.args.stop) _ _ (sym w.if-ends_run.ensures)
      | else-depth-eq0-via-else-depth-eq0 w ↦ inside _ _ c.loop-tokens.invariant (λ e. omega (arith, w.if-depth-eq0.false, e))
    ])
    c.depth_behind-depth.ensures

pub returns : goal.returns
returns c =
    let end : c.loop-tokens.tokens ≡ length c.args.kinds.now = omega (arith, c.loop-tokens.auto.tokens-end) in
    run_to_end _ _ c.loop-tokens.invariant end
