use Rattle.std.proofs.Common.{◌/◌, arith}
use Rattle.sinks.specs.Walk.{chain}
use Rattle.sinks.proofs.Chains.{both_halves, far_half}
use Rattle.sinks.proofs.walk.start.Start.+enter_chain.Goals as goal

pub returns-in_err-enter_chain : goal.returns-in_err-enter_chain
returns-in_err-enter_chain g t c =
    let s = c.args.self.now in
    let n = c.args.starts in
    far_half (chain s.records.now s.at) _ (n / 2) n (omega arith) c.ancestor.ensures c.in_err-enter_chain.ensures c.from_residual.ensures.1

pub returns : goal.returns
returns g t c =
    let s = c.args.self.now in
    let n = c.args.starts in
    both_halves (chain s.records.now s.at) _ (n / 2) n (omega arith) c.ancestor.ensures c.in_ok-enter_chain.ensures c.enter_chain-2.ensures
