use Rattle.std.proofs.Common.{Some, refl, ap, ◌∙◌, arith}
use Rattle.sinks.specs.Walk.{is_start}
use Rattle.sinks.proofs.Chains.{chain_some}
use Rattle.sinks.proofs.Groups.{record_at, alone_told, used_told, chain_told}
use Rattle.sinks.proofs.walk.tell_record.Goals as goal

pub enter_chain-requires-clause-some : goal.enter_chain-requires-clause-some
enter_chain-requires-clause-some g c =
    omega (arith, c.use_chain-starts.ensures.starts, chain_some c.args.records.now c.args.at (ap is_start (record_at c.args.records.now c.args.at (c.requires.here ∙ ap Some c.in-Start-2.is))))

pub returns-in-Start : goal.returns-in-Start
returns-in-Start g c = used_told _ _ _ c.requires.marked (c.requires.here ∙ ap Some c.in-Start.is) c.if-marks-at-ne0.true

pub returns-in-Start-2 : goal.returns-in-Start-2
returns-in-Start-2 g c =
    let u = c.use_chain-starts.ensures in
    chain_told _ _ _ c.requires.marked (c.requires.here ∙ ap Some c.in-Start-2.is) c.if-marks-at-ne0.false u.starts u.marks_used u.others c.enter_chain.ensures

pub returns-in-Finish : goal.returns-in-Finish
returns-in-Finish g c = alone_told _ _ _ c.requires.marked (c.requires.here ∙ ap Some c.in-Finish.is) refl c.put.ensures

pub returns-in-Token : goal.returns-in-Token
returns-in-Token g c = alone_told _ _ _ c.requires.marked (c.requires.here ∙ ap Some c.in-Token.is) refl c.put-in-Token.ensures

pub returns-in-Error : goal.returns-in-Error
returns-in-Error g c = alone_told _ _ _ c.requires.marked (c.requires.here ∙ ap Some c.in-Error.is) refl c.put-in-Error.ensures
