use Rattle.event_log.specs.Island.{island}
use Rattle.event_log.specs.Model.{env}
use Rattle.event_log.proofs.Kit.{looks, opens, exited}
use Rattle.event_log.proofs.Chains.{no_complete, closes}
use Rattle.event_log.proofs.Islands.{in_node, bare, island_by, kind_named}
use Rattle.event_log.proofs.parser.Parser.island.Goals as goal

pub returns-in_err-m-in-Some : goal.returns-in_err-m-in-Some
unfolding island
returns-in_err-m-in-Some c = looks (island_by c.args.hook c.answer-answer.ensures (in_node c.in-Some.is (exited (no_complete c.in_err-m-in-Some.ensures) _ c.from_residual.ensures.1)))

pub close-requires : goal.close-requires
close-requires c =
    let p = c.args.self.now in
    record { opened = opens c.in_ok-m-in-Some.ensures c.island_inside-r.ensures; named = kind_named (env p) p.place c.args.hook c.requires c.answer-answer.ensures c.in-Some.is }

pub returns-in_ok-m-in-Some : goal.returns-in_ok-m-in-Some
unfolding island
returns-in_ok-m-in-Some c = looks (island_by c.args.hook c.answer-answer.ensures (in_node c.in-Some.is (closes c.in_ok-m-in-Some.ensures c.island_inside-r.ensures c.close.ensures)))

pub returns-in-None : goal.returns-in-None
unfolding island
returns-in-None c = looks (island_by c.args.hook c.answer-answer.ensures (bare c.in-None.is c.island_inside.ensures))
