use Rattle.event_log.specs.Model.{env}
use Rattle.event_log.specs.Steps.{bump_remap}
use Rattle.event_log.proofs.Kit.{looks, nay}
use Rattle.event_log.proofs.Ahead.{readable_there, spells_readable}
use Rattle.event_log.proofs.parser.Parser.bump_remap.Goals as goal

pub do_bump-requires : goal.do_bump-requires
do_bump-requires c = let p = c.args.self.now in spells_readable (env p) p.place c.args.kind c.requires

pub returns : goal.returns
unfolding bump_remap
returns c = let p = c.args.self.now in looks (nay _ (readable_there (env p) p.place c.args.kind c.requires) c.do_bump.ensures)
