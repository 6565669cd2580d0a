use Rattle.std.proofs.Common.{refl}
use Rattle.event_log.specs.Model.{env}
use Rattle.event_log.specs.Steps.{bump}
use Rattle.event_log.proofs.Kit.{took}
use Rattle.event_log.proofs.Ahead.{spells_present}
use Rattle.event_log.proofs.parser.Parser.bump.Goals as goal

pub do_bump-requires : goal.do_bump-requires
do_bump-requires c = let p = c.args.self.now in spells_present (env p) p.place c.args.kind _ c.width.ensures c.requires

pub returns : goal.returns
unfolding bump
returns c = took refl c.width.ensures c.do_bump.ensures
