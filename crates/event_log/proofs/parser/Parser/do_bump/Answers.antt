use Rattle.std.proofs.Common.{refl}
use Rattle.event_log.specs.Model.{env}
use Rattle.event_log.proofs.Kit.{taken, not_taken, pushed_within}
use Rattle.event_log.proofs.Ahead.{spelt_within}
use Rattle.event_log.proofs.parser.Parser.do_bump.Goals as goal

pub returns-in_err-push : goal.returns-in_err-push
returns-in_err-push c = not_taken c.requires c.in_err-push.ensures _ c.from_residual.ensures.1

pub invariant_of-self : goal.invariant_of-self
invariant_of-self c =
    let p = c.args.self.now in
    let q = c.push.new.self in
    record {
      within = q.within;
      roomy = q.roomy;
      short = q.short;
      few = q.few;
      inside = pushed_within c.args.width c.in_ok-push.ensures (spelt_within (env p) p.place c.args.kind c.args.width c.requires);
      blanks = q.blanks;
    }

pub returns : goal.returns
returns c = taken c.requires c.in_ok-push.ensures refl refl refl refl refl
