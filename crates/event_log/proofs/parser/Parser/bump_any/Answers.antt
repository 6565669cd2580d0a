use Rattle.std.proofs.Common.{sym, refl, ◌∙◌}
use Rattle.event_log.specs.Model.{env}
use Rattle.event_log.proofs.Kit.{gives, looks, yes, nay, took}
use Rattle.event_log.proofs.Ahead.{spells_raw, at_end, not_at_end}
use Rattle.event_log.proofs.parser.Parser.bump_any.Goals as goal

pub returns-then-next-eq-EOF : goal.returns-then-next-eq-EOF
returns-then-next-eq-EOF c = looks (yes _ (at_end c.current-next.ensures c.if-next-eq-EOF.true) gives)

pub do_bump-requires : goal.do_bump-requires
do_bump-requires c =
    let p = c.args.self.now in
    spells_raw (env p) p.place _ (λ e. c.if-next-eq-EOF.false (c.current-next.ensures ∙ e)) (sym c.current-next.ensures)

pub returns : goal.returns
returns c = looks (nay _ (not_at_end c.current-next.ensures c.if-next-eq-EOF.false) (took c.current-next.ensures refl c.do_bump.ensures))
