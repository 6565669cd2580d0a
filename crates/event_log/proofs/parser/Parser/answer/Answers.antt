use Rattle.std.proofs.Common.{sym, ◌∙◌, arith}
use Rattle.event_log.specs.Model.{env}
use Rattle.event_log.proofs.Ahead.{within, at_end, not_at_end}
use Rattle.tokens.proofs.Laws.{as_many_rows}
use Rattle.event_log.proofs.Islands.{answer_is, no_answer}
use Rattle.event_log.proofs.parser.Parser.answer.Goals as goal

pub returns-then-current-eq-EOF : goal.returns-then-current-eq-EOF
returns-then-current-eq-EOF c =
    let p = c.args.self.now in
    c.answer_at_end.ensures ∙ sym (no_answer (env p) p.place c.args.hook (at_end c.current.ensures c.if-current-eq-EOF.true))

pub returns : goal.returns
returns c =
    let p = c.args.self.now in
    c.answer.ensures ∙ sym (answer_is (env p) p.place c.args.hook _ (not_at_end c.current.ensures c.if-current-eq-EOF.false)
    (omega (arith, within (env p) p.place (λ e. c.if-current-eq-EOF.false (c.current.ensures ∙ e)), as_many_rows p.input.kinds.now p.rows.now c.requires)))
