use Rattle.std.proofs.Common.{◌∙◌}
use Rattle.grammar.proofs.Verdicts.{by_tokens, by_lengths, by_kinds, by_contextual, by_editions, broke}
use Rattle.grammar.proofs.check.check.Goals as goal

pub returns-then-input-gt-MAX_TOKENS : goal.returns-then-input-gt-MAX_TOKENS
returns-then-input-gt-MAX_TOKENS c = by_tokens c.args.input c.args.records c.if-input-gt-MAX_TOKENS.true

pub returns-then-not-lengths_fit : goal.returns-then-not-lengths_fit
returns-then-not-lengths_fit c =
    by_lengths c.args.input c.args.records c.if-input-gt-MAX_TOKENS.false c.if-not-lengths_fit.ensures

pub returns-in_err-check_kinds : goal.returns-in_err-check_kinds
returns-in_err-check_kinds c =
    broke _ c.from_residual.ensures.1
    ∙ by_kinds c.args.input c.args.records c.if-input-gt-MAX_TOKENS.false c.if-not-lengths_fit.ensures c.in_err-check_kinds.ensures

pub returns-in_err-check_contextual : goal.returns-in_err-check_contextual
returns-in_err-check_contextual c =
    broke _ c.from_residual-in_err-check_contextual.ensures.1
    ∙ by_contextual c.args.input c.args.records c.if-input-gt-MAX_TOKENS.false c.if-not-lengths_fit.ensures
    c.in_ok-check_kinds.ensures c.in_err-check_contextual.ensures

pub returns : goal.returns
returns c =
    c.check_editions.ensures
    ∙ by_editions c.args.input c.args.records c.if-input-gt-MAX_TOKENS.false c.if-not-lengths_fit.ensures
    c.in_ok-check_kinds.ensures c.in_ok-check_contextual.ensures
