use Rattle.std.proofs.Common.{◌∙◌}
use Rattle.grammar.proofs.Verdicts.{by_row_count, by_columns, by_rows, broke}
use Rattle.grammar.proofs.check.check_with_rows.Goals as goal

pub returns-in_err-check_row_count : goal.returns-in_err-check_row_count
returns-in_err-check_row_count c =
    broke _ c.from_residual.ensures.1 ∙ by_row_count c.args.input c.args.rows.now c.args.records c.in_err-check_row_count.ensures

pub returns-in_err-check : goal.returns-in_err-check
returns-in_err-check c =
    broke _ c.from_residual-in_err-check.ensures.1
    ∙ by_columns c.args.input c.args.rows.now c.args.records c.in_ok-check_row_count.ensures c.in_err-check.ensures

pub returns : goal.returns
returns c =
    c.check_rows.ensures ∙ by_rows c.args.input c.args.rows.now c.args.records c.in_ok-check_row_count.ensures c.in_ok-check.ensures
