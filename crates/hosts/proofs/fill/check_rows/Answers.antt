use Rattle.std.proofs.Common.{◌∙◌}
use Rattle.grammar.proofs.Verdicts.{broke}
use Rattle.hosts.proofs.Filling.{by_count, past_count}
use Rattle.hosts.proofs.fill.check_rows.Goals as goal

pub returns-in_err-check_row_count : goal.returns-in_err-check_row_count
returns-in_err-check_row_count c = broke _ c.from_residual.ensures.1 ∙ by_count c.args.input c.args.rows c.in_err-check_row_count.ensures

pub returns : goal.returns
returns c = c.check.ensures ∙ past_count c.args.input c.args.rows c.in_ok-check_row_count.ensures
