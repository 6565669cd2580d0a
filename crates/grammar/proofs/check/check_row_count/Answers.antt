use Rattle.grammar.proofs.Verdicts.{too_many, rows_differ, row_each}
use Rattle.grammar.proofs.check.check_row_count.Goals as goal

pub returns-then-input-gt-MAX_TOKENS : goal.returns-then-input-gt-MAX_TOKENS
returns-then-input-gt-MAX_TOKENS c = too_many c.args.input c.args.rows c.if-input-gt-MAX_TOKENS.true

pub returns-then-rows-input : goal.returns-then-rows-input
returns-then-rows-input c = rows_differ c.args.input c.args.rows c.if-input-gt-MAX_TOKENS.false c.if-rows-input.true

pub returns : goal.returns
returns c = row_each c.args.input c.args.rows c.if-input-gt-MAX_TOKENS.false c.if-rows-input.false
