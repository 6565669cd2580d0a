use Rattle.tokens.specs.Sets.{grammar_sets}
use Rattle.tokens.proofs.Tables.{tables_stand}
use Rattle.tokens.proofs.sets.tables.Goals as goal

pub returns : goal.returns
returns c = tables_stand c.by_lists.result grammar_sets c.by_lists.ensures
