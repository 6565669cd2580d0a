use Rattle.std.proofs.Common.{not, rules}
use Rattle.refusals.specs.declared.Refusal.TheVariants.{UnlawfulRow}
use Rattle.tokens.specs.Islands.{lawful_row}
use Rattle.grammar.proofs.Firsts.{checked}
use Rattle.grammar.proofs.check.check_rows.Goals as goal

pub returns : goal.returns
returns c =
    checked _ (λ i r. not (lawful_row c.args.kinds.now i r)) UnlawfulRow (λ i y b lt s. search rules) (λ i e s. search rules) c.check_each.ensures
