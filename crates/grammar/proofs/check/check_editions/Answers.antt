use Rattle.std.proofs.Common.{rules}
use Rattle.refusals.specs.declared.Refusal.TheVariants.{WrongEdition}
use Rattle.grammar.specs.Verdict.{no_edition}
use Rattle.grammar.proofs.Firsts.{checked}
use Rattle.grammar.proofs.check.check_editions.Goals as goal

pub returns : goal.returns
returns c = checked 0 (λ i e. no_edition e) WrongEdition (λ i y b lt s. search rules) (λ i e s. search rules) c.check_each.ensures
