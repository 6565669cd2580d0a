use Rattle.std.proofs.Common.{get_or, rules}
use Rattle.refusals.specs.declared.Refusal.TheVariants.{WrongContextualKind}
use Rattle.grammar.specs.Verdict.{no_contextual}
use Rattle.grammar.proofs.Firsts.{checked}
use Rattle.grammar.proofs.check.check_contextual.Goals as goal

pub returns : goal.returns
returns c =
    checked 0 (λ i k. no_contextual (get_or c.args.kinds.now i 0) k) WrongContextualKind (λ i y b lt s. search rules) (λ i e s. search rules) c.check_each.ensures
