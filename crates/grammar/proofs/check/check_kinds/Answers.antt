use Rattle.std.proofs.Common.{rules}
use Rattle.refusals.specs.declared.Refusal.TheVariants.{WrongKind}
use Rattle.grammar.specs.Verdict.{no_kind}
use Rattle.grammar.proofs.Firsts.{checked}
use Rattle.grammar.proofs.check.check_kinds.Goals as goal

pub returns : goal.returns
returns c = checked 0 (λ i k. no_kind k) WrongKind (λ i y b lt s. search rules) (λ i e s. search rules) c.check_each.ensures
