use Rattle.std.proofs.Common.{refl}
use Rattle.tokens.specs.Sets.{TYPE_FIRST}
use Rattle.tokens.proofs.Tables.{by_list}
use Rattle.tokens.proofs.tests.begins_type.Goals as goal

pub returns : goal.returns
returns c = by_list TYPE_FIRST refl _ c.contains.ensures.member
