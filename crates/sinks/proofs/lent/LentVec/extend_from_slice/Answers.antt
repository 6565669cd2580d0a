use Rattle.std.proofs.Common.{refl, arith}
use Rattle.std.proofs.lemmas.Grind.{common_steps}
use Rattle.sinks.specs.Lent.Appends.{appended, stays}
use Rattle.sinks.proofs.lent.LentVec.extend_from_slice.Goals as goal

pub returns-then-items-room : goal.returns-then-items-room
returns-then-items-room g c = stays (omega (arith, c.room.ensures)) refl

pub returns : goal.returns
returns g c = appended (omega (arith, c.room.ensures)) (grind (arith, common_steps)) refl (grind (arith, common_steps)) (grind (arith, common_steps))
