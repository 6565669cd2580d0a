use Rattle.std.proofs.Common.{refl, arith}
use Rattle.std.proofs.lemmas.List.{length-set, take_more_set}
use Rattle.sinks.specs.Lent.Appends.{appended, stays}
use Rattle.sinks.proofs.lent.LentVec.push.Goals as goal

pub returns-then-self : goal.returns-then-self
returns-then-self g c = stays (omega arith) refl

pub returns : goal.returns
returns g c =
    let v = c.args.self.now in
    appended (omega (arith, v.within)) refl refl (take_more_set v.memory.now v.len c.args.item (omega (arith, v.within))) (rw length-set (omega arith))
