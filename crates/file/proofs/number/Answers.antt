use Rattle.std.proofs.Common.{refl, arith}
use Rattle.file.specs.TokenFile.{number_at}
use Rattle.file.proofs.Numbers.{number_more, number_fits}
use Rattle.file.proofs.number.Goals as goal

pub loop-i-init : goal.loop-i-init
unfolding number_at
loop-i-init c = refl

pub overflow_mul-value : goal.overflow_mul-value
overflow_mul-value c = omega (arith, number_fits c.args.bytes.now c.args.from c.loop-i.i 16 (omega arith))

pub overflow_add-value : goal.overflow_add-value
overflow_add-value c = omega (arith, number_fits c.args.bytes.now c.args.from c.loop-i.i 16 (omega arith))

pub loop-i-preserved : goal.loop-i-preserved
loop-i-preserved c = let e = number_more c.args.bytes.now c.args.from c.loop-i.i in cc
