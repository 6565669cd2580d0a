use Rattle.std.proofs.Common.{refl}
use Rattle.file.specs.TokenFile.{bit_at}
use Rattle.file.proofs.bit.Goals as goal

pub returns : goal.returns
unfolding bit_at
returns c = refl
