use Rattle.std.proofs.Common.{◌+◌, arith}
use Rattle.file.proofs.Numbers.{number_small}
use Rattle.file.proofs.TokenFile.edition.Goals as goal

pub overflow_cast-result : goal.overflow_cast-result
overflow_cast-result c = omega (arith, number_small c.args.self.now.bytes.now (c.token_start.result + 17) 2)
