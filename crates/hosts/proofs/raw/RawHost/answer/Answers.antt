use Rattle.std.proofs.Common.{arith}
use Rattle.hosts.specs.Host.{columns}
use Rattle.hosts.proofs.HostLaws.{raw_lawful}
use Rattle.hosts.proofs.raw.RawHost.answer.Goals as goal

pub returns-clause-lawful : goal.returns-clause-lawful
returns-clause-lawful c = grind (arith, raw_lawful c.args._hook (columns c.args.input) c.args.place)
