use Rattle.std.proofs.Common.{arith}
use Rattle.hosts.specs.Host.{columns}
use Rattle.hosts.proofs.HostLaws.{plain_lawful}
use Rattle.hosts.proofs.plain.PlainHost.answer.Goals as goal

pub returns-clause-lawful : goal.returns-clause-lawful
returns-clause-lawful c = grind (arith, plain_lawful c.args.hook (columns c.args.input) c.args.place)
