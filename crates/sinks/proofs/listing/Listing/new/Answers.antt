use Rattle.std.proofs.Common.{rules}
use Rattle.sinks.specs.Lines.{listing, read}
use Rattle.sinks.proofs.listing.Listing.new.Goals as goal

pub invariant_of-result : goal.invariant_of-result
unfolding listing read
invariant_of-result c = search rules

pub returns : goal.returns
unfolding listing read
returns c = search rules
