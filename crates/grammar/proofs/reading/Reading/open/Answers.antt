use Rattle.std.proofs.Common.{sym, refl}
use Rattle.grammar.specs.Open.Opens.{opened, refused}
use Rattle.grammar.proofs.Readings.{new_by, few_of, reached_none}
use Rattle.grammar.proofs.reading.Reading.open.Goals as goal

pub returns-in-Err : goal.returns-in-Err
returns-in-Err c = refused (sym c.in-Err.ensures) refl refl

pub resume-self-requires : goal.resume-self-requires
resume-self-requires c = let few = few_of c.new.ensures (sym c.in_default.ensures) in record { few = few.0; short = few.1 }

pub invariant_of-self : goal.invariant_of-self
invariant_of-self c = let h = new_by c.new.ensures c.resume-self.ensures in record { reached = reached_none c.resume-self.result h.count h.place }

pub returns : goal.returns
returns c = opened (sym c.in_default.ensures) (new_by c.new.ensures c.resume-self.ensures)
