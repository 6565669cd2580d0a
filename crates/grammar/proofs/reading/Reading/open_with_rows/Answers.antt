use Rattle.std.proofs.Common.{length, sym, refl}
use Rattle.grammar.specs.Open.OpensWithRows.{opened, refused}
use Rattle.grammar.proofs.Verdicts.{columns_fine, rows_fine}
use Rattle.grammar.proofs.Readings.{new_with_rows_by, few_of, reached_none}
use Rattle.grammar.proofs.reading.Reading.open_with_rows.Goals as goal

pub returns-in-Err : goal.returns-in-Err
returns-in-Err c = refused (sym c.in-Err.ensures) refl refl

pub resume-self-requires : goal.resume-self-requires
resume-self-requires c =
    let v = columns_fine c.args.input c.args.rows.now (length c.args.records.now) (sym c.in_default.ensures) in
    let few = few_of c.with_rows.ensures v in
    record { few = few.0; short = few.1 }

pub invariant_of-self : goal.invariant_of-self
invariant_of-self c = let h = new_with_rows_by c.with_rows.ensures c.resume-self.ensures in record { reached = reached_none c.resume-self.result h.count h.place }

pub returns : goal.returns
returns c =
    let v = sym c.in_default.ensures in
    opened v (rows_fine c.args.input c.args.rows.now (length c.args.records.now) v) (new_with_rows_by c.with_rows.ensures c.resume-self.ensures)
