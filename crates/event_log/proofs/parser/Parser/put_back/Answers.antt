use Rattle.std.proofs.Common.{◌≤◌, length, sym, refl, arith, length-take-le}
use Rattle.event_log.proofs.Slots.{blanks_filled, put_back}
use Rattle.event_log.proofs.parser.Parser.put_back.Goals as goal

pub invariant_of-self : goal.invariant_of-self
invariant_of-self c =
    let p = c.args.self.now in
    let fits : p.count ≤ length p.records.now = omega (arith, p.within, p.roomy) in
    let left = put_back p.records.now c.args.began.count p.count c.blank.ensures c.requires.count fits p.blanks in
    record {
      within = omega (arith, c.requires.count, p.within);
      roomy = omega (arith, p.roomy, c.blank.auto.records);
      short = omega (arith, p.short, c.blank.auto.records);
      few = p.few;
      inside = omega (arith, c.requires.place, p.inside);
      blanks = blanks_filled p.records.now c.blank.new.records c.args.began.count (omega (arith, c.requires.count, fits)) left;
    }

pub returns : goal.returns
returns c =
    let p = c.args.self.now in
    let fits : p.count ≤ length p.records.now = omega (arith, p.within, p.roomy) in
    record {
      log = put_back p.records.now c.args.began.count p.count c.blank.ensures c.requires.count fits p.blanks;
      count = sym (length-take-le c.args.began.count p.records.now (omega (arith, c.requires.count, fits)));
      place = refl;
      same = refl;
    }
