use Rattle.std.proofs.Common.{◌<◌, length, sym, refl, ◌∙◌, arith, length-set, take-take}
use lib.Seq.{take-set-le}
use Rattle.event_log.proofs.Slots.{counted, blanks_pop}
use Rattle.event_log.proofs.Nodes.{taken_back, left_there}
use Rattle.event_log.proofs.marker.Marker.abandon.Goals as goal

pub invariant_of-p : goal.invariant_of-p
invariant_of-p c =
    let p = c.args.p.now in
    let lt : c.args.self.at < length p.records.now = omega (arith, c.requires, counted p, p.within, p.roomy) in
    record {
      within = omega (arith, c.requires, counted p, p.within);
      roomy = rw length-set p.roomy;
      short = rw length-set p.short;
      few = p.few;
      inside = p.inside;
      blanks = blanks_pop p.records.now c.args.self.at lt (rw c.if-at-p.true p.blanks);
    }

pub returns-then-at-p : goal.returns-then-at-p
returns-then-at-p c b rs w i =
    let p = c.args.p.now in
    taken_back _ i (counted p ∙ sym c.if-at-p.true)
    (take-set-le c.args.self.at p.records.now c.args.self.at _ (omega arith) ∙ sym (take-take c.args.self.at p.count p.records.now (omega (arith, c.if-at-p.true))))
    (record { place = refl; clean = refl; same = refl; long = length-set p.records.now _ _ })

pub returns-else-at-p : goal.returns-else-at-p
returns-else-at-p c b rs w i = left_there i (λ e. c.if-at-p.false (sym e ∙ counted c.args.p.now))
