use Rattle.std.proofs.Common.{◌<◌, refl, arith, length-set, drop-set-lt}
use lib.Seq.{take-set-lt}
use Rattle.event_log.proofs.Slots.{counted}
use Rattle.event_log.proofs.Nodes.{count_started, no_precede, start_below, precedes}
use Rattle.event_log.proofs.marker.CompletedMarker.precede.Goals as goal

pub returns-in_err-m : goal.returns-in_err-m
returns-in_err-m c b n h = no_precede c.in_err-m.ensures _ c.from_residual.ensures.1

pub invariant_of-p : goal.invariant_of-p
invariant_of-p c =
    let p = c.args.p.now in
    let q = c.start.new.self in
    let lt : c.args.self.start < q.count = omega (arith, start_below c.requires, counted p, count_started p q c.in_ok-m.ensures) in
    record {
      within = q.within;
      roomy = rw length-set q.roomy;
      short = rw length-set q.short;
      few = q.few;
      inside = q.inside;
      blanks = rw (drop-set-lt q.count q.records.now _ _ lt) q.blanks;
    }

pub returns : goal.returns
returns c b n h =
    let p = c.args.p.now in
    let q = c.start.new.self in
    let lt : c.args.self.start < q.count = omega (arith, start_below c.requires, counted p, count_started p q c.in_ok-m.ensures) in
    precedes _ h c.in_ok-m.ensures (take-set-lt q.count q.records.now c.args.self.start _ lt)
    (record { place = refl; clean = refl; same = refl; long = length-set q.records.now _ _ })
