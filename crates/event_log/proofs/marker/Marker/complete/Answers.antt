use Rattle.std.proofs.Common.{◌<◌, sym, refl, arith, length-set, drop-set-lt}
use lib.Seq.{take-set-lt}
use Rattle.event_log.proofs.Slots.{counted}
use Rattle.event_log.proofs.Nodes.{count_pushed, no_complete, completes}
use Rattle.event_log.proofs.marker.Marker.complete.Goals as goal

pub returns-in_err-push : goal.returns-in_err-push
returns-in_err-push c b rs w i = no_complete c.requires.named c.in_err-push.ensures _ c.from_residual.ensures.1 i

pub invariant_of-p : goal.invariant_of-p
invariant_of-p c =
    let p = c.args.p.now in
    let q = c.push.new.self in
    let lt : c.args.self.at < q.count = omega (arith, c.requires.opened, counted p, count_pushed p q c.in_ok-push.ensures) in
    record {
      within = q.within;
      roomy = rw length-set q.roomy;
      short = rw length-set q.short;
      few = q.few;
      inside = q.inside;
      blanks = rw (drop-set-lt q.count q.records.now _ _ lt) q.blanks;
    }

pub returns : goal.returns
returns c b rs w i =
    let p = c.args.p.now in
    let q = c.push.new.self in
    let lt : c.args.self.at < q.count = omega (arith, c.requires.opened, counted p, count_pushed p q c.in_ok-push.ensures) in
    completes _ _ c.requires.named c.in_ok-push.ensures i (take-set-lt q.count q.records.now c.args.self.at _ lt)
    (record { place = refl; clean = refl; same = refl; long = length-set q.records.now _ _ }) refl (sym (counted q)) refl
