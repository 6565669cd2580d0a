use Rattle.std.proofs.Common.{◌<◌, length, sym, refl, add-zero, add-one, arith, length-set, take-suc-set, ltb-false, ltb-true}
use Rattle.event_log.specs.Model.Pushes.{pushed, stuck}
use Rattle.event_log.proofs.Slots.{counted, blanks_after}
use Rattle.event_log.proofs.parser.Parser.push.Goals as goal

pub returns-then-not-has_room : goal.returns-then-not-has_room
returns-then-not-has_room c =
    let p = c.args.self.now in
    stuck (record { full = omega (arith, counted p, ltb-false _ _ c.if-not-has_room.ensures); refusal = refl; still = refl })

pub invariant_of-self : goal.invariant_of-self
invariant_of-self c =
    let p = c.args.self.now in
    record {
      within = omega (arith, ltb-true _ _ c.if-not-has_room.ensures);
      roomy = p.roomy;
      short = p.short;
      few = p.few;
      inside = p.inside;
      blanks = blanks_after p.records.now p.count p.blanks;
    }

pub returns : goal.returns
returns c =
    let p = c.args.self.now in
    let lt : p.count < length p.records.now = omega (arith, ltb-true _ _ c.if-not-has_room.ensures, p.roomy) in
    pushed (omega (arith, counted p, ltb-true _ _ c.if-not-has_room.ensures)) (record {
      by = rw add-one (take-suc-set p.records.now p.count c.args.entry lt);
      place = sym (add-zero _);
      clean = c.stays_clean-self.ensures;
      same = refl;
      long = length-set p.records.now p.count c.args.entry;
    })
