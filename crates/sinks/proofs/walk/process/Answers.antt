use Rattle.std.proofs.Common.{◌≤◌, length, refl, rules}
use Rattle.sinks.proofs.Walking.{fresh, too_few, all_told}
use Rattle.sinks.proofs.walk.process.Goals as goal

pub returns-then-marks-count : goal.returns-then-marks-count
returns-then-marks-count g c = too_few c.args.records.now c.args.marks.now c.if-marks-count.true refl

pub tell-told-requires : goal.tell-told-requires
tell-told-requires g c = fresh c.args.records.now c.args.marks.now c.if-marks-count.false (c.fill.ensures.after (λ y e. e))

pub returns : goal.returns
returns g c =
    let long : length c.args.records.now ≤ length c.tell-told.new.marks = search rules in
    all_told c.args.records.now c.args.marks.now c.tell-told.new.marks c.if-marks-count.false (c.fill.ensures.after (λ y e. e))
    c.tell-told.ensures.told c.tell-told.ensures.others long (c.fill-2.ensures.after (λ y e. e))
