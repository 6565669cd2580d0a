use Rattle.std.proofs.Common.{sym, refl, arith, ltb-false, ltb-true}
use Rattle.reader.specs.List.Lists.{too_long}
use Rattle.reader.proofs.Files.{not_read, holds, not_opened, not_taken, all_listed}
use Rattle.reader.proofs.list.list.Goals as goal

pub returns-then-too_long : goal.returns-then-too_long
returns-then-too_long g c = too_long (ltb-true _ _ c.if-too_long.ensures) refl refl

pub returns-in_err-count : goal.returns-in_err-count
returns-in_err-count g c = not_read _ (ltb-false _ _ c.if-too_long.ensures) c.in_err-count.ensures.reads.answer refl _ c.from_residual.ensures.1

pub returns-in-Err : goal.returns-in-Err
returns-in-Err g c =
    let e = c.in_ok-count.ensures.reads in
    not_opened _ (ltb-false _ _ c.if-too_long.ensures) (sym e.answer)
    (holds _ e (omega (arith, c.div_ceil.ensures)) refl refl refl refl)
    refl c.in-Err.ensures

pub returns-in_err-take_all : goal.returns-in_err-take_all
returns-in_err-take_all g c =
    let e = c.in_ok-count.ensures.reads in
    not_taken _ (ltb-false _ _ c.if-too_long.ensures) (sym e.answer)
    (holds _ e (omega (arith, c.div_ceil.ensures)) refl refl refl refl)
    refl c.in_default.ensures c.in_err-take_all.ensures _ c.from_residual-in_err-take_all.ensures.1

pub returns : goal.returns
returns g c =
    let e = c.in_ok-count.ensures.reads in
    all_listed _ c.take_all.new.reading (ltb-false _ _ c.if-too_long.ensures) (sym e.answer)
    (holds _ e (omega (arith, c.div_ceil.ensures)) refl refl refl refl)
    refl refl c.in_default.ensures c.in_ok-take_all.ensures c.walk.ensures.told
