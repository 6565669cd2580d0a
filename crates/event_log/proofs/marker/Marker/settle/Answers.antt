use Rattle.std.proofs.Common.{◌≡◌, Some, None}
use Rattle.event_log.proofs.Nodes.{settles_some, settles_full, settles_none, settles_no}
use Rattle.event_log.proofs.marker.Marker.settle.Goals as goal

pub returns-in_err-complete-in-Ok-Some : goal.returns-in_err-complete-in-Ok-Some
returns-in_err-complete-in-Ok-Some c b rs w i =
    let e : c.in-Ok-Some.field-0 ≡ Some c.in-Ok-Some.kind = rw c.in-Ok-Some.is at c.in-Ok-Some.field-0-is in
    settles_full c.in-Ok-Some.is e (c.in_err-complete-in-Ok-Some.ensures b rs w i) _ c.from_residual.ensures.1

pub returns-in_ok-complete-in-Ok-Some : goal.returns-in_ok-complete-in-Ok-Some
returns-in_ok-complete-in-Ok-Some c b rs w i =
    let e : c.in-Ok-Some.field-0 ≡ Some c.in-Ok-Some.kind = rw c.in-Ok-Some.is at c.in-Ok-Some.field-0-is in
    settles_some c.in-Ok-Some.is e (c.in_ok-complete-in-Ok-Some.ensures b rs w i)

pub returns-in-Ok-None : goal.returns-in-Ok-None
returns-in-Ok-None c b rs w i =
    let e : c.in-Ok-None.field-0 ≡ None = rw c.in-Ok-None.is at c.in-Ok-None.field-0-is in
    settles_none c.in-Ok-None.is e (c.abandon.ensures b rs w i)

pub returns-in-Err : goal.returns-in-Err
returns-in-Err c b rs w i = settles_no c.in-Err.is (c.abandon-in-Err.ensures b rs w i)
