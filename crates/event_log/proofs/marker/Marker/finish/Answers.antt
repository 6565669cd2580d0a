use Rattle.event_log.proofs.Nodes.{finishes_ok, finishes_no}
use Rattle.event_log.proofs.marker.Marker.finish.Goals as goal
use Rattle.event_log.proofs.marker.Marker.finish.Goals.{in-Ok, in-Err}

pub returns : goal.returns
returns g c b rs w i = elim c.match-r.branch [
  | in-Ok v ↦ rw (v.p-is, v.result-is) (finishes_ok v.in-Ok.is (v.complete.ensures b rs w i))
  | in-Err v ↦ rw (v.p-is, v.result-is) (finishes_no v.in-Err.is (v.abandon.ensures b rs w i))
]
