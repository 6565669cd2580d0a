use Rattle.event_log.proofs.Wraps.{arounds_now, no_around, leads_open_now, wraps_exit}
use Rattle.event_log.proofs.marker.CompletedMarker.wrap.Goals as goal

pub returns-in_err-m : goal.returns-in_err-m
returns-in_err-m c = wraps_exit (no_around c.in_err-m.ensures) _ c.from_residual.ensures.1

pub complete-requires-clause-opened : goal.complete-requires-clause-opened
complete-requires-clause-opened c = leads_open_now c.requires.last c.in_ok-m.ensures

pub returns : goal.returns
returns c = arounds_now c.in_ok-m.ensures c.complete.ensures
