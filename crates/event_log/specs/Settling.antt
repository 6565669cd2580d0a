-- When a run comes to something: to an answer or a refusal.
use Rattle.event_log.specs.Program.{Out}
use Rattle.event_log.specs.Program.Out.{ok, no, never}

abbrev pub Settled : {A : Type 0} → Out A → Type 0
Settled (ok f a) = Unit {0}
Settled (no r) = Unit {0}
Settled never = ⊥
