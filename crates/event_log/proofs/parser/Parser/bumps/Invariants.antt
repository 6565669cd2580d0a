use Rattle.std.proofs.Common.{◌-◌, Result}
use Rattle.refusals.specs.declared.Refusal.{Refusal}
use Rattle.event_log.specs.Model.{State, of, Does}
use Rattle.event_log.specs.Island.{bumps}
use Rattle.event_log.proofs.parser.Parser.bumps.Given as goal

-- whatever the tokens that are left come to from here, all of them come to from the entry
abbrev pub invariant-loop : goal.invariant-loop
invariant-loop l = (u : State) (r : Result (Unit {0}) Refusal) → Does (bumps (l.tokens - l.counter)) (of l.self) u r → Does (bumps l.tokens) (of l.initial.self) u r
