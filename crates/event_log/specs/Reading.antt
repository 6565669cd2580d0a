-- A reading: its log and its place after any calls, one after another.
use Rattle.std.specs.Prelude.{ℕ, ◌+◌, List, [], ◌∷◌, ◌++◌, length}
use Rattle.event_log.specs.declared.event.Record.{Record}
use Rattle.event_log.specs.Forest.{flats, wides}
use Rattle.event_log.specs.Program.{Env, Prog, Out, run}
use Rattle.event_log.specs.Program.Out.{ok, no, never}

-- what is run by one call: a program, with whatever it answers
pub data Call : Type 1 where
  call : {A : Type 0} → Prog A → Call

pub record Reading : Type 0 where
  pub log : List Record
  -- how many raw tokens were taken
  pub place : ℕ

abbrev pub begun : Reading
begun = record { log = []; place = 0 }

-- A call that is accepted adds its records, and goes on behind its tokens; one that is refused leaves everything as it was.
abbrev pub kept : {A : Type 0} → Reading → Out A → Reading
kept r (ok f a) = record { log = r.log ++ flats f; place = r.place + wides f }
kept r (no x) = r
kept r never = r

abbrev pub called : Env → Call → Reading → Reading
called e (call m) r = kept r (run m e (length r.log) r.place)

unfoldable pub after : Env → List Call → Reading → Reading
after e [] r = r
after e (m ∷ ms) r = after e ms (called e m r)
