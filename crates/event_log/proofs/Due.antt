-- What is due where there is room for it, or none.
use Rattle.std.proofs.Common.{◌≡◌, ℕ, zero, suc, ◌<◌, ◌≤◌, refl, not-suc-le-zero}
use Rattle.std.proofs.lemmas.Bool.{lt-ltb, le-ltb}
use Rattle.refusals.specs.declared.Refusal.TheVariants.{LogFull}
use Rattle.event_log.specs.Program.{Env, Out, record_due, completed}
use Rattle.event_log.specs.Program.Out.{no}

pub due_ok : {A : Type 0} (e : Env) (c i : ℕ) (o : Out A) → c < e.room → record_due e c i o ≡ o
unfolding record_due
due_ok e c i o h = rw (lt-ltb c e.room h, record_due)

pub due_no : {A : Type 0} (e : Env) (c i : ℕ) (o : Out A) → e.room ≤ c → record_due e c i o ≡ no (LogFull i)
unfolding record_due
due_no e c i o h = rw (le-ltb c e.room h, record_due)

-- a node of some kind is completed where its end is due
pub completed_due : {A : Type 0} (e : Env) (k c i : ℕ) (o : Out A) → 0 < k → completed e k c i o ≡ record_due e c i o
unfolding completed
completed_due e zero c i o n = absurd (not-suc-le-zero n)
completed_due e (suc k) c i o n = refl
