-- The raw and the plain host are lawful.
use Rattle.std.proofs.Common.{◌≡◌, ℕ, true, List, [], ◌∷◌, drop, arith}
use Rattle.std.proofs.lemmas.Bool.Decides.{nat_tests}
use Rattle.tokens.specs.declared.rows.Hook.{Hook}
use Rattle.tokens.specs.Islands.{lawful_answer}
use Rattle.hosts.specs.declared.run.Stop.TheVariants.{Closer, Mark}
use Rattle.hosts.specs.Host.{Columns}
use Rattle.hosts.specs.Runs.{stops_at}
use Rattle.hosts.specs.Raw.{raw_ahead, raw_answer}
use Rattle.hosts.specs.Plain.{plain_ahead, plain_answer}
use Rattle.hosts.proofs.Runs.{run_within, run_empty}
use Rattle.hosts.proofs.Lawful.{lawful_ahead}

raw_lawful_ahead : (h : Hook) (ks : List ℕ) → lawful_answer ks 0 h (raw_ahead ks) ≡ true
unfolding lawful_answer
raw_lawful_ahead h [] = grind (arith, nat_tests, run_within (stops_at Mark) [])
raw_lawful_ahead h (k ∷ ks) = grind (arith, nat_tests, run_within (stops_at Mark) (k ∷ ks), run_empty (stops_at Mark) (k ∷ ks))

pub raw_lawful : (h : Hook) (c : Columns) (p : ℕ) → lawful_answer c.kinds p h (raw_answer h c p) ≡ true
raw_lawful h c p = lawful_ahead c.kinds p h _ (raw_lawful_ahead h (drop p c.kinds))

plain_lawful_ahead : (h : Hook) (ks : List ℕ) → lawful_answer ks 0 h (plain_ahead h ks) ≡ true
unfolding lawful_answer
plain_lawful_ahead h [] = grind (arith, nat_tests, run_within (stops_at Closer) [])
plain_lawful_ahead h (k ∷ ks) = grind (arith, nat_tests, run_within (stops_at Closer) (k ∷ ks))

pub plain_lawful : (h : Hook) (c : Columns) (p : ℕ) → lawful_answer c.kinds p h (plain_answer h c p) ≡ true
plain_lawful h c p = lawful_ahead c.kinds p h _ (plain_lawful_ahead h (drop p c.kinds))
