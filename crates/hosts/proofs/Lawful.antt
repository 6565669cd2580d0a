-- Lawful answers, for hosts: a node of some tokens, a fault alone, a run. The two hosts here are shown lawful by cases, and take `lawful_ahead` alone from here.
use Rattle.std.proofs.Common.{◌≡◌, ℕ, ◌<◌, ◌≤◌, Bool, true, false, eqb, List, [], ◌∷◌, length, get_or, drop, Some, None, add-zero, arith}
use native.Mathlib.Nat.{sub-zero}
use Rattle.std.proofs.lemmas.List.{length-drop, get_or-drop}
use Rattle.std.proofs.lemmas.Bool.{eqb-true, eqb-false, cond_both}
use Rattle.std.proofs.lemmas.Bool.Decides.{nat_tests}
use Rattle.tokens.specs.declared.rows.Hook.{Hook}
use Rattle.tokens.specs.declared.rows.Hook.TheVariants.{Literal, ExprBlockContents}
use Rattle.tokens.specs.declared.rows.Answer.{Answer}
use Rattle.tokens.specs.Kinds.{EOF}
use Rattle.tokens.specs.Islands.{is_node, must_take, lawful_answer, nothing, bare_fault}
use Rattle.hosts.specs.declared.run.Stop.TheVariants.{Mark}
use Rattle.hosts.specs.Runs.{stops_at, run_length, run_of}
use Rattle.hosts.specs.Answers.{tree}
use Rattle.hosts.proofs.Runs.{run_within, run_empty}

-- an answer is lawful at a place if it is at the first of the tokens from there on
pub lawful_ahead : (ks : List ℕ) (p : ℕ) (h : Hook) (a : Answer) → lawful_answer (drop p ks) 0 h a ≡ true → lawful_answer ks p h a ≡ true
unfolding lawful_answer
lawful_ahead ks p h a e = rw (sub-zero (length (drop p ks)), length-drop p ks, get_or-drop p ks 0 EOF, add-zero p) at e

module _ (ks : List ℕ) (h : Hook) where
  -- a node of some tokens, fault or not
  pub node_lawful : (n k : ℕ) (f : Bool) → 0 < n → n ≤ length ks → is_node k ≡ true → lawful_answer ks 0 h (record { tokens = n; kind = Some k; fault = f }) ≡ true
  unfolding lawful_answer
  node_lawful n k f some le node = grind (arith, nat_tests)

  -- a fault alone, where no token must be taken
  pub fault_lawful : must_take h (get_or ks 0 EOF) ≡ false → lawful_answer ks 0 h bare_fault ≡ true
  unfolding lawful_answer
  fault_lawful e = grind (arith, nat_tests)

  -- a run as a node
  pub tree_lawful : (stops : ℕ → Bool) (k : ℕ) → is_node k ≡ true → (run_length stops ks ≡ 0 → must_take h (get_or ks 0 EOF) ≡ false)
      → lawful_answer ks 0 h (tree k (run_of stops ks)) ≡ true
  tree_lawful stops k node free =
      cond_both (eqb (run_length stops ks) 0) bare_fault (record { tokens = run_length stops ks; kind = Some k; fault = (run_of stops ks).unclosed }) (λ a. lawful_answer ks 0 h a ≡ true)
      (λ e. fault_lawful (free (eqb-true _ 0 e)))
      (λ e. node_lawful _ k _ (let z : run_length stops ks ≡ 0 → ⊥ = eqb-false _ 0 e in omega arith) (run_within stops ks) node)

-- nothing at all is no literal
pub nothing_lawful : (ks : List ℕ) → must_take Literal (get_or ks 0 EOF) ≡ false → lawful_answer ks 0 Literal nothing ≡ true
unfolding lawful_answer
nothing_lawful ks e = grind (arith, nat_tests)

-- the contents of a block are any tokens, of no kind
pub contents_lawful : (ks : List ℕ) (n : ℕ) → n ≤ length ks → lawful_answer ks 0 ExprBlockContents (record { tokens = n; kind = None; fault = false }) ≡ true
unfolding lawful_answer
contents_lawful ks n le = grind (arith, nat_tests)

-- where a run that also stops at marks is empty, no token must be taken
pub empty_free : (ks : List ℕ) (h : Hook) → run_length (stops_at Mark) ks ≡ 0 → must_take h (get_or ks 0 EOF) ≡ false
empty_free [] h z = grind (arith, nat_tests)
empty_free (k ∷ ks) h z = grind (arith, nat_tests, run_empty (stops_at Mark) (k ∷ ks))
