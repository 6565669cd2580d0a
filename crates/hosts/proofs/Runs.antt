-- Bracket runs: how a loop finds where one ends, and how long one is.
use Rattle.std.proofs.Common.{◌≡◌, ℕ, zero, suc, ◌+◌, ◌<◌, ◌≤◌, Bool, true, false, cond, eqb, ltb, ◌⊎◌, List, length, get_or, Some, None, Option, unwrap_or, sym, refl, ap, ◌∙◌, inl, inr, add-one, arith}
use Rattle.std.proofs.lemmas.Bool.{and_left, and_right, and_from, and_parts, eq-eqb, ne_eqb}
use Rattle.std.proofs.lemmas.Bool.Decides.{nat_tests}
use Rattle.grammar.specs.Verdict.{first_below}
use Rattle.grammar.proofs.Firsts.{none_yet, none_more, found}
use Rattle.hosts.specs.Runs.{depth_behind, depth, ends_before, run_length, run_of}

-- what the first number below n that passes a test is, if there is one
abbrev FirstIs : (ℕ → Bool) → ℕ → Option ℕ → Type 0
FirstIs p n None = Unit {0}
FirstIs p n (Some i) = (i < n) × (p i ≡ true)

first_is : (p : ℕ → Bool) (n : ℕ) → FirstIs p n (first_below p n)
unfolding first_below
first_is p zero = tt
first_is p (suc n) = go (first_below p n) (first_is p n)
  where
    here : (b : Bool) → p n ≡ b → FirstIs p (suc n) (cond b (Some n) None)
    here true e = (omega arith, e)
    here false e = tt

    go : (o : Option ℕ) → FirstIs p n o → FirstIs p (suc n) (elim o [ None ↦ cond (p n) (Some n) None | Some i ↦ Some i ])
    go None f = here (p n) refl
    go (Some i) f = (omega (arith, f.0), f.1)

-- behind a token at most one bracket more is open
pub one_deeper : (k n : ℕ) → depth_behind k n ≤ n + 1
one_deeper k n = grind (arith, nat_tests)

module _ (stops : ℕ → Bool) (ks : List ℕ) where
  -- the run goes on to token i, where so many brackets are open
  pub record Goes_on (i d : ℕ) : Type 0 where
    pub none : first_below (ends_before stops ks) i ≡ None
    pub deep : d ≡ depth ks i
    pub low : d ≤ i

  pub goes_none : Goes_on 0 0
  unfolding depth
  goes_none = record { none = none_yet (ends_before stops ks); deep = refl; low = omega arith }

  -- it goes on inside a bracket, and at what it does not stop at

  pub inside : {i d : ℕ} → Goes_on i d → (d ≡ 0 → ⊥) → ends_before stops ks i ≡ false
  inside {i} g h = and_left _ _ (ne_eqb (depth ks i) 0 (λ e. h (g.deep ∙ e)))

  pub unstopped : (i : ℕ) → stops (get_or ks i 0) ≡ false → ends_before stops ks i ≡ false
  unstopped i e = and_right (eqb (depth ks i) 0) _ e

  pub goes_more : {i d e : ℕ} → Goes_on i d → ends_before stops ks i ≡ false → e ≡ depth_behind (get_or ks i 0) d → Goes_on (i + 1) e
  unfolding depth
  goes_more {i} {d} {e} g h p = record {
    none = none_more (ends_before stops ks) i g.none h;
    deep = rw (add-one i) (p ∙ ap (depth_behind (get_or ks i 0)) g.deep);
    low = let l : d ≤ i = g.low in omega (arith, p, one_deeper (get_or ks i 0) d);
  }

  same_run : {n : ℕ} {u : Bool} → n ≡ run_length stops ks → u ≡ ltb 0 (depth ks n) → record { tokens = n; unclosed = u } ≡ run_of stops ks
  same_run e u = λ j. record { tokens = e j; unclosed = (u ∙ ap (λ (n : ℕ). ltb 0 (depth ks n)) e) j }

  pub run_stops : {i d : ℕ} → Goes_on i d → d ≡ 0 → stops (get_or ks i 0) ≡ true → i < length ks → record { tokens = i; unclosed = false } ≡ run_of stops ks
  unfolding run_length
  run_stops {i} {d} g z s lt = same_run (sym at_end) (sym (ap (ltb 0) shut))
    where
      shut : depth ks i ≡ 0
      shut = sym g.deep ∙ z

      at_end : run_length stops ks ≡ i
      at_end = ap (λ (o : Option ℕ). unwrap_or o (length ks)) (found (ends_before stops ks) i (length ks) g.none (and_from _ _ (eq-eqb _ 0 shut) s) lt)

  pub run_to_end : {i d : ℕ} → Goes_on i d → i ≡ length ks → record { tokens = length ks; unclosed = ltb 0 d } ≡ run_of stops ks
  unfolding run_length
  run_to_end {i} {d} g e = same_run (sym at_end) (ap (ltb 0) (g.deep ∙ ap (depth ks) e))
    where
      at_end : run_length stops ks ≡ length ks
      at_end = ap (λ (o : Option ℕ). unwrap_or o (length ks)) (ap (first_below (ends_before stops ks)) (sym e) ∙ g.none)

  -- A run ends at the end of the tokens, or before one that it stops at.
  pub run_end : (run_length stops ks ≡ length ks) ⊎ ((run_length stops ks < length ks) × (ends_before stops ks (run_length stops ks) ≡ true))
  unfolding run_length
  run_end = go (first_below (ends_before stops ks) (length ks)) (first_is (ends_before stops ks) (length ks))
    where
      go : (o : Option ℕ) → FirstIs (ends_before stops ks) (length ks) o → (unwrap_or o (length ks) ≡ length ks) ⊎ ((unwrap_or o (length ks) < length ks) × (ends_before stops ks (unwrap_or o (length ks)) ≡ true))
      go None f = inl refl
      go (Some i) f = inr f

  pub run_within : run_length stops ks ≤ length ks
  run_within = elim run_end [ inl e ↦ omega arith | inr p ↦ omega (arith, p.0) ]

  -- an empty run has no tokens before it, or one that it stops at
  pub run_empty : run_length stops ks ≡ 0 → (length ks ≡ 0) ⊎ ((0 < length ks) × (stops (get_or ks 0 0) ≡ true))
  run_empty z = elim run_end [
    | inl e ↦ inl (sym e ∙ z)
    | inr p ↦ inr (omega (arith, p.0), ap (λ (n : ℕ). stops (get_or ks n 0)) (sym z) ∙ (and_parts _ _ p.1).1)
  ]
