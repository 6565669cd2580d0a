-- Filling rows: why it is refused, and what the rows hold as the loop goes on.
use Rattle.std.proofs.Common.{◌≡◌, ◌≢◌, ℕ, ◌+◌, ◌<◌, Bool, true, false, List, [], ◌∷◌, length, get_or, set, below_more, IsErrAnd, Some, None, Ok, Err, Option, Result, sym, refl, ap, ◌∙◌, arith}
use Rattle.std.proofs.lemmas.Bool.{eqb-true, not-false}
use Rattle.std.proofs.lemmas.List.{get_or-set_same, get_or-set_other}
use Rattle.std.proofs.lemmas.List.FromFn.{fill_by_all}
use Rattle.refusals.specs.declared.Refusal.{Refusal}
use Rattle.tokens.specs.declared.input.Input.{Input}
use Rattle.std.proofs.lemmas.Bool.Decides.{nat_tests}
use Rattle.tokens.specs.declared.rows.Hook.{Hook}
use Rattle.tokens.specs.declared.rows.Hook.TheVariants.{Expr, BlockExpr, Literal, ExprBlockContents, Meta, Pattern, PatternSingle}
use Rattle.tokens.specs.declared.rows.Answer.{Answer}
use Rattle.tokens.specs.declared.rows.Row.{Row}
use Rattle.tokens.specs.Islands.{answer_of, lawful_answer, lawful_row}
use Rattle.grammar.specs.Verdict.{first_of, when, verdict, row_count_fault}
use Rattle.hosts.specs.Host.{Columns, columns}
use Rattle.hosts.specs.Fill.{fill_verdict, row_of, Fills}
use Rattle.hosts.specs.Fill.Fills.{filled, refused}

-- what the first two of three refuse, all three refuse; and where they accept, the third decides
third : (a b v : Option Refusal) → first_of (a ∷ (b ∷ (v ∷ []))) ≡ elim (first_of (a ∷ (b ∷ []))) [ None ↦ v | Some r ↦ Some r ]
unfolding first_of
third a b v = grind arith

-- and where all three accept, so does the second
accepts : (a : Option Refusal) (d : Bool) (s : Refusal) (v : Option Refusal) → first_of (a ∷ (when d s ∷ (v ∷ []))) ≡ None → d ≡ false
unfolding first_of
accepts a d s v h = grind (arith, nat_tests)

module _ (i : Input) (rows : ℕ) where
  -- the number of rows decides first, and then the columns
  pub by_count : {e : Refusal} → Some e ≡ row_count_fault i rows → Some e ≡ fill_verdict i rows
  by_count h = rw third (rw (← h) refl)

  pub past_count : None ≡ row_count_fault i rows → verdict i 0 ≡ fill_verdict i rows
  past_count h = rw third (rw (← h) refl)

  -- accepted, there is one row for each token
  pub rows_count : fill_verdict i rows ≡ None → rows ≡ length i.kinds.now
  rows_count h = eqb-true _ _ (not-false _ (accepts _ _ _ _ h))

-- a row of lawful answers
pub row_lawful : (ks : List ℕ) (p : ℕ) (r : Row) → ((h : Hook) → lawful_answer ks p h (answer_of r h) ≡ true) → lawful_row ks p r ≡ true
row_lawful ks p r f = grind (arith, nat_tests, f Expr, f BlockExpr, f Literal, f ExprBlockContents, f Meta, f Pattern, f PatternSingle)

module _ (m : Hook → Columns → ℕ → Answer) (i : Input) where
  -- the rows before a place hold the host's answers, which are lawful
  pub record Filled (rows : List Row) (n : ℕ) : Type 0 where
    pub told : (p : ℕ) → p < n → (d : Row) → get_or rows p d ≡ row_of m (columns i) p
    pub lawful : (p : ℕ) → p < n → lawful_row i.kinds.now p (row_of m (columns i) p) ≡ true

  pub filled_more : {rows : List Row} {n : ℕ} {r : Row} → Filled rows n → n < length rows → r ≡ row_of m (columns i) n → lawful_row i.kinds.now n r ≡ true → Filled (set rows n r) (n + 1)
  filled_more {rows} {n} {r} f lt e l = record {
    told = below_more (λ p. (d : Row) → get_or (set rows n r) p d ≡ row_of m (columns i) p) n
        (λ p h d. let ne : p ≢ n = omega arith in get_or-set_other rows n p r d ne ∙ f.told p h d)
        (λ d. get_or-set_same rows n r d lt ∙ e);
    lawful = below_more (λ p. lawful_row i.kinds.now p (row_of m (columns i) p) ≡ true) n f.lawful
        (ap (lawful_row i.kinds.now n) (sym e) ∙ l);
  }

  pub fill_all : {before after : List Row} {n : ℕ} {x : Unit {0}} → None ≡ fill_verdict i (length before) → Filled after n → n ≡ length after → length after ≡ length before → Fills m i before after (Ok x)
  fill_all {before} {after} {n} v f e s =
      let count : length before ≡ length i.kinds.now = rows_count i (length before) (sym v) in
      filled (sym v)
      (fill_by_all (row_of m (columns i)) after (length i.kinds.now) (row_of m (columns i) 0) (s ∙ count) (λ p h. f.told p (omega arith) _))
      (λ p r h. ap (lawful_row i.kinds.now p) (f.told p (omega arith) r) ∙ f.lawful p (omega arith))

  pub fill_refused : {before after : List Row} {e : Refusal} (r : Result (Unit {0}) Refusal) → IsErrAnd r (λ f. f ≡ e) → Some e ≡ fill_verdict i (length before) → after ≡ before → Fills m i before after r
  fill_refused (Ok x) p v s = absurd p
  fill_refused (Err f) p v s = refused (sym v ∙ ap (λ (x : Refusal). Some x) (sym p)) s
