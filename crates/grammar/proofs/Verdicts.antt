-- The verdict on columns, check by check.
use Rattle.std.proofs.Common.{◌≡◌, ℕ, ◌+◌, ◌/◌, ◌<◌, ◌≤◌, Bool, true, false, not, ◌&&◌, eqb, leb, List, [], ◌∷◌, length, get_or, ◌≢◌, IsErrAnd, Some, None, Ok, Err, Option, Result, sym, refl, ap, ◌∙◌, arith}
use Rattle.std.proofs.lemmas.Bool.{and_from, ne_eqb, eq-eqb, both_ways, and_parts, lt-ltb, le-ltb, ltb-false, leb-true, eqb-true, not_from_true, not_from_false, not-false, cond-true, cond-false}
use Rattle.std.proofs.lemmas.Option.{none-some}
use Rattle.std.proofs.lemmas.List.{get_or_default}
use Rattle.tokens.specs.declared.input.Input.{Input}
use Rattle.tokens.specs.declared.rows.Row.{Row}
use Rattle.refusals.specs.declared.Refusal.{Refusal}
use Rattle.refusals.specs.declared.Layer.TheVariants.{Input as input_layer}
use Rattle.refusals.specs.declared.Refusal.TheVariants.{TooManyTokens, ColumnLength, WrongKind, UnlawfulRow}
use Rattle.tokens.specs.Kinds.{EOF}
use Rattle.tokens.specs.Islands.{lawful_row, row_at, rows_fit}
use Rattle.tokens.proofs.Laws.{all_below}
use Rattle.grammar.proofs.Firsts.{cond_none, none_below}
use Rattle.grammar.specs.Verdict.{fault, first_of, first_below, at_place, when, fits, no_kind, kinds_fault, contextual_fault, editions_fault, rows_fault, row_count_fault, verdict, verdict_with_rows}

passes : (o : Option Refusal) (rs : List (Option Refusal)) → o ≡ None → first_of (o ∷ rs) ≡ first_of rs
unfolding first_of
passes o rs e = ap (λ (x : Option Refusal). first_of (x ∷ rs)) e

stops : (o : Option Refusal) (rs : List (Option Refusal)) {r : Refusal} → o ≡ Some r → first_of (o ∷ rs) ≡ Some r
unfolding first_of
stops o rs e = ap (λ (x : Option Refusal). first_of (x ∷ rs)) e

alone : (o : Option Refusal) → first_of (o ∷ []) ≡ o
unfolding first_of
alone None = refl
alone (Some r) = refl

-- a verdict with no refusal has none at its first check, and none after it
unstopped : (o : Option Refusal) (rs : List (Option Refusal)) → first_of (o ∷ rs) ≡ None → (o ≡ None) × (first_of rs ≡ None)
unfolding first_of
unstopped None rs h = (refl, h)
unstopped (Some r) rs h = absurd (none-some r (sym h))

not_at_place : (r : ℕ → Refusal) (o : Option ℕ) → at_place r o ≡ None → o ≡ None
not_at_place r None h = refl
not_at_place r (Some i) h = absurd (none-some (r i) (sym h))

module _ (i : Input) (n : ℕ) where
  pub by_tokens : 4096 < length i.kinds.now → Some (TooManyTokens input_layer) ≡ verdict i n
  by_tokens h = sym (stops _ _ (cond-true _ _ _ (lt-ltb 4096 _ h)))

  module _ (few : length i.kinds.now ≤ 4096) where
    past_tokens : verdict i n ≡ first_of (when (not (fits i n)) ColumnLength ∷ (kinds_fault i.kinds.now ∷ (contextual_fault i.kinds.now i.contextual.now ∷ (editions_fault i.editions.now ∷ []))))
    past_tokens = passes _ _ (cond-false _ _ _ (le-ltb 4096 _ few))

    pub by_lengths : false ≡ fits i n → Some ColumnLength ≡ verdict i n
    by_lengths h = sym (past_tokens ∙ stops _ _ (cond-true _ _ _ (not_from_false _ (sym h))))

    module _ (fit : true ≡ fits i n) where
      past_lengths : verdict i n ≡ first_of (kinds_fault i.kinds.now ∷ (contextual_fault i.kinds.now i.contextual.now ∷ (editions_fault i.editions.now ∷ [])))
      past_lengths = past_tokens ∙ passes _ _ (cond-false _ _ _ (not_from_true _ (sym fit)))

      pub by_kinds : {e : Refusal} → Some e ≡ kinds_fault i.kinds.now → Some e ≡ verdict i n
      by_kinds p = sym (past_lengths ∙ stops _ _ (sym p))

      module _ (kinds : None ≡ kinds_fault i.kinds.now) where
        pub by_contextual : {e : Refusal} → Some e ≡ contextual_fault i.kinds.now i.contextual.now → Some e ≡ verdict i n
        by_contextual p = sym (past_lengths ∙ passes _ _ (sym kinds) ∙ stops _ _ (sym p))

        pub by_editions : None ≡ contextual_fault i.kinds.now i.contextual.now → editions_fault i.editions.now ≡ verdict i n
        by_editions h = sym (past_lengths ∙ passes _ _ (sym kinds) ∙ passes _ _ (sym h) ∙ alone _)

  -- accepted columns are not too long
  pub few_tokens : verdict i n ≡ None → length i.kinds.now ≤ 4096
  few_tokens h = ltb-false 4096 _ (cond_none _ _ (unstopped _ _ h).0)

  pub few_records : verdict i n ≡ None → n ≤ 65535
  few_records h =
      let f : not (fits i n) ≡ false = cond_none _ _ (unstopped _ _ (unstopped _ _ h).1).0 in
      let a : Bool = eqb (length i.contextual.now) (length i.kinds.now) in
      let b : Bool = eqb (length i.editions.now) (length i.kinds.now) in
      let c : Bool = eqb (length i.joint.now) ((length i.kinds.now + 63) / 64) in
      let d : Bool = leb n 65535 in
      leb-true n 65535 (and_parts c d (and_parts b (c && d) (and_parts a (b && (c && d)) (not-false (fits i n) f)).1).1).1

  -- and none of their tokens is the end
  pub no_end : verdict i n ≡ None → (k : ℕ) → k < length i.kinds.now → get_or i.kinds.now k EOF ≡ EOF → ⊥
  no_end h k lt e =
      let ks : List ℕ = i.kinds.now in
      let kinds : kinds_fault ks ≡ None = (unstopped _ _ (unstopped _ _ (unstopped _ _ h).1).1).0 in
      let fine : no_kind (get_or ks k 0) ≡ false = none_below (λ j. no_kind (get_or ks j 0)) (length ks) k (not_at_place WrongKind _ kinds) lt in
      both_ways (no_kind (get_or ks k 0)) fine (ap no_kind (get_or_default ks k 0 EOF lt ∙ e))

-- the exit of a `?`
pub broke : {A : Type 0} {e : Refusal} (r : Result A Refusal) → IsErrAnd r (λ f. f ≡ e) → fault r ≡ Some e
broke (Ok a) p = absurd p
broke (Err f) p = ap (λ (x : Refusal). Some x) p

-- Columns with rows

-- the row at a place breaks a law of islands
abbrev pub unlawful_at : List ℕ → List Row → ℕ → Bool
unlawful_at ks rows p = not (lawful_row ks p (row_at rows p))

module _ (i : Input) (rows : ℕ) where
  pub too_many : 4096 < length i.kinds.now → Some (TooManyTokens input_layer) ≡ row_count_fault i rows
  too_many h = sym (stops _ _ (cond-true _ _ _ (lt-ltb 4096 _ h)))

  module _ (few : length i.kinds.now ≤ 4096) where
    past_many : row_count_fault i rows ≡ first_of (when (not (eqb rows (length i.kinds.now))) ColumnLength ∷ [])
    past_many = passes _ _ (cond-false _ _ _ (le-ltb 4096 _ few))

    pub rows_differ : rows ≢ length i.kinds.now → Some ColumnLength ≡ row_count_fault i rows
    rows_differ h = sym (past_many ∙ stops _ _ (cond-true _ _ _ (not_from_false _ (ne_eqb _ _ h))))

    pub row_each : rows ≡ length i.kinds.now → None ≡ row_count_fault i rows
    unfolding first_of
    row_each h = sym (past_many ∙ passes _ _ (cond-false _ _ _ (not_from_true _ (eq-eqb _ _ h))))

module _ (i : Input) (rows : List Row) (n : ℕ) where
  pub by_row_count : {e : Refusal} → Some e ≡ row_count_fault i (length rows) → Some e ≡ verdict_with_rows i rows n
  by_row_count p = sym (stops _ _ (sym p))

  module _ (each : None ≡ row_count_fault i (length rows)) where
    pub by_columns : {e : Refusal} → Some e ≡ verdict i n → Some e ≡ verdict_with_rows i rows n
    by_columns p = sym (passes _ _ (sym each) ∙ stops _ _ (sym p))

    pub by_rows : None ≡ verdict i n → rows_fault i.kinds.now rows ≡ verdict_with_rows i rows n
    by_rows h = sym (passes _ _ (sym each) ∙ passes _ _ (sym h) ∙ alone _)

  -- columns that are accepted with rows are accepted without them
  pub columns_fine : verdict_with_rows i rows n ≡ None → verdict i n ≡ None
  columns_fine h = (unstopped _ _ (unstopped _ _ h).1).0

  -- and the rows fit
  pub rows_fine : verdict_with_rows i rows n ≡ None → rows_fit i.kinds.now rows ≡ true
  rows_fine h =
      let few : length i.kinds.now ≤ 4096 = few_tokens i n (columns_fine h) in
      let as_many : when (not (eqb (length rows) (length i.kinds.now))) ColumnLength ≡ None = (unstopped _ _ (sym (past_many i (length rows) few) ∙ (unstopped _ _ h).0)).0 in
      let same : eqb (length rows) (length i.kinds.now) ≡ true = not-false _ (cond_none _ _ as_many) in
      let none : first_below (unlawful_at i.kinds.now rows) (length rows) ≡ None = not_at_place UnlawfulRow _ (unstopped _ _ (unstopped _ _ (unstopped _ _ h).1).1).0 in
      and_from _ _ same (all_below (λ j. lawful_row i.kinds.now j (row_at rows j)) (length i.kinds.now)
      (λ j lt. not-false _ (none_below (unlawful_at i.kinds.now rows) (length rows) j none (omega (arith, eqb-true _ _ same)))))
