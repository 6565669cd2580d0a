-- What the laws of rows say of each answer.
use Rattle.std.proofs.Common.{◌≡◌, ℕ, zero, suc, ◌<◌, ◌≤◌, Bool, true, eqb, List, length, get_or, Some, refl, not-suc-le-zero, arith}
use Rattle.std.proofs.lemmas.Bool.{and_parts, and_from, eqb-true}
use Rattle.std.proofs.lemmas.Bool.Decides.{nat_tests}
use Rattle.tokens.specs.declared.rows.Hook.{Hook}
use Rattle.tokens.specs.declared.rows.Answer.{Answer}
use Rattle.tokens.specs.declared.rows.Row.{Row}
use Rattle.tokens.specs.Kinds.{EOF, ABI}
use Rattle.tokens.specs.Islands.{answer_of, must_take, lawful_answer, exists_from, lawful_row, every_below, row_at, rows_fit}

-- a test that each number below n passes
pub every_below_at : (p : ℕ → Bool) (n i : ℕ) → every_below p n ≡ true → i < n → p i ≡ true
unfolding every_below
every_below_at p zero i h lt = absurd (not-suc-le-zero lt)
every_below_at p (suc n) i h lt = grind (arith, nat_tests, every_below_at p n i)

pub all_below : (p : ℕ → Bool) (n : ℕ) → ((i : ℕ) → i < n → p i ≡ true) → every_below p n ≡ true
unfolding every_below
all_below p zero h = refl
all_below p (suc n) h = and_from (every_below p n) (p n) (all_below p n (λ i lt. h i (omega arith))) (h n (omega arith))

-- a test that each hook passes
pub every_hook_at : (kinds : List ℕ) (i : ℕ) (r : Row) (h : Hook) → lawful_row kinds i r ≡ true → lawful_answer kinds i h (answer_of r h) ≡ true
every_hook_at kinds i r h e = grind (arith, nat_tests)

-- What fitting rows answer at a token is lawful.
pub row_lawful : (kinds : List ℕ) (rows : List Row) (i : ℕ) (h : Hook) → rows_fit kinds rows ≡ true → i < length kinds → lawful_answer kinds i h (answer_of (row_at rows i) h) ≡ true
row_lawful kinds rows i h fit lt =
    every_hook_at kinds i (row_at rows i) h
    (every_below_at (λ i. lawful_row kinds i (row_at rows i)) (length kinds) i (and_parts (eqb (length rows) (length kinds)) _ fit).1 lt)

pub as_many_rows : (kinds : List ℕ) (rows : List Row) → rows_fit kinds rows ≡ true → length rows ≡ length kinds
as_many_rows kinds rows h = eqb-true _ _ (and_parts (eqb (length rows) (length kinds)) _ h).0

-- The parts of the law

pub kind_of_node : (kinds : List ℕ) (i : ℕ) (h : Hook) (a : Answer) (k : ℕ) → lawful_answer kinds i h a ≡ true → a.kind ≡ Some k → ABI ≤ k
unfolding lawful_answer
kind_of_node kinds i h a k l e = grind (arith, nat_tests)

pub takes_some : (kinds : List ℕ) (i : ℕ) (h : Hook) (a : Answer) → lawful_answer kinds i h a ≡ true → must_take h (get_or kinds i EOF) ≡ true → 0 < a.tokens
unfolding lawful_answer
takes_some kinds i h a l m = grind (arith, nat_tests)

pub tokens_exist : (kinds : List ℕ) (i : ℕ) (h : Hook) (a : Answer) → lawful_answer kinds i h a ≡ true → exists_from kinds i a.tokens ≡ true
unfolding lawful_answer
tokens_exist kinds i h a l = (and_parts (exists_from kinds i a.tokens) _ l).0
