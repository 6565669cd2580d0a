-- Which kinds words have, after each way to make them.
use Rattle.std.proofs.Common.{◌≡◌, ℕ, zero, suc, ◌+◌, ◌/◌, ◌%◌, ◌^◌, ◌<◌, ◌≤◌, false, ◌&&◌, ◌||◌, eqb, leb, List, [], ◌∷◌, ◌++◌, length, get_or, take, replicate, sym, refl, ap, ◌∙◌, ap₂, inl, inr, arith, lit<, length-set}
use mathlib.Core.Bool.{or_comm}
use lib.Bits.{bit_or, or_lt}
use lib.Pow.{pow-lt}
use Rattle.std.proofs.lemmas.List.{take_more, get_or-replicate, get_or_past, get_or-set_same, get_or-set_other}
use Rattle.std.proofs.lemmas.List.Recursion.{or_push}
use Rattle.std.proofs.lemmas.Bool.Decides.{nat_tests}
use Rattle.std.proofs.lemmas.Bool.{cases_eq, cases_lt, ne_eqb}
use Rattle.tokens.specs.Kinds.{SHEBANG}
use Rattle.tokens.specs.Words.{in_words, added, each_or, OnlyTokens}
use Rattle.tokens.specs.Sets.{has}
use Rattle.tokens.proofs.Bits.{bit, bit_or_lem, bit_pow, bit_zero, bit_high}

-- ---- one kind more, and none

-- a kind is known by its word and its bit in it
same_word : (x k : ℕ) → x / 64 ≡ k / 64 → eqb (x % 64) (k % 64) ≡ eqb x k
same_word x k e = grind (arith, nat_tests)

pub in_added : (x : ℕ) (words : List ℕ) → x / 64 < length words → (k : ℕ) → in_words (added x words) k ≡ (eqb x k || in_words words k)
unfolding in_words
in_added x words h k =
    let v = bit_or (get_or words (x / 64) 0) (2 ^ (x % 64)) in
    elim (cases_eq (x / 64) (k / 64)) [
      | inl e ↦
          rw (← e, get_or-set_same words (x / 64) v 0 h, bit_or_lem (get_or words (x / 64) 0) (2 ^ (x % 64)) (k % 64), bit_pow (x % 64) (k % 64), same_word x k e)
          (or_comm (bit (get_or words (x / 64) 0) (k % 64)) (eqb x k))
      | inr d ↦ rw (get_or-set_other words (x / 64) (k / 64) v 0 (λ e. d (sym e)), ne_eqb x k (λ s. d (ap (λ (n : ℕ). n / 64) s))) refl
    ]

no_word : (i : ℕ) → get_or {A = ℕ} (0 ∷ 0 ∷ 0 ∷ []) i 0 ≡ 0
no_word i = elim (cases_lt i 3) [ inl h ↦ get_or-replicate 3 i 0 0 h | inr h ↦ get_or_past (replicate 3 0) i 0 h ]

pub in_none : (k : ℕ) → in_words (0 ∷ 0 ∷ 0 ∷ []) k ≡ false
unfolding in_words
in_none k = ap (λ (w : ℕ). bit w (k % 64)) (no_word (k / 64)) ∙ bit_zero (k % 64)

-- ---- no kind above SHEBANG

pub none_high : (words : List ℕ) → length words ≡ 3 → OnlyTokens words → (k : ℕ) → SHEBANG < k → in_words words k ≡ false
unfolding in_words
none_high words three only k h =
    elim (cases_eq (k / 64) 2) [
      | inl e ↦
          ap (λ (n : ℕ). bit (get_or words n 0) (k % 64)) e
          ∙ bit_high (get_or words 2 0) 31 (k % 64) only (omega arith)
      | inr d ↦ ap (λ (w : ℕ). bit w (k % 64)) (get_or_past words (k / 64) 0 (omega arith)) ∙ bit_zero (k % 64)
    ]

pub only_added : (x : ℕ) (words : List ℕ) → length words ≡ 3 → x ≤ SHEBANG → OnlyTokens words → OnlyTokens (added x words)
only_added x words three h only =
    let v = bit_or (get_or words (x / 64) 0) (2 ^ (x % 64)) in
    elim (cases_eq (x / 64) 2) [
      | inl e ↦
          rw (e, get_or-set_same words 2 (bit_or (get_or words 2 0) (2 ^ (x % 64))) 0 (omega arith))
          (or_lt 31 (get_or words 2 0) (2 ^ (x % 64)) only (pow-lt {j = 31} (omega arith)))
      | inr d ↦ rw (get_or-set_other words (x / 64) 2 v 0 (λ e. d (sym e))) only
    ]

-- ---- the words of two sets, each with the bits of either

word_or : (a b : List ℕ) → length a ≡ 3 → length b ≡ 3 → (i : ℕ) → get_or (each_or a b) i 0 ≡ bit_or (get_or a i 0) (get_or b i 0)
word_or a b p q zero = refl
word_or a b p q (suc zero) = refl
word_or a b p q (suc (suc zero)) = refl
word_or a b p q (suc (suc (suc i))) =
    sym (ap₂ bit_or (get_or_past a (suc (suc (suc i))) 0 (omega arith)) (get_or_past b (suc (suc (suc i))) 0 (omega arith)))

pub in_either : (a b : List ℕ) → length a ≡ 3 → length b ≡ 3 → (k : ℕ) → in_words (each_or a b) k ≡ (in_words a k || in_words b k)
unfolding in_words
in_either a b p q k =
    ap (λ (w : ℕ). bit w (k % 64)) (word_or a b p q (k / 64)) ∙ bit_or_lem (get_or a (k / 64) 0) (get_or b (k / 64) 0) (k % 64)

-- ---- a list of kinds, one by one

-- Three words that have the kinds of a list, as far as they are kinds of tokens.
pub record Collects (words kinds : List ℕ) : Type 0 where
  pub three : length words ≡ 3
  pub only : OnlyTokens words
  pub members : (k : ℕ) → in_words words k ≡ (has kinds k && leb k SHEBANG)

has_more : (xs : List ℕ) (x k : ℕ) → has (xs ++ x ∷ []) k ≡ (has xs k || eqb x k)
unfolding has
has_more xs x k = or_push (λ ys. has ys k) (λ y. eqb y k) refl (λ _ _. refl) xs x

pub collects_none : Collects (0 ∷ 0 ∷ 0 ∷ []) []
unfolding has
collects_none = record { three = refl; only = lit< tt; members = in_none }

collects_token : (words xs : List ℕ) (x : ℕ) → x ≤ SHEBANG → Collects words xs → Collects (added x words) (xs ++ x ∷ [])
collects_token words xs x h so_far =
    let three = so_far.three in
    record {
      three = length-set words (x / 64) _ ∙ three;
      only = only_added x words three h so_far.only;
      members = λ k. grind (arith, nat_tests, in_added x words (omega arith) k, so_far.members k, has_more xs x k);
    }

collects_other : (words xs : List ℕ) (x : ℕ) → SHEBANG < x → Collects words xs → Collects words (xs ++ x ∷ [])
collects_other words xs x h so_far =
    record {
      three = so_far.three;
      only = so_far.only;
      members = λ k. grind (arith, nat_tests, so_far.members k, has_more xs x k);
    }

-- the next kind of a list is taken in
pub takes_in : (kinds : List ℕ) (i : ℕ) (words after : List ℕ) → i < length kinds → get_or kinds i 0 ≤ SHEBANG
    → after ≡ added (get_or kinds i 0) words → Collects words (take i kinds) → Collects after (take (i + 1) kinds)
takes_in kinds i words after h token is so_far =
    rw (take_more kinds i 0 h, is) (collects_token words (take i kinds) (get_or kinds i 0) token so_far)

-- the next kind of a list is left out
pub leaves_out : (kinds : List ℕ) (i : ℕ) (words after : List ℕ) → i < length kinds → SHEBANG < get_or kinds i 0 → after ≡ words
    → Collects words (take i kinds) → Collects after (take (i + 1) kinds)
leaves_out kinds i words after h other is so_far =
    rw (take_more kinds i 0 h, is) (collects_other words (take i kinds) (get_or kinds i 0) other so_far)
