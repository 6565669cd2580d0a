-- Bits of one word.
use Rattle.std.proofs.Common.{◌≡◌, ℕ, ◌/◌, ◌%◌, ◌^◌, ◌<◌, ◌≤◌, max, Bool, false, ◌||◌, eqb, sym, ap, ◌∙◌, inl, inr, arith}
use lib.Bits.{bit_or}
use Rattle.std.proofs.lemmas.Bool.{cases_eq, eq-eqb, ne_eqb}
use Rattle.std.proofs.lemmas.Bool.Decides.{nat_tests}
use Rattle.std.proofs.lemmas.Nat.Bits.{bit_at_or, bit_at-zero, bit_at_above, bit_at-pow_same, bit_at-pow_other, bit_at-lt}

abbrev pub bit : ℕ → ℕ → Bool
bit n j = eqb (n / 2 ^ j % 2) 1

-- of two words joined
pub bit_or_lem : (a b j : ℕ) → bit (bit_or a b) j ≡ (bit a j || bit b j)
bit_or_lem a b j = ap (λ (n : ℕ). eqb n 1) (bit_at_or a b j) ∙ either _ _ (bit_at-lt a j) (bit_at-lt b j)
  where
    either : (x y : ℕ) → x < 2 → y < 2 → eqb (max x y) 1 ≡ (eqb x 1 || eqb y 1)
    either x y p q = grind (arith, nat_tests)

pub bit_zero : (j : ℕ) → bit 0 j ≡ false
bit_zero j = ap (λ (n : ℕ). eqb n 1) (bit_at-zero j)

-- the bits of a number above its highest one
pub bit_high : (n k j : ℕ) → n < 2 ^ k → k ≤ j → bit n j ≡ false
bit_high n k j h l = ap (λ (n : ℕ). eqb n 1) (bit_at_above n k j h l)

-- of a power of two
pub bit_pow : (i j : ℕ) → bit (2 ^ i) j ≡ eqb i j
bit_pow i j =
    elim (cases_eq i j) [
      | inl e ↦ ap (λ (n : ℕ). bit (2 ^ n) j) e ∙ ap (λ (n : ℕ). eqb n 1) (bit_at-pow_same j) ∙ sym (eq-eqb i j e)
      | inr d ↦ ap (λ (n : ℕ). eqb n 1) (bit_at-pow_other i j (λ e. d (sym e))) ∙ sym (ne_eqb i j d)
    ]
