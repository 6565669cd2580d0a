-- How large the numbers of so many bits are, and which bits they have.
use Rattle.std.proofs.Common.{◌≡◌, ℕ, zero, suc, ◌+◌, ◌-◌, ◌*◌, ◌/◌, ◌%◌, ◌^◌, ◌<◌, ◌≤◌, List, ap, ◌∙◌, mul-le-mul_right, mod-eq_of_lt, add_comm, add-one, arith, inl, inr, pow_mono}
use native.Mathlib.Nat.{two-pow-succ}
use Rattle.std.proofs.lemmas.Nat.{mod_below, shl_whole}
use Rattle.std.specs.Int.{bit_at as bit}
use Rattle.std.proofs.lemmas.Nat.Bits.{bit_at_cat_low, bit_at_cat_high, bit_at_lowest, bit_at_above}
use Rattle.std.proofs.lemmas.Bool.{cases_lt}
use Rattle.file.specs.TokenFile.{bit_at, number_at, word_of}

pub bit_small : (bytes : List ℕ) (n : ℕ) → bit_at bytes n < 2
unfolding bit_at
bit_small bytes n = mod_below _ 2 (omega arith)

pub number_small : (bytes : List ℕ) (at width : ℕ) → number_at bytes at width < 2 ^ width
unfolding number_at
number_small bytes at zero = omega arith
number_small bytes at (suc width) = omega (arith, number_small bytes at width, bit_small bytes (at + width), two-pow-succ width)

-- one bit more
pub number_more : (bytes : List ℕ) (at width : ℕ) → number_at bytes at (width + 1) ≡ 2 * number_at bytes at width + bit_at bytes (at + width)
unfolding number_at
number_more bytes at width = rw (add-one width)

-- and it is still small where the width is limited
pub number_fits : (bytes : List ℕ) (at width w : ℕ) → width < w → 2 * number_at bytes at width + bit_at bytes (at + width) < 2 ^ w
number_fits bytes at width w h = omega (arith, number_small bytes at width, bit_small bytes (at + width), two-pow-succ width, pow_mono {i = suc width} {j = w} h)

-- ---- a number of bits, the least significant first

module _ (f : ℕ → ℕ) (bits : (i : ℕ) → f i < 2) where
  bit_shifted : (n : ℕ) → f n * 2 ^ n ≤ 2 ^ n
  bit_shifted n = let h = bits n in omega (arith, mul-le-mul_right {m = f n} {n = 1} (2 ^ n) (omega arith))

  word_small : (n : ℕ) → word_of f n < 2 ^ n
  unfolding word_of
  word_small zero = omega arith
  word_small (suc n) = omega (arith, word_small n, bit_shifted n, two-pow-succ n)

  -- 64 bits are enough
  pub word_fits : (n : ℕ) → n ≤ 64 → word_of f n < 2 ^ 64
  word_fits n h = omega (arith, word_small n, pow_mono {i = n} {j = 64} h)

  -- one bit more, shifted to its place
  pub word_more : (n v : ℕ) → n < 64 → v ≡ f n → word_of f n + v * 2 ^ n % 2 ^ 64 ≡ word_of f (n + 1)
  unfolding word_of
  word_more n v h e = rw (add-one n, e, shl_whole (f n) 1 n 64 (bits n) (omega arith))

  -- bit b of it
  pub word_bit : (n b : ℕ) → b < n → word_of f n / 2 ^ b % 2 ≡ f b
  unfolding word_of
  word_bit zero b h = absurd (omega arith)
  word_bit (suc n) b h = elim (cases_lt b n) [
    | inl lt ↦ ap (λ w. w / 2 ^ b % 2) (add_comm (word_of f n) (f n * 2 ^ n)) ∙ bit_at_cat_low (f n) n (word_of f n) b lt ∙ word_bit n b lt
    | inr ge ↦
        let z : b - n ≡ 0 = omega arith in
        let e : n ≡ b = omega arith in
        ap (λ w. w / 2 ^ b % 2) (add_comm (word_of f n) (f n * 2 ^ n)) ∙ bit_at_cat_high (f n) n (word_of f n) b (word_small n) ge
        ∙ ap (bit (f n)) z ∙ bit_at_lowest (f n) ∙ mod-eq_of_lt (bits n) ∙ ap f e
  ]

  -- and past its last
  pub word_past : (n b : ℕ) → n ≤ b → word_of f n / 2 ^ b % 2 ≡ 0
  word_past n b h = bit_at_above (word_of f n) n b (word_small n) h
