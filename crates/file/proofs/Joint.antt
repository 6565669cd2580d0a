-- Where the joint bit of a token stands.
use Rattle.std.proofs.Common.{◌≡◌, ℕ, ◌+◌, ◌-◌, ◌*◌, ◌/◌, ◌%◌, ◌^◌, min, cond, ltb, List, get_or, IfOk, Ok, Err, Result, refl, ap, ◌∙◌, inl, inr, arith}
use Rattle.refusals.specs.declared.Refusal.{Refusal}
use Rattle.std.proofs.lemmas.Bool.{cases_lt, cond_below, cond_above}
use Rattle.file.specs.TokenFile.{written, joint_of, joint_word, words_for, JointBits, Columns, Reads}
use Rattle.file.proofs.Fronts.{written_at}
use Rattle.file.proofs.Numbers.{bit_small, word_bit, word_past}

joint_law : (bytes column : List ℕ) (n : ℕ) → JointBits bytes n (written (joint_word bytes n) (words_for n) column)
joint_law bytes column n i h =
    ap (λ x. x / 2 ^ (i % 64) % 2) (written_at (joint_word bytes n) (words_for n) (i / 64) column (omega arith)) ∙ go
  where
    go : joint_word bytes n (i / 64) / 2 ^ (i % 64) % 2 ≡ cond (ltb i n) (joint_of bytes i) 0
    go = elim (cases_lt i n) [
      | inl l ↦
          word_bit (λ b. joint_of bytes (64 * (i / 64) + b)) (λ b. bit_small _ _) (min (n - 64 * (i / 64)) 64) (i % 64) (omega arith)
          ∙ ap (joint_of bytes) (let e : 64 * (i / 64) + i % 64 ≡ i = omega arith in e)
          ∙ cond_below i n _ _ l
      | inr l ↦
          word_past (λ b. joint_of bytes (64 * (i / 64) + b)) (λ b. bit_small _ _) (min (n - 64 * (i / 64)) 64) (i % 64) (omega arith)
          ∙ cond_above i n (joint_of bytes i) 0 0 l refl
    ]

pub joint_bits : (bytes : List ℕ) (before after : Columns) (r : Result ℕ Refusal) → Reads bytes before after r → IfOk r (λ n. JointBits bytes n after.joint)
joint_bits bytes before after (Ok n) h = λ i lt. ap (λ (words : List ℕ). get_or words (i / 64) 0 / 2 ^ (i % 64) % 2) h.joint_read ∙ joint_law bytes before.joint n i lt
joint_bits bytes before after (Err e) h = tt
