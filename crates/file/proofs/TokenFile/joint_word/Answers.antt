use Rattle.std.proofs.Common.{◌≡◌, ℕ, ◌+◌, ◌*◌, ◌%◌, ◌^◌, refl, arith}
use Rattle.file.specs.TokenFile.{joint_of, word_of}
use Rattle.file.proofs.Numbers.{bit_small, word_fits, word_more}
use Rattle.file.proofs.TokenFile.joint_word.Goals as goal

-- the bits that the word is made of
abbrev bits : goal.After-from → ℕ → ℕ
bits c b = joint_of c.args.self.now.bytes.now (64 * c.args.w + b)

-- the word with one bit more
longer : (c : goal.After-from) → c.loop-b.word + c.from.result * 2 ^ c.loop-b.b % 2 ^ 64 ≡ word_of (bits c) (c.loop-b.b + 1)
longer c =
    let e : c.from.result ≡ bits c c.loop-b.b = cc in
    let s = word_more (bits c) (λ b. bit_small _ _) c.loop-b.b c.from.result (omega arith) e in
    cc

pub loop-b-init : goal.loop-b-init
unfolding word_of
loop-b-init c = refl

pub overflow_add-word : goal.overflow_add-word
overflow_add-word c = omega (arith, longer c, word_fits (bits c) (λ b. bit_small _ _) (c.loop-b.b + 1) (omega arith))

pub loop-b-preserved : goal.loop-b-preserved
loop-b-preserved c = longer c
