use Rattle.std.proofs.Common.{◌≡◌, ◌+◌}
use Rattle.file.specs.TokenFile.{joint_of, word_of}
use Rattle.file.proofs.TokenFile.joint_word.Given as goal

-- the tokens so far
abbrev pub invariant-loop-b : goal.invariant-loop-b
invariant-loop-b l = l.word ≡ word_of (λ b. joint_of l.self.bytes.now (l.first + b)) l.b
