-- The joint bits of tokens, packed into words.
use Rattle.std.specs.Prelude.{ℕ, ◌/◌, ◌%◌, ◌^◌, Bool, ◌&&◌, List, length, ◌==◌, nat_lt, slice_index}

-- the bit of token i among these words, for so many tokens: bit i modulo 64 of word i divided by 64
abbrev pub joint_in : List ℕ → List ℕ → ℕ → Bool
joint_in kinds words i = nat_lt i (length kinds) && slice_index words (i / 64) / 2 ^ (i % 64) % 2 == 1
