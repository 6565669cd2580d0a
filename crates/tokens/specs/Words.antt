-- Kinds as bits of words: kind k is bit k modulo 64 of word k divided by 64.
use Rattle.std.specs.Prelude.{ℕ, ◌+◌, ◌/◌, ◌%◌, ◌^◌, ◌<◌, Bool, true, false, ◌&&◌, List, [], ◌∷◌, ◌==◌, bit_or, nat_le, slice_index, slice_set}
use Rattle.tokens.specs.Kinds.{SHEBANG}

-- the bit of this kind is set
unfoldable pub in_words : List ℕ → ℕ → Bool
in_words words k = slice_index words (k / 64) / 2 ^ (k % 64) % 2 == 1

-- of three words: none has a bit past that of SHEBANG, the last kind that a token may have
abbrev pub OnlyTokens : List ℕ → Type 0
OnlyTokens words = slice_index words (SHEBANG / 64) < 2 ^ (SHEBANG % 64 + 1)

-- three words, each with the bits of either
abbrev pub each_or : List ℕ → List ℕ → List ℕ
each_or a b = bit_or (slice_index a 0) (slice_index b 0) ∷ bit_or (slice_index a 1) (slice_index b 1) ∷ bit_or (slice_index a 2) (slice_index b 2) ∷ []

-- the words with the bit of one kind more
abbrev pub added : ℕ → List ℕ → List ℕ
added k words = slice_set words (k / 64) (bit_or (slice_index words (k / 64)) (2 ^ (k % 64)))

-- three words with the bits of these kinds
abbrev pub words_of : List ℕ → List ℕ
words_of [] = 0 ∷ 0 ∷ 0 ∷ []
words_of (k ∷ ks) = added k (words_of ks)

-- each is a kind up to SHEBANG, and so has a bit
abbrev pub all_tokens : List ℕ → Bool
all_tokens [] = true
all_tokens (k ∷ ks) = nat_le k SHEBANG && all_tokens ks

-- the same words
abbrev pub same : List ℕ → List ℕ → Bool
same [] [] = true
same [] (y ∷ ys) = false
same (x ∷ xs) [] = false
same (x ∷ xs) (y ∷ ys) = x == y && same xs ys
