-- What a token set holds.
use Rattle.std.specs.Prelude.{◌≡◌, ℕ, Bool, true, false, ◌&&◌, List, [], ◌∷◌}
use Rattle.tokens.specs.Words.{in_words, words_of, all_tokens, same}
use Rattle.tokens.specs.Sets.{has}
use Rattle.tokens.specs.declared.token_set.TokenSet.{TokenSet}

-- the kind is in the set
abbrev pub holds : TokenSet → ℕ → Bool
holds s k = in_words s.words k

-- the set holds the kinds of the list, and no other
abbrev pub StandsFor : TokenSet → List ℕ → Type 0
StandsFor s kinds = (k : ℕ) → holds s k ≡ has kinds k

-- as many sets as lists, and each set stands for the list in its place
unfoldable pub EachStandsFor : List TokenSet → List (List ℕ) → Type 0
EachStandsFor [] [] = Unit {0}
EachStandsFor [] (l ∷ ls) = ⊥
EachStandsFor (s ∷ ss) [] = ⊥
EachStandsFor (s ∷ ss) (l ∷ ls) = StandsFor s l × EachStandsFor ss ls

-- the same as a test that computes: each set has the words of the list in its place, whose kinds are all kinds of tokens
abbrev pub by_the_lists : List TokenSet → List (List ℕ) → Bool
by_the_lists [] [] = true
by_the_lists [] (l ∷ ls) = false
by_the_lists (s ∷ ss) [] = false
by_the_lists (s ∷ ss) (l ∷ ls) = same s.words (words_of l) && (all_tokens l && by_the_lists ss ls)
