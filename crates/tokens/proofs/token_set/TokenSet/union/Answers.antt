use Rattle.std.proofs.Common.{◌≡◌, ℕ, ◌||◌, List, length, rules}
use mathlib.Core.Path.{subst⁻¹}
use lib.Bits.{or_lt}
use Rattle.tokens.specs.Words.{in_words, OnlyTokens}
use Rattle.tokens.proofs.Members.{in_either}
use Rattle.tokens.proofs.token_set.TokenSet.union.Goals as goal

pub invariant_of-result : goal.invariant_of-result
invariant_of-result c =
    record { tokens = subst⁻¹ OnlyTokens c.each_or.ensures (or_lt 31 _ _ c.args.self.tokens c.args.other.tokens) }

pub returns : goal.returns
returns c =
    let a = c.args.self.words in
    let b = c.args.other.words in
    let p : length a ≡ 3 = search rules in
    let q : length b ≡ 3 = search rules in
    subst⁻¹ (λ (ws : List ℕ). (k : ℕ) → in_words ws k ≡ (in_words a k || in_words b k)) c.each_or.ensures (in_either a b p q)
