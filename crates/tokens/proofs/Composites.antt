-- What a composite token is made of are tokens that there are: the end is none of them.
use Rattle.std.proofs.Common.{◌≡◌, ℕ, cond, eqb, rules}
use Rattle.std.proofs.lemmas.Bool.{cond_both}
use Rattle.tokens.specs.declared.composite.RawTokens.{RawTokens}
use Rattle.tokens.specs.declared.composite.RawTokens.TheVariants.{One, Two, Three}
use Rattle.tokens.specs.Kinds.{EOF}
use Rattle.tokens.specs.Parts.{parts}

-- no raw token behind the first is the end
abbrev pub NoEnd : RawTokens → Type 0
NoEnd (One a) = Unit {0}
NoEnd (Two a b) = b ≡ EOF → ⊥
NoEnd (Three a b c) = (b ≡ EOF → ⊥) × (c ≡ EOF → ⊥)

row : (k n : ℕ) (x y : RawTokens) → NoEnd x → NoEnd y → NoEnd (cond (eqb k n) x y)
row k n x y p q = cond_both (eqb k n) x y NoEnd (λ _. p) (λ _. q)

pub no_end : (k : ℕ) → NoEnd (parts k)
unfolding parts
no_end k = search (rules, row)
