-- Tables of words, each against its list of kinds.
use Rattle.std.proofs.Common.{◌≡◌, ℕ, ◌/◌, ◌<◌, Bool, true, ◌&&◌, ◌||◌, eqb, leb, List, [], ◌∷◌, length, sym, refl, ap, ◌∙◌, arith, length-set}
use mathlib.Core.Bool.{false≢true}
use Rattle.std.proofs.lemmas.Bool.{and_parts, leb-true}
use Rattle.std.proofs.lemmas.Bool.Decides.{nat_tests}
use Rattle.tokens.specs.Kinds.{SHEBANG}
use Rattle.tokens.specs.Words.{in_words, words_of, all_tokens, same}
use Rattle.tokens.specs.Sets.{has}
use Rattle.tokens.specs.TokenSets.{EachStandsFor, by_the_lists}
use Rattle.tokens.specs.declared.token_set.TokenSet.{TokenSet}
use Rattle.tokens.proofs.Members.{in_added, in_none}

three_words : (ks : List ℕ) → length (words_of ks) ≡ 3
three_words [] = refl
three_words (k ∷ ks) = length-set (words_of ks) (k / 64) _ ∙ three_words ks

-- the words of a list have the kinds of the list
pub in_list : (ks : List ℕ) → all_tokens ks ≡ true → (k : ℕ) → in_words (words_of ks) k ≡ has ks k
unfolding has
in_list [] t k = in_none k
in_list (x ∷ xs) t k =
    let ts = and_parts (leb x SHEBANG) (all_tokens xs) t in
    let h : x / 64 < length (words_of xs) = omega (arith, three_words xs, leb-true x SHEBANG ts.0) in
    in_added x (words_of xs) h k ∙ ap (λ (b : Bool). eqb x k || b) (in_list xs ts.1 k)

-- What a look into a table answers is what a look into its list answers. A constant of the code is the words of its list by
-- computation, so a caller writes no more than the list: `by_list TYPE_FIRST refl _ c.contains.ensures.member`.
pub by_list : (ks : List ℕ) → all_tokens ks ≡ true → (k : ℕ) {r : Bool} → in_words (words_of ks) k ≡ r → has ks k ≡ r
by_list ks t k e = sym (in_list ks t k) ∙ e

same_eq : (xs ys : List ℕ) → same xs ys ≡ true → xs ≡ ys
same_eq [] [] t = refl
same_eq [] (y ∷ ys) t = absurd (false≢true t)
same_eq (x ∷ xs) [] t = absurd (false≢true t)
same_eq (x ∷ xs) (y ∷ ys) t = grind (arith, nat_tests, same_eq xs ys)

-- the rule of the tables, from the test over all of them
pub tables_stand : (ss : List TokenSet) (ls : List (List ℕ)) → by_the_lists ss ls ≡ true → EachStandsFor ss ls
unfolding EachStandsFor
tables_stand [] [] t = tt
tables_stand [] (l ∷ ls) t = false≢true t
tables_stand (s ∷ ss) [] t = false≢true t
tables_stand (s ∷ ss) (l ∷ ls) t =
    let a = and_parts (same s.words (words_of l)) (all_tokens l && by_the_lists ss ls) t in
    let b = and_parts (all_tokens l) (by_the_lists ss ls) a.1 in (
      λ k. ap (λ (ws : List ℕ). in_words ws k) (same_eq s.words (words_of l) a.0) ∙ in_list l b.0 k,
      tables_stand ss ls b.1,
    )
