-- The first number that passes a test, as a loop finds it.
use Rattle.std.proofs.Common.{◌≡◌, ℕ, zero, suc, ◌+◌, ◌<◌, Bool, true, false, cond, List, length, get_or, Some, None, Option, Result, sym, refl, ap, ◌∙◌, subst, ⊎_elim, add-one, arith}
use Rattle.std.proofs.lemmas.Bool.{cases_lt, cond-true, cond-false}
use Rattle.std.proofs.lemmas.Option.{none-some}
use Rattle.std.proofs.lemmas.List.{get_or_default}
use Rattle.refusals.specs.declared.Refusal.{Refusal}
use Rattle.std.specs.Borrow.{Bor}
use denote.Param.Members.{Shared}
use Rattle.grammar.specs.Verdict.{fault, first_below, at_place}
use Rattle.grammar.specs.Each.{Answers, Checks}
use Rattle.grammar.specs.Each.Checks.{fine, refused}

-- what the first one below n decides, and what n decides where there is none
abbrev next : (ℕ → Bool) → ℕ → Option ℕ → Option ℕ
next p n None = cond (p n) (Some n) None
next p n (Some i) = Some i

first_suc : (p : ℕ → Bool) (n : ℕ) → first_below p (suc n) ≡ next p n (first_below p n)
unfolding first_below
first_suc p n = elim (first_below p n) as (λ o. ◌≡◌ {A = Option ℕ} (elim o [ None ↦ cond (p n) (Some n) None | Some i ↦ Some i ]) (next p n o)) [ None ↦ refl | Some i ↦ refl ]

pub none_yet : (p : ℕ → Bool) → first_below p 0 ≡ None
unfolding first_below
none_yet p = refl

pub none_more : (p : ℕ → Bool) (i : ℕ) → first_below p i ≡ None → p i ≡ false → first_below p (i + 1) ≡ None
none_more p i h e = rw add-one (first_suc p i ∙ ap (next p i) h ∙ cond-false (p i) (Some i) None e)

-- none where there is none at any of them
none_of : (p : ℕ → Bool) (n : ℕ) → ((i : ℕ) → i < n → p i ≡ false) → first_below p n ≡ None
none_of p zero h = none_yet p
none_of p (suc n) h = first_suc p n ∙ ap (next p n) (none_of p n (λ i lt. h i (omega (arith, lt)))) ∙ cond-false (p n) (Some n) None (h n (omega arith))

-- what holds of those below n, and of n, holds of those below the next one
pub one_more : {P : ℕ → Type 0} {n : ℕ} → ((i : ℕ) → i < n → P i) → P n → (i : ℕ) → i < n + 1 → P i
one_more {P} {n} h a i lt = ⊎_elim (h i) (λ ge. subst P (let e : n ≡ i = omega (arith, lt, ge) in e) a) (cases_lt i n)

-- the one that was found is the first, however far one looks
pub found : (p : ℕ → Bool) (i n : ℕ) → first_below p i ≡ None → p i ≡ true → i < n → first_below p n ≡ Some i
found p i zero h e lt = absurd (omega (arith, lt))
found p i (suc n) h e lt =
    first_suc p n ∙ ⊎_elim (λ l. ap (next p n) (found p i n h e l))
    (λ ge. ap (λ m. next p m (first_below p m)) (let q : n ≡ i = omega (arith, lt, ge) in q) ∙ ap (next p i) h ∙ cond-true (p i) (Some i) None e)
    (cases_lt i n)

-- nothing is answered where the test does not hold
pub cond_none : {A : Type 0} (b : Bool) (x : A) → cond b (Some x) None ≡ None → b ≡ false
cond_none true x h = absurd (none-some x (sym h))
cond_none false x h = refl

-- where none was found, none passes
none_next : (p : ℕ → Bool) (n : ℕ) (o : Option ℕ) → next p n o ≡ None → (o ≡ None) × (p n ≡ false)
none_next p n None h = (refl, cond_none (p n) n h)
none_next p n (Some i) h = absurd (none-some i (sym h))

pub none_below : (p : ℕ → Bool) (n i : ℕ) → first_below p n ≡ None → i < n → p i ≡ false
none_below p zero i h lt = absurd (omega arith)
none_below p (suc n) i h lt =
    let e = none_next p n (first_below p n) (sym (first_suc p n) ∙ h) in
    ⊎_elim (λ l. none_below p n i e.0 l) (λ ge. ap p (let q : i ≡ n = omega (arith, lt, ge) in q) ∙ e.1) (cases_lt i n)

-- A check of each entry refuses the first one that is wrong, as a test of the places and the entries says.
pub checked : {W R T : Type 0} {g : Shared W (ℕ × (Bor T × Unit {0})) Bool} {h : Shared R (ℕ × Unit {0}) Refusal} {column : List T} {wrong : W} {refusal : R}
    → {x : Result (Unit {0}) Refusal} (d : T) (t : ℕ → T → Bool) (r : ℕ → Refusal)
    → ((i : ℕ) (y : Bor T) (b : Bool) → i < length column → g.post wrong (i, (y, tt)) b → t i y.now ≡ b)
    → ((i : ℕ) (e : Refusal) → h.post refusal (i, tt) e → e ≡ r i)
    → Checks g h column wrong refusal x → fault x ≡ at_place r (first_below (λ i. t i (get_or column i d)) (length column))
checked {g = g} {h} {column} {wrong} {refusal} d t r test named k = go k
  where
    p : ℕ → Bool
    p i = t i (get_or column i d)

    answered : (i : ℕ) (b : Bool) → i < length column → Answers g wrong column i b → p i ≡ b
    answered i b lt a = ap (t i) (get_or_default column i d a.entry.now lt ∙ sym a.stands) ∙ test i a.entry b lt a.says

    go : {x : Result (Unit {0}) Refusal} → Checks g h column wrong refusal x → fault x ≡ at_place r (first_below p (length column))
    go (fine none) = sym (ap (at_place r) (none_of p (length column) (λ i lt. answered i false lt (none i lt))))
    go (refused {e} {n} none lt one said) =
        ap (λ (f : Refusal). Some f) (named n e said)
        ∙ sym (ap (at_place r) (found p n (length column) (none_of p n (λ i l. answered i false (omega (arith, l, lt)) (none i l))) (answered n true lt one) lt))
