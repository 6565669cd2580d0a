-- Which tokens are next.
use Rattle.std.proofs.Common.{◌≡◌, ℕ, ◌+◌, ◌<◌, ◌≤◌, Bool, true, false, not, ◌&&◌, eqb, length, sym, refl, ◌∙◌, ⊎_elim, arith}
use Rattle.std.proofs.lemmas.List.{get_or_past}
use Rattle.std.proofs.lemmas.Bool.{and_right, and_from, and_parts, or_left, or_right, or_cases, ne_eqb, eq-eqb, eqb-true, eqb-false, not-true, cases_lt, not_from_false}
use Rattle.tokens.specs.Kinds.{EOF}
use Rattle.tokens.specs.declared.composite.RawTokens.{RawTokens}
use Rattle.tokens.specs.declared.composite.RawTokens.TheVariants.{One, Two, Three}
use Rattle.tokens.specs.Parts.{parts, length_of, width}
use Rattle.tokens.proofs.Composites.{NoEnd, no_end}
use Rattle.event_log.specs.Program.{Env, kind_at, contextual_at, followed_by, raw_ahead, ahead, present, readable, spells}

-- a token that is there lies before the end
pub within : (e : Env) (i : ℕ) → (kind_at e i ≡ EOF → ⊥) → i < length e.kinds
within e i h = ⊎_elim (λ lt. lt) (λ le. absurd (h (get_or_past e.kinds i EOF le))) (cases_lt i (length e.kinds))

-- The tests of the code

pub at_end : {k r : ℕ} → r ≡ k → r ≡ EOF → eqb k EOF ≡ true
at_end p q = eq-eqb _ _ (sym p ∙ q)

pub not_at_end : {k r : ℕ} → r ≡ k → (r ≡ EOF → ⊥) → eqb k EOF ≡ false
not_at_end p q = ne_eqb _ _ (λ e. q (p ∙ e))

-- What is next, it spells

pub spells_raw : (e : Env) (i k : ℕ) → (kind_at e i ≡ EOF → ⊥) → kind_at e i ≡ k → spells e i k 1 ≡ true
unfolding spells
spells_raw e i k n h = or_left _ _ (and_from true (not (eqb (kind_at e i) EOF) && eqb (kind_at e i) k) refl (and_from _ _ (not_from_false _ (ne_eqb _ _ n)) (eq-eqb _ _ h)))

-- From what a call answers of the next token to what the call that takes it asks: `at` and `bump`, `at_contextual_kw` and `bump_remap`.

pub readable_as : (e : Env) (i k : ℕ) → (kind_at e i ≡ EOF → ⊥) → (k ≡ EOF → ⊥) → eqb (contextual_at e i) k ≡ true → readable e i k ≡ true
readable_as e i k n m h = and_from _ _ (not_from_false _ (ne_eqb _ _ n)) (and_from _ _ (not_from_false _ (ne_eqb _ _ m)) h)

pub readable_is : (e : Env) (i k : ℕ) → (kind_at e i ≡ EOF → ⊥) → (k ≡ EOF → ⊥) → contextual_at e i ≡ k → readable e i k ≡ true
readable_is e i k n m h = readable_as e i k n m (eq-eqb _ _ h)

pub other_keyword : (e : Env) (i k : ℕ) → eqb (contextual_at e i) k ≡ false → readable e i k ≡ false
other_keyword e i k p = and_right _ _ (and_right (not (eqb k EOF)) _ p)

pub present_is : (e : Env) (i k : ℕ) → (kind_at e i ≡ EOF → ⊥) → ahead e i k ≡ true → present e i k ≡ true
present_is e i k n h = and_from _ _ (not_from_false _ (ne_eqb _ _ n)) h

-- the first raw token that a token is made of
abbrev pub first : RawTokens → ℕ
first (One a) = a
first (Two a b) = a
first (Three a b c) = a

first_ahead : (e : Env) (i : ℕ) (r : RawTokens) → raw_ahead e i r ≡ true → kind_at e i ≡ first r
unfolding raw_ahead
first_ahead e i (One a) h = eqb-true _ _ h
first_ahead e i (Two a b) h = eqb-true _ _ (and_parts (eqb (kind_at e i) a) _ h).0
first_ahead e i (Three a b c) h = eqb-true _ _ (and_parts (eqb (kind_at e i) a) _ h).0

-- a token that is made of others than the end is not there at the end
pub ahead_present : (e : Env) (i k : ℕ) → (first (parts k) ≡ EOF → ⊥) → ahead e i k ≡ true → present e i k ≡ true
ahead_present e i k n h = present_is e i k (λ z. n (sym (first_ahead e i (parts k) h) ∙ z)) h

-- what can be read as a keyword is there
pub readable_there : (e : Env) (i k : ℕ) → readable e i k ≡ true → eqb (kind_at e i) EOF ≡ false
readable_there e i k h = not-true _ (and_parts (not (eqb (kind_at e i) EOF)) _ h).0

pub spells_readable : (e : Env) (i k : ℕ) → readable e i k ≡ true → spells e i k 1 ≡ true
unfolding spells
spells_readable e i k h = or_right (eqb 1 1 && (not (eqb (kind_at e i) EOF) && eqb (kind_at e i) k)) _ (or_left (true && readable e i k) _ h)

pub spells_present : (e : Env) (i k w : ℕ) → w ≡ width k → present e i k ≡ true → spells e i k w ≡ true
unfolding spells
spells_present e i k w p h = or_right (eqb w 1 && (not (eqb (kind_at e i) EOF) && eqb (kind_at e i) k)) _ (or_right (eqb w 1 && readable e i k) _ (and_from (eqb w (width k)) (present e i k) (eq-eqb _ _ p) h))

-- What it spells lies before the end

followed_within : (e : Env) (i k : ℕ) → (k ≡ EOF → ⊥) → followed_by e i k ≡ true → i + 1 < length e.kinds
followed_within e i k n h = within e (i + 1) (λ q. n (sym (eqb-true _ k (and_parts _ _ h).1) ∙ q))

-- a test that excludes the end
not_end : (e : Env) (i : ℕ) (b : Bool) → (not (eqb (kind_at e i) EOF) && b) ≡ true → i < length e.kinds
not_end e i b h = within e i (eqb-false _ _ (not-true _ (and_parts (not (eqb (kind_at e i) EOF)) b h).0))

wide_by : (e : Env) (i : ℕ) (r : RawTokens) → i < length e.kinds → NoEnd r → raw_ahead e i r ≡ true → i + length_of r ≤ length e.kinds
unfolding raw_ahead
wide_by e i (One a) lt n h = omega (arith, lt)
wide_by e i (Two a b) lt n h = omega (arith, followed_within e i b n (and_parts (eqb (kind_at e i) a) _ h).1)
wide_by e i (Three a b c) lt n h =
    omega (arith, followed_within e (i + 1) c n.1 (and_parts (followed_by e i b) _ (and_parts (eqb (kind_at e i) a) _ h).1).1)

wide_within : (e : Env) (i k : ℕ) → present e i k ≡ true → i + width k ≤ length e.kinds
wide_within e i k h = wide_by e i (parts k) (not_end e i (ahead e i k) h) (no_end k) (and_parts (not (eqb (kind_at e i) EOF)) _ h).1

pub spelt_within : (e : Env) (i k w : ℕ) → spells e i k w ≡ true → i + w ≤ length e.kinds
unfolding spells
spelt_within e i k w h = ⊎_elim (one (eqb (kind_at e i) k)) (λ g. ⊎_elim (one (not (eqb k EOF) && eqb (contextual_at e i) k)) more (or_cases (eqb w 1 && readable e i k) (eqb w (width k) && present e i k) g)) (or_cases (eqb w 1 && (not (eqb (kind_at e i) EOF) && eqb (kind_at e i) k)) _ h)
  where
    one : (b : Bool) → (eqb w 1 && (not (eqb (kind_at e i) EOF) && b)) ≡ true → i + w ≤ length e.kinds
    one b g = let p = and_parts (eqb w 1) _ g in omega (arith, eqb-true w 1 p.0, not_end e i b p.1)

    more : (eqb w (width k) && present e i k) ≡ true → i + w ≤ length e.kinds
    more g = let p = and_parts (eqb w (width k)) (present e i k) g in rw (eqb-true w (width k) p.0) (wide_within e i k p.1)
