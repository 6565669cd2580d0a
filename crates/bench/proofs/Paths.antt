-- A path that grows by one segment after the other.
use Rattle.std.proofs.Common.{◌≡◌, ℕ, zero, suc, ◌-◌, ◌<◌, ◌≤◌, List, [], ◌∷◌, ◌++◌, Option, sym, ap, ◌∙◌, append_assoc, append-nil, arith}
use Rattle.event_log.specs.declared.event.Record.{Record}
use Rattle.event_log.specs.declared.event.Record.TheVariants.{Start, Token}
use Rattle.tokens.specs.Kinds.{PATH, COLON2}
use Rattle.bench.specs.Path.{segment, parent, onward}

-- the records of one path more
abbrev next : Option ℕ → List Record
next fp = Start PATH fp ∷ Token COLON2 2 ∷ segment

onward_next : (n : ℕ) → 0 < n → onward n ≡ next (parent 8 (n - 1)) ++ onward (n - 1)
unfolding onward
onward_next zero lt = absurd (omega arith)
onward_next (suc n) lt = let e : n ≡ suc n - 1 = omega arith in ap (λ (m : ℕ). next (parent 8 m) ++ onward m) e

pub one_more : (qs rs ss ts : List Record) (n : ℕ) (fp : Option ℕ) → 0 < n → fp ≡ parent 8 (n - 1) → rs ≡ qs ++ Start PATH fp ∷ [] → ss ≡ rs ++ Token COLON2 2 ∷ []
    → ts ≡ ss ++ segment → ts ++ onward (n - 1) ≡ qs ++ onward n
one_more qs rs ss ts n fp lt p a b c =
    let grown : ts ≡ qs ++ next fp =
    c ∙ ap (λ (xs : List Record). xs ++ segment) (b ∙ ap (λ (xs : List Record). xs ++ Token COLON2 2 ∷ []) a)
    ∙ simp append_assoc in
    ap (λ (xs : List Record). xs ++ onward (n - 1)) grown ∙ append_assoc qs (next fp) (onward (n - 1))
    ∙ ap (λ (o : Option ℕ). qs ++ (next o ++ onward (n - 1))) p ∙ ap (λ (xs : List Record). qs ++ xs) (sym (onward_next n lt))

pub no_more : (qs : List Record) (n : ℕ) → n ≤ 0 → qs ++ onward n ≡ qs
unfolding onward
no_more qs n le = ap (λ (m : ℕ). qs ++ onward m) (let e : n ≡ 0 = omega arith in e) ∙ append-nil qs
