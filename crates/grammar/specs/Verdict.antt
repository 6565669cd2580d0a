-- Which columns are refused, and why.
use Rattle.std.specs.Prelude.{ℕ, zero, suc, ◌+◌, ◌/◌, Bool, cond, not, ◌&&◌, ◌||◌, List, [], ◌∷◌, length, Some, None, Ok, Err, Option, Result, ◌==◌, nat_le, nat_lt, slice_index}
use Rattle.tokens.specs.declared.input.Input.{Input}
use Rattle.tokens.specs.declared.rows.Row.{Row}
use Rattle.refusals.specs.declared.Refusal.{Refusal}
use Rattle.refusals.specs.declared.Layer.TheVariants.{Input as input_layer}
use Rattle.tokens.specs.Kinds.{TOMBSTONE, EOF, DOLLAR, IDENT, SHEBANG}
use Rattle.tokens.specs.Limits.{max_tokens}
use Rattle.tokens.specs.Islands.{lawful_row, row_at}
use Rattle.event_log.specs.Limits.{max_records}
use Rattle.refusals.specs.declared.Refusal.TheVariants.{TooManyTokens, ColumnLength, WrongKind, WrongContextualKind, WrongEdition, UnlawfulRow}

-- the refusal of a check, if it refused
abbrev pub fault : {A : Type 0} → Result A Refusal → Option Refusal
fault (Ok a) = None
fault (Err e) = Some e

-- the first of the numbers below n that passes the test
unfoldable pub first_below : (ℕ → Bool) → ℕ → Option ℕ
first_below p zero = None
first_below p (suc n) = elim (first_below p n) [ None ↦ cond (p n) (Some n) None | Some i ↦ Some i ]

-- a refusal at that place
abbrev pub at_place : (ℕ → Refusal) → Option ℕ → Option Refusal
at_place r None = None
at_place r (Some i) = Some (r i)

-- a kind that no token has
abbrev pub no_kind : ℕ → Bool
no_kind k = k == TOMBSTONE || (k == EOF || nat_lt SHEBANG k)

-- A contextual kind that a token of this kind cannot have: it is EOF, for none, or at an IDENT from DOLLAR to SHEBANG.
abbrev pub no_contextual : ℕ → ℕ → Bool
no_contextual k c = not (c == EOF || (k == IDENT && (nat_le DOLLAR c && nat_le c SHEBANG)))

-- an edition that there is not
abbrev pub no_edition : ℕ → Bool
no_edition e = nat_lt 3 e

-- the first token at fault by each check

abbrev pub kinds_fault : List ℕ → Option Refusal
kinds_fault ks = at_place WrongKind (first_below (λ i. no_kind (slice_index ks i)) (length ks))

abbrev pub contextual_fault : List ℕ → List ℕ → Option Refusal
contextual_fault ks cs = at_place WrongContextualKind (first_below (λ i. no_contextual (slice_index ks i) (slice_index cs i)) (length cs))

abbrev pub editions_fault : List ℕ → Option Refusal
editions_fault es = at_place WrongEdition (first_below (λ i. no_edition (slice_index es i)) (length es))

-- the lengths are as they should be, for so many records
abbrev pub fits : Input → ℕ → Bool
fits i n =
    (length i.contextual.now == length i.kinds.now) && (length i.editions.now == length i.kinds.now
    && (length i.joint.now == (length i.kinds.now + 63) / 64 && nat_le n max_records))

-- the first refusal of these, if there is one
unfoldable pub first_of : List (Option Refusal) → Option Refusal
first_of [] = None
first_of (None ∷ rs) = first_of rs
first_of (Some r ∷ rs) = Some r

abbrev pub when : Bool → Refusal → Option Refusal
when b r = cond b (Some r) None

-- Why these columns, with a log of so many records, are refused, if they are. Each check goes over all tokens before the next one.
abbrev pub verdict : Input → ℕ → Option Refusal
verdict i n = first_of (
    when (nat_lt max_tokens (length i.kinds.now)) (TooManyTokens input_layer)
    ∷ (when (not (fits i n)) ColumnLength
    ∷ (kinds_fault i.kinds.now
    ∷ (contextual_fault i.kinds.now i.contextual.now
    ∷ (editions_fault i.editions.now ∷ [])))))

-- With rows

-- the first row that breaks a law of islands
abbrev pub rows_fault : List ℕ → List Row → Option Refusal
rows_fault ks rows = at_place UnlawfulRow (first_below (λ i. not (lawful_row ks i (row_at rows i))) (length rows))

-- why these columns are refused for their number of tokens, or since there is not one row for each token, if they are
abbrev pub row_count_fault : Input → ℕ → Option Refusal
row_count_fault i rows = first_of (
    when (nat_lt max_tokens (length i.kinds.now)) (TooManyTokens input_layer)
    ∷ (when (not (rows == length i.kinds.now)) ColumnLength ∷ []))

-- Why these columns are refused with these rows, if they are: another number of rows than of tokens is refused as other lengths are,
-- and the first row that breaks a law of islands last.
abbrev pub verdict_with_rows : Input → List Row → ℕ → Option Refusal
verdict_with_rows i rows n = first_of (row_count_fault i (length rows) ∷ (verdict i n ∷ (rows_fault i.kinds.now rows ∷ [])))
