-- What filling rows does.
use Rattle.std.specs.Prelude.{◌≡◌, ℕ, ◌<◌, true, not, List, [], ◌∷◌, map, length, Some, None, Ok, Err, Option, Result, ◌==◌, nat_lt, slice_index_or}
use Rattle.std.specs.List.{range_with_len}
use Rattle.refusals.specs.declared.Refusal.{Refusal}
use Rattle.refusals.specs.declared.Layer.TheVariants.{Input as input_layer}
use Rattle.refusals.specs.declared.Refusal.TheVariants.{TooManyTokens, ColumnLength}
use Rattle.tokens.specs.declared.input.Input.{Input}
use Rattle.tokens.specs.declared.rows.Hook.{Hook}
use Rattle.tokens.specs.declared.rows.Hook.TheVariants.{Expr, BlockExpr, Literal, ExprBlockContents, Meta, Pattern, PatternSingle}
use Rattle.tokens.specs.declared.rows.Answer.{Answer}
use Rattle.tokens.specs.declared.rows.Row.{Row}
use Rattle.tokens.specs.Limits.{max_tokens}
use Rattle.tokens.specs.Islands.{lawful_row}
use Rattle.grammar.specs.Verdict.{first_of, when, verdict}
use Rattle.hosts.specs.Host.{Columns, columns}

-- Why these columns, with so many rows, are refused, if they are: too many tokens, then another number of rows than of tokens, then as they are opened.
abbrev pub fill_verdict : Input → ℕ → Option Refusal
fill_verdict i rows = first_of (
    when (nat_lt max_tokens (length i.kinds.now)) (TooManyTokens input_layer)
    ∷ (when (not (rows == length i.kinds.now)) ColumnLength
    ∷ (verdict i 0 ∷ [])))

-- the seven answers of a host at a place
abbrev pub row_of : (Hook → Columns → ℕ → Answer) → Columns → ℕ → Row
row_of meaning c p = record {
  expr = meaning Expr c p;
  block_expr = meaning BlockExpr c p;
  literal = meaning Literal c p;
  expr_block_contents = meaning ExprBlockContents c p;
  meta = meaning Meta c p;
  pattern = meaning Pattern c p;
  pattern_single = meaning PatternSingle c p;
}

-- those at every place from 0 on
abbrev pub rows_of : (Hook → Columns → ℕ → Answer) → Columns → List Row
rows_of meaning c = map (row_of meaning c) (range_with_len 0 (length c.kinds))

-- each row is lawful at its place
abbrev pub LawfulRows : List ℕ → List Row → Type 0
LawfulRows kinds rows = (p : ℕ) (r : Row) → p < length kinds → lawful_row kinds p (slice_index_or rows p r) ≡ true

-- Accepted, each place has its row of the host's answers, and each row is lawful there. Refused, the rows are as before.
pub data Fills (meaning : Hook → Columns → ℕ → Answer) (i : Input) (before after : List Row) : Result (Unit {0}) Refusal → Type 0 where
  filled : {x : Unit {0}} → fill_verdict i (length before) ≡ None → after ≡ rows_of meaning (columns i) → LawfulRows i.kinds.now after → Fills meaning i before after (Ok x)
  refused : {e : Refusal} → fill_verdict i (length before) ≡ Some e → after ≡ before → Fills meaning i before after (Err e)
