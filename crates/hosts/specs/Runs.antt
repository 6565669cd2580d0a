-- Bracket runs: tokens up to a closing bracket that they did not open, a stop mark outside brackets, or the end.
use Rattle.std.specs.Prelude.{ℕ, zero, suc, ◌+◌, ◌-◌, Bool, cond, ◌&&◌, ◌||◌, List, length, ◌==◌, nat_lt, slice_index}
use Rattle.std.specs.Option.{unwrap_or}
use Rattle.tokens.specs.Kinds.{SEMICOLON, COMMA, L_PAREN, R_PAREN, L_CURLY, R_CURLY, L_BRACK, R_BRACK, COLON, EQ}
use Rattle.grammar.specs.Verdict.{first_below}
use Rattle.hosts.specs.declared.run.Run.{Run}
use Rattle.hosts.specs.declared.run.Stop.{Stop}
use Rattle.hosts.specs.declared.run.Stop.TheVariants.{Closer, Mark}

-- brackets are `(`, `[` and `{`, and not `<`

abbrev pub opens_bracket : ℕ → Bool
opens_bracket k = k == L_PAREN || (k == L_BRACK || k == L_CURLY)

abbrev pub closes_bracket : ℕ → Bool
closes_bracket k = k == R_PAREN || (k == R_BRACK || k == R_CURLY)

-- a stop mark: `,`, `;`, `=` or `:`
abbrev pub is_mark : ℕ → Bool
is_mark k = k == COMMA || (k == SEMICOLON || (k == EQ || k == COLON))

-- what ends a run, outside brackets
abbrev pub stops_at : Stop → ℕ → Bool
stops_at Closer k = closes_bracket k
stops_at Mark k = closes_bracket k || is_mark k

-- how many brackets are open behind a token, with so many before it: any closer closes any opener
abbrev pub depth_behind : ℕ → ℕ → ℕ
depth_behind k n = cond (opens_bracket k) (n + 1) (cond (closes_bracket k) (n - 1) n)

-- how many brackets are open behind the first n of these tokens
unfoldable pub depth : List ℕ → ℕ → ℕ
depth kinds zero = 0
depth kinds (suc n) = depth_behind (slice_index kinds n) (depth kinds n)

-- a run of these tokens ends before token n: no bracket is open, and it is one to stop at
abbrev pub ends_before : (ℕ → Bool) → List ℕ → ℕ → Bool
ends_before stops kinds n = depth kinds n == 0 && stops (slice_index kinds n)

-- how long the run is that these tokens begin with: up to the first such token, or the end
unfoldable pub run_length : (ℕ → Bool) → List ℕ → ℕ
run_length stops kinds = unwrap_or (first_below (ends_before stops kinds) (length kinds)) (length kinds)

-- and whether a bracket is open at its end
abbrev pub run_of : (ℕ → Bool) → List ℕ → Run
run_of stops kinds = record { tokens = run_length stops kinds; unclosed = nat_lt 0 (depth kinds (run_length stops kinds)) }
