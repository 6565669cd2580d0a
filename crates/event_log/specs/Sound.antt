-- What always holds of a log and of a parser, by their fields.
use Rattle.std.specs.Prelude.{◌≡◌, ℕ, ◌≤◌, Bool, true, false, not, ◌&&◌, List, [], ◌∷◌, length, drop, is_some, ◌==◌}
use Rattle.event_log.specs.declared.event.Record.{Record}
use Rattle.event_log.specs.declared.event.Record.TheVariants.{Start, Finish, Token, Error}
use Rattle.tokens.specs.Kinds.{TOMBSTONE}
use Rattle.tokens.specs.Limits.{max_tokens}
use Rattle.event_log.specs.Limits.{max_records}

-- the count is within the room
abbrev pub Within : ℕ → ℕ → Type 0
Within count room = count ≤ room

-- and the room within the records
abbrev pub Roomy : ℕ → List Record → Type 0
Roomy room records = room ≤ length records

-- of which there are few enough that how far ahead a start lies fits into 16 bits
abbrev pub Short : List Record → Type 0
Short records = length records ≤ max_records

-- there are few enough tokens that no count of them is ever too large
abbrev pub Few : List ℕ → Type 0
Few kinds = length kinds ≤ max_tokens

-- the place is within the tokens
abbrev pub Inside : ℕ → List ℕ → Type 0
Inside place kinds = place ≤ length kinds

abbrev pub is_blank : Record → Bool
is_blank (Start k fp) = k == TOMBSTONE && not (is_some fp)
is_blank Finish = false
is_blank (Token k w) = false
is_blank (Error n k) = false

unfoldable pub all_blank : List Record → Bool
all_blank [] = true
all_blank (r ∷ rs) = is_blank r && all_blank rs

-- past the count every record is blank
abbrev pub Blanks : ℕ → List Record → Type 0
Blanks count records = all_blank (drop count records) ≡ true
